-- The list counted modulo 2^64, and what count says of a program file.
use Rattle.std.proofs.Common.{◌≡◌, ℕ, ◌+◌, ◌*◌, ◌%◌, ◌^◌, Bool, true, false, List, length, sym, refl, ap, ◌∙◌, ap₂}
use native.Mathlib.Nat.{mod-add-mod}
use Rattle.std.specs.Prelude.{Result, Ok, Err}
use Rattle.spec_file.specs.declared.refusal.Refusal.{Refusal}
use Rattle.spec_file.specs.Program.{Program}
use Rattle.spec_file.specs.Decode.{Decoded, accepted, refused, decode}
use Rattle.spec_schedules.specs.Lists.{filter}
use Rattle.spec_schedules.specs.Order.{Schedule}
use Rattle.spec_model.specs.Model.{Model, failing}
use Rattle.spec_model.specs.Answers.{count_of}
use Rattle.spec_model.specs.OnFile.{admit, count_on, count_file}
use Rattle.spec_model.specs.Search.{sought}
use Rattle.listing_cursor.specs.declared.cursor.Cursor.{Cursor}
use Rattle.listing_cursor.specs.declared.cursor.Page.{Page}
use Rattle.spec_calls.specs.Rows.{row_size}
use Rattle.listing_cursor.specs.Rows.{Shown}
use Rattle.listing_cursor.specs.Cursor.{from, is_end, Paged}
use Rattle.listing_cursor.proofs.CountedRows.{Counting, counting_start, counting_over, counting_next}
use Rattle.states_memory.specs.declared.tally.Tally.{Tally}
use Rattle.listing.specs.CountWord.{count_answer_of}

-- counted so far, modulo 2^64: the true counts are known to no one
pub record Wrapped (M : Model) (p : Program) (c : Cursor) (rows : List ℕ) (listed failed : ℕ) : Type 0 where
  pub all_listed : ℕ
  pub all_failed : ℕ
  pub counting : Counting M.need (failing M p) (sought M false p) c rows all_listed all_failed
  pub listed_is : listed ≡ all_listed % 2 ^ 64
  pub failed_is : failed ≡ all_failed % 2 ^ 64

pub wrapped_start : (M : Model) (p : Program) (c : Cursor) (rows : List ℕ) → length rows ≡ 64 * row_size M.need → from c (sought M false p) ≡ sought M false p → Wrapped M p c rows 0 0
wrapped_start M p c rows n e = record {
  all_listed = 0;
  all_failed = 0;
  counting = counting_start M.need (failing M p) (sought M false p) c rows n e;
  listed_is = refl;
  failed_is = refl;
}

-- adding on what was cut off already
add_on : (a b c n : ℕ) → a ≡ b % 2 ^ 64 → n ≡ (a + c) % 2 ^ 64 → n ≡ (b + c) % 2 ^ 64
add_on a b c n e q = q ∙ ap (λ (x : ℕ). (x + c) % 2 ^ 64) e ∙ mod-add-mod b (2 ^ 64) c

-- a page more
pub wrapped_next : (M : Model) (p : Program) (c : Cursor) (rows : List ℕ) (listed failed : ℕ) → Wrapped M p c rows listed failed → (rows' : List ℕ) (r : Page)
    → Paged M.need (failing M p) (sought M false p) c rows rows' r → (f : ℕ)
    → ((fails : Schedule → Bool) (ss : List Schedule) (held : List ℕ) → Shown M.need fails ss held rows' r.rows → f ≡ length (filter fails ss))
    → (n m : ℕ) → n ≡ (listed + r.rows) % 2 ^ 64 → m ≡ (failed + f) % 2 ^ 64 → Wrapped M p r.cursor rows' n m
wrapped_next M p c rows listed failed w rows' r page f fs n m en em = record {
  all_listed = w.all_listed + r.rows;
  all_failed = w.all_failed + f;
  counting = counting_next M.need (failing M p) (sought M false p) c rows w.all_listed w.all_failed w.counting rows' r page f fs;
  listed_is = add_on listed w.all_listed r.rows n w.listed_is en;
  failed_is = add_on failed w.all_failed f m w.failed_is em;
}

-- nothing is to come any more
pub wrapped_over : (M : Model) (p : Program) (c : Cursor) (rows : List ℕ) (listed failed : ℕ) → Wrapped M p c rows listed failed → is_end c ≡ true
    → (listed ≡ (count_of M p).listed) × (failed ≡ (count_of M p).failed)
unfolding count_of sought
wrapped_over M p c rows listed failed w e =
    let k = counting_over M.need (failing M p) (sought M false p) c rows w.all_listed w.all_failed w.counting e in
    (w.listed_is ∙ ap (λ (x : ℕ). x % 2 ^ 64) k.0, w.failed_is ∙ ap (λ (x : ℕ). x % 2 ^ 64) k.1)

-- ---- on a file
module _ (M : Model) (file : List ℕ) where
  -- the file is refused, or its program turned away
  pub count_refused : (r : Refusal) → admit M (decode file) ≡ refused r.number r.place → Err r ≡ count_answer_of (count_file M file)
  unfolding count_on count_answer_of
  count_refused r e = ap (λ (d : Decoded). count_answer_of (count_on M d)) (sym e)

  -- the program of the file is listed
  pub count_answered : (p : Program) → admit M (decode file) ≡ accepted p → (n : Tally) → (n.listed ≡ (count_of M p).listed) × (n.failing ≡ (count_of M p).failed)
      → Ok n ≡ count_answer_of (count_file M file)
  unfolding count_on count_answer_of
  count_answered p e n c =
      ap₂ {C = Result Tally Refusal} (λ l f. Ok (record { listed = l; failing = f })) c.0 c.1 ∙ ap (λ (d : Decoded). count_answer_of (count_on M d)) (sym e)
