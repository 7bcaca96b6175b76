-- What a cursor has yet to come: behind a schedule of any length, and as a search's bound says it.
use Prim.Native.Nat.{ℕ, zero, suc, ◌≤◌, min}
use mathlib.Core.Path.{◌≡◌, refl, sym, ap, ◌∙◌}
use mathlib.Core.Bool.{true, false, false≢true}
use mathlib.Core.Option.{some}
use mathlib.Core.List.Memᴰ
use mathlib.Core.List.{List, [], ◌∷◌, ◌++◌, Memᴰ}
use native.Mathlib.Nat.{min-zero, suc-min-suc}
use native.Mathlib.Omega.{arith}
use lib.ListN.{length, take}
use Rattle.std.proofs.lemmas.Grind.{common_steps}
use Rattle.std.proofs.lemmas.List.{length-take-le, take-append-le}
use lib.Seq.{take-nil}
use Rattle.spec_schedules.specs.Order.{Schedule}
use Rattle.spec_schedules.specs.Found.{after}
use Rattle.spec_schedules.proofs.After.{after_none, of_after, after_cut}
use Rattle.listing_cursor.specs.declared.cursor.Cursor.{Cursor}
use Rattle.listing_cursor.specs.declared.cursor.Cursor.TheVariants.{Beginning, Behind, End}
use Rattle.listing_cursor.specs.declared.steps.Steps.{Steps}
use Rattle.listing_cursor.specs.Bounds.{bound_at}
use Rattle.listing_cursor.specs.Cursor.{from, bound_of, is_end}
use Rattle.listing_cursor.specs.Steps.{steps_of}

-- of a list of at most n the first m are the first of m and n, whichever is less
pub take_least : (n m : ℕ) (l : List ℕ) → length l ≤ n → take (min n m) l ≡ take m l
take_least n m [] h = take-nil (min n m) ∙ sym (take-nil m)
take_least zero m (x ∷ l) h = absurd (omega arith)
take_least (suc n) zero (x ∷ l) h = ap (λ (k : ℕ). take k (x ∷ l)) (min-zero (suc n))
take_least (suc n) (suc m) (x ∷ l) h =
    ap (λ (k : ℕ). take k (x ∷ l)) (suc-min-suc n m) ∙ ap (λ (k : List ℕ). x ∷ k) (take_least n m l (omega (arith, h)))

-- of a list the first n bytes are copied to the front of others, all of them or 48
pub bytes_kept : (s copied others : List ℕ) (n : ℕ) → n ≡ min (length s) 48 → copied ≡ take n s → take n (copied ++ others) ≡ take 48 s
bytes_kept s copied others n e q =
    let most : n ≤ length s = omega (arith, e) in
    let long : length copied ≡ n = ap length q ∙ length-take-le n s most in
    grind (arith, common_steps, take-append-le) ∙ ap (λ (k : ℕ). take k s) e ∙ take_least (length s) 48 s (omega arith)

module _ (l : List Schedule) where
  -- behind a schedule, of which the cursor has at most 48 bytes
  pub from_behind : ((s : Schedule) → Memᴰ s l → length s ≤ 48) → (s : Schedule) (k : Steps 48) → steps_of k ≡ take 48 s → from (Behind k) l ≡ after (some s) l
  unfolding from
  from_behind most s k q = ap (λ (b : Schedule). after (some b) l) q ∙ after_cut 48 s l most

  -- at the end
  pub from_end : (c : Cursor) → is_end c ≡ true → from c l ≡ []
  unfolding from
  from_end Beginning e = absurd (false≢true e)
  from_end (Behind s) e = absurd (false≢true e)
  from_end End e = refl

  -- what is yet to come at a cursor is of the list
  pub of_from : (c : Cursor) (s : Schedule) → Memᴰ s (from c l) → Memᴰ s l
  unfolding from
  of_from Beginning s m = m
  of_from (Behind k) s m = of_after (some (steps_of k)) l s m
  of_from End s m = absurd (Memᴰ.not-nil m)

  -- a search behind the cursor's bound finds what is yet to come
  pub from_bound : (c : Cursor) → is_end c ≡ false → after (bound_of c) l ≡ from c l
  unfolding from
  from_bound Beginning e = after_none l
  from_bound (Behind s) e = refl
  from_bound End e = absurd (false≢true (sym e))

-- the bound as the code hands it to the search
pub bound_beginning : (b : Schedule) → bound_at false b 0 ≡ bound_of Beginning
unfolding bound_at
bound_beginning b = refl

pub bound_behind : (s : Steps 48) (b : Schedule) → b ≡ steps_of s → bound_at true b 0 ≡ bound_of (Behind s)
unfolding bound_at
bound_behind s b e = ap some e
