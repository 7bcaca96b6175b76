-- An entry put into a table: its slot says it, every slot that is a slot apart says what it said before.
use Rattle.std.proofs.Common.{◌≡◌, ℕ, ◌+◌, ◌≤◌, ◌≢◌, List, length, get_or, sym, ap, ◌∙◌, subst, inl, inr, ⊎_elim, arith}
use mathlib.Core.Option.{some}
use lib.Seq.{paste, length-paste}
use Rattle.table.specs.Said.{part, said_at}
use Rattle.table.specs.Places.{place_of}
use Rattle.table.specs.Answers.{Honest, Put}
use Rattle.table.proofs.Slot.{said_some, said_is}
use Rattle.table.proofs.Apart.{place_apart}
use Rattle.table.proofs.Written.{part_written, part_before, part_behind}

module _ (at : ℕ) (k e m : List ℕ) (fits : at + (length k + length e) ≤ length m) where
  -- the key written, and behind it the entry
  abbrev with_key : List ℕ
  with_key = paste m at k (length k)

  abbrev pub with_entry : List ℕ
  with_entry = paste with_key (at + length k) e (length e)

  as_long : length with_key ≡ length m
  as_long = length-paste m at k (length k) (omega arith) (omega arith)

  fits_key : at + length k ≤ length m
  fits_key = omega arith

  fits_entry : (at + length k) + length e ≤ length with_key
  fits_entry = rw as_long (omega arith)

  pub length_kept : length with_entry ≡ length m
  length_kept = length-paste with_key (at + length k) e (length e) fits_entry (omega arith) ∙ as_long

  key_there : part with_entry at (length k) ≡ k
  key_there = part_before with_key e (at + length k) fits_entry at (length k) (omega arith) ∙ part_written m k at fits_key

  entry_there : part with_entry (at + length k) (length e) ≡ e
  entry_there = part_written with_key e (at + length k) fits_entry

  before : (b q : ℕ) → b + q ≤ at → part with_entry b q ≡ part m b q
  before b q h = part_before with_key e (at + length k) fits_entry b q (omega arith) ∙ part_before m k at fits_key b q h

  behind : (b q : ℕ) → at + (length k + length e) ≤ b → part with_entry b q ≡ part m b q
  behind b q h = part_behind with_key e (at + length k) fits_entry b q (omega arith) ∙ part_behind m k at fits_key b q (omega arith)

  -- a slot whose parts are what they were says what it said
  as_before : (b : ℕ) (j c : List ℕ) → length j ≡ length k → ((x q : ℕ) → b ≤ x → x + q ≤ b + (length k + length e) → part with_entry x q ≡ part m x q)
      → said_at b (length e) with_entry j ≡ some c → said_at b (length e) m j ≡ some c
  as_before b j c l same s =
      let t = said_some b (length e) with_entry j c s in
      said_is b (length e) m j c t.0 (rw length_kept at t.1) (sym (same b (length j) (omega arith) (omega arith)) ∙ t.2)
      (sym (same (b + length j) (length e) (omega arith) (omega arith)) ∙ t.3)

  -- its own slot says of no other key anything
  its_own : (j c : List ℕ) → length j ≡ length k → said_at at (length e) with_entry j ≡ some c → (j ≡ k) × (c ≡ e)
  its_own j c l s =
      let t = said_some at (length e) with_entry j c s in (
        sym t.2 ∙ ap (part with_entry at) l ∙ key_there,
        sym t.3 ∙ ap (λ (n : ℕ). part with_entry (at + n) (length e)) l ∙ entry_there,
      )

  pub honest : (slots : ℕ) → at ≡ place_of slots (length e) k → Honest slots k e m with_entry
  honest slots a j l c s =
      let b : ℕ = place_of slots (length e) j in
      ⊎_elim (λ (q : b ≡ place_of slots (length e) k). inr (its_own j c l (rw (q, sym a) at s)))
      (λ d. inl (as_before b j c l (⊎_elim
      (λ (h : b + (length k + length e) ≤ place_of slots (length e) k). λ x q g f. before x q (omega arith))
      (λ (h : place_of slots (length e) k + (length k + length e) ≤ b). λ x q g f. behind x q (omega arith)) d) s))
      (place_apart slots (length e) j k l)

  pub found_again : get_or k 0 0 ≢ 0 → said_at at (length e) with_entry k ≡ some e
  found_again n = said_is at (length e) with_entry k e n (rw length_kept fits) key_there entry_there

  pub put_there : Put at k e m with_entry
  put_there = record { words = length_kept; honest = honest; kept = λ h n. found_again n }

-- as it is written: the key first, then the entry
pub put_written : (at : ℕ) (k e m m₁ m₂ : List ℕ) → at + (length k + length e) ≤ length m → m₁ ≡ paste m at k (length k)
    → m₂ ≡ paste m₁ (at + length k) e (length e) → Put at k e m m₂
put_written at k e m m₁ m₂ f a b =
    subst (λ (l : List ℕ). Put at k e m l) (sym (b ∙ ap (λ (l : List ℕ). paste l (at + length k) e (length e)) a)) (put_there at k e m f)
