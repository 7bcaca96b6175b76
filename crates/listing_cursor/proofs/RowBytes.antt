-- The bytes of a row, one after the other, and as they are written.
use Prim.Native.Nat.{ℕ, ◌+◌, ◌-◌, ◌≤◌}
use mathlib.Core.Path.{◌≡◌, refl, sym, ap, ap₂, ◌∙◌}
use mathlib.Core.Bool.{Bool, cond}
use mathlib.Core.List.{List, [], ◌∷◌, ◌++◌, append_assoc}
use native.Mathlib.Omega.{arith}
use lib.ListN.{length, get_or, set, take, drop, replicate, length-append, length-replicate, length-set, length-take, length-drop}
use lib.Seq.{drop-drop}
use borrow.Rule.Slice.PartMut.{mid_of, put_mid}
use Rattle.std.proofs.lemmas.Grind.{common_steps}
use Rattle.std.proofs.lemmas.List.{drop-set-lt}
use Rattle.std.proofs.lemmas.Slice.{take-put_mid, drop-put_mid}
use Rattle.spec_file.specs.Over.{over}
use Rattle.file_rows.proofs.Tabulate.{length_tabulate, tabulate_members}
use Rattle.spec_schedules.specs.Order.{Schedule}
use Rattle.spec_calls.specs.Rows.{row_bytes, row_size}

pub row_length : (w : ℕ) (s : Schedule) (f : Bool) → length (row_bytes w s f) ≡ row_size w
unfolding row_bytes
row_length w s f = let e = length_tabulate (λ k. get_or s k 0) w in omega (arith, e)

-- the first two bytes of a buffer
two : (held : List ℕ) (a b : ℕ) → 2 ≤ length held → take 2 (set (set held 0 a) 1 b) ≡ a ∷ b ∷ []
two [] a b h = absurd (omega arith)
two (x ∷ []) a b h = absurd (omega arith)
two (x ∷ y ∷ l) a b h = refl

module _ (w : ℕ) (s : Schedule) (f : Bool) (most : length s ≤ w) where
  abbrev zeros : List ℕ
  zeros = replicate (w - length s) 0

  -- its steps, with zeros behind them
  row_is : row_bytes w s f ≡ length s ∷ cond f 1 0 ∷ (s ++ zeros)
  unfolding row_bytes
  row_is = ap (λ (t : List ℕ). length s ∷ cond f 1 0 ∷ t)
      (tabulate_members (λ k. get_or s k 0) w (s ++ zeros) 0 (simp (length-append, length-replicate) (omega arith)) (λ i b. grind (arith, common_steps)))

  -- with the number of steps and the flag in front and the steps behind them, and then zeros up to its end, the row is written
  pub row_written : (held : List ℕ) (b : ℕ) (steps rest : List ℕ) → row_size w ≤ length held → b ≡ cond f 1 0 → steps ≡ s
      → rest ≡ replicate (length (mid_of (length s + 2) (w + 2 - (length s + 2)) (put_mid 2 (length s + 2 - 2) (set (set held 0 (length s)) 1 b) steps))) 0
      → put_mid (length s + 2) (w + 2 - (length s + 2)) (put_mid 2 (length s + 2 - 2) (set (set held 0 (length s)) 1 b) steps) rest ≡ over (row_bytes w s f) held
  unfolding over
  row_written held b steps rest room e es er =
      let n = length s in
      let front = set (set held 0 n) 1 b in
      let long : length front ≡ length held = simp length-set in
      let same : length steps ≡ n = ap length es in
      let first : take (n + 2) (put_mid 2 (n + 2 - 2) front steps) ≡ n ∷ b ∷ s =
      take-put_mid 2 (n + 2 - 2) front steps (n + 2) (omega arith) (omega arith) ∙ ap₂ (λ (x y : List ℕ). x ++ y) (two held n b (omega arith)) es in
      let left : drop (n + 2) (put_mid 2 (n + 2 - 2) front steps) ≡ drop (n + 2) held =
      drop-put_mid 2 (n + 2 - 2) front steps (n + 2) (omega arith) (omega arith) (omega arith)
      ∙ drop-set-lt (n + 2) (set held 0 n) 1 b (omega arith) ∙ drop-set-lt (n + 2) held 0 n (omega arith) in
      let behind : drop (w + 2 - (n + 2)) (drop (n + 2) held) ≡ drop (w + 2) held = drop-drop (w + 2 - (n + 2)) (n + 2) held ∙ ap (λ (k : ℕ). drop k held) (omega arith) in
      let between : length (take (w + 2 - (n + 2)) (drop (n + 2) held)) ≡ w - n = simp (length-take, length-drop) (omega arith) in
      let zero : rest ≡ zeros = er ∙ ap (λ (k : ℕ). replicate k 0) (ap (λ (y : List ℕ). length (take (w + 2 - (n + 2)) y)) left ∙ between) in
      ap₂ (λ (x y : List ℕ). x ++ (rest ++ drop (w + 2 - (n + 2)) y)) first left
      ∙ ap₂ (λ (x y : List ℕ). (n ∷ b ∷ s) ++ (x ++ y)) zero behind
      ∙ sym (append_assoc (n ∷ b ∷ s) zeros (drop (w + 2) held))
      ∙ ap₂ (λ (x y : List ℕ). x ++ y) (ap (λ (k : ℕ). n ∷ k ∷ (s ++ zeros)) e ∙ sym row_is) (ap (λ (k : ℕ). drop k held) (sym (row_length w s f)))
