-- Words written over a part of others: that part is then these words, and every part before or behind it is what it was.
use Rattle.std.proofs.Common.{◌≡◌, ℕ, ◌+◌, ◌-◌, ◌≤◌, List, ◌++◌, length, take, drop, sym, ap, ◌∙◌, append_assoc, arith, length-drop, take-append-drop, length-take-le, drop-drop, take_at, drop_at}
use lib.Seq.{paste, take-length, take-append-le, drop-append-le, drop-paste}
use Rattle.table.specs.Said.{part}

-- a part of the front
part_front : (m r : List ℕ) (at b q : ℕ) → at ≤ length m → b + q ≤ at → part (take at m ++ r) b q ≡ take q (drop b (take at m))
part_front m r at b q h l =
    let n : length (take at m) ≡ at = length-take-le at m h in
    ap (take q) (drop-append-le b (take at m) r (omega arith)) ∙ take-append-le q (drop b (take at m)) r (simp length-drop (omega arith))

module _ (m s : List ℕ) (at : ℕ) (fits : at + length s ≤ length m) where
  abbrev pub written : List ℕ
  written = paste m at s (length s)

  -- the front, the words, the rest
  in_three : written ≡ take at m ++ (take (length s) s ++ drop (at + length s) m)
  in_three = append_assoc (take at m) (take (length s) s) (drop (at + length s) m)

  pub part_written : part written at (length s) ≡ s
  part_written =
      let rest : List ℕ = drop (at + length s) m in
      ap (λ (l : List ℕ). part l at (length s)) in_three
      ∙ ap (take (length s)) (drop_at (take at m) (take (length s) s ++ rest) at (length-take-le at m (omega arith)))
      ∙ take_at (take (length s) s) rest (length s) (ap length (take-length s))
      ∙ take-length s

  pub part_before : (b q : ℕ) → b + q ≤ at → part written b q ≡ part m b q
  part_before b q l =
      ap (λ (l : List ℕ). part l b q) in_three
      ∙ part_front m (take (length s) s ++ drop (at + length s) m) at b q (omega arith) l
      ∙ sym (part_front m (drop at m) at b q (omega arith) l)
      ∙ ap (λ (l : List ℕ). part l b q) (take-append-drop at m)

  pub part_behind : (b q : ℕ) → at + length s ≤ b → part written b q ≡ part m b q
  part_behind b q l =
      let e : (at + length s) + (b - (at + length s)) ≡ b = omega arith in
      let d : (x : List ℕ) → drop b x ≡ drop (b - (at + length s)) (drop (at + length s) x) =
      λ x. sym (drop-drop (b - (at + length s)) (at + length s) x ∙ ap (λ (n : ℕ). drop n x) e) in
      ap (take q) (d written ∙ ap (drop (b - (at + length s))) (drop-paste m at s (length s) (omega arith) (omega arith)) ∙ sym (d m))
