-- What a line that passes leaves, in each of the four ways.
use Prim.Native.Nat.{ℕ, ◌+◌, ◌*◌, ◌-◌}
use native.Mathlib.Omega.{arith}
use mathlib.Core.Path.{◌≡◌, sym, ap, ap₂, subst, ◌∙◌}
use mathlib.Core.List.{List}
use lib.ListN.{length, get_or, set, drop}
use Rattle.spec_file.specs.Frame.{pairs}
use Rattle.file_refusals.specs.declared.counts.Counts.{Counts}
use Rattle.spec_file.specs.Frames.{byte, word}
use Rattle.spec_file.specs.Decode.{after}
use Rattle.file_refusals.specs.Held.{Bounded, Holds}
use Rattle.file_decoder.specs.Held.{opened_counts, grouped_counts, started_counts, extended_counts, Taken}
use Rattle.file_rows.specs.Bytes.{Written}
use Rattle.file_decoder.proofs.HeldAfter.{Plain, held_opened, lined_opened}
use Rattle.file_decoder.proofs.HeldAfterGroup.{held_grouped, lined_grouped}
use Rattle.file_decoder.proofs.HeldAfterStart.{held_started, lined_started}
use Rattle.file_decoder.proofs.HeldAfterInstruction.{held_extended, lined_extended}

module _ (line : List ℕ) (number : ℕ) (code rows : List ℕ) (s q : Counts) where
  -- a thread
  pub taken_opened : q ≡ opened_counts s → byte (pairs line) 0 ≡ 1 → Taken line number code rows s code rows q
  taken_opened e o = record {
    bounded = omega (arith, ap (λ (x : Counts). x.groups) e);
    holds = λ r h p. subst (λ (x : Counts). Holds code x (after number (pairs line) r)) (sym e) (held_opened number (pairs line) code s r h p o);
    lined = λ r h l p. lined_opened number (pairs line) rows r l p o;
  }

  -- a group
  pub taken_grouped : q ≡ grouped_counts (drop 1 (pairs line)) s → byte (pairs line) 0 ≡ 2 → Taken line number code rows s code rows q
  taken_grouped e o = record {
    bounded = omega (arith, ap (λ (x : Counts). x.groups) e);
    holds = λ r h p. subst (λ (x : Counts). Holds code x (after number (pairs line) r)) (sym e) (held_grouped number (pairs line) code s r h p o);
    lined = λ r h l p. lined_grouped number (pairs line) rows r l p o;
  }

  -- a starting value
  pub taken_started : (l v : ℕ) → q ≡ started_counts l v s → l ≡ byte (pairs line) 1 → v ≡ word (pairs line) 2
      → byte (pairs line) 0 ≡ 3 → Taken line number code rows s code rows q
  taken_started l v e at is o =
      let same : q ≡ started_counts (byte (pairs line) 1) (word (pairs line) 2) s = e ∙ ap₂ (λ (x y : ℕ). started_counts x y s) at is in
      record {
        bounded = omega (arith, ap (λ (x : Counts). x.groups) e);
        holds = λ r h p. subst (λ (x : Counts). Holds code x (after number (pairs line) r)) (sym same) (held_started number (pairs line) code s r h p o);
        lined = λ r h l p. lined_started number (pairs line) rows r l o;
      }

  -- an instruction
  pub taken_extended : (b n : ℕ) (code' : List ℕ) → Bounded s → n ≡ length (pairs line) → b ≡ byte (pairs line) 0
      → (b ≡ 1 → ⊥) → (b ≡ 2 → ⊥) → (b ≡ 3 → ⊥) → q ≡ extended_counts b s
      → Written code (((s.threads - 1) * 16 + get_or s.lengths (s.threads - 1) 0) * 16) (pairs line) n code'
      → Taken line number code rows s code' (set rows ((s.threads - 1) * 16 + get_or s.lengths (s.threads - 1) 0) number) q
  taken_extended b n code' bounded m first one two three e w =
      let plain : Plain (pairs line) = (λ o. one (omega arith), λ o. two (omega arith), λ o. three (omega arith)) in
      let w' : Written code (((s.threads - 1) * 16 + get_or s.lengths (s.threads - 1) 0) * 16) (pairs line) (length (pairs line)) code' =
      subst (λ (k : ℕ). Written code (((s.threads - 1) * 16 + get_or s.lengths (s.threads - 1) 0) * 16) (pairs line) k code') m w in
      record {
        bounded = omega (arith, ap (λ (x : Counts). x.groups) e);
        holds = λ r h p.
            subst (λ (x : Counts). Holds code' x (after number (pairs line) r)) (sym e)
            (subst (λ (k : ℕ). Holds code' (extended_counts k s) (after number (pairs line) r)) (sym first)
            (held_extended number (pairs line) code code' s r h p plain bounded.six w'));
        lined = λ r h l p. lined_extended number (pairs line) rows code s r h l p plain bounded.six bounded.sixteen;
      }
