-- THE PIECES TOGETHER are what is printed of the file, of which no more than 4,097 bytes have to be read.
use Prim.Native.Nat.{ℕ}
use mathlib.Core.Path.{◌≡◌, refl, sym, ap, ◌∙◌}
use mathlib.Core.Bool.{Bool, true, false}
use mathlib.Core.List.{List, [], ◌∷◌, ◌++◌, append_assoc, append-nil}
use native.Mathlib.Omega.{arith}
use lib.Dec.{leb}
use lib.ListN.{length, take}
use lib.Seq.{take_all, length-take-le}
use borrow.Author.Tests.{leb-true, leb-false}
use Rattle.spec_file.specs.Decode.{Decoded, decode}
use Rattle.file_decoder.proofs.HeldFile.{too_large}
use Rattle.spec_sc.specs.Text.{text_of}
use Rattle.spec_calls.specs.Printed.{printed_frames, printed}
use Rattle.explorer_lines.specs.declared.pieces.Listing.{Listing}
use Rattle.explorer_lines.specs.Pieces.{rest, Begun, Next, Handed, joined}

-- 4,097 bytes tell
pub front_decides : (file : List ℕ) → decode (take 4097 file) ≡ decode file
front_decides file = go (leb (length file) 4097) refl
  where
    go : (b : Bool) → leb (length file) 4097 ≡ b → decode (take 4097 file) ≡ decode file
    go true e = ap decode (take_all 4097 file (leb-true (length file) 4097 e))
    go false e =
        let h = leb-false (length file) 4097 e in
        too_large (take 4097 file) (omega (arith, length-take-le 4097 file (omega (arith, h)))) ∙ sym (too_large file (omega (arith, h)))

pub front_printed : (file : List ℕ) → printed (take 4097 file) ≡ printed file
unfolding printed
front_printed file = ap (λ (d : Decoded). text_of (printed_frames d)) (front_decides file)

-- what was handed over, and what is left behind it
handed_rest : (ts : List (List ℕ)) (s s' : Listing) → Handed s ts s' → joined ts ++ rest s' ≡ rest s
unfolding Handed joined
handed_rest [] s s' e = ap rest e
handed_rest (t ∷ ts) s s' h =
    append_assoc t (joined ts) (rest s') ∙ ap (λ (l : List ℕ). t ++ l) (handed_rest ts h.0 s' h.2) ∙ sym h.1.text

module _ (file : List ℕ) (ts : List (List ℕ)) (s s' : Listing) (b : Begun (take 4097 file) s) (h : Handed s ts s') where
  -- at any time the pieces are the beginning of what is printed
  pub printed_so_far : joined ts ++ rest s' ≡ printed file
  printed_so_far = handed_rest ts s s' h ∙ b.whole ∙ front_printed file

  -- THE PIECES ARE ALL THAT IS PRINTED once a piece has no bytes
  pub printed_whole : (s'' : Listing) → Next s' [] s'' → joined ts ≡ printed file
  printed_whole s'' n = sym (append-nil (joined ts)) ∙ ap (λ (l : List ℕ). joined ts ++ l) (sym (n.ends refl)) ∙ printed_so_far
