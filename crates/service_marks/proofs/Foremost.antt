-- What comes before the marks, way by way of the code.
use Prim.Native.Nat.{ℕ, ◌≤◌}
use mathlib.Core.Path.{◌≡◌, refl, sym, ap, ◌∙◌}
use mathlib.Core.Bool.{Bool, true, false, false≢true, ◌&&◌}
use mathlib.Core.Option.{Option, none, some}
use Rattle.std.specs.Prelude.{Result, Ok, Err}
use borrow.Author.Tests.{ltb-true, ltb-false, leb-true}
use lib.Dec.{leb, ltb}
use lib.ListN.{take}
use Rattle.spec_file.specs.Program.{Program}
use Rattle.spec_file.specs.WellFormed.{WellFormed}
use Rattle.spec_file.specs.Decode.{decode}
use Rattle.file_decoder.specs.declared.file.Compiled.{Compiled}
use Rattle.file_decoder.specs.Compiled.{program_of, answer_of}
use Rattle.file_decoder.proofs.Decoded.{decoded_refused, decoded_accepted, decoded_well_formed}
use Rattle.spec_file.specs.declared.refusal.Refusal.{Refusal}
use Rattle.spec_service.specs.declared.caller.Caller.{Caller}
use Rattle.spec_service.specs.Seat.{Place, Seat, is_open}
use Rattle.spec_service.specs.Record.{place_of, seated, reading}
use Rattle.spec_service.specs.Call.{by_program}
use Rattle.spec_service.specs.Marks.{name_fits}
use Rattle.service_record.proofs.Opened.{read_long, read_file, read_refused, read_accepted}

-- ---- the length of a name
pub fits_most : (n : ℕ) → name_fits n ≡ true → n ≤ 8
unfolding name_fits
fits_most n e = go (leb 1 n) (leb n 8) refl e
  where
    go : (a b : Bool) → leb n 8 ≡ b → (a && b) ≡ true → n ≤ 8
    go true true q h = leb-true n 8 q
    go true false q h = absurd (false≢true h)
    go false b q h = absurd (false≢true h)

-- ---- the program of an open record
module _ (c : Caller) (o : is_open (reading c) ≡ true) where
  pub open_short : c.length ≤ 4096
  unfolding is_open
  open_short = go (ltb 4096 c.length) refl
    where
      go : (b : Bool) → ltb 4096 c.length ≡ b → c.length ≤ 4096
      go false q = ltb-false 4096 c.length q
      go true q = absurd (false≢true (sym (ap is_open (read_refused c 1 0 (read_long c (ltb-true 4096 c.length q)))) ∙ o))

  seated_program : (p : Program) (x : Option Place) (n : ℕ) → is_open (seated p x n) ≡ true → by_program (seated p x n) none some ≡ some p
  unfolding is_open seated by_program
  seated_program p none n e = absurd (false≢true e)
  seated_program p (some x) n e = refl

  -- the decoder hands over its program
  pub open_decoded : (a : Result Compiled Refusal) → answer_of a ≡ decode (take c.length c.file) → (p : Compiled) → a ≡ Ok p
      → (by_program (reading c) none some ≡ some (program_of p)) × WellFormed (program_of p)
  unfolding is_open
  open_decoded a e p h =
      let d = decoded_accepted a (take c.length c.file) e p h in
      let s = read_accepted c (program_of p) (read_file c open_short ∙ d) in (
        ap (λ (s : Seat). by_program s none some) s ∙ seated_program (program_of p) (place_of (program_of p) c.place c.steps c.schedule) c.asking (sym (ap is_open s) ∙ o),
        decoded_well_formed a (take c.length c.file) e p h,
      )

  pub open_not_refused : (a : Result Compiled Refusal) → answer_of a ≡ decode (take c.length c.file) → (r : Refusal) → a ≡ Err r → ⊥
  unfolding is_open
  open_not_refused a e r h =
      let d = read_file c open_short ∙ decoded_refused a (take c.length c.file) e r h in
      false≢true (sym (ap is_open (read_refused c r.number r.place d)) ∙ o)
