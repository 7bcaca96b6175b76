-- What the decoder's answer says of the file, and the groups of the program that it hands over.
use Prim.Native.Nat.{ℕ, ◌+◌}
use mathlib.Core.Path.{◌≡◌, refl}
use mathlib.Core.List.{List}
use Rattle.std.specs.Prelude.{Result, Ok, Err}
use Rattle.spec_file.specs.WellFormed.{WellFormed}
use Rattle.spec_file.specs.declared.refusal.Refusal.{Refusal}
use Rattle.file_decoder.specs.declared.file.Compiled.{Compiled}
use Rattle.spec_file.specs.Decode.{accepted, refused, decode}
use Rattle.file_decoder.specs.Compiled.{members_of, program_of, answer_of}
use Rattle.file_decoder.proofs.Said.{answer_refused, answer_accepted}
use Rattle.spec_file.specs.Tabulate.{tabulate}
use Rattle.spec_file.proofs.AcceptedWellFormed.{accepted_well_formed}

module _ (a : Result Compiled Refusal) (file : List ℕ) (e : answer_of a ≡ decode file) where
  pub decoded_refused : (r : Refusal) → a ≡ Err r → decode file ≡ refused r.number r.place
  decoded_refused r v = answer_refused a (decode file) e r v

  pub decoded_accepted : (c : Compiled) → a ≡ Ok c → decode file ≡ accepted (program_of c)
  decoded_accepted c v = answer_accepted a (decode file) e c v

  -- an accepted program is well formed
  pub decoded_well_formed : (c : Compiled) → a ≡ Ok c → WellFormed (program_of c)
  decoded_well_formed c v = accepted_well_formed file (program_of c) (decoded_accepted c v)

-- group k has the threads of class k + 1
pub decoded_groups : (c : Compiled) → (program_of c).groups ≡ tabulate (λ k. members_of c.class (k + 1)) c.groups
unfolding program_of
decoded_groups c = refl
