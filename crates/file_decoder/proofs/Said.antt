-- What the decoder's answer says: the program of an Ok, the refusal of an Err.
use mathlib.Core.Path.{◌≡◌, sym, ap, ◌∙◌}
use Rattle.std.specs.Prelude.{Result, Ok, Err}
use Rattle.spec_file.specs.declared.refusal.Refusal.{Refusal}
use Rattle.spec_file.specs.Decode.{Decoded, accepted, refused}
use Rattle.file_decoder.specs.declared.file.Compiled.{Compiled}
use Rattle.file_decoder.specs.Compiled.{program_of, answer_of}

pub says_refused : (a : Result Compiled Refusal) (r : Refusal) → a ≡ Err r → answer_of a ≡ refused r.number r.place
unfolding answer_of
says_refused a r v = ap answer_of v

pub says_accepted : (a : Result Compiled Refusal) (c : Compiled) → a ≡ Ok c → answer_of a ≡ accepted (program_of c)
unfolding answer_of
says_accepted a c v = ap answer_of v

-- of a file that is known
module _ (a : Result Compiled Refusal) (d : Decoded) (e : answer_of a ≡ d) where
  pub answer_refused : (r : Refusal) → a ≡ Err r → d ≡ refused r.number r.place
  answer_refused r v = sym e ∙ says_refused a r v

  pub answer_accepted : (c : Compiled) → a ≡ Ok c → d ≡ accepted (program_of c)
  answer_accepted c v = sym e ∙ says_accepted a c v
