-- What the decoder's answer says of a file.
use mathlib.Core.Path.{◌≡◌, ◌∙◌, sym, ap}
use Rattle.std.specs.Prelude.{Result, Ok, Err}
use Rattle.spec_file.specs.declared.refusal.Refusal.{Refusal}
use Rattle.file_decoder.specs.declared.file.Compiled.{Compiled}
use Rattle.spec_file.specs.Decode.{Decoded}
use Rattle.file_decoder.specs.Compiled.{answer_of}
use Rattle.spec_calls.specs.Word as word
use Rattle.spec_calls.specs.Check.{check_reply}

module _ (a : Result Compiled Refusal) (d : Decoded) (e : answer_of a ≡ d) where
  pub checked_accepted : (c : Compiled) → a ≡ Ok c → check_reply d ≡ word.answered 0
  unfolding answer_of check_reply
  checked_accepted c v = ap check_reply (sym e) ∙ rw v

  pub checked_refused : (r : Refusal) → a ≡ Err r → check_reply d ≡ word.refused r.number r.place
  unfolding answer_of check_reply
  checked_refused r v = ap check_reply (sym e) ∙ rw v
