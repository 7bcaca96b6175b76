-- Sequential consistency turns no program away.
use mathlib.Core.Path.{◌≡◌, refl}
use Rattle.spec_file.specs.Decode.{Decoded, accepted}
use Rattle.spec_file.specs.Decode as File
use Rattle.spec_model.specs.OnFile.{unless, admit}
use Rattle.spec_sc.specs.Sequential.{sc}

pub sc_admits : (d : Decoded) → admit sc d ≡ d
unfolding admit unless
sc_admits (accepted p) = refl
sc_admits (File.refused n k) = refl
