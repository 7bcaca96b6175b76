-- WAYS ALONG A RUN, as far as eight accesses go: empty at the start; an access adds its location, every other step nothing.
use Prim.Native.Nat.{ℕ, zero, suc}
use mathlib.Core.Path.{◌≡◌, refl}
use mathlib.Core.List.{List, [], ◌∷◌}
use lib.ListN.{get_or}
use Rattle.spec_file.specs.Program.{Program}
use Rattle.tso_place.specs.Reached.{Reached}
use Rattle.tso_place.specs.declared.place.Place.{Place}
use Rattle.theory_tso_key.specs.Ways.{way_after}
use Rattle.tso_key.specs.Stands.{Stands}

no_way : (t : ℕ) → ◌≡◌ {A = ℕ} (get_or (0 ∷ 0 ∷ 0 ∷ 0 ∷ 0 ∷ 0 ∷ []) t 0) 0
no_way zero = refl
no_way (suc zero) = refl
no_way (suc (suc zero)) = refl
no_way (suc (suc (suc zero))) = refl
no_way (suc (suc (suc (suc zero)))) = refl
no_way (suc (suc (suc (suc (suc zero))))) = refl
no_way (suc (suc (suc (suc (suc (suc t)))))) = refl

pub stands_first : (code lengths class : List ℕ) (threads groups : ℕ) (x : Place) (p : Program) → Reached code lengths class threads groups x p [] →
    Stands code lengths class threads groups (record { place = x; ways = 0 ∷ 0 ∷ 0 ∷ 0 ∷ 0 ∷ 0 ∷ [] }) p []
unfolding way_after
stands_first code lengths class threads groups x p r = record { reached = r; ways = λ t h. no_way t }
