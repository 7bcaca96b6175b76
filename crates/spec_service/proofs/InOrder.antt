-- IN ORDER: up to its next return or its closing a caller is handed what its list holds behind its place, each member once, and no more from
-- then on.
use Prim.Native.Nat.{ℕ, zero, suc, ◌<◌}
use mathlib.Core.Path.{◌≡◌, refl, sym, ap, subst, ◌∙◌}
use mathlib.Core.Logic.{◌⊎◌, inl, inr, ⊎_elim}
use mathlib.Core.Bool.{Bool, true, false, cond, ◌&&◌, false≢true}
use mathlib.Core.Option.{Option}
use mathlib.Core.List.{List, [], ◌∷◌, ◌++◌, map, tail, Memᴰ}
use native.Mathlib.Omega.{arith}
use lib.ListN.{length, drop}
use Rattle.spec_file.specs.Program.{Program}
use Rattle.spec_schedules.specs.Lists.{head_of, range}
use Rattle.spec_schedules.specs.Order.{Schedule}
use Rattle.spec_schedules.specs.Calls.{member}
use Rattle.spec_schedules.proofs.Calls.{head_drop}
use Rattle.spec_service.specs.Seat.{Place, active, to_come}
use Rattle.spec_service.specs.Call.{Call, close_for, Shared, seat_of, answer_to, after}
use Rattle.spec_service.specs.Play.{answers, hands_to, received, is_done, is_return, returns, Stays}
use Rattle.spec_service.proofs.Seats.{Four, four_after}
use Rattle.spec_service.proofs.Fates.{Kept, Served, fate}

tail_drop : {A : Type 0} (n : ℕ) (l : List A) → tail (drop n l) ≡ drop (suc n) l
tail_drop zero [] = refl
tail_drop zero (x ∷ l) = refl
tail_drop (suc n) [] = refl
tail_drop (suc n) (x ∷ l) = tail_drop n l

-- a caller that stays does not close now, nor later
pub stays_now : {k : ℕ} {c : Call} {cs : List Call} → Stays k (c ∷ cs) → c ≡ close_for k → ⊥
stays_now s e = s (Memᴰ.head (sym e))

pub stays_on : {k : ℕ} {c : Call} {cs : List Call} → Stays k (c ∷ cs) → Stays k cs
stays_on s m = s (Memᴰ.tail m)

-- a caller that does not return in a list of calls does so neither now nor later
returns_now : (b d : Bool) → cond b true d ≡ false → (b ≡ false) × (d ≡ false)
returns_now true d e = absurd (false≢true (sym e))
returns_now false d e = (refl, e)

module _ (k : ℕ) (small : k < 4) (p : Program) (l : List Schedule) where
  -- behind n members of l
  pub order_from : (cs : List Call) (σ : Shared) (n : ℕ) (x : Place) (a : Bool) → Four σ.callers → seat_of σ.callers k ≡ active p x a → to_come p x ≡ drop n l →
      Stays k cs → returns k cs σ ≡ false → received k (answers cs σ) ≡ map (member l) (range n (length (received k (answers cs σ))))
  unfolding answers received range returns
  order_from [] σ n x a h seat e st nr = refl
  order_from (c ∷ cs) σ n x a h seat e st nr = ⊎_elim
      (kept (λ y b s q. order_from cs (after c σ) n y b (four_after c σ h) s q (stays_on st) parts.1))
      (given (λ y s q. order_from cs (after c σ) (suc n) y false (four_after c σ h) s q (stays_on st) parts.1))
      (fate σ h k small p x a seat c (stays_now st))
    where
      parts : ((is_return k c && is_done (answer_to c σ)) ≡ false) × (returns k cs (after c σ) ≡ false)
      parts = returns_now (is_return k c && is_done (answer_to c σ)) (returns k cs (after c σ)) nr

      all : List (Option Schedule)
      all = hands_to k (answer_to c σ) ++ received k (answers cs (after c σ))

      rest : List (Option Schedule)
      rest = received k (answers cs (after c σ))

      kept : ((y : Place) (b : Bool) → seat_of (after c σ).callers k ≡ active p y b → to_come p y ≡ drop n l → rest ≡ map (member l) (range n (length rest))) →
          Kept σ h k small p x a seat c → all ≡ map (member l) (range n (length all))
      kept ih r = subst (λ (u : List (Option Schedule)). (u ++ received k (answers cs (after c σ))) ≡ map (member l) (range n (length (u ++ received k (answers cs (after c σ)))))) (sym r.nothing)
          (ih r.place r.asking r.stands (ap (to_come p) (r.stays parts.0) ∙ e))

      given : ((y : Place) → seat_of (after c σ).callers k ≡ active p y false → to_come p y ≡ drop (suc n) l → rest ≡ map (member l) (range (suc n) (length rest))) → Served σ h k small p x a seat c → all ≡ map (member l) (range n (length all))
      given ih r = subst (λ (u : List (Option Schedule)). (u ++ received k (answers cs (after c σ))) ≡ map (member l) (range n (length (u ++ received k (answers cs (after c σ))))))
          (sym (r.something ∙ ap (λ (o : Option Schedule). o ∷ []) (ap head_of e ∙ head_drop l n)))
          (ap (λ (u : List (Option Schedule)). member l n ∷ u)
          (ih r.place r.stands (r.rest ∙ ap tail e ∙ tail_drop n l)))
