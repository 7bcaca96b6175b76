-- Whose turn it is, way by way of the code.
use Prim.Native.Nat.{ℕ, zero, suc, ◌+◌, ◌%◌, ◌≤◌, ◌<◌}
use mathlib.Core.Path.{◌≡◌, refl, sym, ap, fun_ext, ◌∙◌}
use mathlib.Core.Bool.{Bool, true, false, cond, not}
use mathlib.Core.Option.{Option, none, some}
use mathlib.Core.Logic.{◌⊎◌, inl, inr}
use mathlib.Core.List.{List, [], ◌∷◌, map}
use Rattle.std.specs.Prelude.{Some, None, Result, Ok, Err}
use Rattle.std.specs.Prelude as Code
use Rattle.std.specs.List as Rust
use Rattle.std.specs.List.{range_with_len}
use Rattle.std.specs.Option.{option_map}
use lib.Dec.{eqb}
use Rattle.spec_file.specs.declared.refusal.Refusal.{Refusal}
use native.Mathlib.Omega.{arith}
use borrow.Author.Tests.{lt-ltb, le-ltb, eq-eqb, ne_eqb}
use lib.ListN.{length, get_or, get_or-eq_default}
use Rattle.spec_schedules.specs.Lists.{find}
use Rattle.spec_schedules.specs.Order.{Schedule}
use Rattle.spec_service.specs.declared.caller.Caller.{Caller}
use Rattle.spec_service.specs.Seat.{asks}
use Rattle.spec_service.specs.Record.{reading, fresh}
use Rattle.spec_service.specs.Call.{Answer, idle, refused, seat_of, last_read, in_turn, next_asking, for_seat, handed_to, served_to, serve_answer, last_after}
use Rattle.spec_service.proofs.Readings.{reading_fresh}
use Rattle.service_serve.specs.Turn.{asks_at, Asking, number_of, turn_of}

-- ---- the library's search
found_by : (f : ℕ → Bool) (l : List ℕ) → Rust.find f l ≡ number_of (find f l)
unfolding find number_of
found_by f [] = refl
found_by f (x ∷ l) = go (f x) (found_by f l)
  where
    go : (b : Bool) → Rust.find f l ≡ number_of (find f l) → cond b (Some x) (Rust.find f l) ≡ number_of (elim b [ true ↦ some x | false ↦ find f l ])
    go true e = refl
    go false e = e

-- what it finds of the callers in turn after the last one, which is read as n
pub found_next : (f : ℕ → Bool) (n m : ℕ) → n ≡ last_read m → (r : Code.Option ℕ) → option_map (λ x. x) r ≡ Rust.find f (map (λ d. (n + d) % 4) (range_with_len 1 4)) → r ≡ number_of (find f (in_turn m))
unfolding in_turn
found_next f n m e r q = same r ∙ q ∙ found_by f (map (λ d. (n + d) % 4) (range_with_len 1 4)) ∙ ap (λ (j : ℕ). number_of (find f (map (λ d. (j + d) % 4) (1 ∷ 2 ∷ 3 ∷ 4 ∷ [])))) e
  where
    same : (r : Code.Option ℕ) → r ≡ option_map (λ x. x) r
    same None = refl
    same (Some x) = refl

-- ---- the four of a list
module _ (cs : List Caller) (l : List Bool) (four : length cs ≡ 4) (which : Asking cs l) where
  asking_at : (k : ℕ) → get_or l k false ≡ asks (seat_of cs k)
  unfolding seat_of asks
  asking_at k = ap (λ (b : List Bool). get_or b k false) which ∙ go k
    where
      go : (k : ℕ) → get_or (asks_at cs 0 ∷ asks_at cs 1 ∷ asks_at cs 2 ∷ asks_at cs 3 ∷ []) k false ≡ asks (reading (get_or cs k fresh))
      go zero = refl
      go (suc zero) = refl
      go (suc (suc zero)) = refl
      go (suc (suc (suc zero))) = refl
      go (suc (suc (suc (suc k)))) =
          sym (ap (λ (r : Caller). asks (reading r)) (get_or-eq_default cs fresh {n = suc (suc (suc (suc k)))} (omega (arith, four))) ∙ ap asks reading_fresh)

  module _ (m : ℕ) (r : Code.Option ℕ) (e : r ≡ number_of (find (λ k. get_or l k false) (in_turn m))) where
    pub by_next : r ≡ number_of (next_asking cs m)
    unfolding next_asking
    by_next = e ∙ ap (λ (f : ℕ → Bool). number_of (find f (in_turn m))) (fun_ext asking_at)

    pub chosen_some : (k : ℕ) → r ≡ Some k → next_asking cs m ≡ some k
    unfolding number_of
    chosen_some k q = go (next_asking cs m) refl
      where
        go : (o : Option ℕ) → next_asking cs m ≡ o → next_asking cs m ≡ some k
        go none z = let w = sym q ∙ by_next ∙ ap number_of z in cc
        go (some j) z = let w = sym q ∙ by_next ∙ ap number_of z in let v : k ≡ j = cc in z ∙ ap some (sym v)

    pub chosen_nobody : r ≡ None → next_asking cs m ≡ none
    unfolding number_of
    chosen_nobody q = go (next_asking cs m) refl
      where
        go : (o : Option ℕ) → next_asking cs m ≡ o → next_asking cs m ≡ none
        go none z = z
        go (some j) z = let w = sym q ∙ by_next ∙ ap number_of z in cc

-- ---- whom a serve is about, and the last caller served behind it
module _ (cs : List Caller) (m : ℕ) (out : List ℕ) where
  abbrev pub Turned : Result (Code.Option ℕ) Refusal → ℕ → Type 0
  Turned r m' = (r ≡ turn_of (serve_answer cs m out)) × (m' ≡ last_after (serve_answer cs m out) m)

  turned_by : (a : Answer) (r : Result (Code.Option ℕ) Refusal) (m' : ℕ) → serve_answer cs m out ≡ a → r ≡ turn_of a → m' ≡ last_after a m → Turned r m'
  turned_by a r m' e h q = (h ∙ ap turn_of (sym e), q ∙ ap (λ (x : Answer). last_after x m) (sym e))

  pub turned_22 : (length cs ≡ 4 → ⊥) ⊎ (length out < 24) → Turned (Err (record { number = 22; place = 0 })) m
  unfolding serve_answer turn_of last_after
  turned_22 h = turned_by (refused 22 0) (Err (record { number = 22; place = 0 })) m (go h) refl refl
    where
      short : (b : Bool) → cond b (refused 22 0) (refused 22 0) ≡ refused 22 0
      short true = refl
      short false = refl

      go : (length cs ≡ 4 → ⊥) ⊎ (length out < 24) → serve_answer cs m out ≡ refused 22 0
      go (inl d) = rw (ne_eqb (length cs) 4 d)
      go (inr l) = rw (lt-ltb (length out) 24 l) (short (not (eqb (length cs) 4)))

  served_to_lem : length cs ≡ 4 → 24 ≤ length out → serve_answer cs m out ≡ served_to cs (next_asking cs m)
  unfolding serve_answer
  served_to_lem e l = rw (eq-eqb (length cs) 4 e, le-ltb (length out) 24 l)

  pub turned_idle : length cs ≡ 4 → 24 ≤ length out → next_asking cs m ≡ none → (m' : ℕ) → m' ≡ last_read m → Turned (Ok None) m'
  unfolding served_to turn_of last_after
  turned_idle e l q m' h = turned_by idle (Ok None) m' (served_to_lem e l ∙ ap (served_to cs) q) refl h

  pub turned_to : length cs ≡ 4 → 24 ≤ length out → (k : ℕ) → next_asking cs m ≡ some k → (m' : ℕ) → m' ≡ k → Turned (Ok (Some k)) m'
  unfolding served_to turn_of last_after handed_to
  turned_to e l k q m' h = turned_by (handed_to k (for_seat (seat_of cs k))) (Ok (Some k)) m' (served_to_lem e l ∙ ap (served_to cs) q) (go (for_seat (seat_of cs k))).0 (h ∙ (go (for_seat (seat_of cs k))).1)
    where
      go : (o : Option Schedule) → (Ok (Some k) ≡ turn_of (handed_to k o)) × (k ≡ last_after (handed_to k o) m)
      go none = (refl, refl)
      go (some s) = (refl, refl)
