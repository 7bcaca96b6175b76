-- A TABLE OF WINNERS: what it says of a key is right of every play whose state has it, and stays so when a winner is put into it.
use Prim.Native.Nat.{ℕ, ◌<◌, ◌≤◌}
use mathlib.Core.Path.{◌≡◌, refl, sym, ap, ap₂, subst, ◌∙◌}
use mathlib.Core.Bool.{Bool, true, false, cond}
use mathlib.Core.List.{List, [], ◌∷◌}
use native.Mathlib.Omega.{arith}
use lib.Dec.{eqb}
use lib.ListN.{length}
use Rattle.spec_file.specs.Program.{Program}
use Rattle.spec_file.specs.WellFormed.{WellFormed}
use Rattle.spec_schedules.specs.Order.{Schedule}
use Rattle.spec_schedules.specs.System.{Allowed}
use Rattle.spec_sc.specs.State.{State, SC, start, fails}
use Rattle.spec_sc.specs.Graph.{end_of}
use Rattle.spec_sc.proofs.Lawful.{lawful}
use Rattle.spec_force.specs.Game.{Side, hostile, friendly, same, able}
use Rattle.spec_force.proofs.Value.{value}
use Rattle.spec_force.specs.Forced.{game_of}
use Rattle.theory_states.specs.Memory.{Honest}
use Rattle.theory_states.proofs.Memory.{nothing_true, put_true}
use Rattle.theory_sc_key.specs.Key.{seen_with, words_of, key_of, padded, Wide}
use Rattle.theory_sc_key.proofs.Decides.{front_same, view_same}
use Rattle.theory_sc_key.proofs.Packing.{padded_length}
use Rattle.theory_game.specs.Wins.{wins, Enough}
use Rattle.theory_game.specs.Winners.{number_of, game_words, entry_of, Going, Winners}
use Rattle.theory_game.proofs.Enough.{enough_wins, wins_alike}
use Rattle.theory_game.proofs.Seen.{OneGame, seen_alike}

-- ---- sides and flags as numbers
number_small : (x : Side) → number_of x < 64
unfolding number_of
number_small hostile = omega arith
number_small friendly = omega arith

number_once : (x y : Side) → number_of x ≡ number_of y → x ≡ y
unfolding number_of
number_once hostile hostile e = refl
number_once hostile friendly e = absurd (omega (arith, e))
number_once friendly hostile e = absurd (omega (arith, e))
number_once friendly friendly e = refl

entry_flag : (w : ℕ) (b : Bool) → w ∷ [] ≡ entry_of b → eqb w 1 ≡ b
entry_flag w true e = let q : w ≡ 1 = cc in ap (λ (i : ℕ). eqb i 1) q
entry_flag w false e = let q : w ≡ 0 = cc in ap (λ (i : ℕ). eqb i 1) q

module _ (set : ℕ) (p : Program) (w : WellFormed p) (n : ℕ) where
  abbrev key : Side × Schedule → List ℕ
  key x = game_words n x.0 (end_of p x.1)

  -- where a side is to step, whether it wins
  abbrev ahead : Side × Schedule → Bool
  ahead x = same (wins (game_of set) x.0 (end_of p x.1)) x.0

  -- PLAYS WITH ONE KEY: the same side is to step, and it wins in both or in neither
  pub key_decides : (x y : Side × Schedule) → Going p x → Going p y → key x ≡ key y → ahead x ≡ ahead y
  key_decides x y a b e =
      let σ : State = end_of p x.1 in
      let τ : State = end_of p y.1 in
      let side = number_once x.0 y.0 (front_same p w x.1 σ y.1 τ (refl, a.0) (refl, b.0) n (number_of x.0) (number_of y.0) [] [] (number_small x.0) (number_small y.0) e) in
      let one : OneGame p σ τ = record {
        left = (x.1, (refl, a.0));
        right = (y.1, (refl, b.0));
        view = view_same p w x.1 σ y.1 τ (refl, a.0) (refl, b.0) n (number_of x.0) (number_of y.0) [] [] (number_small x.0) (number_small y.0) e;
        failed = a.1 ∙ sym b.1;
      } in
      ap (λ (s : Side). same s x.0) (wins_alike (game_of set) lawful (OneGame p) (seen_alike set p w) x.0 σ τ one)
      ∙ ap (λ (z : Side). same (wins (game_of set) z τ) z) side

  -- as wide as the keys of the search
  pub key_wide : Wide n p → (x : Side × Schedule) → Going p x → length (key x) ≡ n
  unfolding words_of
  key_wide wide x a = padded_length n (words_of (seen_with (number_of x.0) [] (end_of p x.1))) (wide x.1 (end_of p x.1) (refl, a.0))

  module _ (Says : List ℕ → List ℕ → Type 0) where
    -- a table that says nothing
    pub winners_none : ((k c : List ℕ) → Says k c → ⊥) → Winners set p n Says
    winners_none h = nothing_true (Going p) key (λ x e. e ≡ entry_of (ahead x)) Says h

    module _ (x : Side) (v : Schedule) (a : Allowed SC (start p) v) (going : fails (end_of p v) ≡ false) (able-x : able (game_of set) x (end_of p v) ≡ true) (k : ℕ) (enough : Enough (game_of set) k x (end_of p v)) where
      by_value : same (value (game_of set) k x (end_of p v)) x ≡ ahead (x, v)
      by_value = ap (λ (y : Side). same y x) (enough_wins (game_of set) lawful k x (end_of p v) able-x enough)

      -- what was found is whether x wins
      pub winners_found : Winners set p n Says → (e : ℕ) → Says (game_words n x (end_of p v)) (e ∷ []) → eqb e 1 ≡ same (value (game_of set) k x (end_of p v)) x
      winners_found true-one e s = entry_flag e (ahead (x, v)) (true-one (x, v) (a, going) (e ∷ []) s) ∙ sym by_value

      -- and may be put
      pub winners_put : Wide n p → (Says' : List ℕ → List ℕ → Type 0) (r : Bool) → r ≡ same (value (game_of set) k x (end_of p v)) x
          → Honest (λ j. length j ≡ n) (game_words n x (end_of p v)) (entry_of r) Says Says' → Winners set p n Says → Winners set p n Says'
      winners_put wide Says' r q honest t =
          put_true (Going p) key (λ y e. e ≡ entry_of (ahead y)) (λ j. length j ≡ n) (key_wide wide)
          (λ y z b c s e i. i ∙ ap entry_of (key_decides y z b c s)) Says Says' (x, v) (entry_of r) t (a, going) (ap entry_of (q ∙ by_value)) honest
