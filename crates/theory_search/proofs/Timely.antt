-- Actions of which none comes late are in their least order: the lexicographic normal form of Anisimov and Knuth. A list of actions that
-- are on time stays so with one more that is not late.
use Prim.Native.Nat.{ℕ, ◌<◌}
use mathlib.Core.Path.{◌≡◌, refl, sym, ap, ap₂, subst, ◌∙◌}
use mathlib.Core.Logic.{◌≢◌, ◌⊎◌, inl, inr}
use mathlib.Core.Bool.{Bool, true, false, true≢false, false≢true}
use mathlib.Core.Option.{Option, some, none-ne-some}
use mathlib.Core.List.{List, [], ◌∷◌, ◌++◌, map, append_assoc, reverse, reverse-cons, Memᴰ}
use native.Mathlib.Omega.{arith}
use native.Mathlib.Decide.{ℕ_discrete}
use lib.Dec.{ltb}
use lib.ListN.{length, length-append}
use borrow.Author.Tests.{lt-ltb}
use Rattle.spec_schedules.specs.Lists.{find}
use Rattle.spec_file.specs.Lists.{Ascends}
use Rattle.spec_schedules.specs.Order.{Schedule}
use Rattle.spec_schedules.specs.Orders.{next_of, clear, ready}
use Rattle.theory_search.specs.Orders.{least_order}
use Rattle.spec_schedules.proofs.Order.{Compared, below, same, above, compared}
use Rattle.spec_schedules.proofs.Greedy.{FindIs, found_at, nowhere, find_is}
use Rattle.spec_schedules.proofs.Remaining.{next_nil, next_same, next_other, next_who, clear_same, clear_other, ready_at, at_ready}
use Rattle.theory_search.proofs.LeastOrder.{least_nil, least_cons}
use Rattle.theory_search.proofs.SameFound.{split_last}
use Rattle.theory_search.specs.Late.{late, Timely}
use Rattle.theory_search.proofs.Back.{back_here, back_over, back_longer}

module _ {D : Type 0} (who : D → ℕ) (dependent : D → D → Bool) where
  abbrev greater : D → ℕ → Bool
  greater e c = ltb c (who e)

  -- the first step of a byte, if it waits for none and is late behind an earlier past, is late behind all before it
  late_at : (ds : List D) (t : ℕ) (b : D) (past : List D) → next_of who dependent ds t ≡ some b → clear who dependent ds t b ≡ true → late who dependent past b ≡ true →
      (u : List D) × (z : List D) × (ds ≡ u ++ (b ∷ z)) × (late who dependent (reverse u ++ past) b ≡ true)
  late_at [] t b past e c l = absurd (none-ne-some b (sym (next_nil who dependent t) ∙ e))
  late_at (d ∷ ds) t b past e c l = go (ℕ_discrete (who d) t) (late_at ds t b (d ∷ past))
    where
      go : Dec (who d ≡ t) →
          (next_of who dependent ds t ≡ some b → clear who dependent ds t b ≡ true → late who dependent (d ∷ past) b ≡ true →
          (u : List D) × (z : List D) × (ds ≡ u ++ (b ∷ z)) × (late who dependent (reverse u ++ (d ∷ past)) b ≡ true)) →
          (u : List D) × (z : List D) × (d ∷ ds ≡ u ++ (b ∷ z)) × (late who dependent (reverse u ++ past) b ≡ true)
      go (yes q) ih =
          let z : some d ≡ some b = sym (next_same who dependent d ds t q) ∙ e in
          let i : d ≡ b = cc in
          ([], ds, ap (λ (x : D). x ∷ ds) i, l)
      go (no q) ih =
          let own = next_who who dependent (d ∷ ds) t b e in
          let ne : who d ≢ who b = λ i. q (i ∙ own) in
          let k = clear_other who dependent d ds t b q c in
          let r = ih (sym (next_other who dependent d ds t q) ∙ e) k.1 (back_over who dependent greater d past b ne k.0 l) in
          let w : reverse (d ∷ r.0) ++ past ≡ reverse r.0 ++ (d ∷ past) = ap (λ (x : List D). x ++ past) (reverse-cons d r.0) ∙ append_assoc (reverse r.0) (d ∷ []) past in
          (d ∷ r.0, r.1, ap (λ (x : List D). d ∷ x) r.2, subst (λ (x : List D). late who dependent x b ≡ true) (sym w) r.3)

  first_ready : (a : D) (rest : List D) → ready who dependent (a ∷ rest) (who a) ≡ true
  first_ready a rest = at_ready who dependent (a ∷ rest) (who a) a (next_same who dependent a rest (who a) refl) (clear_same who dependent a rest (who a) a refl)

  -- no smaller byte is ready: its first step would be late
  smaller_waits : (a : D) (rest : List D) → Timely who dependent (a ∷ rest) → (t : ℕ) → t < who a → ready who dependent (a ∷ rest) t ≡ true → ⊥
  smaller_waits a rest on t h r =
      let k = ready_at who dependent (a ∷ rest) t r in
      let b = k.0 in
      let own : who b ≡ t = next_who who dependent (a ∷ rest) t b k.1 in
      let o : who b < who a = omega (arith, h, own) in
      let n : who a ≢ t = λ e. absurd (omega (arith, e)) in
      let c = clear_other who dependent a rest t b n k.2 in
      let m = late_at rest t b (a ∷ []) (sym (next_other who dependent a rest t n) ∙ k.1) c.1 (back_here who dependent greater a [] b (lt-ltb (who b) (who a) o) (λ e. omega (arith, o, e)) c.0) in
      let timely = on (a ∷ m.0) b m.1 (ap (λ (x : List D). a ∷ x) m.2) in
      false≢true (sym timely ∙ ap (λ (x : List D). late who dependent x b) (reverse-cons a m.0) ∙ m.3)

  -- behind the first step the others are still on time
  timely_rest : (a : D) (rest : List D) → Timely who dependent (a ∷ rest) → Timely who dependent rest
  timely_rest a rest on u b z e = go (late who dependent (reverse u) b) refl
    where
      go : (x : Bool) → late who dependent (reverse u) b ≡ x → late who dependent (reverse u) b ≡ false
      go false q = q
      go true q =
          let o = on (a ∷ u) b z (ap (λ (x : List D). a ∷ x) e) in
          absurd (false≢true (sym o ∙ ap (λ (x : List D). late who dependent x b) (reverse-cons a u) ∙ back_longer who dependent greater (reverse u) (a ∷ []) b q))

  module _ (names : List ℕ) (asc : Ascends ltb names) where
    goes_first : (a : D) (rest : List D) → Timely who dependent (a ∷ rest) → Memᴰ (who a) names → find (ready who dependent (a ∷ rest)) names ≡ some (who a)
    goes_first a rest on here = go (find (ready who dependent (a ∷ rest)) names) (find_is (ready who dependent (a ∷ rest)) names asc)
      where
        go : (o : Option ℕ) → FindIs (ready who dependent (a ∷ rest)) names o → o ≡ some (who a)
        go o (found_at {t = t} m e low) = at (compared t (who a))
          where
            at : Compared t (who a) → some t ≡ some (who a)
            at (below k) = absurd (smaller_waits a rest on t k e)
            at (same k) = ap some k
            at (above k) = absurd (true≢false (sym (first_ready a rest) ∙ low (who a) here k))
        go o (nowhere low) = absurd (true≢false (sym (first_ready a rest) ∙ low (who a) here))

    -- ACTIONS OF WHICH NONE COMES LATE ARE IN THEIR LEAST ORDER
    pub timely_least : (acts : List D) → Timely who dependent acts → ((d : D) → Memᴰ d acts → Memᴰ (who d) names) → least_order who dependent names acts ≡ map who acts
    timely_least [] on h = least_nil who dependent names
    timely_least (a ∷ rest) on h =
        least_cons who dependent names a rest (goes_first a rest on (h a (Memᴰ.head refl)))
        ∙ ap (λ (s : Schedule). who a ∷ s) (timely_least rest (timely_rest a rest on) (λ b m. h b (Memᴰ.tail m)))

-- one more at the end
module _ {D : Type 0} (who : D → ℕ) (dependent : D → D → Bool) where
  pub timely_more : (acts : List D) (d : D) → Timely who dependent acts → late who dependent (reverse acts) d ≡ false → Timely who dependent (acts ++ (d ∷ []))
  timely_more acts d on h u e z q = go (split_last acts d u e z q)
    where
      go : ((acts ≡ u) × (d ≡ e)) ⊎ ((y : List D) × (acts ≡ u ++ (e ∷ y))) → late who dependent (reverse u) e ≡ false
      go (inl r) = ap₂ (λ (x : List D) (y : D). late who dependent (reverse x) y) (sym r.0) (sym r.1) ∙ h
      go (inr r) = on u e r.0 r.1

  pub timely_none : Timely who dependent []
  timely_none u d z e = absurd (omega (arith, ap length e, length-append u (d ∷ z)))
