-- THE LIST WALKED FOR ITS FIRSTS, one schedule after the other.
use Prim.Native.Nat.{ℕ, zero, suc, ◌+◌, ◌-◌, ◌*◌, ◌<◌}
use mathlib.Core.Path.{◌≡◌, refl, sym, ap, subst, ◌∙◌}
use mathlib.Core.Bool.{Bool, true, false, not, true≢false}
use mathlib.Core.Option.{none, some}
use mathlib.Core.Logic.{◌⊎◌, inl, inr, ⊎_elim}
use mathlib.Core.List.Memᴰ
use mathlib.Core.List.{List, [], ◌∷◌, ◌++◌, flat_map, append_assoc, append-nil, Memᴰ}
use native.Mathlib.Omega.{arith}
use lib.Dec.{eqb}
use lib.Pointwise.{pointwise}
use Rattle.std.proofs.lemmas.Slice.Eq.{bytes_eq-Decides}
use lib.ListN.{length, take, drop, length-append, drop_of_length-le}
use lib.Seq.{take_all}
use Rattle.spec_file.specs.Over.{over}
use Rattle.spec_file.specs.Program.{Program}
use Rattle.spec_file.proofs.Over.{over_nil}
use Rattle.spec_schedules.specs.Lists.{find, filter}
use Rattle.spec_schedules.specs.Order.{Schedule}
use Rattle.spec_schedules.proofs.FirstIn.{find_in, none_find}
use Rattle.spec_schedules.proofs.Kept.{filter_nil}
use Rattle.spec_schedules.proofs.Lists.{filter_yes, filter_no}
use Rattle.spec_model.specs.Model.{Model}
use Rattle.spec_model.specs.Laws.{Laws}
use Rattle.spec_model.specs.Alike.{list_of}
use Rattle.spec_model.proofs.TheList.{list_ascends}
use Rattle.spec_calls.specs.Rows.{row_bytes}
use Rattle.spec_covers.specs.declared.outcome.Outcome.{Outcome}
use Rattle.spec_across.specs.Under.{outcome_under}
use Rattle.spec_across.proofs.Attained.{comes_to, comes_is}
use Rattle.spec_outcomes.specs.Firsts.{is_first, firsts_of}
use Rattle.spec_outcomes.specs.OutcomesCall.{four_bytes, outcome_size, outcome_rows}
use Rattle.spec_outcomes.proofs.Same.{is_comes}
use Rattle.spec_outcomes.proofs.Firsts.{none_first, first_in, in_first, firsts_once}
use Rattle.outcome_states.proofs.Shown.{row_is, rows_none, rows_more, rows_length}
use Rattle.outcomes_call.specs.declared.by_lists.Tally.{Tally}
use Rattle.outcomes_call.specs.Walked.{Walks}

-- whether two schedules differ, as the code asks it
module _ (a b : List ℕ) (t : Bool) (e : t ≡ not (pointwise eqb a b)) where
  pub differ : t ≡ true → a ≡ b → ⊥
  differ q i = true≢false (sym q ∙ e ∙ ap not ((bytes_eq-Decides a b).1 i))

  pub agree : t ≡ false → a ≡ b
  agree q = (bytes_eq-Decides a b).0 (not_false (pointwise eqb a b) (sym e ∙ q))
    where
      not_false : (t : Bool) → not t ≡ false → t ≡ true
      not_false true i = refl
      not_false false i = absurd (true≢false i)

module _ (M : Model) (L : Laws M) (p : Program) where
  abbrev F : List Schedule
  F = firsts_of M p

  abbrev o : Schedule → Outcome
  o s = outcome_under M p s

  -- ---- whether a listed schedule is a first, by the first listed one with its outcome
  module _ (s t : Schedule) (m : Memᴰ s (list_of M p)) (e : find (comes_to M p (o s)) (list_of M p) ≡ some t) where
    at_t : Memᴰ t F × (o t ≡ o s)
    at_t =
        let k = find_in (comes_to M p (o s)) (list_of M p) (list_ascends M L p) t e in
        let q = comes_is M p (o s) t k.1 in
        (in_first M p t k.0 (none_first M p t (λ r n h i. true≢false (sym (is_comes M p (o s) r (i ∙ q)) ∙ k.2 r n h))), q)

    pub is_first_lem : s ≡ t → is_first M p s ≡ true
    is_first_lem i = subst (λ (x : Schedule). is_first M p x ≡ true) (sym i) (first_in M p t at_t.0).1

    pub not_first : (s ≡ t → ⊥) → is_first M p s ≡ false
    not_first n = go (is_first M p s) refl
      where
        go : (b : Bool) → is_first M p s ≡ b → is_first M p s ≡ false
        go true q = absurd (n (firsts_once M L p s t (in_first M p s m q) at_t.0 (sym at_t.1)))
        go false q = q

  -- the first listed one with the outcome of a listed schedule is found
  module _ (s : Schedule) (m : Memᴰ s (list_of M p)) (x : Outcome) (is : x ≡ o s) where
    pub coming_some : (t : Schedule) → some t ≡ find (comes_to M p x) (list_of M p) → find (comes_to M p (o s)) (list_of M p) ≡ some t
    coming_some t e = ap (λ (y : Outcome). find (comes_to M p y) (list_of M p)) (sym is) ∙ sym e

    pub not_none : none ≡ find (comes_to M p x) (list_of M p) → ⊥
    not_none e = true≢false (sym (is_comes M p x s (sym is)) ∙ none_find (comes_to M p x) (list_of M p) (sym e) s m)

  module _ (from room : ℕ) (held : List ℕ) where
    abbrev W : List Schedule → Tally → List ℕ → Type 0
    W rest t out = Walks M p from room held rest t out

    -- nothing is written yet
    pub walks_start : (rest : List Schedule) → rest ≡ list_of M p → W rest (record { left = from; rows = 0 }) held
    unfolding firsts_of
    walks_start rest e = record {
      written = [];
      counted = refl;
      few = omega arith;
      eights = λ y m. absurd (Memᴰ.not-nil m);
      shown = sym (ap (λ (t : List ℕ). over t held) (rows_none M p) ∙ over_nil held);
      whole = ap (λ (n : ℕ). take n (drop from (filter (is_first M p) rest))) all_room ∙ ap (λ (l : List Schedule). take room (drop from (filter (is_first M p) l))) e;
    }
      where
        all_room : room - 0 ≡ room
        all_room = omega arith

    module _ (rest : List Schedule) (t : Tally) (out : List ℕ) where
      -- the room is full, or nothing is to come any more
      complete : (w : W rest t out) → take (room - t.rows) (drop t.left (filter (is_first M p) rest)) ≡ []
          → (t.rows ≡ length (take room (drop from F))) × (out ≡ over (outcome_rows M p (take room (drop from F))) held)
      complete w e =
          let is : w.written ≡ take room (drop from F) = sym (append-nil w.written) ∙ ap (λ (l : List Schedule). w.written ++ l) (sym e) ∙ w.whole in
          (w.counted ∙ ap length is, w.shown ∙ ap (λ (l : List Schedule). over (outcome_rows M p l) held) is)

      pub walks_full : W rest t out → t.rows ≡ room → (t.rows ≡ length (take room (drop from F))) × (out ≡ over (outcome_rows M p (take room (drop from F))) held)
      walks_full w e =
          let z : room - t.rows ≡ 0 = omega (arith, e) in
          complete w (ap (λ (n : ℕ). take n (drop t.left (filter (is_first M p) rest))) z)

      pub walks_over : W rest t out → rest ≡ [] → (t.rows ≡ length (take room (drop from F))) × (out ≡ over (outcome_rows M p (take room (drop from F))) held)
      walks_over w e =
          let z : filter (is_first M p) rest ≡ [] = ap (filter (is_first M p)) e ∙ filter_nil (is_first M p) in
          complete w (ap (λ (l : List Schedule). take (room - t.rows) (drop t.left l)) z
          ∙ ap (take (room - t.rows)) (drop_of_length-le {A = Schedule} [] {i = t.left} (omega arith)) ∙ take_all (room - t.rows) [] (omega arith))

    module _ (s : Schedule) (rest : List Schedule) (t : Tally) (out : List ℕ) where
      -- one that is no first
      pub walks_past : is_first M p s ≡ false → W (s ∷ rest) t out → W rest t out
      walks_past e w = record {
        written = w.written;
        counted = w.counted;
        few = w.few;
        eights = w.eights;
        shown = w.shown;
        whole = ap (λ (l : List Schedule). w.written ++ take (room - t.rows) (drop t.left l)) (sym (filter_no (is_first M p) s rest e)) ∙ w.whole;
      }

      -- a first that is passed over
      pub walks_skip : is_first M p s ≡ true → 0 < t.left → W (s ∷ rest) t out → W rest (record { left = t.left - 1; rows = t.rows }) out
      walks_skip e h w = record {
        written = w.written;
        counted = w.counted;
        few = w.few;
        eights = w.eights;
        shown = w.shown;
        whole = ap (λ (l : List Schedule). w.written ++ take (room - t.rows) l) (sym (ap (drop t.left) (filter_yes (is_first M p) s rest e) ∙ drop_one t.left h)) ∙ w.whole;
      }
        where
          drop_one : (n : ℕ) → 0 < n → drop n (s ∷ filter (is_first M p) rest) ≡ drop (n - 1) (filter (is_first M p) rest)
          drop_one zero l = absurd (omega arith)
          drop_one (suc n) l = let i : suc n - 1 ≡ n = omega arith in ap (λ (j : ℕ). drop j (filter (is_first M p) rest)) (sym i)

      -- a first whose row is written
      pub walks_row : is_first M p s ≡ true → t.left ≡ 0 → t.rows < room → (x : Outcome) → x ≡ o s → length x.memory ≡ 8 → (out' : List ℕ) → length out ≡ length held
          → ((l u : List ℕ) → out ≡ over l u → length l ≡ (t.rows - 0) * outcome_size M → length out ≡ length u → out' ≡ over (l ++ (flat_map four_bytes x.memory ++ row_bytes M.need s x.fails)) u)
          → W (s ∷ rest) t out → W rest (record { left = t.left; rows = t.rows + 1 }) out'
      walks_row e z h x is eight out' same put w = record {
        written = w.written ++ (s ∷ []);
        counted = let c = w.counted in sym (length-append w.written (s ∷ []) ∙ omega (arith, c));
        few = omega (arith, h);
        eights = λ y m. ⊎_elim (λ (k : Memᴰ y w.written). w.eights y k) (λ (k : Memᴰ y (s ∷ [])). own y (Memᴰ.cases_cons k)) (Memᴰ.append_cases w.written m);
        shown = put (outcome_rows M p w.written) held w.shown long same
            ∙ ap (λ (r : List ℕ). over (outcome_rows M p w.written ++ r) held) (row_is M p s x is)
            ∙ ap (λ (r : List ℕ). over r held) (sym (rows_more M p w.written s));
        whole = ap (λ (n : ℕ). (w.written ++ (s ∷ [])) ++ take (room - (t.rows + 1)) (drop n G)) z ∙ append_assoc w.written (s ∷ []) (take (room - (t.rows + 1)) G)
            ∙ ap (λ (l : List Schedule). w.written ++ l) (sym (ap (take (room - t.rows)) (ap (λ (n : ℕ). drop n (filter (is_first M p) (s ∷ rest))) z ∙ filter_yes (is_first M p) s rest e) ∙ take_one (room - t.rows) (omega (arith, h))
            ∙ ap (λ (n : ℕ). s ∷ take n G) one_less))
            ∙ w.whole;
      }
        where
          G : List Schedule
          G = filter (is_first M p) rest

          one_less : room - t.rows - 1 ≡ room - (t.rows + 1)
          one_less = omega arith

          take_one : (n : ℕ) → 0 < n → take n (s ∷ G) ≡ s ∷ take (n - 1) G
          take_one zero l = absurd (omega arith)
          take_one (suc n) l = let i : suc n - 1 ≡ n = omega arith in ap (λ (j : ℕ). s ∷ take j G) (sym i)

          own : (y : Schedule) → (y ≡ s) ⊎ Memᴰ y [] → length (o y).memory ≡ 8
          own y (inl i) = ap (λ (z : Schedule). length (o z).memory) i ∙ ap (λ (z : Outcome). length z.memory) (sym is) ∙ eight
          own y (inr k) = absurd (Memᴰ.not-nil k)

          long : length (outcome_rows M p w.written) ≡ (t.rows - 0) * outcome_size M
          long =
              let c : length w.written ≡ t.rows - 0 = omega (arith, w.counted) in
              rows_length M p w.written w.eights ∙ ap (λ (n : ℕ). n * outcome_size M) c
