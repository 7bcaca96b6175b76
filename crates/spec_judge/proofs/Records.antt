-- What a run has noted so far is what the events done so far read and write on the values given, as long as its reads find these values.
use Prim.Native.Nat.{ℕ}
use mathlib.Core.Path.{◌≡◌, refl, sym, subst, ◌∙◌}
use mathlib.Core.Logic.{◌⊎◌, inl, inr, ⊎_elim}
use mathlib.Core.Bool.{Bool, true, false}
use mathlib.Core.Option.{Option, none, some}
use mathlib.Core.List.Memᴰ
use mathlib.Core.List.{Memᴰ}
use native.Mathlib.Omega.{arith}
use Rattle.spec_file.specs.Program.{Program}
use Rattle.spec_file.specs.WellFormed.{WellFormed}
use Rattle.spec_sc.specs.Local.{takes}
use Rattle.spec_sc.specs.State.{Event, Cell, State, thread_of, cell_of, place, latest, noted, advanced, step, enabled, start}
use Rattle.spec_sc.proofs.Steps.{enabled_range, thread_own}
use Rattle.spec_sc.proofs.Change.{thread_cases, Change, kept, wrote, wrote_own, writes_stay}
use Rattle.spec_sc.proofs.Start.{start_writes, start_history}
use Rattle.spec_sc.proofs.Regular.{changes, place_in}
use Rattle.spec_sc.proofs.Histories.{upcoming, Done, done_cases, step_row}
use Rattle.spec_judge.specs.Consistent.{Values, Reads, location_of, out_of, WritesAt, Leaves}
use Rattle.spec_judge.proofs.Alone.{some_writes}
use Rattle.spec_judge.proofs.Agreement.{Agrees, agrees_start, agrees_step, location, reads_as, writes_as}

-- a step that reads notes the last write of its location
pub read_noted : (σ : State) (t : ℕ) → enabled σ t ≡ true → takes (thread_of σ t).local ≡ true →
    Memᴰ ((thread_of σ t).history.done, latest (cell_of σ (place σ t)).writes) (thread_of (step σ t) t).history.reads
unfolding advanced noted
read_noted σ t m e = rw (thread_own σ t (enabled_range σ t m), e) (Memᴰ.head refl)

module _ (p : Program) (v : Values) where
  pub record Records (σ : State) : Type 0 where
    pub agrees : Agrees p v σ
    pub noted_read : (t : ℕ) (r : ℕ × Event) → Memᴰ r (thread_of σ t).history.reads → Reads p v (t, r.0) × Leaves p v r.1 (location_of p v (t, r.0)) (v (t, r.0))
    pub every_read : (e : Event) → Done σ e → Reads p v e → (s : Event) × Memᴰ (e.1, s) (thread_of σ e.0).history.reads
    pub noted_write : (l : ℕ) (e : Event) → Memᴰ e (cell_of σ l).writes → WritesAt p v e l
    pub every_write : (l : ℕ) (e : Event) → Done σ e → WritesAt p v e l → Memᴰ e (cell_of σ l).writes

  pub records_start : WellFormed p → Records (start p)
  records_start wf = record {
    agrees = agrees_start p v wf;
    noted_read = λ t r k. absurd (Memᴰ.not-nil (subst (Memᴰ r) (start_history p t).1 k));
    every_read = λ e d. absurd (omega (arith, (start_history p e.0).0));
    noted_write = λ l e k. absurd (Memᴰ.not-nil (subst (Memᴰ e) (start_writes p l) k));
    every_write = λ l e d. absurd (omega (arith, (start_history p e.0).0));
  }

  module _ (σ : State) (R : Records σ) (t : ℕ) (m : enabled σ t ≡ true) (finds : Reads p v (upcoming σ t) → v (upcoming σ t) ≡ (cell_of σ (place σ t)).value) where
    abbrev e : Event
    e = upcoming σ t

    abbrev here : Cell
    here = cell_of σ (place σ t)

    abbrev A : Agrees p v σ
    A = R.agrees

    abbrev Says : ℕ → ℕ × Event → Type 0
    Says u r = Reads p v (u, r.0) × Leaves p v r.1 (location_of p v (u, r.0)) (v (u, r.0))

    says_new : takes (thread_of σ t).local ≡ true → Says t ((thread_of σ t).history.done, latest here.writes)
    says_new k =
        let r = sym (reads_as p v σ A t) ∙ k in (
          r,
          subst (λ (x : ℕ). Leaves p v (latest here.writes) (location_of p v e) x) (sym (finds r))
              (subst (λ (l : ℕ). Leaves p v (latest here.writes) l here.value) (sym (location p v σ A t)) (A.values (place σ t))),
        )

    own_read : (b : Bool) → takes (thread_of σ t).local ≡ b → (r : ℕ × Event) → Memᴰ r (noted b (latest here.writes) (thread_of σ t).history).reads → Says t r
    unfolding noted
    own_read false k r j = R.noted_read t r j
    own_read true k r j = ⊎_elim (λ (q : r ≡ ((thread_of σ t).history.done, latest here.writes)). subst (Says t) (sym q) (says_new k))
        (λ (i : Memᴰ r (thread_of σ t).history.reads). R.noted_read t r i) (Memᴰ.cases_cons j)

    abbrev Sourced : Event → Type 0
    Sourced x = (s : Event) × Memᴰ (x.1, s) (thread_of (step σ t) x.0).history.reads

    sourced : (x : Event) → Reads p v x → Done σ x ⊎ (x ≡ e) → Sourced x
    sourced x k (inl d) =
        let s = R.every_read x d k in
        let q = step_row σ t m x.0 in
        (s.0, subst (Memᴰ (x.1, s.0)) (sym q.1) (Memᴰ.append_right q.0 s.1))
    sourced x k (inr q) = subst Sourced (sym q) (latest here.writes, read_noted σ t m (reads_as p v σ A t ∙ subst (Reads p v) q k))

    writes_at : (l x : ℕ) → l ≡ place σ t → out_of p v e ≡ some x → WritesAt p v e l
    writes_at l x q o = (location p v σ A t ∙ sym q, some_writes p v e x o)

    is_write : (l : ℕ) (x : Event) → Memᴰ x (cell_of (step σ t) l).writes → Change σ t l → WritesAt p v x l
    is_write l x k (kept q) = R.noted_write l x (subst (λ (c : Cell). Memᴰ x c.writes) q k)
    is_write l x k (wrote q n i w y) = ⊎_elim (λ (j : x ≡ e). subst (λ (z : Event). WritesAt p v z l) (sym j) (writes_at l n q (sym (writes_as p v σ A t m finds) ∙ i)))
        (λ (j : Memᴰ x (cell_of σ l).writes). R.noted_write l x j) (Memᴰ.cases_cons (subst (Memᴰ x) w k))

    has_write : (l : ℕ) (x : Event) → WritesAt p v x l → Done σ x ⊎ (x ≡ e) → Memᴰ x (cell_of (step σ t) l).writes
    has_write l x k (inl d) = writes_stay σ t l x (place_in σ A.regular t) (R.every_write l x d k)
    has_write l x k (inr q) = go (out_of p v e) refl
      where
        W : WritesAt p v e l
        W = subst (λ (z : Event). WritesAt p v z l) q k

        go : (o : Option ℕ) → out_of p v e ≡ o → Memᴰ x (cell_of (step σ t) l).writes
        go none i = absurd (W.1 i)
        go (some n) i = rw (wrote_own σ t l n (place_in σ A.regular t) (sym W.0 ∙ location p v σ A t) (writes_as p v σ A t m finds ∙ i)).0 (Memᴰ.head q)

    pub records_step : Records (step σ t)
    unfolding advanced
    records_step = record {
      agrees = agrees_step p v σ A t m finds;
      noted_read = λ u. thread_cases (λ k h. (r : ℕ × Event) → Memᴰ r h.history.reads → Says k r) σ t (enabled_range σ t m)
          (own_read (takes (thread_of σ t).local) refl) u (λ ne. R.noted_read u);
      every_read = λ x d k. sourced x k (done_cases σ t m x d);
      noted_write = λ l x k. is_write l x k (changes σ A.regular t l);
      every_write = λ l x d k. has_write l x k (done_cases σ t m x d);
    }
