-- Why one action must stay before another: the four clauses of `dependent`, the last two by their cases, read both ways.
use mathlib.Core.Path.{◌≡◌, refl, sym, ap, subst, ◌∙◌}
use mathlib.Core.Logic.{◌≢◌, ◌⊎◌, inl, inr, ⊎_elim}
use mathlib.Core.Bool.{Bool, true, false, true≢false, not, ◌&&◌, ◌||◌}
use mathlib.Core.List.{Memᴰ}
use borrow.Author.Tests.{eq-eqb, ne_eqb, eqb-true, eqb-false, not-true}
use lib.Dec.{eqb}
use Rattle.spec_file.proofs.DigitValues.{both}
use Rattle.spec_file.proofs.Tests.{either}
use Rattle.spec_schedules.specs.Lists.{any}
use Rattle.spec_schedules.proofs.Lists.{any_of, any_yes}
use Rattle.spec_model.proofs.Permitted.{or_left, or_right}
use Rattle.spec_sc.specs.State.{Event, initial_write}
use Rattle.spec_sc.specs.Same.{same_event}
use Rattle.spec_sc.proofs.Same.{both_and, same_event_is, is_same_event}
use Rattle.spec_tso.specs.Actions.{Action, makes, empties, puts_first, reads_first, dependent}

pub data Because (e d : Action) : Type 0 where
  -- (a) e made the store that d moves
  made : e.moves ≡ false → d.moves ≡ true → e.event ≡ d.event → Because e d
  -- (b) e moved a store of the thread whose locked access d is
  emptied : e.moves ≡ true → d.locks ≡ true → e.event.0 ≡ d.event.0 → Because e d
  -- (c) both put at one location; e put where d read a write that is not its own thread's
  both_put : e.location ≡ d.location → e.puts ≡ true → d.puts ≡ true → Because e d
  read_behind : e.location ≡ d.location → e.puts ≡ true → d.reads ≡ true → d.source.0 ≢ d.event.0 → Because e d
  -- (d) e read, where d puts, the initial write; or a write that is in memory by then
  initial_first : e.location ≡ d.location → e.reads ≡ true → d.puts ≡ true → e.source ≡ initial_write → Because e d
  source_first : e.location ≡ d.location → e.reads ≡ true → d.puts ≡ true → Memᴰ e.source d.before → Because e d

module _ (e d : Action) where
  -- what d does that e's put must stay before, and which of e's reads d's put must stay behind
  abbrev meets : Bool
  meets = d.puts || (d.reads && not (eqb d.source.0 d.event.0))

  abbrev in_memory : Bool
  in_memory = same_event e.source initial_write || any (same_event e.source) d.before

  put_first : e.location ≡ d.location → e.puts ≡ true → meets ≡ true → dependent e d ≡ true
  unfolding dependent puts_first
  put_first l p q = or_right (makes e d || empties e d) _ (or_left (puts_first e d) _ (both_and (eq-eqb e.location d.location l) (both_and p q)))

  read_first : e.location ≡ d.location → e.reads ≡ true → d.puts ≡ true → in_memory ≡ true → dependent e d ≡ true
  unfolding dependent reads_first
  read_first l p q r = or_right (makes e d || empties e d) _ (or_right (puts_first e d) _ (both_and (eq-eqb e.location d.location l) (both_and p (both_and q r))))

  -- each reason is one
  because_depends : Because e d → dependent e d ≡ true
  unfolding dependent makes empties
  because_depends (made p q r) = or_left (makes e d || empties e d) _ (or_left (makes e d) _ (both_and (ap not p) (both_and q (is_same_event e.event d.event r))))
  because_depends (emptied p q r) = or_left (makes e d || empties e d) _ (or_right (makes e d) _ (both_and p (both_and q (eq-eqb e.event.0 d.event.0 r))))
  because_depends (both_put l p q) = put_first l p (or_left d.puts _ q)
  because_depends (read_behind l p q r) = put_first l p (or_right d.puts _ (both_and q (ap not (ne_eqb d.source.0 d.event.0 r))))
  because_depends (initial_first l p q r) = read_first l p q (or_left (same_event e.source initial_write) _ (is_same_event e.source initial_write r))
  because_depends (source_first l p q m) = read_first l p q (or_right (same_event e.source initial_write) _
      (any_of (same_event e.source) d.before e.source m (is_same_event e.source e.source refl)))

  -- there is no reason where the second does not depend on the first
  pub no_reason : dependent e d ≡ false → Because e d → ⊥
  no_reason f b = true≢false (sym (because_depends b) ∙ f)

  -- where the second depends on the first there is a reason
  from_makes : makes e d ≡ true → Because e d
  unfolding makes
  from_makes q =
      let r = both (not e.moves) _ q in
      let s = both d.moves _ r.1 in
      made (not-true e.moves r.0) s.0 (same_event_is e.event d.event s.1)

  from_empties : empties e d ≡ true → Because e d
  unfolding empties
  from_empties q =
      let r = both e.moves _ q in
      let s = both d.locks _ r.1 in
      emptied r.0 s.0 (eqb-true e.event.0 d.event.0 s.1)

  from_puts : puts_first e d ≡ true → Because e d
  unfolding puts_first
  from_puts q = go (either d.puts _ s.1)
    where
      r : (eqb e.location d.location ≡ true) × ((e.puts && meets) ≡ true)
      r = both (eqb e.location d.location) (e.puts && meets) q

      s : (e.puts ≡ true) × (meets ≡ true)
      s = both e.puts meets r.1

      l : e.location ≡ d.location
      l = eqb-true e.location d.location r.0

      go : (d.puts ≡ true) ⊎ ((d.reads && not (eqb d.source.0 d.event.0)) ≡ true) → Because e d
      go (inl p) = both_put l s.0 p
      go (inr p) =
          let k = both d.reads _ p in
          read_behind l s.0 k.0 (eqb-false d.source.0 d.event.0 (not-true (eqb d.source.0 d.event.0) k.1))

  from_reads : reads_first e d ≡ true → Because e d
  unfolding reads_first
  from_reads q = go (either (same_event e.source initial_write) _ p.1)
    where
      r : (eqb e.location d.location ≡ true) × ((e.reads && (d.puts && in_memory)) ≡ true)
      r = both (eqb e.location d.location) (e.reads && (d.puts && in_memory)) q

      s : (e.reads ≡ true) × ((d.puts && in_memory) ≡ true)
      s = both e.reads (d.puts && in_memory) r.1

      p : (d.puts ≡ true) × (in_memory ≡ true)
      p = both d.puts in_memory s.1

      l : e.location ≡ d.location
      l = eqb-true e.location d.location r.0

      go : (same_event e.source initial_write ≡ true) ⊎ (any (same_event e.source) d.before ≡ true) → Because e d
      go (inl i) = initial_first l s.0 p.0 (same_event_is e.source initial_write i)
      go (inr i) =
          let m = any_yes (same_event e.source) d.before i in
          source_first l s.0 p.0 (subst (λ (x : Event). Memᴰ x d.before) (sym (same_event_is e.source m.0 m.2)) m.1)

  pub because : dependent e d ≡ true → Because e d
  unfolding dependent
  because q = go (either (makes e d || empties e d) _ q)
    where
      go : ((makes e d || empties e d) ≡ true) ⊎ ((puts_first e d || reads_first e d) ≡ true) → Because e d
      go (inl p) = ⊎_elim from_makes from_empties (either (makes e d) _ p)
      go (inr p) = ⊎_elim from_puts from_reads (either (puts_first e d) _ p)

  -- where nothing can make them dependent they are not
  pub not_dependent : (Because e d → ⊥) → dependent e d ≡ false
  not_dependent never = go (dependent e d) refl
    where
      go : (b : Bool) → dependent e d ≡ b → dependent e d ≡ false
      go true q = absurd (never (because q))
      go false q = q
