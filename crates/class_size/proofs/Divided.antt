-- The quotient that the code computes is the size of the class: the tests read off the `02` lines and the notes pick exactly the permitted
-- permutations, and those of them that leave the graph the same.
use Prim.Native.Nat.{ℕ, ◌*◌, ◌/◌, ◌<◌, ◌≤◌}
use native.Mathlib.Omega.{arith}
use native.Mathlib.Nat.{div-eq_of_eq-mul_left}
use native.Mathlib.Decide.{dec_lt}
use mathlib.Core.Path.{◌≡◌, refl, sym, ap, ap₂, subst, ◌∙◌}
use mathlib.Core.Logic.{◌⊎◌, inl, inr, ⊎_elim}
use mathlib.Core.Bool.{Bool, true, false, not, ◌&&◌, ◌||◌, true≢false}
use mathlib.Core.List.{List, [], ◌∷◌, reverse, reverse-reverse, Memᴰ}
use lib.Dec.{eqb}
use lib.ListN.{length, get_or}
use borrow.Author.Tests.{eqb-true, eq-eqb, not-true}
use Rattle.spec_file.specs.Program.{Program}
use Rattle.spec_file.specs.WellFormed.{WellFormed, Group}
use Rattle.spec_file.proofs.Everywhere.{everywhere_at}
use Rattle.spec_file.proofs.DigitValues.{both}
use Rattle.spec_file.proofs.Tests.{either, equal_tests}
use Rattle.spec_schedules.specs.Lists.{range, filter}
use Rattle.spec_schedules.specs.Order.{Schedule}
use Rattle.spec_schedules.specs.System.{Allowed}
use Rattle.spec_schedules.specs.Permutations.{permutations, moved}
use Rattle.spec_schedules.proofs.Lists.{in_range_lem, of_range, any_yes, any_of, all_at, all_of, in_filter}
use Rattle.spec_schedules.proofs.Runs.{full_allowed}
use Rattle.spec_schedules.proofs.Group.{identity_member, identity_moved}
use Rattle.spec_model.specs.Exchange.{Together, Exchange, permits, permitted}
use Rattle.spec_model.specs.Model.{Full}
use Rattle.spec_model.specs.Laws.{Admitted}
use Rattle.spec_model.specs.ClassSize.{class_size, leaving}
use Rattle.spec_model.proofs.Permitted.{or_left, permitted_exchange}
use Rattle.spec_model.proofs.ClassSize.{class_times}
use Rattle.spec_sc.specs.State.{SC, start}
use Rattle.spec_sc.specs.Graph.{Graph, graph, end_of}
use Rattle.spec_sc.specs.Exchange.{Renames}
use Rattle.spec_sc.proofs.Rows.{row_at, order_at}
use Rattle.spec_sc.proofs.Regular.{regular_start, regular_run}
use Rattle.spec_sc.proofs.ProgramGraphs.{graph_rows}
use Rattle.spec_sc.proofs.Fixed.{Wrote, Sourced, Unmoved, fixed_unmoved, unmoved_fixed}
use Rattle.spec_sc.specs.Sequential.{sc}
use Rattle.spec_sc.specs.Renamed.{renames}
use Rattle.spec_sc.proofs.Laws.{sc_laws}
use Rattle.spec_sc.proofs.Renamed.{renames_true, true_renames}
use Rattle.spec_sc.specs.Same.{same_read}
use Rattle.spec_file.specs.Lists.{same_list}
use Rattle.spec_sc.proofs.Same.{both_and, same_read_is, same_read_lem}
use Rattle.spec_file.proofs.Lists.{same_list_is, same_list_lem}
use Rattle.spec_judge.proofs.Readable.{reverse_in}
use Rattle.graph_writer.specs.Notes.{Note}
use Rattle.graph_writer.specs.NoteText.{reads_in, writes_in}
use Rattle.graph_writer.proofs.NoteGraph.{write_stated, stated_write}
use Rattle.class_size.specs.Moves.{write_by, wrote_in, unmoved_in, may_go, goes_where, quotient}
use Rattle.spec_tso.specs.Graph as Stores
use Rattle.spec_tso.proofs.Seen as StoreRows
use Rattle.spec_tso.proofs.OwnSources.{full_sourced}
use Rattle.spec_tso.specs.TotalStoreOrder.{tso}
use Rattle.spec_tso.proofs.Laws.{tso_laws}
use Rattle.listing_model.specs.declared.memory.Model.{Model}
use Rattle.listing_model.specs.declared.memory.Model.TheVariants.{Sequential, TotalStoreOrder}
use Rattle.listing_model.specs.ModelOf.{model_of}
use Rattle.listing_replay.specs.Replays.{graph_in, NotesOf}
use Rattle.class_size.proofs.Goes.{filter_agree}

-- one test behind another
filter_twice : {A : Type 0} (f g : A → Bool) (l : List A) → filter (λ x. f x && g x) l ≡ filter g (filter f l)
unfolding filter
filter_twice f g [] = refl
filter_twice {A} f g (x ∷ l) = go (f x) (g x) refl refl (filter_twice f g l)
  where
    go : (a b : Bool) → f x ≡ a → g x ≡ b → filter (λ y. f y && g y) l ≡ filter g (filter f l) → filter (λ y. f y && g y) (x ∷ l) ≡ filter g (filter f (x ∷ l))
    go true true p q ih = rw (p, q, filter) (ap (λ (r : List A). x ∷ r) ih)
    go true false p q ih = rw (p, q, filter) ih
    go false b p q ih = rw (p, filter) ih

in_reverse : {A : Type 0} (l : List A) (x : A) → Memᴰ x l → Memᴰ x (reverse l)
in_reverse {A} l x m = reverse_in (reverse l) x (subst (Memᴰ x) (sym (reverse-reverse l)) m)

-- the identity leaves every graph
member_some : {A : Type 0} (l : List A) (x : A) → Memᴰ x l → 0 < length l
member_some [] x m = absurd (mathlib.Core.List.Memᴰ.not-nil m)
member_some (y ∷ l) x m = omega arith

pub some_leave : (groups : List (List ℕ)) (ns : List Note) → 0 < length (filter (goes_where (λ t u. may_go groups t u && unmoved_in ns t u)) permutations)
unfolding goes_where may_go unmoved_in
some_leave groups ns = member_some _ (range 0 6) (in_filter (goes_where (λ t u. may_go groups t u && unmoved_in ns t u)) permutations (range 0 6) identity_member
    (all_of (λ t. may_go groups t (moved (range 0 6) t) && unmoved_in ns t (moved (range 0 6) t)) (range 0 6) (λ t m. stays t)))
  where
    stays : (t : ℕ) → (may_go groups t (moved (range 0 6) t) && unmoved_in ns t (moved (range 0 6) t)) ≡ true
    stays t =
        let e = identity_moved t in
        both_and (or_left (eqb (moved (range 0 6) t) t) _ (eq-eqb (moved (range 0 6) t) t e)) (or_left (eqb t (moved (range 0 6) t)) _ (eq-eqb t (moved (range 0 6) t) (sym e)))

-- a test that does not hold
fails_to : (b : Bool) → (b ≡ true → ⊥) → b ≡ false
fails_to true h = absurd (h refl)
fails_to false h = refl

-- a graph of a program, and notes that state its reads and its writes
module _ (p : Program) (w : WellFormed p) (g : Graph) (ns : List Note) (note-writes : (l : ℕ) → writes_in l ns ≡ reverse (get_or g.writes l []))
    (note_reads : (t : ℕ) → reads_in t ns ≡ reverse (get_or g.reads t [])) (graph-sourced : Sourced g) (rows : length g.reads ≡ length p.threads) where
  wrote_graph : (t : ℕ) → wrote_in ns t ≡ true → Wrote g t
  unfolding wrote_in
  wrote_graph t e =
      let r = any_yes (write_by t) ns e in
      let n = r.0 in
      let k = both (eqb n.thread t) n.wrote r.2 in
      let m = write_stated ns n r.1 k.1 in (
        n.location,
        n.number,
        subst (λ (u : ℕ). Memᴰ (u, n.number) (get_or g.writes n.location [])) (eqb-true n.thread t k.0)
            (reverse_in (get_or g.writes n.location []) (n.thread, n.number) (subst (Memᴰ (n.thread, n.number)) (note-writes n.location) m)),
      )

  graph_wrote : (t : ℕ) → Wrote g t → wrote_in ns t ≡ true
  unfolding wrote_in
  graph_wrote t k =
      let m : Memᴰ (t, k.1) (writes_in k.0 ns) = subst (Memᴰ (t, k.1)) (sym (note-writes k.0)) (in_reverse (get_or g.writes k.0 []) (t, k.1) k.2) in
      let r = stated_write k.0 ns (t, k.1) m in
      any_of (write_by t) ns r.0 r.1 (both_and (eq-eqb r.0.thread t r.2) r.3)

  unmoved_graph : (t u : ℕ) → unmoved_in ns t u ≡ true → Unmoved g t u
  unfolding unmoved_in
  unmoved_graph t u e = go (either (eqb t u) _ e)
    where
      go : (eqb t u ≡ true) ⊎ ((not (wrote_in ns t) && (not (wrote_in ns u) && same_list same_read (reads_in t ns) (reads_in u ns))) ≡ true) → Unmoved g t u
      go (inl i) = inl (sym (eqb-true t u i))
      go (inr i) =
          let a = both (not (wrote_in ns t)) _ i in
          let b = both (not (wrote_in ns u)) _ a.1 in
          let q = same_list_is same_read same_read_is (reads_in t ns) (reads_in u ns) b.1 in
          inr (
            (λ k. true≢false (sym (graph_wrote t k) ∙ not-true (wrote_in ns t) a.0)),
            (λ k. true≢false (sym (graph_wrote u k) ∙ not-true (wrote_in ns u) b.0)),
            sym (reverse-reverse (get_or g.reads u [])) ∙ ap reverse (sym (note_reads u) ∙ sym q ∙ note_reads t) ∙ reverse-reverse (get_or g.reads t []),
          )

  graph_unmoved : (t u : ℕ) → Unmoved g t u → unmoved_in ns t u ≡ true
  unfolding unmoved_in
  graph_unmoved t u (inl e) = rw (eq-eqb t u (sym e))
  graph_unmoved t u (inr k) =
      let a = fails_to (wrote_in ns t) (λ e. k.0 (wrote_graph t e)) in
      let b = fails_to (wrote_in ns u) (λ e. k.1 (wrote_graph u e)) in
      let q : reads_in t ns ≡ reads_in u ns = note_reads t ∙ ap reverse (sym k.2) ∙ sym (note_reads u) in
      let r : same_list same_read (reads_in t ns) (reads_in u ns) ≡ true = ap (same_list same_read (reads_in t ns)) (sym q) ∙ same_list_lem same_read same_read_lem (reads_in t ns) in
      go (eqb t u) a b r
    where
      go : (x : Bool) → wrote_in ns t ≡ false → wrote_in ns u ≡ false → same_list same_read (reads_in t ns) (reads_in u ns) ≡ true →
          (x || (not (wrote_in ns t) && (not (wrote_in ns u) && same_list same_read (reads_in t ns) (reads_in u ns)))) ≡ true
      go true a b r = refl
      go false a b r = rw (a, b, r)

  -- ---- permutations
  permitted_is : filter (goes_where (may_go p.groups)) permutations ≡ permitted p
  unfolding goes_where may_go permitted permits
  permitted_is = refl

  abbrev Both : ℕ → ℕ → Bool
  Both t u = may_go p.groups t u && unmoved_in ns t u

  abbrev Leaves : List ℕ → Bool
  Leaves π = renames (moved π) g g

  -- a thread that does not exist stays
  missing_stays : (π : List ℕ) → Exchange p (moved π) → (t : ℕ) → length p.threads ≤ t → moved π t ≡ t
  missing_stays π x t h = ⊎_elim (λ (e : moved π t ≡ t). e)
      (λ (k : Together p t (moved π t)). absurd (let g = everywhere_at (Group p) k.1 w.groups in omega (arith, h, everywhere_at (λ u. u < length p.threads) k.2 g.exist))) (x.1 t)

  leaves_is : (π : List ℕ) → Memᴰ π permutations → goes_where Both π ≡ (permits p.groups π && Leaves π)
  unfolding goes_where permits may_go permitted
  leaves_is π m = equal_tests (goes_where Both π) (permits p.groups π && Leaves π) to from
    where
      exchange : permits p.groups π ≡ true → Exchange p (moved π)
      exchange e = permitted_exchange p π (in_filter (permits p.groups) permutations π m e)

      to : goes_where Both π ≡ true → (permits p.groups π && Leaves π) ≡ true
      to e =
          let at : (t : ℕ) → t < 6 → (may_go p.groups t (moved π t) ≡ true) × (unmoved_in ns t (moved π t) ≡ true) = λ t h. both (may_go p.groups t (moved π t)) _ (all_at (λ t. Both t (moved π t)) (range 0 6) t e (in_range_lem 0 6 t (omega arith) h)) in
          let a : permits p.groups π ≡ true = all_of (λ t. may_go p.groups t (moved π t)) (range 0 6) (λ t k. (at t (of_range 0 6 t k).1).0) in
          let x = exchange a in
          both_and a (true_renames (moved π) g g (unmoved_fixed (moved π) x.0 g graph-sourced (λ t h. unmoved_graph t (moved π t) (at t h).1)))

      from : (permits p.groups π && Leaves π) ≡ true → goes_where Both π ≡ true
      from e =
          let k = both (permits p.groups π) _ e in
          let x = exchange k.0 in
          let r = renames_true (moved π) g g k.1 in
          all_of (λ t. Both t (moved π t)) (range 0 6) (λ t i. both_and (all_at (λ t. may_go p.groups t (moved π t)) (range 0 6) t k.0 i) (graph_unmoved t (moved π t) (stays x r t (dec_lt t (length p.threads)))))
        where
          stays : Exchange p (moved π) → Renames (moved π) g g → (t : ℕ) → Dec (t < length p.threads) → Unmoved g t (moved π t)
          stays x r t (yes h) = fixed_unmoved (moved π) x.0 g graph-sourced r t (omega (arith, h, rows))
          stays x r t (no h) = inl (missing_stays π x t (omega (arith, h)))

  -- the permitted permutations that leave the graph the same
  pub leaving_graph : filter (goes_where Both) permutations ≡ filter (λ π. renames (moved π) g g) (permitted p)
  unfolding permitted
  leaving_graph = filter_agree (goes_where Both) (λ π. permits p.groups π && Leaves π) permutations leaves_is ∙ filter_twice (permits p.groups) Leaves permutations

  -- THE QUOTIENT, of any class whose size times those that leave the graph is the permitted ones
  pub divided_graph : (size : ℕ) → size * length (filter (λ π. renames (moved π) g g) (permitted p)) ≡ length (permitted p) → quotient p.groups ns ≡ size
  unfolding quotient
  divided_graph size e =
      let some : 0 < length (filter (λ π. renames (moved π) g g) (permitted p)) = subst (λ (l : List (List ℕ)). 0 < length l) leaving_graph (some_leave p.groups ns) in
      ap₂ (λ (a b : List (List ℕ)). length a / length b) permitted_is leaving_graph
      ∙ div-eq_of_eq-mul_left some (sym e)

-- ---- in each memory model
-- under sequential consistency each read's source is initial or a write
sequences_sourced : (p : Program) → WellFormed p → (s : Schedule) → Allowed SC (start p) s → Sourced (graph p s)
sequences_sourced p w s a t r m =
    let k = (regular_run s (start p) (regular_start p w) a).sourced t r (subst (Memᴰ r) (row_at (end_of p s) t) m) in
    ⊎_elim (λ i. inl i) (λ j. inr (j.0, subst (Memᴰ r.1) (sym (order_at (end_of p s) j.0)) j.1)) k

-- THE SIZE OF A CLASS IS THE QUOTIENT
pub divided_size : (m : Model) (p : Program) → Admitted (model_of m) p → (s : Schedule) → Full (model_of m) p s → (ns : List Note) → NotesOf (graph_in m p s) ns →
    quotient p.groups ns ≡ class_size (model_of m) p s
unfolding leaving
divided_size Sequential p a s f ns h =
    divided_graph p a.0 (graph p s) ns h.writes h.reads (sequences_sourced p a.0 s (full_allowed SC (start p) s f).0) (graph_rows p s) (class_size sc p s)
    (class_times sc sc_laws p a s f)
divided_size TotalStoreOrder p a s f ns h =
    divided_graph p a.0 (Stores.graph p s) ns h.writes h.reads (full_sourced p a.0 s f) (StoreRows.graph_rows p s) (class_size tso p s) (class_times tso tso_laws p a s f)
