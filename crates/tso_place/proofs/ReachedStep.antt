-- A prefix as the search holds it: how it starts, and how a step leads on.
use Prim.Native.Nat.{ℕ, zero, suc, ◌+◌, ◌<◌, ◌≤◌}
use mathlib.Core.Path.{◌≡◌, refl, sym, ap, ap₂, subst, ◌∙◌}
use mathlib.Core.Bool.{Bool, true, false, cond, not, ◌&&◌, ◌||◌}
use mathlib.Core.Option.{Option, none, some}
use mathlib.Core.List.Memᴰ
use mathlib.Core.List.{List, [], ◌∷◌, ◌++◌, Memᴰ}
use native.Mathlib.Omega.{arith}
use native.Mathlib.Decide.{ℕ_discrete}
use native.Mathlib.Numerals.{add-one}
use lib.Dec.{eqb, ltb, leb}
use lib.ListN.{length, get_or, set, take, length-append}
use lib.Seq.{take-suc-set, get_or-set_same, get_or-set_other}
use borrow.Author.Tests.{lt-ltb, lt-leb, le-leb}
use Rattle.spec_file.specs.Program.{Program}
use Rattle.spec_file.specs.WellFormed.{WellFormed, all_accesses}
use Rattle.spec_schedules.specs.Lists.{range, any}
use Rattle.spec_schedules.specs.Order.{Schedule}
use Rattle.spec_schedules.specs.System.{Allowed}
use Rattle.spec_schedules.proofs.Lists.{of_range}
use Rattle.spec_schedules.proofs.Runs.{run_nil, run_snoc, allowed_join, allowed_length}
use Rattle.spec_model.specs.Exchange.{together}
use Rattle.theory_search.specs.LateSet.{goes_on}
use Rattle.spec_sc.specs.State as SC
use Rattle.spec_sc.specs.State.{Event}
use Rattle.spec_sc.specs.Local.{place_of, takes}
use Rattle.theory_search.specs.Standing.{silent}
use Rattle.machine_access.specs.declared.thread.ThreadState.{ThreadState}
use Rattle.machine.specs.Held as Core
use Rattle.machine.specs.Held.{event_of, thread_at, Loaded}
use Rattle.search_place.specs.ClassGroups.{Lined}
use Rattle.spec_schedules.specs.Sets.{has}
use Rattle.theory_sc.specs.Sets.{set_of}
use Rattle.theory_sc.specs.ThreadWords as ThreadWords
use Rattle.theory_sc.specs.ThreadWords.{twin_by_word}
use Rattle.theory_sc.proofs.Sets.{set_none, set_same}
use Rattle.theory_sc.proofs.TwinWords.{any_same}
use Rattle.spec_tso.specs.Queue.{Entry, newest, movable}
use Rattle.spec_tso.specs.State.{Thread, State, Kind, access, move, idle, without_queues, thread_of, cell_of, finds, place, able, kind_of, owner, byte_for, step, enabled, start, TSO}
use Rattle.spec_tso.specs.Graph.{end_of}
use Rattle.spec_tso.specs.Actions.{action, action_of, moving, reading}
use Rattle.spec_tso.proofs.Bytes.{ByteCase, of_access, of_move, byte_case, kind_for, owner_for}
use Rattle.spec_tso.proofs.Steps.{enabled_small, enabled_able, enabled_for}
use Rattle.spec_tso.proofs.Lawful.{lawful, start_32}
use Rattle.spec_tso.proofs.Seen.{drained_thread, drained_cell}
use Rattle.spec_sc.proofs.Start.{start_writes}
use Rattle.spec_tso.proofs.Regular.{place_in, regular_run, regular_start}
use Rattle.theory_tso.specs.Rules.{twin}
use Rattle.theory_tso.specs.Far.{twin_moves, starts_by, starts}
use Rattle.tso_machine.proofs.HeldMay.{move_held}
use Rattle.tso_machine.specs.Held.{core_of, head_at, tail_at, Holds, MayStep}
use Rattle.tso_machine.specs.Steps.{source_of, own_of, HoldsStep, behind}
use Rattle.tso_machine.specs.Looked.{is_there}
use Rattle.tso_machine.specs.declared.state.QueuedMachine.{QueuedMachine}
use Rattle.tso_machine.specs.declared.stepping.Change.{Change}
use Rattle.tso_machine.specs.declared.stepping.Stepped.{Stepped}
use Rattle.theory_tso.specs.Deeds.{is_none, looking, deed_of, deed, waits}
use Rattle.theory_tso.specs.LateBytes.{bytes_of, late_at, far_at}
use Rattle.theory_tso.specs.ReadWords.{source_digit, digits, sources_of, word_of, word_behind}
use Rattle.theory_tso.specs.declared.deed.Deed.{Deed}
use Rattle.theory_tso.proofs.Kept.{start_done}
use Rattle.theory_tso.proofs.LateBytes.{late_more, far_more, late_start, far_start}
use Rattle.theory_tso.proofs.Words.{quiet_silent, word_own, word_other}
use Rattle.theory_tso.proofs.TwinWords.{twin_by_word_lem}
use Rattle.tso_order.specs.Freed.{HoldsSets}
use Rattle.tso_order.specs.declared.sets.Sets.{Sets}
use Rattle.tso_place.specs.Reached.{machine_of, Reached}
use Rattle.tso_place.specs.declared.place.Place.{Place}
use Rattle.tso_order.proofs.Choices.{bytes_has, chosen_free, chosen_may}

-- ---- bytes
access_byte : (u : ℕ) → u + 0 ≡ byte_for access u
unfolding byte_for
access_byte u = omega arith

move_byte : (u : ℕ) → u + 16 ≡ byte_for move u
unfolding byte_for
move_byte u = refl

none_of : (f : ℕ → Bool) (k : Kind) → ((u : ℕ) → u < 6 → f (byte_for k u) ≡ false) → bytes_of f k ≡ 0
unfolding bytes_of
none_of f k e = set_none (λ t. f (byte_for k t)) 6 e

start_empty : (p : Program) (l : ℕ) → (cell_of (start p) l).writes ≡ []
unfolding start
start_empty p l = ap (λ (c : SC.Cell). c.writes) (drained_cell (SC.start p) l) ∙ start_writes p l

-- ---- what the step did
-- the deed of a step, as the machine gives it back
looks_own : (k : Kind) (h : Thread) → (reading k h && not (own_of k h)) ≡ looking k h
unfolding looking own_of is_there is_none reading
looks_own access h = ap (λ (b : Bool). takes h.local && b) (go (newest h.queue (place_of h.local)))
  where
    go : (o : Option Entry) → not (is_there o) ≡ is_none o
    go none = refl
    go (some e) = refl
looks_own move h = refl

same_deed : (d e : Deed) → d.thread ≡ e.thread → d.number ≡ e.number → d.location ≡ e.location → d.moves ≡ e.moves → d.locks ≡ e.locks → d.looks ≡ e.looks → d.puts ≡ e.puts → d ≡ e
same_deed d e a b c f g h j = λ i. record { thread = a i; number = b i; location = c i; moves = f i; locks = g i; looks = h i; puts = j i }

pub did : (code lengths : List ℕ) (σ : State) (b : ℕ) (r : Stepped) → HoldsStep code lengths σ b r → (t : ℕ) (mv lk : Bool) → t ≡ owner b → mv ≡ moving (kind_of b) → lk ≡ (r.act.reads && not r.act.own) →
    record { thread = t; number = r.act.number; location = r.act.location; moves = mv; locks = r.act.locks; looks = lk; puts = r.act.puts } ≡ deed σ b
unfolding deed deed_of action action_of
did code lengths σ b r H t mv lk et em el =
    same_deed (record { thread = t; number = r.act.number; location = r.act.location; moves = mv; locks = r.act.locks; looks = lk; puts = r.act.puts }) (deed σ b) et H.number H.location em H.locks
    (el ∙ ap₂ (λ (x y : Bool). x && not y) H.reads H.own ∙ looks_own (kind_of b) (thread_of σ (owner b))) H.puts

-- a move's byte is at least 16
pub moves_is : (b : ℕ) → leb 16 b ≡ moving (kind_of b)
unfolding moving
moves_is b = go (byte_case b)
  where
    go : ByteCase b → leb 16 b ≡ moving (kind_of b)
    go (of_access h k o) = lt-leb 16 b h ∙ sym (ap moving k)
    go (of_move h k o) = le-leb 16 b h ∙ sym (ap moving k)

-- ---- before the first step
no_move : (p : Program) (t : ℕ) → t < 6 → enabled (start p) (byte_for move t) ≡ false
unfolding start able movable idle
no_move p t h = enabled_for (start p) move t h ∙ ap (λ (k : Thread). able move k (length (start p).cells)) (drained_thread (SC.start p) t)

word_start : (p : Program) (t : ℕ) → word_of (start p) t ≡ 0
unfolding word_of sources_of ThreadWords.digits
word_start p t =
    let s : silent (without_queues (start p)) t ≡ true = quiet_silent (start p) t (λ l e m. absurd (Memᴰ.not-nil (subst (Memᴰ e) (start_empty p l) m))) in
    let d = start_done p t in
    let f = lt-ltb (thread_of (start p) t).history.done 9 (omega (arith, d.0)) in
    rw (s, f) (ap₂ (λ (n : ℕ) (rs : List (ℕ × Event)). digits t (sources_of n rs)) d.0 d.1)

-- a machine made anew of its arrays
abbrev rebuilt : QueuedMachine → QueuedMachine
rebuilt m = record { threads = m.threads; memory = m.memory; last = m.last; heads = m.heads; tails = m.tails; slots = m.slots }

held_rebuilt : (code lengths : List ℕ) (m : QueuedMachine) (σ : State) → Holds code lengths m σ → Holds code lengths (rebuilt m) σ
held_rebuilt code lengths m σ h = record { core = h.core; sizes = h.sizes; short = h.short; queues = h.queues; ordered = h.ordered; room = h.room; places = h.places }

pub reached_start : (code lengths class : List ℕ) (threads groups : ℕ) (m : QueuedMachine) (schedule : List ℕ) (may : ℕ) (p : Program)
    → Loaded code lengths threads p → all_accesses p.threads ≤ 16 → Lined class groups p → Holds code lengths m (start p) → may ≡ bytes_of (enabled (start p)) access
    → Reached code lengths class threads groups
    (record { threads = m.threads; memory = m.memory; last = m.last; heads = m.heads; tails = m.tails; slots = m.slots; words = 0 ∷ 0 ∷ 0 ∷ 0 ∷ 0 ∷ 0 ∷ []; steps = 0; schedule = schedule; sets = record { live = may; moving = 0; late = 0; overdue = 0; far = 0 } }) p []
reached_start code lengths class threads groups m schedule may p loaded few lines held all =
    let nil = run_nil TSO (start p) in
    record {
      loaded = loaded;
      few = few;
      lines = lines;
      allowed = tt;
      holds = subst (Holds code lengths (rebuilt m)) (sym nil) (held_rebuilt code lengths m (start p) held);
      counted = refl;
      schedule = refl;
      sets = record {
        live = all ∙ ap (λ (σ : State). bytes_of (enabled σ) access) (sym nil);
        moving = sym (ap (λ (σ : State). bytes_of (enabled σ) move) nil ∙ none_of (enabled (start p)) move (no_move p));
        late = sym (none_of (late_at p []) access (λ u h. late_start p (byte_for access u)));
        overdue = sym (none_of (late_at p []) move (λ u h. late_start p (byte_for move u)));
        far = sym (none_of (far_at p []) move (λ u h. far_start p (byte_for move u)));
      };
      words = λ t h. zeros t ∙ sym (ap (λ (σ : State). word_of σ t) nil ∙ word_start p t);
    }
  where
    zeros : (t : ℕ) → ◌≡◌ {A = ℕ} (get_or (0 ∷ 0 ∷ 0 ∷ 0 ∷ 0 ∷ 0 ∷ []) t 0) 0
    zeros zero = refl
    zeros (suc zero) = refl
    zeros (suc (suc zero)) = refl
    zeros (suc (suc (suc zero))) = refl
    zeros (suc (suc (suc (suc zero)))) = refl
    zeros (suc (suc (suc (suc (suc zero))))) = refl
    zeros (suc (suc (suc (suc (suc (suc t)))))) = refl

-- what was stored is read back
stored_at : {A : Type 0} (xs : List A) (u t : ℕ) (v d : A) → u ≡ t → u < length xs → get_or (set xs u v) t d ≡ v
stored_at xs u t v d e h = ap (λ (j : ℕ). get_or (set xs u v) j d) (sym e) ∙ get_or-set_same xs u v d h

-- ---- a step more
module _ (code lengths class : List ℕ) (threads groups : ℕ) (x : Place) (p : Program) (v : Schedule) (at : Reached code lengths class threads groups x p v) (b : ℕ) (ok : enabled (end_of p v) b ≡ true) where
  abbrev σ : State
  σ = end_of p v

  abbrev τ : State
  τ = step (end_of p v) b

  abbrev w : WellFormed p
  w = at.loaded.well_formed

  pub step_may : MayStep code lengths (machine_of x) b
  step_may = record { state = σ; holds = at.holds; may = ok }

  more_allowed : Allowed TSO (start p) (v ++ (b ∷ []))
  more_allowed = allowed_join TSO (start p) v (b ∷ []) at.allowed (ok, tt)

  -- there is room for it
  pub step_room : x.steps < 32
  step_room = let n = allowed_length TSO lawful (start p) (v ++ (b ∷ [])) more_allowed in omega (arith, n, length-append v (b ∷ []), at.counted, start_32 p at.few)

  pub step_place : place (end_of p v) (kind_of b) (owner b) < 8
  step_place = let r = regular_run v (start p) (regular_start p at.loaded.well_formed) at.allowed in omega (arith, place_in σ r (kind_of b) (owner b) (enabled_able σ b ok), r.eight)

  snoc : end_of p (v ++ (b ∷ [])) ≡ step (end_of p v) b
  snoc = run_snoc TSO (start p) v b

  -- of the threads that the code asks those that are late
  late_chosen : (k : Kind) (first may old s : ℕ) → ((u : ℕ) → u + first ≡ byte_for k u) → may ≡ bytes_of (enabled (step (end_of p v) b)) k → old ≡ bytes_of (late_at p v) k →
      s ≡ set_of (λ u. has may u && (not (eqb b (u + first)) && (ltb (u + first) b || has old u))) 6 →
      s ≡ set_of (λ u. enabled (step (end_of p v) b) (byte_for k u) && (not (eqb b (byte_for k u)) && (ltb (byte_for k u) b || late_at p v (byte_for k u)))) 6
  late_chosen k first may old s ef em eo es = es ∙ set_same (λ u. has may u && (not (eqb b (u + first)) && (ltb (u + first) b || has old u)))
      (λ u. enabled τ (byte_for k u) && (not (eqb b (byte_for k u)) && (ltb (byte_for k u) b || late_at p v (byte_for k u)))) 6
      (λ u h. ap₂ (λ (y : Bool) (i : ℕ). y && (not (eqb b i) && (ltb i b || has old u))) (ap (λ (i : ℕ). has i u) em ∙ bytes_has (enabled τ) k u h) (ef u)
      ∙ ap (λ (y : Bool). enabled τ (byte_for k u) && (not (eqb b (byte_for k u)) && (ltb (byte_for k u) b || y))) (ap (λ (i : ℕ). has i u) eo ∙ bytes_has (late_at p v) k u h))

  late_behind_lem : (k : Kind) (s r : ℕ) → s ≡ set_of (λ u. enabled (step (end_of p v) b) (byte_for k u) && (not (eqb b (byte_for k u)) && (ltb (byte_for k u) b || late_at p v (byte_for k u)))) 6 →
      r ≡ set_of (λ u. has s u && not (waits (deed (end_of p v) b) (deed (step (end_of p v) b) (byte_for k u)))) 6 → r ≡ bytes_of (late_at p (v ++ (b ∷ []))) k
  unfolding bytes_of
  late_behind_lem k s r es er = er ∙ chosen_free k (enabled τ) (eqb b) (λ c. ltb c b || late_at p v c) (λ c. waits (deed σ b) (deed τ c)) s es
      ∙ sym (set_same (λ u. late_at p (v ++ (b ∷ [])) (byte_for k u)) (λ u. goes_on (enabled τ) b (λ c. ltb c b || late_at p v c) (λ c. waits (deed σ b) (deed τ c)) (byte_for k u)) 6 (λ u h. late_more p w v at.allowed b ok (byte_for k u)))

  -- twins with a smaller move, by words, are where R2 far starts
  twins_word : (t : ℕ) → t < 6 → any (λ u. twin_by_word p x.words t u && ltb (u + 16) b) (range 0 t) ≡ starts p (end_of p v, b) (byte_for move t)
  unfolding starts starts_by twin_moves
  twins_word t h =
      any_same (λ u. twin_by_word p x.words t u && ltb (u + 16) b) (λ u. twin p σ t u && ltb (u + 16) b) (range 0 t) (λ u m.
      let i = (of_range 0 t u m).1 in
      ap (λ (y : Bool). y && ltb (u + 16) b) (ap₂ (λ (y z : ℕ). together p.groups u t && eqb y z) (at.words u (omega (arith, i, h))) (at.words t h)
      ∙ twin_by_word_lem p w at.few v at.allowed u t (λ q. omega (arith, i, q)) (omega (arith, i, h)) h))
      ∙ sym (ap₂ (λ (k : Kind) (i : ℕ). starts_by p (σ, b) k i) (kind_for move t (omega (arith, h))) (owner_for move t (omega (arith, h))))

  far_chosen : (may old s : ℕ) → may ≡ bytes_of (enabled (step (end_of p v) b)) move → old ≡ bytes_of (far_at p v) move →
      s ≡ set_of (λ t. has may t && (not (eqb b (t + 16)) && (any (λ u. twin_by_word p x.words t u && ltb (u + 16) b) (range 0 t) || has old t))) 6 →
      s ≡ set_of (λ u. enabled (step (end_of p v) b) (byte_for move u) && (not (eqb b (byte_for move u)) && (starts p (end_of p v, b) (byte_for move u) || far_at p v (byte_for move u)))) 6
  far_chosen may old s em eo es = es ∙ set_same (λ t. has may t && (not (eqb b (t + 16)) && (any (λ u. twin_by_word p x.words t u && ltb (u + 16) b) (range 0 t) || has old t)))
      (λ u. enabled τ (byte_for move u) && (not (eqb b (byte_for move u)) && (starts p (σ, b) (byte_for move u) || far_at p v (byte_for move u)))) 6
      (λ u h. ap₂ (λ (y : Bool) (i : ℕ). y && (not (eqb b i) && (any (λ c. twin_by_word p x.words u c && ltb (c + 16) b) (range 0 u) || has old u))) (ap (λ (i : ℕ). has i u) em ∙ bytes_has (enabled τ) move u h) (move_byte u)
      ∙ ap₂ (λ (y z : Bool). enabled τ (byte_for move u) && (not (eqb b (byte_for move u)) && (y || z))) (twins_word u h) (ap (λ (i : ℕ). has i u) eo ∙ bytes_has (far_at p v) move u h))

  far_behind : (s r : ℕ) → s ≡ set_of (λ u. enabled (step (end_of p v) b) (byte_for move u) && (not (eqb b (byte_for move u)) && (starts p (end_of p v, b) (byte_for move u) || far_at p v (byte_for move u)))) 6 →
      r ≡ set_of (λ u. has s u && not (waits (deed (end_of p v) b) (deed (step (end_of p v) b) (byte_for move u)))) 6 → r ≡ bytes_of (far_at p (v ++ (b ∷ []))) move
  unfolding bytes_of
  far_behind s r es er = er ∙ chosen_free move (enabled τ) (eqb b) (λ c. starts p (σ, b) c || far_at p v c) (λ c. waits (deed σ b) (deed τ c)) s es
      ∙ sym (set_same (λ u. far_at p (v ++ (b ∷ [])) (byte_for move u)) (λ u. goes_on (enabled τ) b (λ c. starts p (σ, b) c || far_at p v c) (λ c. waits (deed σ b) (deed τ c)) (byte_for move u)) 6 (λ u h. far_more p w v at.allowed b ok (byte_for move u)))

  -- ---- behind the step, which gave back a
  module _ (a : Stepped) (H : HoldsStep code lengths (end_of p v) b a) where
    words_behind : (ws : List ℕ) (t : ℕ) → t ≡ owner b → length x.words ≡ 6 → ws ≡ set x.words t (word_behind t (get_or x.words t 0) (cond a.act.reads (source_digit t (event_of a.act.source)) 1) a.act.puts) →
        (u : ℕ) → u < 6 → get_or ws u 0 ≡ word_of (step (end_of p v) b) u
    unfolding action action_of reading source_of
    words_behind ws t et six ew u h = go (ℕ_discrete u t)
      where
        small : t < 6
        small = subst (λ (i : ℕ). i < 6) (sym et) (enabled_small (end_of p v) b ok)

        new : ℕ
        new = word_behind t (get_or x.words t 0) (cond a.act.reads (source_digit t (event_of a.act.source)) 1) a.act.puts

        same : (k : Kind) → kind_of b ≡ k → k ≡ access → (takes (thread_of (end_of p v) (owner b)).local ≡ a.act.reads) × ((finds (owner b) (thread_of (end_of p v) (owner b)) (cell_of (end_of p v) (place (end_of p v) (kind_of b) (owner b)))).source ≡ event_of a.act.source)
        same k e f = let q = e ∙ f in
            (sym (H.reads ∙ ap (λ (j : Kind). reading j (thread_of (end_of p v) (owner b))) q), sym (H.source ∙ ap (λ (j : Kind). source_of j (owner b) (thread_of (end_of p v) (owner b)) (cell_of (end_of p v) (place (end_of p v) (kind_of b) (owner b)))) q))

        go : Dec (u ≡ t) → get_or ws u 0 ≡ word_of (step (end_of p v) b) u
        go (yes q) =
            ap₂ (λ (l : List ℕ) (i : ℕ). get_or l i 0) ew q ∙ get_or-set_same x.words t new 0 (omega (arith, small, six))
            ∙ ap₂ (λ (i y : ℕ). word_behind i y (cond a.act.reads (source_digit i (event_of a.act.source)) 1) a.act.puts) et (at.words t small ∙ ap (word_of (end_of p v)) et)
            ∙ sym (word_own p at.loaded.well_formed at.few v at.allowed b ok a.act.reads a.act.puts (event_of a.act.source) (sym H.puts) (λ e. same (kind_of b) refl e))
            ∙ ap (word_of (step (end_of p v) b)) (sym (q ∙ et))
        go (no q) =
            ap (λ (l : List ℕ). get_or l u 0) ew ∙ get_or-set_other x.words t u new 0 q ∙ at.words u h
            ∙ sym (word_other p at.loaded.well_formed at.few v at.allowed b ok u (λ z. q (z ∙ sym et)))

    pub reached_next : (r : Place) (t : ℕ) (s : Sets) → length x.schedule ≡ 32 → length x.words ≡ 6 → t ≡ owner b
        → machine_of r ≡ a.machine → r.schedule ≡ set x.schedule x.steps b → r.steps ≡ x.steps + 1
        → r.words ≡ set x.words t (word_behind t (get_or x.words t 0) (cond a.act.reads (source_digit t (event_of a.act.source)) 1) a.act.puts)
        → s.live ≡ bytes_of (enabled (step (end_of p v) b)) access → s.moving ≡ bytes_of (enabled (step (end_of p v) b)) move
        → s.late ≡ set_of (λ u. has s.live u && (not (eqb b (u + 0)) && (ltb (u + 0) b || has x.sets.late u))) 6
        → s.overdue ≡ set_of (λ u. has s.moving u && (not (eqb b (u + 16)) && (ltb (u + 16) b || has x.sets.overdue u))) 6
        → s.far ≡ set_of (λ t. has s.moving t && (not (eqb b (t + 16)) && (any (λ u. twin_by_word p x.words t u && ltb (u + 16) b) (range 0 t) || has x.sets.far t))) 6
        → HoldsSets (step (end_of p v) b) (deed (end_of p v) b) s r.sets
        → Reached code lengths class threads groups r p (v ++ (b ∷ []))
    reached_next r t s size six et em es en ew elv emo elt eov efa S = record {
      loaded = at.loaded;
      few = at.few;
      lines = at.lines;
      allowed = more_allowed;
      holds = subst (λ (y : QueuedMachine). Holds code lengths y (end_of p (v ++ (b ∷ [])))) (sym em) (subst (Holds code lengths a.machine) (sym snoc) H.holds);
      counted = omega (arith, length-append v (b ∷ []), at.counted, en);
      schedule = ap₂ (λ (n : ℕ) (l : List ℕ). take n l) (en ∙ add-one x.steps) es ∙ take-suc-set x.schedule x.steps b (omega (arith, size, step_room)) ∙ ap (λ (l : List ℕ). l ++ (b ∷ [])) at.schedule;
      sets = record {
        live = S.live ∙ elv ∙ ap (λ (ρ : State). bytes_of (enabled ρ) access) (sym snoc);
        moving = S.moving ∙ emo ∙ ap (λ (ρ : State). bytes_of (enabled ρ) move) (sym snoc);
        late = late_behind_lem access s.late r.sets.late (late_chosen access 0 s.live x.sets.late s.late access_byte elv at.sets.late elt) S.late;
        overdue = late_behind_lem move s.overdue r.sets.overdue (late_chosen move 16 s.moving x.sets.overdue s.overdue move_byte emo at.sets.overdue eov) S.overdue;
        far = far_behind s.far r.sets.far (far_chosen s.moving x.sets.far s.far emo at.sets.far efa) S.far;
      };
      words = λ u h. words_behind r.words t et six ew u h ∙ ap (λ (ρ : State). word_of ρ u) (sym snoc);
    }

  -- ---- behind the step, whose change c is stored: thread t, the u-th, is the one that stepped
  module _ (c : Change) (u t : ℕ) (eu : u ≡ t) (et : t ≡ owner b) (H : HoldsStep code lengths (end_of p v) b (behind (machine_of x) u c)) where
    here : t < 6
    here = subst (λ (i : ℕ). i < 6) (sym et) (enabled_small (end_of p v) b ok)

    thread_next : (thread_at (core_of (behind (machine_of x) u c).machine) t).at ≡ c.thread.at
    thread_next = ap (λ (k : ThreadState). k.at) (stored_at x.threads u t c.thread Core.idle eu (omega (arith, here, eu, at.holds.core.sizes.0)))

    head_next : head_at (behind (machine_of x) u c).machine t ≡ c.head
    head_next = stored_at x.heads u t c.head 0 eu (omega (arith, here, eu, at.holds.sizes.0))

    tail_next : tail_at (behind (machine_of x) u c).machine t ≡ c.tail
    tail_next = stored_at x.tails u t c.tail 0 eu (omega (arith, here, eu, at.holds.sizes.1))

    pub next_short : (t < 6) × (c.thread.at < get_or lengths t 0 → get_or lengths t 0 ≤ 16)
    next_short = (here, λ h. H.holds.short t here (omega (arith, h, thread_next)))

    pub next_access : (on : Bool) → ((m : QueuedMachine) (ρ : State) → Holds code lengths m ρ → (thread_at (core_of m) t).at ≡ c.thread.at → head_at m t ≡ c.head → tail_at m t ≡ c.tail → on ≡ able access (thread_of ρ t) (length ρ.cells))
        → on ≡ enabled (step (end_of p v) b) (byte_for access t)
    next_access on f = f (behind (machine_of x) u c).machine (step (end_of p v) b) H.holds thread_next head_next tail_next ∙ sym (enabled_for (step (end_of p v) b) access t here)

    pub next_move : ltb c.head c.tail ≡ enabled (step (end_of p v) b) (byte_for move t)
    next_move = ap₂ ltb (sym head_next) (sym tail_next) ∙ move_held H.holds t here ∙ sym (enabled_for (step (end_of p v) b) move t here)

  -- each of those asked may step
  pub late_may : (lv lt : ℕ) → lv ≡ bytes_of (enabled (step (end_of p v) b)) access → lt ≡ set_of (λ u. has lv u && (not (eqb b (u + 0)) && (ltb (u + 0) b || has x.sets.late u))) 6 → (u : ℕ) → u < 6 → has lt u ≡ true → enabled (step (end_of p v) b) (byte_for access u) ≡ true
  late_may lv lt elv elt = chosen_may access (enabled τ) (eqb b) (λ c. ltb c b || late_at p v c) lt (late_chosen access 0 lv x.sets.late lt access_byte elv at.sets.late elt)

  pub overdue_may : (mo ov : ℕ) → mo ≡ bytes_of (enabled (step (end_of p v) b)) move → ov ≡ set_of (λ u. has mo u && (not (eqb b (u + 16)) && (ltb (u + 16) b || has x.sets.overdue u))) 6 → (u : ℕ) → u < 6 → has ov u ≡ true → enabled (step (end_of p v) b) (byte_for move u) ≡ true
  overdue_may mo ov emo eov = chosen_may move (enabled τ) (eqb b) (λ c. ltb c b || late_at p v c) ov (late_chosen move 16 mo x.sets.overdue ov move_byte emo at.sets.overdue eov)

  pub far_may : (mo fa : ℕ) → mo ≡ bytes_of (enabled (step (end_of p v) b)) move → fa ≡ set_of (λ t. has mo t && (not (eqb b (t + 16)) && (any (λ u. twin_by_word p x.words t u && ltb (u + 16) b) (range 0 t) || has x.sets.far t))) 6 → (u : ℕ) → u < 6 → has fa u ≡ true → enabled (step (end_of p v) b) (byte_for move u) ≡ true
  far_may mo fa emo efa = chosen_may move (enabled τ) (eqb b) (λ c. starts p (σ, b) c || far_at p v c) fa (far_chosen mo x.sets.far fa emo at.sets.far efa)

  pub step_enabled : enabled (end_of p v) b ≡ true
  step_enabled = ok
