-- A schedule carried out byte by byte: what has been done and what is left make the answer.
use Prim.Native.Nat.{ℕ, suc, ◌+◌, ◌<◌, ◌≤◌}
use native.Mathlib.Omega.{arith}
use mathlib.Core.Path.{◌≡◌, refl, sym, ap, subst, ◌∙◌}
use mathlib.Core.Bool.{Bool, true, false, cond, ◌||◌}
use mathlib.Core.Option.{none, some}
use mathlib.Core.List.{List, [], ◌∷◌, ◌++◌, append-nil}
use lib.ListN.{length, get_or, set, take, drop, drop_of_length-le, length-set, length-append}
use lib.Seq.{take-suc, take-suc-set, take_all, drop-cons, length-take-le}
use Rattle.spec_file.specs.declared.refusal.Refusal.{Refusal}
use Rattle.spec_file.specs.Program.{Program}
use Rattle.spec_file.specs.WellFormed.{all_accesses}
use Rattle.spec_schedules.specs.Order.{Schedule}
use Rattle.spec_schedules.specs.System.{run, ended, Allowed}
use Rattle.spec_schedules.proofs.Runs.{run_snoc, allowed_join, allowed_length}
use Rattle.spec_model.specs.Answers.{refuses_from}
use Rattle.graph_writer.specs.Notes.{Note, note_bytes, Noted, put_note}
use Rattle.graph_writer.proofs.HeldNotes.{noted_none, note_put}
use Rattle.machine.specs.Held.{Loaded}
use Rattle.std.proofs.Common.{Result, Ok, Err}
use Rattle.std.specs.Bool.{⊤}
use Rattle.spec_tso.specs.State.{State, kind_of, owner, place, step, enabled, TSO, start}
use Rattle.spec_tso.specs.Actions.{action, action_of}
use Rattle.spec_tso.proofs.Lawful.{lawful, start_32}
use Rattle.spec_tso.proofs.Steps.{enabled_able}
use Rattle.spec_tso.proofs.Regular.{place_in, regular_run, regular_start}
use Rattle.tso_machine.specs.declared.state.QueuedMachine.{QueuedMachine}
use Rattle.tso_machine.specs.declared.stepping.Stepped.{Stepped}
use Rattle.tso_machine.specs.Held.{Holds, MayStep}
use Rattle.tso_machine.specs.Steps.{HoldsStep}
use Rattle.tso_replay.specs.Noted.{note_of, noted, notes, bytes_of}
use Rattle.machine_replay.specs.Carried.{refusal_of}
use Rattle.tso_replay.specs.declared.replaying.Run.{Run}
use Rattle.tso_replay.specs.Carried.{HoldsRun}
use Rattle.tso_replay.proofs.NotesHere.{notes_snoc}
use Rattle.tso_replay.proofs.FewNotes.{notes_16}

-- ---- what refuses, step by step
nil_full : (k : ℕ) (σ : State) → ended TSO σ ≡ true → refuses_from TSO k σ [] ≡ none
unfolding refuses_from
nil_full k σ e = rw (e, refuses_from)

nil_short : (k : ℕ) (σ : State) → ended TSO σ ≡ false → refuses_from TSO k σ [] ≡ some (21, k)
unfolding refuses_from
nil_short k σ e = rw (e, refuses_from)

cons_goes : (k : ℕ) (σ : State) (b : ℕ) (s : Schedule) → enabled σ b ≡ true → refuses_from TSO k σ (b ∷ s) ≡ refuses_from TSO (suc k) (step σ b) s
unfolding refuses_from
cons_goes k σ b s e = rw (e, refuses_from)

cons_stops : (k : ℕ) (σ : State) (b : ℕ) (s : Schedule) → enabled σ b ≡ false → refuses_from TSO k σ (b ∷ s) ≡ some (20, k)
unfolding refuses_from
cons_stops k σ b s e = rw (e, refuses_from)

-- ---- a step's note
same_bytes : (code lengths : List ℕ) (σ : State) (b : ℕ) (r : Stepped) → HoldsStep code lengths σ b r → bytes_of b r.act ≡ note_bytes (note_of σ b)
unfolding bytes_of note_bytes note_of action action_of
same_bytes code lengths σ b r h = λ i. owner b ∷ h.number i ∷ h.location i ∷ cond (h.reads i) 1 0 ∷ (h.source i).0 ∷ (h.source i).1 ∷ cond (h.puts i) 1 0 ∷ 0 ∷ []

module _ (code lengths : List ℕ) (σ : State) (b : ℕ) (r : Stepped) (h : HoldsStep code lengths σ b r) (log later : List ℕ) (count n : ℕ) (ns : List Note)
    (before : Noted log ns) (counted : count ≡ length ns) (room : count < 24)
    (en : n ≡ cond (r.act.reads || r.act.puts) (count + 1) count) (el : later ≡ cond (r.act.reads || r.act.puts) (put_note log count (bytes_of b r.act)) log) where
  same_flags : (r.act.reads || r.act.puts) ≡ ((action σ b).reads || (action σ b).puts)
  same_flags = λ i. h.reads i || h.puts i

  noted_is : (x : Bool) → (r.act.reads || r.act.puts) ≡ x → noted σ b ≡ cond x (note_of σ b ∷ []) []
  unfolding noted
  noted_is x e = ap (λ (y : Bool). cond y (note_of σ b ∷ []) []) (sym same_flags ∙ e)

  both : (x : Bool) → (r.act.reads || r.act.puts) ≡ x → (n ≡ length (ns ++ noted σ b)) × Noted later (ns ++ noted σ b)
  both true e = (
    omega (arith, en, ap {B = ℕ} (λ (y : Bool). cond y (count + 1) count) e, counted, length-append ns (noted σ b), ap length (noted_is true e)),
    subst (λ (ms : List Note). Noted later (ns ++ ms)) (sym (noted_is true e))
        (note_put (el ∙ ap (λ (y : Bool). cond y (put_note log count (bytes_of b r.act)) log) e) room ns (note_of σ b) before counted (same_bytes code lengths σ b r h)),
  )
  both false e = (
    omega (arith, en, ap {B = ℕ} (λ (y : Bool). cond y (count + 1) count) e, counted, length-append ns (noted σ b), ap length (noted_is false e)),
    subst (λ (ms : List Note). Noted later (ns ++ ms)) (sym (noted_is false e))
        (subst (Noted later) (sym (append-nil ns)) (subst (λ (l : List ℕ). Noted l ns) (sym (el ∙ ap (λ (y : Bool). cond y (put_note log count (bytes_of b r.act)) log) e)) before)),
  )

  pub note_more : (n ≡ length (ns ++ noted σ b)) × Noted later (ns ++ noted σ b)
  note_more = both (r.act.reads || r.act.puts) refl

-- ---- a run that goes on: what has been done of s
pub record Progress (code lengths : List ℕ) (p : Program) (s : Schedule) (r : Run) : Type 0 where
  pub going : r.end ≡ Ok tt
  pub within : r.steps ≤ length s
  pub few : r.steps ≤ 32
  pub room : length r.schedule ≡ 32
  pub schedule : take r.steps r.schedule ≡ take r.steps s
  pub allowed : Allowed TSO (start p) (take r.steps s)
  pub holds : Holds code lengths r.machine (run TSO (start p) (take r.steps s))
  pub counted : r.notes ≡ length (notes (start p) (take r.steps s))
  pub noted : Noted r.log (notes (start p) (take r.steps s))
  pub left : refuses_from TSO 0 (start p) s ≡ refuses_from TSO r.steps (run TSO (start p) (take r.steps s)) (drop r.steps s)

pub progress_start : (code lengths : List ℕ) (p : Program) (s : Schedule) (m : QueuedMachine) (log made : List ℕ) → Holds code lengths m (start p) → length log ≡ 192 → length made ≡ 32
    → Progress code lengths p s (record { end = Ok tt; machine = m; log = log; notes = 0; schedule = made; steps = 0 })
unfolding run notes
progress_start code lengths p s m log made held n w = record {
  going = refl;
  within = omega arith;
  few = omega arith;
  room = w;
  schedule = refl;
  allowed = tt;
  holds = held;
  counted = refl;
  noted = noted_none log n;
  left = refl;
}

-- the machine holds a state
pub replay_held : {code lengths : List ℕ} {p : Program} {s : Schedule} {r : Run} → Progress code lengths p s r → (τ : State) × Holds code lengths r.machine τ
replay_held {p = p} {s = s} {r = r} done = (run TSO (start p) (take r.steps s), done.holds)

module _ (code lengths : List ℕ) (threads : ℕ) (p : Program) (loaded : Loaded code lengths threads p) (small : all_accesses p.threads ≤ 16) (s : Schedule)
    (r : Run) (done : Progress code lengths p s r) where
  abbrev σ : State
  σ = run TSO (start p) (take r.steps s)

  -- there is room for a note more
  pub notes_room : r.notes < 24
  notes_room = omega (arith, done.counted, notes_16 p small (take r.steps s) done.allowed)

  -- a run that ends here, by this
  ending : (e : Result ⊤ Refusal) → refusal_of e ≡ refuses_from TSO 0 (start p) s → (e ≡ Ok tt → take r.steps s ≡ s) → HoldsRun code lengths p s (record r { end = e })
  ending e answer all = record {
    counted = done.within;
    few = done.few;
    schedule = done.schedule;
    allowed = done.allowed;
    holds = done.holds;
    notes_counted = done.counted;
    noted = done.noted;
    answer = answer;
    all = all;
  }

  -- ---- a byte is left, the i-th
  module _ (i : ℕ) (ei : r.steps ≡ i) (h : i < length s) where
    abbrev b : ℕ
    b = get_or s i 0

    left_here : drop r.steps s ≡ b ∷ drop (suc r.steps) s
    left_here = drop-cons s r.steps 0 (omega arith) ∙ ap (λ (j : ℕ). get_or s j 0 ∷ drop (suc r.steps) s) ei

    next : take (r.steps + 1) s ≡ take r.steps s ++ (b ∷ [])
    next =
        ap (λ (j : ℕ). take j s) (let z : r.steps + 1 ≡ suc r.steps = omega arith in z) ∙ take-suc s r.steps 0 (omega arith)
        ∙ ap (λ (j : ℕ). take r.steps s ++ (get_or s j 0 ∷ [])) ei

    -- the next byte may not step
    pub replay_stops : enabled σ b ≡ false → HoldsRun code lengths p s (record r { end = Err (record { number = 20; place = r.steps }) })
    unfolding refusal_of
    replay_stops e = ending (Err (record { number = 20; place = r.steps }))
        (sym (done.left ∙ ap (refuses_from TSO r.steps σ) left_here ∙ cons_stops r.steps σ b (drop (suc r.steps) s) e))
        (λ q. absurd (let z : ◌≡◌ {A = ℕ} 0 1 = cc in omega arith))

    module _ (ok : enabled σ b ≡ true) where
      pub replay_may : MayStep code lengths r.machine b
      replay_may = record { state = σ; holds = done.holds; may = ok }

      near : place σ (kind_of b) (owner b) < 8
      near =
          let g = regular_run (take r.steps s) (start p) (regular_start p loaded.well_formed) done.allowed in
          omega (arith, place_in σ g (kind_of b) (owner b) (enabled_able σ b ok), g.eight)

      more_allowed : Allowed TSO (start p) (take (r.steps + 1) s)
      more_allowed = subst (Allowed TSO (start p)) (sym next) (allowed_join TSO (start p) (take r.steps s) (b ∷ []) done.allowed (ok, tt))

      -- there is room for it
      pub replay_room : r.steps < 32
      replay_room = omega (arith, allowed_length TSO lawful (start p) (take (r.steps + 1) s) more_allowed, length-take-le (r.steps + 1) s (omega arith), start_32 p small)

      one_more : take (r.steps + 1) (set r.schedule r.steps b) ≡ take (r.steps + 1) s
      one_more =
          ap (λ (j : ℕ). take j (set r.schedule r.steps b)) (let z : r.steps + 1 ≡ suc r.steps = omega arith in z)
          ∙ take-suc-set r.schedule r.steps b (omega (arith, done.room, replay_room)) ∙ ap (λ (l : Schedule). l ++ (b ∷ [])) done.schedule ∙ sym next

      pub replay_more : (a : Stepped) → ((τ : State) → Holds code lengths r.machine τ → enabled τ b ≡ true → place τ (kind_of b) (owner b) < 8 → HoldsStep code lengths τ b a)
          → (later : List ℕ) (n : ℕ) → n ≡ cond (a.act.reads || a.act.puts) (r.notes + 1) r.notes → later ≡ cond (a.act.reads || a.act.puts) (put_note r.log r.notes (bytes_of b a.act)) r.log
          → Progress code lengths p s (record { end = r.end; machine = a.machine; log = later; notes = n; schedule = set r.schedule r.steps b; steps = r.steps + 1 })
      replay_more a acts later n en el =
          let held = acts σ done.holds ok near in
          let state : run TSO (start p) (take (r.steps + 1) s) ≡ step σ b = ap (run TSO (start p)) next ∙ run_snoc TSO (start p) (take r.steps s) b in
          let more = note_more code lengths σ b a held r.log later r.notes n (notes (start p) (take r.steps s)) done.noted done.counted notes_room en el in
          let longer : notes (start p) (take (r.steps + 1) s) ≡ notes (start p) (take r.steps s) ++ noted σ b = ap (notes (start p)) next ∙ notes_snoc (start p) (take r.steps s) b in
          record {
            going = done.going;
            within = omega (arith, ei, h);
            few = omega (arith, replay_room);
            room = length-set r.schedule r.steps b ∙ done.room;
            schedule = one_more;
            allowed = more_allowed;
            holds = subst (Holds code lengths a.machine) (sym state) held.holds;
            counted = more.0 ∙ ap length (sym longer);
            noted = subst (Noted later) (sym longer) more.1;
            left = done.left ∙ ap (refuses_from TSO r.steps σ) left_here ∙ cons_goes r.steps σ b (drop (suc r.steps) s) ok
                ∙ ap (λ (τ : State). refuses_from TSO (suc r.steps) τ (drop (suc r.steps) s)) (sym state)
                ∙ ap (λ (j : ℕ). refuses_from TSO j (run TSO (start p) (take (r.steps + 1) s)) (drop j s)) (let z : suc r.steps ≡ r.steps + 1 = omega arith in z);
          }

  -- ---- none is left
  module _ (h : length s ≤ r.steps) where
    finished : refuses_from TSO 0 (start p) s ≡ refuses_from TSO r.steps σ []
    finished = done.left ∙ ap (refuses_from TSO r.steps σ) (drop_of_length-le s {i = r.steps} h)

    pub replay_whole : ended TSO σ ≡ true → HoldsRun code lengths p s r
    unfolding refusal_of
    replay_whole e =
        subst (λ (end : Result ⊤ Refusal). HoldsRun code lengths p s (record r { end = end })) (sym done.going)
        (ending (Ok tt) (sym (finished ∙ nil_full r.steps σ e)) (λ q. take_all r.steps s h))

    pub replay_short : ended TSO σ ≡ false → HoldsRun code lengths p s (record r { end = Err (record { number = 21; place = r.steps }) })
    unfolding refusal_of
    replay_short e = ending (Err (record { number = 21; place = r.steps })) (sym (finished ∙ nil_short r.steps σ e)) (λ q. absurd (let z : ◌≡◌ {A = ℕ} 0 1 = cc in omega arith))
