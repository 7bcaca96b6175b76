-- Whether a record is open, and whether it asks, way by way of the code.
use Rattle.std.proofs.Common.{◌≡◌, ℕ, ◌<◌, ◌≤◌, Bool, true, false, cond, eqb, List, take, sym, refl, ap, ◌∙◌, le-ltb, lt-ltb, eq-eqb, ne_eqb}
use Rattle.std.specs.Prelude.{Result, Ok, Err, ⊤, is_ok}
use mathlib.Core.Option.{Option, none, some}
use Rattle.spec_file.specs.Program.{Program}
use Rattle.spec_file.specs.Decode.{Decoded, accepted, refused, decode}
use Rattle.spec_file.specs.declared.refusal.Refusal.{Refusal}
use Rattle.spec_schedules.specs.Order.{Schedule}
use Rattle.spec_schedules.specs.System.{run}
use Rattle.spec_sc.specs.State.{State, SC, start}
use Rattle.spec_sc.specs.Replay.{Replayed, whole, replay}
use Rattle.machine_replay.specs.declared.replaying.Run.{Run}
use Rattle.machine_replay.specs.Carried.{verdict_of, HoldsRun}
use Rattle.spec_sc.specs.Replay as Replay
use Rattle.spec_service.specs.declared.caller.Caller.{Caller}
use Rattle.spec_service.specs.Seat.{Place, closed, is_open, asks}
use Rattle.spec_service.specs.Record.{file_read, behind_full, place_of, seated, seat_by, reading}
use Rattle.service_record.specs.Tested.{is_whole, is_place}

-- ---- a schedule
-- whether it is full, by the end of its run
pub whole_by_end : (code lengths : List ℕ) (p : Program) (s : Schedule) (r : Run) → HoldsRun code lengths p s r → is_ok r.end ≡ is_whole (replay p s)
unfolding is_whole verdict_of
whole_by_end code lengths p s r h = go r.end (run SC (start p) (take r.steps s)) ∙ ap is_whole h.answer
  where
    go : (v : Result ⊤ Refusal) (σ : State) → is_ok v ≡ is_whole (verdict_of v σ)
    go (Ok _) σ = refl
    go (Err q) σ = refl

-- ---- a place
whole_place : (r : Replayed) (s : List ℕ) → is_whole r ≡ is_place (behind_full r s)
unfolding is_whole is_place behind_full
whole_place (whole σ) s = refl
whole_place (Replay.refused n k) s = refl

module _ (p : Program) (n k : ℕ) (s : List ℕ) where
  pub place_behind : (m : ℕ) → n ≡ 2 → k ≤ 24 → m ≡ k → is_whole (replay p (take m s)) ≡ is_place (place_of p n k s)
  unfolding place_of
  place_behind m e l q = ap (λ (j : ℕ). is_whole (replay p (take j s))) q ∙ rw (e, le-ltb 24 k l) (whole_place (replay p (take k s)) (take k s))

-- ---- a record
seated_open : (p : Program) (o : Option Place) (n : ℕ) → is_place o ≡ is_open (seated p o n)
unfolding is_place is_open seated
seated_open p none n = refl
seated_open p (some x) n = refl

module _ (c : Caller) where
  pub read_long : 4096 < c.length → file_read c ≡ refused 1 0
  unfolding file_read
  read_long l = rw (lt-ltb 4096 c.length l)

  pub read_file : c.length ≤ 4096 → file_read c ≡ decode (take c.length c.file)
  unfolding file_read
  read_file l = rw (le-ltb 4096 c.length l)

  pub read_refused : (n k : ℕ) → file_read c ≡ refused n k → reading c ≡ closed
  unfolding reading seat_by
  read_refused n k e = rw e

  pub read_accepted : (p : Program) → file_read c ≡ accepted p → reading c ≡ seated p (place_of p c.place c.steps c.schedule) c.asking
  unfolding reading seat_by
  read_accepted p e = rw e

  pub open_long : 4096 < c.length → false ≡ is_open (reading c)
  unfolding is_open
  open_long l = sym (ap is_open (read_refused 1 0 (read_long l)))

  pub open_refused : (n k : ℕ) → c.length ≤ 4096 → decode (take c.length c.file) ≡ refused n k → false ≡ is_open (reading c)
  unfolding is_open
  open_refused n k l e = sym (ap is_open (read_refused n k (read_file l ∙ e)))

  pub open_accepted : (p : Program) → c.length ≤ 4096 → decode (take c.length c.file) ≡ accepted p → is_place (place_of p c.place c.steps c.schedule) ≡ is_open (reading c)
  open_accepted p l e = seated_open p (place_of p c.place c.steps c.schedule) c.asking ∙ sym (ap is_open (read_accepted p (read_file l ∙ e)))

  -- an open record asks where its number is 1
  asked_by : (b : Bool) → eqb c.asking 1 ≡ b → cond b (is_open (reading c)) false ≡ asks (reading c)
  unfolding reading is_open asks seated seat_by
  asked_by b e = go (file_read c)
    where
      kept : (a : Bool) → cond a true false ≡ a
      kept true = refl
      kept false = refl

      never : (a : Bool) → cond a false false ≡ false
      never true = refl
      never false = refl

      placed : (p : Program) (o : Option Place) → cond b (is_open (seated p o c.asking)) false ≡ asks (seated p o c.asking)
      placed p none = never b
      placed p (some x) = kept b ∙ sym e

      go : (d : Decoded) → cond b (is_open (seat_by d c)) false ≡ asks (seat_by d c)
      go (accepted p) = placed p (place_of p c.place c.steps c.schedule)
      go (refused n k) = never b

  pub asks_open : c.asking ≡ 1 → is_open (reading c) ≡ asks (reading c)
  asks_open e = asked_by true (eq-eqb c.asking 1 e)

  pub asks_not : (c.asking ≡ 1 → ⊥) → false ≡ asks (reading c)
  asks_not d = asked_by false (ne_eqb c.asking 1 d)
