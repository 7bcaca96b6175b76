-- What holds of every list of calls from four fresh records, each call handed what the one before gave back.
use Rattle.std.specs.Prelude.{ℕ, ◌%◌, ◌^◌, ◌<◌, ◌≤◌, ◌≡◌, ◌↔◌, Bool, true, false, List, [], map, length, get_or}
use Rattle.std.proofs.Math.Option.{none, some}
use Rattle.spec_file.specs.Program.{Program}
use Rattle.spec_file.specs.Decode.{accepted, decode}
use Rattle.spec_schedules.specs.Lists.{range}
use Rattle.spec_schedules.specs.Order.{Schedule}
use Rattle.spec_schedules.specs.Calls.{member}
use Rattle.spec_model.specs.Alike.{list_of}
use Rattle.spec_sc.specs.Sequential.{sc}
use Rattle.spec_service.specs.Seat.{Place, closed, active, to_come, asks}
use Rattle.spec_service.specs.Record.{no_mark, fresh}
use Rattle.spec_service.specs.Marks.{name_fits}
use Rattle.spec_service.specs.Call.{Call, open_for, ask_for, close_for, set_mark, return_to, forget, done, refused}
use Rattle.spec_service.specs.Call.{Shared, seat_of, marks_of, answer_to, after, start}
use Rattle.spec_service.specs.Lent.{Eight}
use Rattle.spec_service.specs.Asking.{asks_in}
use Rattle.spec_service.specs.Play.{answers, behind_all, received, serves, schedules_of, returns, Stays}
use Rattle.spec_service.specs.Noted.{nothing_noted, noted}
use Rattle.spec_service.specs.Concerns.{concerns}

-- what the calls hand to caller k is the list l in order, each member once, and no more exactly when all have been given: the i-th serve
-- of the caller, from 0, gives member i, or no more if the list has fewer
abbrev pub InOrder : ℕ → List Schedule → List Call → Shared → Type 0
InOrder k l calls σ = received k (answers calls σ) ≡ map (member l) (range 0 (length (received k (answers calls σ))))

pub record Sharing : Type 0 where
  -- FAIR: a caller whose ask is not refused and that does not close is served by the fourth serve at the latest, refused serves not
  -- counted, whatever the others call: where four serves were not refused, it was handed something
  pub fourth_serve : (before later : List Call) (k : ℕ) → answer_to (ask_for k) (behind_all before start) ≡ done → Stays k later →
      4 ≤ serves (answers later (after (ask_for k) (behind_all before start))) →
      received k (answers later (after (ask_for k) (behind_all before start))) ≡ [] → ⊥
  -- ASKING: a caller asks exactly when it asked, and since then no serve took it and it neither opened nor closed
  pub asks_exactly : (calls : List Call) (k : ℕ) → k < 4 → asks (seat_of (behind_all calls start).callers k) ≡ asks_in k calls start false
  -- IN ORDER: from one opening to its closing, up to its first return, a caller's serves give its program's list from the beginning
  pub in_order : (before later : List Call) (k : ℕ) (f : List ℕ) (p : Program) → decode f ≡ accepted p →
      let opening = after (open_for k f) (behind_all before start) in
      answer_to (open_for k f) (behind_all before start) ≡ done → Stays k later → returns k later opening ≡ false →
      InOrder k (list_of sc p) later opening
  -- BEHIND A MARK: after each return, up to the next or the closing, a caller's serves give what the list holds behind the mark's place
  pub behind_mark : (before later : List Call) (k : ℕ) (n : List ℕ) (p : Program) (x : Place) (a : Bool) →
      let back = after (return_to k n) (behind_all before start) in
      answer_to (return_to k n) (behind_all before start) ≡ done → seat_of back.callers k ≡ active p x a →
      Stays k later → returns k later back ≡ false → InOrder k (to_come p x) later back
  -- KNOWN: a name that was set since the opening and not forgotten since stands for the last schedule handed when it was set, or for the
  -- beginning if there was none; return goes there with the program that was opened, and keeps the asking
  pub known : (before later : List Call) (k : ℕ) (f : List ℕ) (p : Program) (n : List ℕ) (x : Place) → decode f ≡ accepted p →
      let opening = after (open_for k f) (behind_all before start) in
      answer_to (open_for k f) (behind_all before start) ≡ done → Stays k later →
      (noted k n later opening nothing_noted).place ≡ some x →
      let now = behind_all later opening in
      (answer_to (return_to k n) now ≡ done) × (seat_of (after (return_to k n) now).callers k ≡ active p x (asks (seat_of now.callers k)))
      × (answer_to (forget k n) now ≡ done)
  -- UNKNOWN: a name of 1 to 8 bytes that was not set since the opening, or was forgotten since, is refused by 46
  pub unknown : (before later : List Call) (k : ℕ) (f : List ℕ) (p : Program) (n : List ℕ) → decode f ≡ accepted p →
      let opening = after (open_for k f) (behind_all before start) in
      answer_to (open_for k f) (behind_all before start) ≡ done → Stays k later → name_fits (length n) ≡ true →
      (noted k n later opening nothing_noted).place ≡ none →
      let now = behind_all later opening in (answer_to (return_to k n) now ≡ refused 46 0) × (answer_to (forget k n) now ≡ refused 46 0)
  -- EIGHT MARKS, with names of eight bytes, are in every record behind every list of calls
  pub eight_marks : (calls : List Call) (k : ℕ) → k < 4 →
      let marks = marks_of (behind_all calls start).callers k in
      (length marks ≡ 8) × ((i : ℕ) → i < 8 → length (get_or marks i no_mark).name ≡ 8)
  -- NINTH: 47 refuses a set exactly where the name is unknown and eight others are known
  pub ninth_exactly : (calls : List Call) (k : ℕ) (n : List ℕ) →
      let now = behind_all calls start in
      (answer_to (set_mark k n) now ≡ refused 47 0) ↔ ((answer_to (return_to k n) now ≡ refused 46 0) × Eight now k)
  -- CLOSED: behind a closing that is not refused the record is empty, and nobody is there
  pub closes : (before : List Call) (k : ℕ) → answer_to (close_for k) (behind_all before start) ≡ done →
      let closing = after (close_for k) (behind_all before start) in
      (get_or closing.callers k fresh ≡ fresh) × (seat_of closing.callers k ≡ closed)
  -- COUNTED: a caller's count is the number of schedules that it was handed since it opened, repeats after a return included, modulo 2^64
  pub counted : (before later : List Call) (k : ℕ) (f : List ℕ) (p : Program) → decode f ≡ accepted p →
      let opening = after (open_for k f) (behind_all before start) in
      answer_to (open_for k f) (behind_all before start) ≡ done → Stays k later →
      (get_or (behind_all later opening).callers k fresh).count ≡ schedules_of (received k (answers later opening)) % 2 ^ 64
  -- ISOLATED: in two lists of calls that agree in caller k's own calls and in the serves that take it, in the same order among themselves,
  -- the caller's count, its whole record and the sequence that it receives are the same, whatever others open, ask, mark or close
  pub isolated : (left right : List Call) (k : ℕ) → k < 4 → concerns k left start ≡ concerns k right start →
      ((get_or (behind_all left start).callers k fresh).count ≡ (get_or (behind_all right start).callers k fresh).count)
      × (get_or (behind_all left start).callers k fresh ≡ get_or (behind_all right start).callers k fresh)
      × (received k (answers left start) ≡ received k (answers right start))
