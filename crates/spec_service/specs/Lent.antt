-- What calls do, whatever the four records hold: lent memory may have any content.
use Rattle.std.specs.Prelude.{ℕ, ◌<◌, ◌≤◌, ◌≡◌, ◌↔◌, ◌⊎◌, Bool, true, false, length, get_or, set}
use Rattle.std.proofs.Math.Option.{Option, none, some}
use mathlib.Core.List.{List, Memᴰ}
use Rattle.spec_file.specs.Program.{Program}
use Rattle.spec_schedules.specs.Lists.{Distinct}
use Rattle.spec_service.specs.declared.caller.Mark.{Mark}
use Rattle.spec_service.specs.Seat.{Place, beginning, closed, active, asks}
use Rattle.spec_service.specs.Record.{no_mark, fresh}
use Rattle.spec_service.specs.Marks.{same_name, name_fits, mark_place, bears, last_handed}
use Rattle.spec_service.specs.Call.{Call, ask_for, serve, set_mark, return_to, forget, done, idle, refused}
use Rattle.spec_service.specs.Call.{Shared, seat_of, marks_of, answer_to, after}
use Rattle.spec_service.specs.Play.{answers}

-- the place of the last schedule handed, or the beginning if there is none
unfoldable pub or_beginning : Option Place → Place
or_beginning none = beginning
or_beginning (some x) = x

-- of the four records that are lent caller k's is open, with the eight marks that the type of a record has
pub record LentTo (σ : Shared) (k : ℕ) (p : Program) (x : Place) (a : Bool) : Type 0 where
  pub four : length σ.callers ≡ 4
  pub eight : length (marks_of σ.callers k) ≡ 8
  pub seat : seat_of σ.callers k ≡ active p x a

-- caller k knows eight names: a return to each of them is done
pub record Eight (σ : Shared) (k : ℕ) : Type 0 where
  pub names : List (List ℕ)
  pub eight : length names ≡ 8
  pub differ : Distinct names
  pub known : (m : List ℕ) → Memᴰ m names → answer_to (return_to k m) σ ≡ done

-- a call on marks of caller k leaves a name as it was: return to it answers the same, and goes to the same place
pub record Keeps (c : Call) (σ : Shared) (k : ℕ) (n : List ℕ) : Type 0 where
  pub answer : answer_to (return_to k n) (after c σ) ≡ answer_to (return_to k n) σ
  pub place : seat_of (after (return_to k n) (after c σ)).callers k ≡ seat_of (after (return_to k n) σ).callers k

pub record Lent : Type 0 where
  -- ASK TWICE: a second ask is done, and leaves what one leaves
  pub ask_twice : (σ : Shared) (k : ℕ) → answer_to (ask_for k) σ ≡ done →
      let once = after (ask_for k) σ in (answer_to (ask_for k) once ≡ done) × (after (ask_for k) once ≡ once)
  -- ASK AGAIN: an ask of a caller that asks is done, and leaves every record as it was
  pub ask_again : (σ : Shared) (k : ℕ) → length σ.callers ≡ 4 → asks (seat_of σ.callers k) ≡ true →
      (answer_to (ask_for k) σ ≡ done) × ((after (ask_for k) σ).callers ≡ σ.callers)
  -- IDLE: a serve with an output that is not too short says idle exactly when no caller asks
  pub idle_exactly : (σ : Shared) (out : List ℕ) → length σ.callers ≡ 4 → 24 ≤ length out →
      (answer_to (serve out) σ ≡ idle) ↔ ((k : ℕ) → k < 4 → asks (seat_of σ.callers k) ≡ false)
  -- CLOSED: a record that reads as closed counts as empty, since a fresh one in its place changes no answer of any list of calls
  pub closed_empty : (σ : Shared) (k : ℕ) (calls : List Call) → length σ.callers ≡ 4 → seat_of σ.callers k ≡ closed →
      answers calls (record { callers = set σ.callers k fresh; last = σ.last }) ≡ answers calls σ
  -- SET: a set with a name of 1 to 8 bytes is done, unless 47 refuses it
  pub set_unless : (σ : Shared) (k : ℕ) (p : Program) (x : Place) (a : Bool) (n : List ℕ) → LentTo σ k p x a →
      name_fits (length n) ≡ true → (answer_to (set_mark k n) σ ≡ done) ⊎ (answer_to (set_mark k n) σ ≡ refused 47 0)
  -- RETURN: behind a set that is done return to that name goes behind the last schedule handed, or to the beginning, and keeps the asking
  pub set_returns : (σ : Shared) (k : ℕ) (p : Program) (x : Place) (a : Bool) (n : List ℕ) → LentTo σ k p x a →
      answer_to (set_mark k n) σ ≡ done →
      let now = after (set_mark k n) σ in
      (answer_to (return_to k n) now ≡ done)
      × (seat_of (after (return_to k n) now).callers k ≡ active p (or_beginning (last_handed p (get_or σ.callers k fresh))) a)
  -- FIRST: of several marks with one name return goes to the first
  pub first_mark : (σ : Shared) (k : ℕ) (p : Program) (x : Place) (a : Bool) (n : List ℕ) (i : ℕ) (y : Place) → LentTo σ k p x a →
      let mark : ℕ → Mark = λ j. get_or (marks_of σ.callers k) j no_mark in
      name_fits (length n) ≡ true → i < 8 → bears p n (mark i) ≡ true → ((j : ℕ) → j < i → bears p n (mark j) ≡ false) →
      mark_place p (mark i) ≡ some y →
      (answer_to (return_to k n) σ ≡ done) × (seat_of (after (return_to k n) σ).callers k ≡ active p y a)
  -- FORGET: a forgotten name is unknown, also where a later mark had that name
  pub forgotten : (σ : Shared) (k : ℕ) (p : Program) (x : Place) (a : Bool) (n : List ℕ) → LentTo σ k p x a →
      answer_to (forget k n) σ ≡ done →
      answer_to (return_to k n) (after (forget k n) σ) ≡ refused 46 0
  -- NINTH: 47 refuses a set where the name is unknown and eight others are known
  pub ninth : (σ : Shared) (k : ℕ) (p : Program) (x : Place) (a : Bool) (n : List ℕ) → LentTo σ k p x a →
      answer_to (return_to k n) σ ≡ refused 46 0 → Eight σ k → answer_to (set_mark k n) σ ≡ refused 47 0
  -- 47 refuses a set only where the name is unknown and eight others are known, names being arrays of eight bytes
  pub only_ninth : (σ : Shared) (k : ℕ) (p : Program) (x : Place) (a : Bool) (n : List ℕ) → LentTo σ k p x a →
      ((i : ℕ) → i < 8 → length (get_or (marks_of σ.callers k) i no_mark).name ≡ 8) →
      answer_to (set_mark k n) σ ≡ refused 47 0 → (answer_to (return_to k n) σ ≡ refused 46 0) × Eight σ k
  -- OTHER NAMES keep their places behind a set and behind a forget, and unknown ones stay unknown
  pub set_others : (σ : Shared) (k : ℕ) (p : Program) (x : Place) (a : Bool) (m n : List ℕ) → LentTo σ k p x a →
      answer_to (set_mark k m) σ ≡ done → same_name m n ≡ false → Keeps (set_mark k m) σ k n
  pub forget_others : (σ : Shared) (k : ℕ) (p : Program) (x : Place) (a : Bool) (m n : List ℕ) → LentTo σ k p x a →
      answer_to (forget k m) σ ≡ done → same_name m n ≡ false → Keeps (forget k m) σ k n
