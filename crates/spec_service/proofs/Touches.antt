-- What a call does to caller k's record: nothing; what its own call leaves; or what a serve leaves that takes it.
use Prim.Native.Nat.{ℕ, ◌<◌}
use mathlib.Core.Path.{◌≡◌, refl, sym, ap, subst, ◌∙◌}
use mathlib.Core.Logic.{◌≢◌, ◌⊎◌, inl, inr, ⊎_elim}
use mathlib.Core.Bool.{Bool, true, false, cond, ◌&&◌}
use mathlib.Core.Option.{Option, none, some}
use mathlib.Core.List.{List, [], ◌∷◌}
use native.Mathlib.Omega.{arith}
use native.Mathlib.Decide.{ℕ_discrete}
use borrow.Author.Tests.{ne_eqb}
use lib.Dec.{eqb}
use lib.ListN.{get_or, set}
use lib.Seq.{get_or-set_same, get_or-set_other}
use Rattle.spec_file.specs.Program.{Program}
use Rattle.spec_schedules.specs.Order.{Schedule}
use Rattle.spec_service.specs.declared.caller.Caller.{Caller}
use Rattle.spec_service.specs.Seat.{is_open}
use Rattle.spec_service.specs.Record.{reading, fresh, opened, asked, served}
use Rattle.spec_service.specs.Marks.{is_some, slot_of, slot_for, mark_set, mark_returned, mark_forgotten}
use Rattle.spec_service.specs.Call.{Call, open_for, ask_for, serve, close_for, set_mark, return_to, forget, Answer, done, given, ended, idle, refused, Shared, seat_of, next_asking, for_seat, handed_to, served_to, serve_answer, open_answer, open_only, by_program, marks_of, set_answer, known_only, changed, answer_to, callers_done, callers_after, after}
use Rattle.spec_service.specs.Play.{hands_to}
use Rattle.spec_service.specs.Noted.{Noted, note_done, note_call}
use Rattle.spec_service.specs.Asking.{asks_done, asks_behind}
use Rattle.spec_service.proofs.Seats.{Four, Opens, Marking, open_either, only_either, marks_either, serve_either, after_refused}

abbrev pub record_of : Shared → ℕ → Caller
record_of σ k = get_or σ.callers k fresh

-- whose call it is: nobody's, if it is a serve
unfoldable pub whose : Call → Option ℕ
whose (open_for j f) = some j
whose (ask_for j) = some j
whose (serve out) = none
whose (close_for j) = some j
whose (set_mark j n) = some j
whose (return_to j n) = some j
whose (forget j n) = some j

-- what a call that is done leaves in its caller's record
unfoldable pub own_done : Call → Caller → Caller
own_done (open_for j f) r = opened f
own_done (ask_for j) r = asked r
own_done (serve out) r = r
own_done (close_for j) r = fresh
own_done (set_mark j n) r = by_program (reading r) r (λ p. mark_set p n r)
own_done (return_to j n) r = by_program (reading r) r (λ p. mark_returned p n r)
own_done (forget j n) r = by_program (reading r) r (λ p. mark_forgotten p n r)

pub own_sets : (c : Call) (j : ℕ) (cs : List Caller) → whose c ≡ some j → callers_done c cs ≡ set cs j (own_done c (get_or cs j fresh))
unfolding whose callers_done own_done changed seat_of
own_sets (open_for i f) j cs e = let z : i ≡ j = cc in ap (λ (m : ℕ). set cs m (opened f)) z
own_sets (ask_for i) j cs e = let z : i ≡ j = cc in ap (λ (m : ℕ). set cs m (asked (get_or cs m fresh))) z
own_sets (serve out) j cs e = absurd (let y : ◌≡◌ {A = ℕ} 0 1 = cc in omega arith)
own_sets (close_for i) j cs e = let z : i ≡ j = cc in ap (λ (m : ℕ). set cs m fresh) z
own_sets (set_mark i n) j cs e = let z : i ≡ j = cc in ap (λ (m : ℕ). changed cs m (λ p. mark_set p n)) z
own_sets (return_to i n) j cs e = let z : i ≡ j = cc in ap (λ (m : ℕ). changed cs m (λ p. mark_returned p n)) z
own_sets (forget i n) j cs e = let z : i ≡ j = cc in ap (λ (m : ℕ). changed cs m (λ p. mark_forgotten p n)) z

-- a call on one record is done or refused
pub own_either : (c : Call) (j : ℕ) (σ : Shared) → Four σ.callers → whose c ≡ some j → (answer_to c σ ≡ done) ⊎ ((n : ℕ) × (m : ℕ) × (answer_to c σ ≡ refused n m))
unfolding whose answer_to set_answer known_only
own_either (open_for i f) j σ h e = ⊎_elim (λ (q : (open_answer σ.callers i f ≡ done) × Opens σ.callers i f). inl q.0)
    (λ (q : (n : ℕ) × (m : ℕ) × (open_answer σ.callers i f ≡ refused n m)). inr q) (open_either σ.callers i f h)
own_either (ask_for i) j σ h e = ⊎_elim (λ (q : (open_only σ.callers i ≡ done) × (i < 4) × (is_open (seat_of σ.callers i) ≡ true)). inl q.0)
    (λ (q : (n : ℕ) × (m : ℕ) × (open_only σ.callers i ≡ refused n m)). inr q) (only_either σ.callers i h)
own_either (serve out) j σ h e = absurd (let y : ◌≡◌ {A = ℕ} 0 1 = cc in omega arith)
own_either (close_for i) j σ h e = ⊎_elim (λ (q : (open_only σ.callers i ≡ done) × (i < 4) × (is_open (seat_of σ.callers i) ≡ true)). inl q.0)
    (λ (q : (n : ℕ) × (m : ℕ) × (open_only σ.callers i ≡ refused n m)). inr q) (only_either σ.callers i h)
own_either (set_mark i n) j σ h e =
    let g : Program → Bool = λ p. is_some (slot_for p n (marks_of σ.callers i)) in
    ⊎_elim (λ (q : (set_answer σ.callers i n ≡ done) × Marking σ.callers i n g). inl q.0)
    (λ (q : (v : ℕ) × (m : ℕ) × (set_answer σ.callers i n ≡ refused v m)). inr q) (marks_either σ.callers i n g 47 h)
own_either (return_to i n) j σ h e =
    let g : Program → Bool = λ p. is_some (slot_of p n (marks_of σ.callers i)) in
    ⊎_elim (λ (q : (known_only σ.callers i n ≡ done) × Marking σ.callers i n g). inl q.0)
    (λ (q : (v : ℕ) × (m : ℕ) × (known_only σ.callers i n ≡ refused v m)). inr q) (marks_either σ.callers i n g 46 h)
own_either (forget i n) j σ h e =
    let g : Program → Bool = λ p. is_some (slot_of p n (marks_of σ.callers i)) in
    ⊎_elim (λ (q : (known_only σ.callers i n ≡ done) × Marking σ.callers i n g). inl q.0)
    (λ (q : (v : ℕ) × (m : ℕ) × (known_only σ.callers i n ≡ refused v m)). inr q) (marks_either σ.callers i n g 46 h)

-- another's call notes nothing for k
unnoted : (k : ℕ) (n : List ℕ) (c : Call) (j : ℕ) (μ : Noted) → whose c ≡ some j → k ≢ j → note_done k n c μ ≡ μ
unfolding whose note_done
unnoted k n (open_for i f) j μ e ne = refl
unnoted k n (ask_for i) j μ e ne = refl
unnoted k n (serve out) j μ e ne = refl
unnoted k n (close_for i) j μ e ne = refl
unnoted k n (set_mark i m) j μ e ne = let z : i ≡ j = cc in rw (ne_eqb i k (λ q. ne (sym q ∙ z)))
unnoted k n (return_to i m) j μ e ne = refl
unnoted k n (forget i m) j μ e ne = let z : i ≡ j = cc in rw (ne_eqb i k (λ q. ne (sym q ∙ z)))

-- another's call does not change whether k asks
unasked : (k : ℕ) (c : Call) (j : ℕ) (a : Bool) → whose c ≡ some j → k ≢ j → asks_done k c a ≡ a
unfolding whose asks_done
unasked k (open_for i f) j a e ne = let z : i ≡ j = cc in rw (ne_eqb i k (λ q. ne (sym q ∙ z)))
unasked k (ask_for i) j a e ne = let z : i ≡ j = cc in rw (ne_eqb i k (λ q. ne (sym q ∙ z)))
unasked k (serve out) j a e ne = refl
unasked k (close_for i) j a e ne = let z : i ≡ j = cc in rw (ne_eqb i k (λ q. ne (sym q ∙ z)))
unasked k (set_mark i m) j a e ne = refl
unasked k (return_to i m) j a e ne = refl
unasked k (forget i m) j a e ne = refl

module _ (σ : Shared) (four : Four σ.callers) (k : ℕ) (small : k < 4) where
  -- caller k is handed nothing, and its record, what it noted and whether it asks stay
  pub record Apart (c : Call) : Type 0 where
    pub nothing : hands_to k (answer_to c σ) ≡ []
    pub unseen : (n : List ℕ) (μ : Noted) → note_call k n c (answer_to c σ) μ ≡ μ
    pub still : (a : Bool) → asks_behind k c (answer_to c σ) a ≡ a
    pub leaves : record_of (after c σ) k ≡ record_of σ k

  -- caller k's own call, done
  pub record Own (c : Call) : Type 0 where
    pub mine : whose c ≡ some k
    pub answered : answer_to c σ ≡ done
    pub leaves : record_of (after c σ) k ≡ own_done c (record_of σ k)

  -- a serve that takes it
  pub record Taken (c : Call) : Type 0 where
    pub output : List ℕ
    pub call : c ≡ serve output
    pub answered : answer_to c σ ≡ handed_to k (for_seat (reading (record_of σ k)))
    pub leaves : record_of (after c σ) k ≡ served (record_of σ k) (for_seat (reading (record_of σ k)))

  abbrev pub Touch : Call → Type 0
  Touch c = Apart c ⊎ (Own c ⊎ Taken c)

  apart_by : (c : Call) (b : Answer) → answer_to c σ ≡ b → hands_to k b ≡ [] → ((n : List ℕ) (μ : Noted) → note_call k n c b μ ≡ μ) →
      ((a : Bool) → asks_behind k c b a ≡ a) → get_or (callers_after c b σ.callers) k fresh ≡ record_of σ k → Apart c
  unfolding after
  apart_by c b e h u s r = record {
    nothing = ap (hands_to k) e ∙ h;
    unseen = λ n μ. ap (λ (z : Answer). note_call k n c z μ) e ∙ u n μ;
    still = λ a. ap (λ (z : Answer). asks_behind k c z a) e ∙ s a;
    leaves = ap (λ (z : Answer). get_or (callers_after c z σ.callers) k fresh) e ∙ r;
  }

  touch_refused : (c : Call) (n m : ℕ) → answer_to c σ ≡ refused n m → Apart c
  unfolding hands_to note_call asks_behind callers_after
  touch_refused c n m e = apart_by c (refused n m) e refl (λ n μ. refl) (λ a. refl) refl

  -- what caller k's own call leaves, where it is done
  pub own_leaves_lem : (c : Call) → whose c ≡ some k → answer_to c σ ≡ done → record_of (after c σ) k ≡ own_done c (record_of σ k)
  unfolding callers_after after
  own_leaves_lem c w e = ap (λ (z : Answer). get_or (callers_after c z σ.callers) k fresh) e
      ∙ ap (λ (l : List Caller). get_or l k fresh) (own_sets c k σ.callers w)
      ∙ get_or-set_same σ.callers k (own_done c (record_of σ k)) fresh (omega (arith, four, small))

  touch_own : (c : Call) (j : ℕ) → whose c ≡ some j → Touch c
  unfolding hands_to note_call asks_behind callers_after
  touch_own c j w = ⊎_elim (λ (e : answer_to c σ ≡ done). go e (ℕ_discrete k j))
      (λ (e : (n : ℕ) × (m : ℕ) × (answer_to c σ ≡ refused n m)). inl (touch_refused c e.0 e.1 e.2))
      (own_either c j σ four w)
    where
      go : answer_to c σ ≡ done → Dec (k ≡ j) → Touch c
      go e (no ne) = inl (apart_by c done e refl (λ n μ. unnoted k n c j μ w ne) (λ a. unasked k c j a w ne)
          (ap (λ (l : List Caller). get_or l k fresh) (own_sets c j σ.callers w) ∙ get_or-set_other σ.callers j k (own_done c (record_of σ j)) fresh ne))
      go e (yes q) = inr (inl (record { mine = w ∙ ap some (sym q); answered = e; leaves = own_leaves_lem c (w ∙ ap some (sym q)) e }))

  touch_taken : (out : List ℕ) (m : ℕ) → answer_to (serve out) σ ≡ handed_to m (for_seat (seat_of σ.callers m)) → Dec (k ≡ m) → Touch (serve out)
  unfolding hands_to note_call asks_behind callers_after after handed_to seat_of
  touch_taken out m e (no ne) = inl (go (for_seat (seat_of σ.callers m)) e)
    where
      other : eqb m k ≡ false
      other = ne_eqb m k (λ q. ne (sym q))

      go : (o : Option Schedule) → answer_to (serve out) σ ≡ handed_to m o → Apart (serve out)
      go none q = apart_by (serve out) (ended m) q (rw other) (λ n μ. refl) (λ a. rw other) (get_or-set_other σ.callers m k (served (record_of σ m) none) fresh ne)
      go (some s) q = apart_by (serve out) (given m s) q (rw other) (λ n μ. rw other) (λ a. rw other) (get_or-set_other σ.callers m k (served (record_of σ m) (some s)) fresh ne)
  touch_taken out m e (yes q) = inr (inr (record {
    output = out;
    call = refl;
    answered = own;
    leaves = ap (λ (z : Answer). get_or (callers_after (serve out) z σ.callers) k fresh) own ∙ go (for_seat (reading (record_of σ k)));
  }))
    where
      own : answer_to (serve out) σ ≡ handed_to k (for_seat (reading (record_of σ k)))
      own = e ∙ ap (λ (j : ℕ). handed_to j (for_seat (seat_of σ.callers j))) (sym q)

      go : (o : Option Schedule) → get_or (callers_after (serve out) (handed_to k o) σ.callers) k fresh ≡ served (record_of σ k) o
      go none = get_or-set_same σ.callers k (served (record_of σ k) none) fresh (omega (arith, four, small))
      go (some s) = get_or-set_same σ.callers k (served (record_of σ k) (some s)) fresh (omega (arith, four, small))

  touch_serve : (out : List ℕ) → Touch (serve out)
  unfolding answer_to served_to hands_to note_call asks_behind callers_after
  touch_serve out = ⊎_elim
      (λ (e : serve_answer σ.callers σ.last out ≡ refused 22 0). inl (touch_refused (serve out) 22 0 e))
      (λ (e : serve_answer σ.callers σ.last out ≡ served_to σ.callers (next_asking σ.callers σ.last)). go (next_asking σ.callers σ.last) e)
      (serve_either σ.callers σ.last out four)
    where
      go : (o : Option ℕ) → serve_answer σ.callers σ.last out ≡ served_to σ.callers o → Touch (serve out)
      go none e = inl (apart_by (serve out) idle e refl (λ n μ. refl) (λ a. refl) refl)
      go (some m) e = touch_taken out m e (ℕ_discrete k m)

  -- WHAT A CALL DOES to caller k's record
  pub touch : (c : Call) → Touch c
  unfolding whose
  touch (open_for j f) = touch_own (open_for j f) j refl
  touch (ask_for j) = touch_own (ask_for j) j refl
  touch (serve out) = touch_serve out
  touch (close_for j) = touch_own (close_for j) j refl
  touch (set_mark j n) = touch_own (set_mark j n) j refl
  touch (return_to j n) = touch_own (return_to j n) j refl
  touch (forget j n) = touch_own (forget j n) j refl
