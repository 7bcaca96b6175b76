-- CLOSED AND EMPTY: a fresh record in the place of one that reads as closed changes no answer of any list of calls.
use Prim.Native.Nat.{ℕ, ◌<◌, ◌≤◌}
use mathlib.Core.Path.{◌≡◌, refl, sym, ap, ap₂, subst, fun_ext, ◌∙◌}
use mathlib.Core.Logic.{◌⊎◌, inl, inr, ⊎_elim}
use mathlib.Core.Bool.{Bool, true, false, cond, not, false≢true}
use mathlib.Core.Option.{Option, none, some}
use mathlib.Core.List.{List, [], ◌∷◌}
use native.Mathlib.Omega.{arith}
use native.Mathlib.Decide.{ℕ_discrete}
use borrow.Author.Tests.{ltb-true, ltb-false}
use lib.Dec.{eqb, ltb}
use lib.ListN.{length, get_or, set, length-set}
use lib.Seq.{get_or-set_same, get_or-set_other, set_out, set-get_or}
use Rattle.spec_file.specs.Program.{Program}
use Rattle.spec_file.specs.Decode.{decode}
use Rattle.spec_schedules.specs.Lists.{find}
use Rattle.spec_schedules.specs.Order.{Schedule}
use Rattle.spec_schedules.specs.Calls.{short}
use Rattle.spec_schedules.proofs.First.{find_passes}
use Rattle.spec_service.specs.declared.caller.Caller.{Caller}
use Rattle.spec_service.specs.declared.caller.Mark.{Mark}
use Rattle.spec_service.specs.Seat.{Seat, closed, active, is_open, asks}
use Rattle.spec_service.specs.Record.{reading, fresh, asked, served}
use Rattle.spec_service.specs.Marks.{is_some, name_fits, slot_of, slot_for, mark_set, mark_returned, mark_forgotten}
use Rattle.spec_service.specs.Call as Calls
use Rattle.spec_service.specs.Call.{Call, open_for, ask_for, serve, close_for, set_mark, return_to, forget, Answer, done, idle, Shared, seat_of, checked, opened_by, open_answer, open_only, by_program, marks_only, done_if, marks_of, set_answer, known_only, in_turn, next_asking, for_seat, handed_to, served_to, serve_answer, answer_to, callers_after, last_after, after}
use Rattle.spec_service.specs.Play.{answers}
use Rattle.spec_service.proofs.Readings.{reading_fresh}
use Rattle.spec_service.proofs.Seats.{Four, serve_either, four_after}
use Rattle.spec_service.proofs.Touches.{whose, own_done, own_sets, own_either}
use Rattle.spec_service.proofs.Asking.{open_asked}

-- ---- two records that are one to every call: the same, or both closed
abbrev Like : Caller → Caller → Type 0
Like r s = (r ≡ s) ⊎ ((reading r ≡ closed) × (reading s ≡ closed))

like_reading : (r s : Caller) → Like r s → reading r ≡ reading s
like_reading r s (inl e) = ap reading e
like_reading r s (inr e) = e.0 ∙ sym e.1

-- what an open record is asked by its program
like_by : {A : Type 0} (r s : Caller) (z : A) (f : Program → Caller → A) → Like r s → by_program (reading r) z (λ p. f p r) ≡ by_program (reading s) z (λ p. f p s)
unfolding by_program
like_by r s z f (inl e) = ap (λ (c : Caller). by_program (reading c) z (λ p. f p c)) e
like_by r s z f (inr e) = ap (λ (x : Seat). by_program x z (λ p. f p r)) e.0 ∙ sym (ap (λ (x : Seat). by_program x z (λ p. f p s)) e.1)

-- what its own call leaves
like_program : (r s : Caller) (f : Program → Caller → Caller) → Like r s → Like (by_program (reading r) r (λ p. f p r)) (by_program (reading s) s (λ p. f p s))
unfolding by_program
like_program r s f (inl e) = inl (ap (λ (c : Caller). by_program (reading c) c (λ p. f p c)) e)
like_program r s f (inr e) = inr (ap reading (ap (λ (x : Seat). by_program x r (λ p. f p r)) e.0) ∙ e.0, ap reading (ap (λ (x : Seat). by_program x s (λ p. f p s)) e.1) ∙ e.1)

not_open : (x : Seat) → is_open x ≡ false → x ≡ closed
unfolding is_open
not_open closed e = refl
not_open (active p y a) e = absurd (false≢true (sym e))

asked_closed : (r : Caller) → reading r ≡ closed → reading (asked r) ≡ closed
unfolding is_open
asked_closed r e = not_open (reading (asked r)) (open_asked r ∙ ap is_open e)

like_own : (c : Call) (r s : Caller) → Like r s → Like (own_done c r) (own_done c s)
unfolding own_done
like_own (open_for j f) r s l = inl refl
like_own (ask_for j) r s (inl e) = inl (ap asked e)
like_own (ask_for j) r s (inr e) = inr (asked_closed r e.0, asked_closed s e.1)
like_own (serve out) r s l = l
like_own (close_for j) r s l = inl refl
like_own (set_mark j n) r s l = like_program r s (λ p. mark_set p n) l
like_own (return_to j n) r s l = like_program r s (λ p. mark_returned p n) l
like_own (forget j n) r s l = like_program r s (λ p. mark_forgotten p n) l

-- ---- two lists of records
module _ (cs ds : List Caller) where
  abbrev pub LikeAll : Type 0
  LikeAll = (length cs ≡ length ds) × ((j : ℕ) → Like (get_or cs j fresh) (get_or ds j fresh))

module _ (cs ds : List Caller) (all : LikeAll cs ds) where
  seats : (j : ℕ) → seat_of cs j ≡ seat_of ds j
  unfolding seat_of
  seats j = like_reading (get_or cs j fresh) (get_or ds j fresh) (all.1 j)

  like_checked : (k : ℕ) (a b : Answer) → a ≡ b → checked cs k a ≡ checked ds k b
  unfolding checked
  like_checked k a b e = ap₂ (λ (n : ℕ) (z : Answer). cond (not (eqb n 4)) (Calls.refused 22 0) (cond (ltb 3 k) (Calls.refused 42 0) z)) all.0 e

  like_marks : (k : ℕ) (n : List ℕ) (g : Program → List Mark → Answer) → marks_only cs k n (λ p. g p (marks_of cs k)) ≡ marks_only ds k n (λ p. g p (marks_of ds k))
  unfolding marks_only marks_of seat_of
  like_marks k n g = like_checked k _ _
      (like_by (get_or cs k fresh) (get_or ds k fresh) (Calls.refused 44 0) (λ p c. cond (name_fits (length n)) (g p c.marks) (Calls.refused 45 0)) (all.1 k))

  like_served : (o : Option ℕ) → served_to cs o ≡ served_to ds o
  unfolding served_to
  like_served none = refl
  like_served (some k) = ap (λ (x : Seat). handed_to k (for_seat x)) (seats k)

  like_next : (n : ℕ) → next_asking cs n ≡ next_asking ds n
  unfolding next_asking
  like_next n = ap (λ (f : ℕ → Bool). find f (in_turn n)) (fun_ext (λ k. ap asks (seats k)))

  like_serve : (n : ℕ) (out : List ℕ) → serve_answer cs n out ≡ serve_answer ds n out
  unfolding serve_answer
  like_serve n out = ap₂ (λ (m : ℕ) (a : Answer). cond (not (eqb m 4)) (Calls.refused 22 0) (cond (short 24 out) (Calls.refused 22 0) a)) all.0
      (like_served (next_asking cs n) ∙ ap (served_to ds) (like_next n))

  like_at : {r s t u : Caller} → r ≡ t → s ≡ u → Like t u → Like r s
  like_at {r} {s} {t} {u} e h l = subst (λ (z : Caller). Like z s) (sym e) (subst (λ (z : Caller). Like t z) (sym h) l)

  -- like records put back at one place
  like_set : (k : ℕ) (r s : Caller) → Like r s → LikeAll (set cs k r) (set ds k s)
  like_set k r s l = (length-set cs k r ∙ all.0 ∙ sym (length-set ds k s), λ j. go j (ltb k (length cs)) refl (ℕ_discrete j k))
    where
      go : (j : ℕ) (b : Bool) → ltb k (length cs) ≡ b → Dec (j ≡ k) → Like (get_or (set cs k r) j fresh) (get_or (set ds k s) j fresh)
      go j b q (no ne) = like_at (get_or-set_other cs k j r fresh ne) (get_or-set_other ds k j s fresh ne) (all.1 j)
      go j true q (yes e) = like_at
          (ap (λ (i : ℕ). get_or (set cs k r) i fresh) e ∙ get_or-set_same cs k r fresh (ltb-true k (length cs) q))
          (ap (λ (i : ℕ). get_or (set ds k s) i fresh) e ∙ get_or-set_same ds k s fresh (subst (λ (n : ℕ). k < n) all.0 (ltb-true k (length cs) q))) l
      go j false q (yes e) = like_at
          (ap (λ (l : List Caller). get_or l j fresh) (set_out cs k r (ltb-false k (length cs) q)))
          (ap (λ (l : List Caller). get_or l j fresh) (set_out ds k s (subst (λ (n : ℕ). n ≤ k) all.0 (ltb-false k (length cs) q)))) (all.1 j)

-- ---- one call
-- the records behind a serve that takes caller m
handed_leaves : (cs : List Caller) (out : List ℕ) (m : ℕ) (o : Option Schedule) → callers_after (serve out) (handed_to m o) cs ≡ set cs m (served (get_or cs m fresh) o)
unfolding callers_after handed_to
handed_leaves cs out m none = refl
handed_leaves cs out m (some s) = refl

module _ (σ τ : Shared) (four : Four σ.callers) (all : LikeAll σ.callers τ.callers) (last : σ.last ≡ τ.last) where
  abbrev cs : List Caller
  cs = σ.callers

  abbrev ds : List Caller
  ds = τ.callers

  same_answer : (c : Call) → answer_to c σ ≡ answer_to c τ
  unfolding answer_to open_answer open_only set_answer known_only
  same_answer (open_for k f) = like_checked cs ds all k _ _ (ap (λ (x : Seat). cond (is_open x) (Calls.refused 43 0) (opened_by (decode f))) (seats cs ds all k))
  same_answer (ask_for k) = like_checked cs ds all k _ _ (ap (λ (x : Seat). cond (is_open x) done (Calls.refused 44 0)) (seats cs ds all k))
  same_answer (serve out) = like_serve cs ds all σ.last out ∙ ap (λ (n : ℕ). serve_answer ds n out) last
  same_answer (close_for k) = like_checked cs ds all k _ _ (ap (λ (x : Seat). cond (is_open x) done (Calls.refused 44 0)) (seats cs ds all k))
  same_answer (set_mark k n) = like_marks cs ds all k n (λ p ms. done_if (is_some (slot_for p n ms)) 47)
  same_answer (return_to k n) = like_marks cs ds all k n (λ p ms. done_if (is_some (slot_of p n ms)) 46)
  same_answer (forget k n) = like_marks cs ds all k n (λ p ms. done_if (is_some (slot_of p n ms)) 46)

  -- like lists behind a call, by its answer and the records that it leaves in both
  behind_by : (c : Call) (a : Answer) (us vs : List Caller) → answer_to c σ ≡ a → callers_after c a cs ≡ us → callers_after c a ds ≡ vs → LikeAll us vs →
      LikeAll (after c σ).callers (after c τ).callers
  unfolding after
  behind_by c a us vs e h q l =
      subst (λ (z : List Caller). LikeAll z (callers_after c (answer_to c τ) ds)) (sym (ap (λ (b : Answer). callers_after c b cs) e ∙ h))
      (subst (λ (z : List Caller). LikeAll us z) (sym (ap (λ (b : Answer). callers_after c b ds) (sym (same_answer c) ∙ e) ∙ q)) l)

  behind_own : (c : Call) (j : ℕ) → whose c ≡ some j → LikeAll (after c σ).callers (after c τ).callers
  unfolding callers_after
  behind_own c j w = ⊎_elim
      (λ (e : answer_to c σ ≡ done). behind_by c done _ _ e (own_sets c j cs w) (own_sets c j ds w)
      (like_set cs ds all j _ _ (like_own c (get_or cs j fresh) (get_or ds j fresh) (all.1 j))))
      (λ (e : (n : ℕ) × (m : ℕ) × (answer_to c σ ≡ Calls.refused n m)). behind_by c (Calls.refused e.0 e.1) cs ds e.2 refl refl all)
      (own_either c j σ four w)

  behind_serve : (out : List ℕ) → LikeAll (after (serve out) σ).callers (after (serve out) τ).callers
  unfolding answer_to served_to next_asking callers_after asks seat_of
  behind_serve out = ⊎_elim
      (λ (e : serve_answer cs σ.last out ≡ Calls.refused 22 0). behind_by (serve out) (Calls.refused 22 0) cs ds e refl refl all)
      (λ (e : serve_answer cs σ.last out ≡ served_to cs (next_asking cs σ.last)). go (next_asking cs σ.last) refl e)
      (serve_either cs σ.last out four)
    where
      taken : (m : ℕ) → asks (seat_of cs m) ≡ true → serve_answer cs σ.last out ≡ handed_to m (for_seat (seat_of cs m)) → Like (get_or cs m fresh) (get_or ds m fresh) →
          LikeAll (after (serve out) σ).callers (after (serve out) τ).callers
      taken m h e (inl q) = behind_by (serve out) (handed_to m (for_seat (seat_of cs m))) _ _ e (handed_leaves cs out m (for_seat (seat_of cs m))) (handed_leaves ds out m (for_seat (seat_of cs m)))
          (like_set cs ds all m _ _ (inl (ap (λ (r : Caller). served r (for_seat (seat_of cs m))) q)))
      taken m h e (inr q) = absurd (false≢true (sym (ap asks q.0) ∙ h))

      go : (o : Option ℕ) → next_asking cs σ.last ≡ o → serve_answer cs σ.last out ≡ served_to cs o → LikeAll (after (serve out) σ).callers (after (serve out) τ).callers
      go none q e = behind_by (serve out) idle cs ds e refl refl all
      go (some m) q e = taken m (find_passes (λ k. asks (seat_of cs k)) (in_turn σ.last) m q) e (all.1 m)

  behind : (c : Call) → LikeAll (after c σ).callers (after c τ).callers
  unfolding whose
  behind (open_for j f) = behind_own (open_for j f) j refl
  behind (ask_for j) = behind_own (ask_for j) j refl
  behind (serve out) = behind_serve out
  behind (close_for j) = behind_own (close_for j) j refl
  behind (set_mark j n) = behind_own (set_mark j n) j refl
  behind (return_to j n) = behind_own (return_to j n) j refl
  behind (forget j n) = behind_own (forget j n) j refl

  behind_last : (c : Call) → (after c σ).last ≡ (after c τ).last
  unfolding after
  behind_last c = ap₂ last_after (same_answer c) last

-- ---- every list of calls
same_answers : (calls : List Call) (σ τ : Shared) → Four σ.callers → LikeAll σ.callers τ.callers → σ.last ≡ τ.last → answers calls σ ≡ answers calls τ
unfolding answers
same_answers [] σ τ h l e = refl
same_answers (c ∷ cs) σ τ h l e = ap₂ (λ (a : Answer) (l : List Answer). a ∷ l) (same_answer σ τ h l e c)
    (same_answers cs (after c σ) (after c τ) (four_after c σ h) (behind σ τ h l e c) (behind_last σ τ h l e c))

pub closed_empty : (σ : Shared) (k : ℕ) (calls : List Call) → Four σ.callers → seat_of σ.callers k ≡ closed →
    answers calls (record { callers = set σ.callers k fresh; last = σ.last }) ≡ answers calls σ
unfolding seat_of
closed_empty σ k calls h e =
    let cs = σ.callers in
    same_answers calls (record { callers = set cs k fresh; last = σ.last }) σ (length-set cs k fresh ∙ h)
    (subst (λ (l : List Caller). LikeAll (set cs k fresh) l) (set-get_or cs k fresh) (like_set cs cs (refl, λ j. inl refl) k fresh (get_or cs k fresh) (inr (reading_fresh, e)))) refl
