-- What there is for a record, way by way of the code.
use Rattle.std.proofs.Common.{◌≡◌, ℕ, ◌<◌, ◌≤◌, Bool, true, false, cond, eqb, List, [], ◌∷◌, length, take, replicate, sym, refl, ap, ◌∙◌, subst, arith, le-ltb, lt-ltb, eq-eqb, ne_eqb}
use mathlib.Core.Option.{Option, none, some}
use Rattle.std.specs.Prelude.{Some, None, Ok, Err}
use Rattle.std.specs.Prelude as Code
use Rattle.spec_file.specs.Program.{Program}
use Rattle.spec_file.specs.WellFormed.{WellFormed}
use Rattle.spec_file.specs.Decode.{Decoded, accepted, decode}
use Rattle.spec_file.specs.Decode as File
use Rattle.spec_file.proofs.AcceptedWellFormed.{accepted_well_formed}
use Rattle.spec_schedules.specs.Lists.{head_of}
use Rattle.spec_schedules.specs.Order.{Schedule}
use Rattle.spec_schedules.specs.Calls.{Answer, found, nomore, refused, answer_to, content, offer, short}
use Rattle.spec_schedules.proofs.After.{offer_after}
use Rattle.spec_sc.specs.State.{SC, start}
use Rattle.spec_sc.specs.Replay.{Replayed, whole, replay}
use Rattle.spec_sc.specs.Replay as Replay
use Rattle.spec_sc.proofs.Lawful.{at_most_24}
use Rattle.spec_model.specs.Alike.{list_of}
use Rattle.spec_model.specs.Answers.{start_of, continued, continue_of, refuses_from}
use Rattle.spec_model.specs.OnFile.{admit, start_on, start_file, continue_on, continue_file}
use Rattle.spec_sc.specs.Sequential.{sc}
use Rattle.spec_sc.proofs.Admits.{sc_admits}
use Rattle.spec_sc.proofs.Refused.{refusal_of, refuses_replayed}
use Rattle.listing.specs.AnswerOf.{list_answer_of}
use Rattle.spec_file.specs.declared.refusal.Refusal.{Refusal}
use Rattle.spec_service.specs.declared.caller.Caller.{Caller}
use Rattle.spec_service.specs.Seat.{Place, beginning, behind, end, to_come, Seat, closed, active}
use Rattle.spec_service.specs.Record.{file_read, behind_full, place_of, seated, reading}
use Rattle.spec_service.specs.Call.{for_seat}
use Rattle.spec_service.proofs.Fates.{come_full}
use Rattle.spec_service.proofs.Readings.{active_formed}
use Rattle.spec_file.proofs.Over.{length_over}
use Rattle.service_record.specs.declared.next.Next.{Next}
use Rattle.service_record.specs.Next.{next_of, found_in, Short}
use Rattle.service_record.proofs.Opened.{read_long, read_file, read_refused, read_accepted}

-- ---- what a call of the listing gave
-- a schedule, of this many steps
pub by_found : (n : ℕ) (out : List ℕ) (x : Answer) → Ok (Some n) ≡ list_answer_of x → out ≡ content x (replicate 24 0) → Short x
    → (n ≤ 24) × (Some (record { steps = n; schedule = out }) ≡ next_of (found_in x))
unfolding list_answer_of content next_of found_in
by_found n out (found s) e q h =
    let m : n ≡ length s = cc in
    (omega (arith, m, h), λ i. Some (record { steps = m i; schedule = q i }))
by_found n out nomore e q h = cc
by_found n out (refused m k) e q h = cc

pub by_none : (x : Answer) → Ok None ≡ list_answer_of x → None ≡ next_of (found_in x)
unfolding list_answer_of next_of found_in
by_none (found s) e = cc
by_none nomore e = refl
by_none (refused m k) e = cc

pub by_refused : (r : Refusal) (x : Answer) → Err r ≡ list_answer_of x → None ≡ next_of (found_in x)
unfolding list_answer_of next_of found_in
by_refused r (found s) e = cc
by_refused r nomore e = cc
by_refused r (refused m j) e = refl

-- the output behind start and continue is what their answer leaves
pub start_content : (file out : List ℕ) → (start_file sc file out).1 ≡ content (start_file sc file out).0 out
unfolding start_on start_of
start_content file out = go (admit sc (decode file))
  where
    go : (d : Decoded) → (start_on sc d out).1 ≡ content (start_on sc d out).0 out
    go (accepted p) = refl
    go (File.refused n k) = refl

pub continue_content : (file : List ℕ) (s : Schedule) (out : List ℕ) → (continue_file sc file s out).1 ≡ content (continue_file sc file s out).0 out
unfolding continue_on continue_of
continue_content file s out = go (admit sc (decode file))
  where
    go : (d : Decoded) → (continue_on sc d s out).1 ≡ content (continue_on sc d s out).0 out
    go (accepted p) = refl
    go (File.refused n k) = refl

-- what an answer found, where the output has room
found_answer : (o : Option Schedule) → found_in (answer_to false o) ≡ o
unfolding found_in answer_to
found_answer none = refl
found_answer (some s) = refl

-- it has at most 24 steps where what there is has
short_answer : (o : Option Schedule) → ((s : Schedule) → o ≡ some s → length s ≤ 24) → Short (answer_to false o)
unfolding answer_to
short_answer none h = tt
short_answer (some s) h = h s refl

-- the first of what is yet to come has at most 24 steps
come_short : (p : Program) → WellFormed p → (x : Place) (s : Schedule) → head_of (to_come p x) ≡ some s → length s ≤ 24
unfolding head_of
come_short p w x s e = go (to_come p x) refl e
  where
    go : (l : List Schedule) → to_come p x ≡ l → head_of l ≡ some s → length s ≤ 24
    go [] q h = let z : ◌≡◌ {A = ℕ} 0 1 = cc in absurd (omega arith)
    go (y ∷ ys) q h = let k : y ≡ s = cc in at_most_24 p w s (come_full p x s ys (q ∙ ap (λ (v : Schedule). v ∷ ys) k))

-- ---- of a record that is read as this program at this place
seat_at : (c : Caller) (p : Program) (x : Place) → file_read c ≡ accepted p → place_of p c.place c.steps c.schedule ≡ some x → for_seat (reading c) ≡ head_of (to_come p x)
unfolding for_seat seated
seat_at c p x e q = ap for_seat (read_accepted c p e ∙ ap (λ (o : Option Place). seated p o c.asking) q)

seat_none : (c : Caller) (p : Program) → file_read c ≡ accepted p → place_of p c.place c.steps c.schedule ≡ none → for_seat (reading c) ≡ none
unfolding for_seat seated
seat_none c p e q = ap for_seat (read_accepted c p e ∙ ap (λ (o : Option Place). seated p o c.asking) q)

seat_refused : (c : Caller) (n k : ℕ) → file_read c ≡ File.refused n k → for_seat (reading c) ≡ none
unfolding for_seat
seat_refused c n k e = ap for_seat (read_refused c n k e)

-- what the listing found is what there is for the record, and short
abbrev Gives : Caller → Answer → Type 0
Gives c a = (found_in a ≡ for_seat (reading c)) × Short a

gives_none : (c : Caller) (n k : ℕ) → for_seat (reading c) ≡ none → Gives c (refused n k)
unfolding found_in
gives_none c n k e = (sym e, tt)

gives_head : (c : Caller) (p : Program) (x : Place) (o : Option Schedule) → WellFormed p → for_seat (reading c) ≡ head_of (to_come p x) → head_of (to_come p x) ≡ o → Gives c (answer_to false o)
gives_head c p x o w e q = (found_answer o ∙ sym q ∙ sym e, short_answer o (λ s h. come_short p w x s (q ∙ h)))

module _ (c : Caller) (l : c.length ≤ 4096) (file out : List ℕ) (part : file ≡ take c.length c.file) (room : out ≡ replicate 24 0) where
  read_part : file_read c ≡ decode file
  read_part = read_file c l ∙ sym (ap decode part)

  wide : short 24 out ≡ false
  wide = ap (short 24) room

  -- ---- at the beginning
  pub start_given : c.place ≡ 1 → Gives c (start_file sc file out).0
  unfolding start_on start_of to_come place_of offer
  start_given e = subst (λ (d : Decoded). Gives c (start_on sc d out).0) (sym (sc_admits (decode file))) (go (decode file) refl)
    where
      go : (d : Decoded) → decode file ≡ d → Gives c (start_on sc d out).0
      go (accepted p) q =
          let r : file_read c ≡ accepted p = read_part ∙ q in
          subst (λ (b : Bool). Gives c (answer_to b (head_of (list_of sc p)))) (sym wide)
          (gives_head c p beginning (head_of (list_of sc p)) (accepted_well_formed file p q) (seat_at c p beginning r (rw (eq-eqb c.place 1 e))) refl)
      go (File.refused n k) q = gives_none c n k (seat_refused c n k (read_part ∙ q))

  -- ---- behind a schedule
  module _ (s : Schedule) (e₂ : c.place ≡ 2) (few : c.steps ≤ 24) (is : s ≡ take c.steps c.schedule) where
    placed : (p : Program) → place_of p c.place c.steps c.schedule ≡ behind_full (replay p s) s
    unfolding place_of
    placed p = rw (e₂, le-ltb 24 c.steps few) (ap (λ (t : Schedule). behind_full (replay p t) t) (sym is))

    pub continue_given : Gives c (continue_file sc file s out).0
    unfolding continue_on continue_of to_come behind_full continued refusal_of
    continue_given = subst (λ (d : Decoded). Gives c (continue_on sc d s out).0) (sym (sc_admits (decode file))) (go (decode file) refl)
      where
        carried : (p : Program) → decode file ≡ accepted p → (r : Replayed) → replay p s ≡ r → Gives c (continued (refusal_of r) (offer (list_of sc p) (some s)))
        carried p q (whole σ) h =
            let r : file_read c ≡ accepted p = read_part ∙ q in
            gives_head c p (behind s) (offer (list_of sc p) (some s)) (accepted_well_formed file p q) (seat_at c p (behind s) r (placed p ∙ ap (λ (y : Replayed). behind_full y s) h)) (offer_after (some s) (list_of sc p))
        carried p q (Replay.refused n k) h = gives_none c n k (seat_none c p (read_part ∙ q) (placed p ∙ ap (λ (y : Replayed). behind_full y s) h))

        go : (d : Decoded) → decode file ≡ d → Gives c (continue_on sc d s out).0
        go (accepted p) q =
            subst (λ (b : Bool). Gives c (elim b [ true ↦ refused 22 0 | false ↦ continued (refuses_from SC 0 (start p) s) (offer (list_of sc p) (some s)) ])) (sym wide)
            (subst (λ (r : Option (ℕ × ℕ)). Gives c (continued r (offer (list_of sc p) (some s)))) (sym (refuses_replayed p s)) (carried p q (replay p s) refl))
        go (File.refused n k) q = gives_none c n k (seat_refused c n k (read_part ∙ q))

-- ---- where there is nothing
module _ (c : Caller) where
  pub none_long : 4096 < c.length → none ≡ for_seat (reading c)
  none_long l = sym (seat_refused c 1 0 (read_long c l))

  none_placed : ((p : Program) → place_of p c.place c.steps c.schedule ≡ none) → none ≡ for_seat (reading c)
  none_placed h = go (file_read c) refl
    where
      go : (d : Decoded) → file_read c ≡ d → none ≡ for_seat (reading c)
      go (accepted p) q = sym (seat_none c p q (h p))
      go (File.refused n k) q = sym (seat_refused c n k q)

  pub none_steps : c.place ≡ 2 → 24 < c.steps → none ≡ for_seat (reading c)
  unfolding place_of
  none_steps e l = none_placed (λ p. rw (e, lt-ltb 24 c.steps l))

  -- at the end, and where the place is none
  pub none_left : (c.place ≡ 1 → ⊥) → (c.place ≡ 2 → ⊥) → none ≡ for_seat (reading c)
  unfolding for_seat seated to_come head_of place_of
  none_left d e = go (file_read c) refl
    where
      ends : (p : Program) (b : Bool) → for_seat (seated p (cond b (some end) none) c.asking) ≡ none
      ends p true = refl
      ends p false = refl

      go : (f : Decoded) → file_read c ≡ f → none ≡ for_seat (reading c)
      go (accepted p) q = sym (ap for_seat (read_accepted c p q) ∙ rw (ne_eqb c.place 1 d, ne_eqb c.place 2 e) (ends p (eqb c.place 3)))
      go (File.refused n k) q = sym (seat_refused c n k q)

-- ---- what there is for a record fits 24 bytes
pub given_short : (c : Caller) (s : Schedule) → for_seat (reading c) ≡ some s → length s ≤ 24
unfolding for_seat
given_short c s e = go (reading c) refl e
  where
    go : (x : Seat) → reading c ≡ x → for_seat x ≡ some s → length s ≤ 24
    go closed q h = let z : ◌≡◌ {A = ℕ} 0 1 = cc in absurd (omega arith)
    go (active p x a) q h = come_short p (active_formed c p x a q) x s h

-- what there is for a record is none, or fits its memory
abbrev pub Fits : Code.Option Next → Type 0
Fits None = Unit {0}
Fits (Some n) = (n.steps ≤ 24) × (length n.schedule ≡ 24)

next_fits : (o : Option Schedule) → ((s : Schedule) → o ≡ some s → length s ≤ 24) → Fits (next_of o)
unfolding next_of
next_fits none h = tt
next_fits (some s) h = (h s refl, length_over s (replicate 24 0) (h s refl))

pub next_small : (c : Caller) (x : Code.Option Next) → x ≡ next_of (for_seat (reading c)) → Fits x
next_small c x e = subst Fits (sym e) (next_fits (for_seat (reading c)) (given_short c))
