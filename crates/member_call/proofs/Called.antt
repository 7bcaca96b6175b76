-- What the two calls answer and leave in the scratch: of a file that is refused, of one whose list has the member or has not so many, and of a schedule that is
-- refused or ranked.
use Prim.Native.Nat.{ℕ, ◌^◌, ◌%◌, ◌<◌, ◌≤◌}
use mathlib.Core.Path.{◌≡◌, refl, sym, ap, ◌∙◌}
use mathlib.Core.Bool.{Bool, false}
use mathlib.Core.Option as Math
use mathlib.Core.Option.{none, some}
use Rattle.std.specs.Prelude.{Option, Result, Ok, Err, ⊤}
use Rattle.spec_file.specs.declared.refusal.Refusal.{Refusal}
use mathlib.Core.List.{List}
use lib.ListN.{length}
use borrow.Author.Tests.{le-ltb}
use Rattle.spec_file.specs.Program.{Program}
use Rattle.spec_file.specs.Decode.{accepted, decode}
use Rattle.spec_file.specs.Decode as File
use Rattle.spec_schedules.specs.Order.{Schedule}
use Rattle.spec_schedules.specs.Calls.{Answer, refused, answer_to, content, member}
use Rattle.spec_schedules.specs.Calls.{Result as Called}
use Rattle.spec_schedules.proofs.Offered.{content_refused}
use Rattle.spec_calls.specs.Scratch.{zeros}
use Rattle.spec_calls.proofs.Answered.{answer_short}
use Rattle.spec_model.specs.Model.{Model, Full}
use Rattle.spec_model.specs.Alike.{list_of}
use Rattle.spec_model.specs.OnFile.{admit}
use Rattle.spec_model.specs.Answers.{refuses_from}
use Rattle.spec_model.proofs.Refusing.{goes_full}
use Rattle.spec_members.specs.Kth.{kth_of, kth_file}
use Rattle.spec_members.specs.Rank.{Ranked, smaller, rank_by, rank_of, rank_file}
use Rattle.spec_members.specs.Said.{kth_scratch, rank_scratch}
use Rattle.spec_members.proofs.Called.{kth_refused, kth_listed, rank_refused, rank_full}
use Rattle.machine_replay.specs.Carried.{refusal_of}
use Rattle.listing.specs.AnswerOf.{length_of, list_answer_of}
use Rattle.listing.proofs.FileCalls.{found_answer}
use Rattle.member_call.specs.RankWord.{rank_answer_of}

-- ---- the member number k
-- what a call gives, leaves in its output, and leaves in its scratch
abbrev pub Gives : Called → Result (Option ℕ) Refusal → List ℕ → List ℕ → List ℕ → Type 0
Gives r answer later scratch scratch' = (answer ≡ list_answer_of r.0) × (later ≡ r.1) × (scratch' ≡ kth_scratch r.0 scratch)

-- a refusal
gives_refused : (r : Refusal) (out scratch : List ℕ) → Gives (refused r.number r.place, out) (Err r) out scratch scratch
unfolding list_answer_of kth_scratch
gives_refused r out scratch = (refl, refl, refl)

gives_by : (r q : Called) (a : Result (Option ℕ) Refusal) (later scratch scratch' : List ℕ) → r ≡ q → Gives q a later scratch scratch' → Gives r a later scratch scratch'
gives_by r q a later scratch scratch' e g =
    (g.0 ∙ ap (λ (x : Called). list_answer_of x.0) (sym e), g.1 ∙ ap (λ (x : Called). x.1) (sym e), g.2 ∙ ap (λ (x : Called). kth_scratch x.0 scratch) (sym e))

zeros_answered : (o : Math.Option Schedule) (scratch : List ℕ) → zeros scratch ≡ kth_scratch (answer_to false o) scratch
unfolding answer_to kth_scratch
zeros_answered none scratch = refl
zeros_answered (some s) scratch = refl

module _ (M : Model) (file : List ℕ) (k : ℕ) (out scratch : List ℕ) where
  pub file_refused : (r : Refusal) → admit M (decode file) ≡ File.refused r.number r.place → Gives (kth_file M file k out) (Err r) out scratch scratch
  file_refused r e = gives_by (kth_file M file k out) (refused r.number r.place, out) (Err r) out scratch scratch (kth_refused M file r.number r.place e k out) (gives_refused r out scratch)

  module _ (p : Program) (e : admit M (decode file) ≡ accepted p) where
    pub file_short : length out < M.need → Gives (kth_file M file k out) (Err (record { number = 22; place = 0 })) out scratch scratch
    unfolding kth_of
    file_short h =
        let a = answer_short M.need out (member (list_of M p) k) h in
        let q : kth_of M p k out ≡ (refused 22 0, out) = ap {B = Called} (λ (x : Answer). (x, content x out)) a ∙ ap {B = Called} (λ (l : List ℕ). (refused 22 0, l)) (content_refused 22 0 out) in
        gives_by (kth_file M file k out) (refused 22 0, out) _ out scratch scratch (kth_listed M file p e k out ∙ q) (gives_refused (record { number = 22; place = 0 }) out scratch)

    pub file_kth : M.need ≤ length out → (o : Math.Option Schedule) → o ≡ member (list_of M p) k → (r : Option ℕ) (later scratch' : List ℕ) → r ≡ length_of o → later ≡ content (answer_to false o) out
        → scratch' ≡ zeros scratch → Gives (kth_file M file k out) (Ok r) later scratch scratch'
    unfolding kth_of
    file_kth h o w r later scratch' er el es =
        let q : kth_of M p k out ≡ (answer_to false o, content (answer_to false o) out) =
        ap {B = Called} (λ (b : Bool). (answer_to b (member (list_of M p) k), content (answer_to b (member (list_of M p) k)) out)) (le-ltb (length out) M.need h)
        ∙ ap {B = Called} (λ (x : Math.Option Schedule). (answer_to false x, content (answer_to false x) out)) (sym w) in
        gives_by (kth_file M file k out) (answer_to false o, content (answer_to false o) out) (Ok r) later scratch scratch' (kth_listed M file p e k out ∙ q)
        (ap Ok er ∙ found_answer o, el, es ∙ zeros_answered o scratch)

-- ---- the number of a schedule
-- what a call gives, and leaves in its scratch
module _ (M : Model) (s : Schedule) (scratch : List ℕ) where
  pub rank_file_refused : (file : List ℕ) (r : Refusal) → admit M (decode file) ≡ File.refused r.number r.place → (Err r ≡ rank_answer_of (rank_file M file s)) × (scratch ≡ rank_scratch (rank_file M file s) scratch)
  unfolding rank_answer_of rank_scratch
  rank_file_refused file r e = let q = sym (rank_refused M file r.number r.place e s) in (ap rank_answer_of q, ap (λ (x : Ranked). rank_scratch x scratch) q)

  module _ (p : Program) (v : Result ⊤ Refusal) (held : refusal_of v ≡ refuses_from M.system 0 (M.start p) s) where
    told : rank_of M p s ≡ rank_by M p s (refusal_of v)
    unfolding rank_of
    told = ap (rank_by M p s) (sym held)

    pub rank_stopped : (r : Refusal) → v ≡ Err r → (Err r ≡ rank_answer_of (rank_of M p s)) × (scratch ≡ rank_scratch (rank_of M p s) scratch)
    unfolding rank_by refusal_of rank_answer_of rank_scratch
    rank_stopped r e = let q = sym (told ∙ ap (λ (x : Result ⊤ Refusal). rank_by M p s (refusal_of x)) e) in (ap rank_answer_of q, ap (λ (x : Ranked). rank_scratch x scratch) q)

    pub whole_full : v ≡ Ok tt → Full M p s
    unfolding refusal_of
    whole_full e = goes_full M.system s 0 (M.start p) (sym held ∙ ap refusal_of e)

    pub rank_whole : v ≡ Ok tt → (n : ℕ) → n ≡ length (smaller M p s) % 2 ^ 64 → (Ok n ≡ rank_answer_of (rank_of M p s)) × (zeros scratch ≡ rank_scratch (rank_of M p s) scratch)
    unfolding rank_answer_of rank_scratch
    rank_whole e n h = let q = sym (rank_full M p s (whole_full e)) in (ap Ok h ∙ ap rank_answer_of q, ap (λ (r : Ranked). rank_scratch r scratch) q)
