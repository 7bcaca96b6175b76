-- What the calls on members say fits their words, whatever they are lent, in both memory models; and a word of kind 1 for the member number k tells
-- how many bytes stand in front of the output: they are the member, and the bytes behind them keep their value.
use Prim.Native.Nat.{ℕ, ◌+◌}
use mathlib.Core.Path.{◌≡◌, refl, sym, ap, subst, ◌∙◌}
use mathlib.Core.Bool.{Bool, true, false}
use mathlib.Core.Option.{Option, none, some}
use mathlib.Core.List.{List}
use native.Mathlib.Omega.{arith}
use borrow.Author.Tests.{ltb-false}
use lib.ListN.{length}
use Rattle.spec_file.specs.Program.{Program}
use Rattle.spec_file.specs.Decode.{Decoded, accepted, decode}
use Rattle.spec_file.specs.Decode as File
use Rattle.spec_schedules.specs.Order.{Schedule}
use Rattle.spec_schedules.specs.Calls.{Answer, found, answer_to, short, content, member}
use Rattle.spec_schedules.proofs.Offered.{answer_short, answer_none, answer_some, content_found}
use Rattle.spec_model.specs.Model as Memory
use Rattle.spec_model.specs.Laws.{Laws, Admitted}
use Rattle.spec_model.specs.Alike.{list_of}
use Rattle.spec_model.specs.Answers.{refuses_from}
use Rattle.spec_model.specs.OnFile.{admit}
use Rattle.spec_model.proofs.Admitted.{listed_program}
use Rattle.spec_model.proofs.Answered.{Small, refuses_small, Within, Stands}
use Rattle.listing_model.specs.declared.memory.Model.{Model}
use Rattle.listing_model.specs.ModelOf.{model_of}
use Rattle.listing_model.proofs.ModelLaws.{model_laws}
use Rattle.listing_model.proofs.SmallRefusals.{steps_48, refused_small}
use Rattle.listing.specs.Demand3.{InFront}
use Rattle.listing.proofs.Standing.{in_front}
use Rattle.spec_calls.specs.Word.{Fits, word_of}
use Rattle.spec_calls.specs.Listed.{listed}
use Rattle.spec_calls.proofs.Words.{kind_one}
use Rattle.spec_members.specs.Kth.{kth_of, kth_on, kth_file}
use Rattle.spec_members.specs.Rank.{rank_by, rank_of, rank_on, rank_file}
use Rattle.spec_members.specs.Said.{rank_reply}
use Rattle.spec_members.proofs.Numbered.{member_in}
use Rattle.c_listing.proofs.Fitting.{answer_fits}
use Rattle.c_listing.proofs.InOutput.{listed_found}
use Rattle.c_listing.proofs.InOutput as Output

module _ (m : Model) where
  abbrev M : Memory.Model
  M = model_of m

  abbrev L : Laws M
  L = model_laws m

  -- what is answered is a member of the list, with room for it, or a small refusal
  kth_within : (p : Program) (k : ℕ) (out : List ℕ) → Within M p out (kth_of M p k out).0
  unfolding kth_of
  kth_within p k out = go (short M.need out) refl (member (list_of M p) k) refl
    where
      go : (b : Bool) → short M.need out ≡ b → (o : Option Schedule) → member (list_of M p) k ≡ o → Within M p out (answer_to b o)
      go true e o q = subst (Within M p out) (sym (answer_short o)) (omega arith, omega arith)
      go false e none q = subst (Within M p out) (sym answer_none) tt
      go false e (some s) q = subst (Within M p out) (sym (answer_some s)) (member_in (list_of M p) k s q, ltb-false (length out) M.need e)

  kth_content : (p : Program) (k : ℕ) (out : List ℕ) → (kth_of M p k out).1 ≡ content (kth_of M p k out).0 out
  unfolding kth_of
  kth_content p k out = refl

  rank_small : (p : Program) → Admitted M p → (s : Schedule) → Fits (rank_reply (rank_of M p s))
  unfolding rank_of rank_by rank_reply
  rank_small p a s = go (refuses_from M.system 0 (M.start p) s) (refuses_small M.system L.steps.lawful s 0 (M.start p))
    where
      go : (r : Option (ℕ × ℕ)) → Small 21 (0 + M.system.size (M.start p)) r → Fits (rank_reply (rank_by M p s r))
      go none h = omega arith
      go (some r) h = (omega (arith, h.0), omega (arith, h.1, (L.program p a).bound, steps_48 m))

  module _ (file : List ℕ) where
    -- THE MEMBER NUMBER k
    pub kth_fits : (k : ℕ) (out : List ℕ) → Fits (listed (kth_file M file k out).0)
    unfolding kth_on listed
    kth_fits k out = go (admit M (decode file)) refl
      where
        go : (d : Decoded) → admit M (decode file) ≡ d → Fits (listed (kth_on M d k out).0)
        go (accepted p) e = answer_fits m p (listed_program M L file p e) out (kth_of M p k out).0 (kth_within p k out)
        go (File.refused i j) e = refused_small m file i j e

    kth_stands : (k : ℕ) (out : List ℕ) (s : Schedule) → (kth_file M file k out).0 ≡ found s → InFront s out (kth_file M file k out).1
    unfolding kth_on
    kth_stands k out s = go (admit M (decode file)) refl
      where
        go : (d : Decoded) → admit M (decode file) ≡ d → (kth_on M d k out).0 ≡ found s → InFront s out (kth_on M d k out).1
        go (accepted p) e q =
            let r = subst (Within M p out) q (kth_within p k out) in
            in_front M L p (listed_program M L file p e) s out _ (r.0, r.1, kth_content p k out ∙ ap (λ (a : Answer). content a out) q ∙ content_found s out)
        go (File.refused i j) e q = absurd (let z : ◌≡◌ {A = ℕ} 0 1 = cc in omega arith)

    -- it stands in the output
    pub kth_in_output : (k : ℕ) (out : List ℕ) →
        Output.Stands (word_of (listed (kth_file M file k out).0)) out (kth_file M file k out).1 (λ s. (kth_file M file k out).0 ≡ found s)
    kth_in_output k out e =
        let f = listed_found (kth_file M file k out).0 _ (kind_one (listed (kth_file M file k out).0) (kth_fits k out) e) in
        (f.0, f.1, f.2, kth_stands k out f.0 f.1)

    -- THE NUMBER OF A SCHEDULE, of whatever schedule
    pub rank_fits : (s : Schedule) → Fits (rank_reply (rank_file M file s))
    unfolding rank_on rank_reply
    rank_fits s = go (admit M (decode file)) refl
      where
        go : (d : Decoded) → admit M (decode file) ≡ d → Fits (rank_reply (rank_on M d s))
        go (accepted p) e = rank_small p (listed_program M L file p e) s
        go (File.refused i j) e = refused_small m file i j e
