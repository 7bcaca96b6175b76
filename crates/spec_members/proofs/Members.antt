-- ALL THAT IS PROMISED OF MEMBERS AND THEIR NUMBERS, of a model whose list has fewer than 2^64 members, as under sequential consistency.
use Prim.Native.Nat.{ℕ, ◌^◌, ◌%◌, ◌<◌, ◌≤◌}
use mathlib.Core.Path.{◌≡◌, refl, sym, ap, subst, ◌∙◌}
use mathlib.Core.Logic.{◌↔◌}
use mathlib.Core.Bool.{Bool, true, false}
use mathlib.Core.Option.{Option, none, some}
use mathlib.Core.List.{List}
use native.Mathlib.Nat.{mod-eq_of_lt}
use native.Mathlib.Omega.{arith}
use lib.ListN.{length}
use borrow.Author.Tests.{le-ltb}
use Rattle.spec_file.specs.Over.{over}
use Rattle.spec_file.specs.Program.{Program}
use Rattle.spec_file.specs.Decode.{accepted, decode}
use Rattle.spec_file.proofs.AcceptedWellFormed.{accepted_well_formed}
use Rattle.spec_schedules.specs.Order.{Schedule, less}
use Rattle.spec_schedules.specs.Calls.{Answer, found, nomore, refused, answer_to, short, content, Result, member}
use Rattle.spec_schedules.proofs.Kept.{filter_length}
use Rattle.spec_schedules.proofs.Offered.{content_found, content_nomore}
use Rattle.spec_schedules.proofs.Offered as Offered
use Rattle.spec_calls.proofs.Answered.{answer_none, answer_some}
use Rattle.spec_model.specs.Model.{Model, Full}
use Rattle.spec_model.specs.Laws.{Laws}
use Rattle.spec_model.specs.Alike.{Listed, list_of}
use Rattle.spec_model.specs.OnFile.{admit}
use Rattle.spec_model.proofs.TheList.{list_ascends, list_exact}
use Rattle.spec_sc.specs.Sequential.{sc}
use Rattle.spec_sc.proofs.Laws.{sc_laws}
use Rattle.spec_sc.proofs.Admits.{sc_admits}
use Rattle.spec_sc.proofs.TheList.{list_fits}
use Rattle.spec_members.specs.Kth.{kth_of, kth_file}
use Rattle.spec_members.specs.Rank.{Ranked, ranked, smaller, rank_file}
use Rattle.spec_members.specs.Members.{Members}
use Rattle.spec_members.proofs.Numbered.{member_in, in_member, member_ends, member_number}
use Rattle.spec_members.proofs.Called.{kth_listed, rank_listed, rank_full}

-- ---- what the call on a program says, by the member that there is
module _ (M : Model) (p : Program) (k : ℕ) (out : List ℕ) where
  pub kth_found : (s : Schedule) → M.need ≤ length out → member (list_of M p) k ≡ some s → kth_of M p k out ≡ (found s, over s out)
  unfolding kth_of
  kth_found s h e = let a = answer_some M.need out (member (list_of M p) k) s h e in
      ap {B = Result} (λ (x : Answer). (x, content x out)) a ∙ ap {B = Result} (λ (l : List ℕ). (found s, l)) (content_found s out)

  pub kth_none : M.need ≤ length out → member (list_of M p) k ≡ none → kth_of M p k out ≡ (nomore, out)
  unfolding kth_of
  kth_none h e = let a = answer_none M.need out (member (list_of M p) k) h e in
      ap {B = Result} (λ (x : Answer). (x, content x out)) a ∙ ap {B = Result} (λ (l : List ℕ). (nomore, l)) (content_nomore out)

  answer : (kth_of M p k out).0 ≡ answer_to (short M.need out) (member (list_of M p) k)
  unfolding kth_of
  answer = refl

  -- and the other way round
  found_member : (s : Schedule) → (kth_of M p k out).0 ≡ found s → member (list_of M p) k ≡ some s
  found_member s e = go (short M.need out) (member (list_of M p) k) refl refl
    where
      go : (b : Bool) (o : Option Schedule) → short M.need out ≡ b → member (list_of M p) k ≡ o → member (list_of M p) k ≡ some s
      go true o q m = absurd (let z = sym (ap (λ (x : Bool). answer_to x (member (list_of M p) k)) q ∙ Offered.answer_short (member (list_of M p) k)) ∙ sym answer ∙ e in let y : ◌≡◌ {A = ℕ} 0 1 = cc in omega arith)
      go false none q m = absurd (let z = sym (ap (λ (x : Bool). answer_to x (member (list_of M p) k)) q ∙ ap (answer_to false) m ∙ Offered.answer_none) ∙ sym answer ∙ e in let y : ◌≡◌ {A = ℕ} 0 1 = cc in omega arith)
      go false (some r) q m =
          let z = sym (ap (λ (x : Bool). answer_to x (member (list_of M p) k)) q ∙ ap (answer_to false) m ∙ Offered.answer_some r) ∙ sym answer ∙ e in
          let i : r ≡ s = cc in
          m ∙ ap (λ (x : Schedule). some x) i

  none_member : (kth_of M p k out).0 ≡ nomore → member (list_of M p) k ≡ none
  none_member e = go (short M.need out) (member (list_of M p) k) refl refl
    where
      go : (b : Bool) (o : Option Schedule) → short M.need out ≡ b → member (list_of M p) k ≡ o → member (list_of M p) k ≡ none
      go true o q m = absurd (let z = sym (ap (λ (x : Bool). answer_to x (member (list_of M p) k)) q ∙ Offered.answer_short (member (list_of M p) k)) ∙ sym answer ∙ e in let y : ◌≡◌ {A = ℕ} 0 1 = cc in omega arith)
      go false none q m = m
      go false (some r) q m = absurd (let z = sym (ap (λ (x : Bool). answer_to x (member (list_of M p) k)) q ∙ ap (answer_to false) m ∙ Offered.answer_some r) ∙ sym answer ∙ e in let y : ◌≡◌ {A = ℕ} 0 1 = cc in omega arith)

module _ (M : Model) (L : Laws M) (file : List ℕ) (p : Program) (e : admit M (decode file) ≡ accepted p) (fits : length (list_of M p) < 2 ^ 64) where
  abbrev l : List Schedule
  l = list_of M p

  is_listed : (k : ℕ) (s : Schedule) → member l k ≡ some s → Listed M p s
  is_listed k s m = (list_exact M L p s).0 (member_in l k s m)

  numbered : (k : ℕ) (s : Schedule) → member l k ≡ some s → length (smaller M p s) ≡ k
  unfolding smaller
  numbered k s m = member_number l (list_ascends M L p) k s m

  few : (s : Schedule) → length (smaller M p s) < 2 ^ 64
  unfolding smaller
  few s = omega (arith, filter_length (λ w. less w s) l, fits)

  exactly : (s : Schedule) → Full M p s → rank_file M file s ≡ ranked (length (smaller M p s))
  exactly s f = rank_listed M file p e s ∙ rank_full M p s f ∙ ap ranked (mod-eq_of_lt (few s))

  abbrev One : Schedule → Type 0
  One s = (k : ℕ) × (member l k ≡ some s) × ((j : ℕ) → member l j ≡ some s → j ≡ k)

  one : (s : Schedule) → Listed M p s → One s
  one s i = let r = in_member l s ((list_exact M L p s).1 i) in (r.0, r.1, λ j m. sym (numbered j s m) ∙ numbered r.0 s r.1)

  pub members : Members M file p
  members = record {
    listed = is_listed;
    ends = λ k. member_ends l k;
    once = one;
    number = numbered;
    exact = exactly;
    no_more = λ out h k. (
      (λ q. (member_ends l k).0 (none_member M p k out (ap (λ (r : Result). r.0) (sym (kth_listed M file p e k out) ∙ q)))),
      λ q. kth_listed M file p e k out ∙ kth_none M p k out h ((member_ends l k).1 q),
    );
    rank_of_kth = λ out k s q.
        let m = found_member M p k out s (ap (λ (r : Result). r.0) (sym (kth_listed M file p e k out)) ∙ q) in
        exactly s (is_listed k s m).0 ∙ ap ranked (numbered k s m);
    kth_of_rank = λ out h s i n q.
        let r = one s i in
        let z = sym (exactly s i.0) ∙ q in
        let y : length (smaller M p s) ≡ n = cc in
        kth_listed M file p e n out ∙ kth_found M p n out s h (subst (λ (j : ℕ). member l j ≡ some s) (sym (numbered r.0 s r.1) ∙ y) r.1);
  }

-- UNDER SEQUENTIAL CONSISTENCY
pub sc_members : (file : List ℕ) (p : Program) → decode file ≡ accepted p → Members sc file p
sc_members file p e = let h = list_fits p (accepted_well_formed file p e) in members sc sc_laws file p (sc_admits (decode file) ∙ e) (omega (arith, h))
