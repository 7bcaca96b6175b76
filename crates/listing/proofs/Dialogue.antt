-- A list of calls on one file that the model lists is a walk through its list: a schedule that was answered is listed, so full, and a
-- continue from a full schedule is not refused for it.
use Rattle.std.proofs.Common.{◌≡◌, ℕ, List, [], ◌∷◌, sym, ◌∙◌, subst}
use mathlib.Core.Option.{Option, none, some}
use Rattle.spec_file.specs.Program.{Program}
use Rattle.spec_file.specs.Decode.{accepted, decode}
use Rattle.spec_schedules.specs.Order.{Schedule}
use Rattle.spec_schedules.specs.Calls.{offer, short, Result, called, last, due}
use Rattle.spec_schedules.proofs.CallTerms.{Dialogue}
use Rattle.spec_schedules.proofs.Calls.{dialogue_answers}
use Rattle.spec_schedules.proofs.Offered.{offer_in, last_answer}
use Rattle.spec_model.specs.Model.{Model, Full}
use Rattle.spec_model.specs.Laws.{Laws}
use Rattle.spec_model.specs.Alike.{list_of}
use Rattle.spec_model.specs.OnFile.{admit}
use Rattle.spec_model.proofs.TheList.{list_ascends, list_exact}
use Rattle.spec_model.proofs.Calls.{continue_file_lem, start_file_lem}
use Rattle.listing.specs.Demand3.{call, Called}

module _ (M : Model) (p : Program) where
  -- nothing answered yet, or a full schedule
  abbrev Known : Option Schedule → Type 0
  Known none = Unit {0}
  Known (some s) = Full M p s

module _ (M : Model) (L : Laws M) (file : List ℕ) (p : Program) (e : admit M (decode file) ≡ accepted p) where
  -- behind an answer too
  known_next : (o : Option Schedule) → Known M p o → (out : List ℕ) → Known M p (last o (called M.need (list_of M p) o out).0)
  known_next o k out = last_answer (Full M p) (Known M p) (λ s f. f) (short M.need out) (offer (list_of M p) o) o k (λ s q. ((list_exact M L p s).0 (offer_in (list_of M p) o s q)).0)

  call_called : (o : Option Schedule) → Known M p o → (out : List ℕ) → call M file o out ≡ called M.need (list_of M p) o out
  call_called none k out = start_file_lem M L file p e out
  call_called (some s) k out = continue_file_lem M L file p e s k out

  dialogue : (outs : List (List ℕ)) (o : Option Schedule) (rs : List Result) → Known M p o → Called M file o outs rs → Dialogue M.need (list_of M p) o outs rs
  dialogue [] o [] k d = tt
  dialogue [] o (r ∷ rs) k d = d
  dialogue (out ∷ outs) o [] k d = d
  dialogue (out ∷ outs) o (r ∷ rs) k d =
      let q = d.0 ∙ call_called o k out in
      (q, dialogue outs (last o r.0) rs (subst (λ (x : Result). Known M p (last o x.0)) (sym q) (known_next o k out)) d.1)

  -- THE CALLS give what is due
  pub calls_due : (outs : List (List ℕ)) (rs : List Result) → Called M file none outs rs → rs ≡ due M.need (list_of M p) outs
  calls_due outs rs d = dialogue_answers M.need (list_of M p) (list_ascends M L p) outs rs (dialogue outs none rs tt d)
