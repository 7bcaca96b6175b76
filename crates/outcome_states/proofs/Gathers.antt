-- OUTCOMES GATHERED ROW BY ROW: what one row more leaves, which one is next, and what is known at the end.
use Prim.Native.Nat.{ℕ, ◌+◌, ◌*◌, ◌-◌, ◌<◌, ◌≤◌}
use mathlib.Core.Path.{◌≡◌, sym, ap, subst, ◌∙◌}
use mathlib.Core.Bool.{true, false, true≢false}
use mathlib.Core.Option.{none, some, none-ne-some}
use mathlib.Core.List.{List, ◌++◌, flat_map, Memᴰ}
use native.Mathlib.Omega.{arith}
use native.Mathlib.Decide.{dec_lt}
use lib.ListN.{length, take, drop, take-append-drop}
use lib.Seq.{paste}
use Rattle.spec_file.specs.Over.{over}
use Rattle.spec_file.specs.Program.{Program}
use Rattle.spec_schedules.specs.Lists.{find}
use Rattle.spec_schedules.specs.Order.{Schedule}
use Rattle.spec_schedules.specs.Calls.{member}
use Rattle.spec_model.specs.Model.{Model, Full}
use Rattle.spec_model.specs.Laws.{Laws}
use Rattle.spec_model.specs.Alike.{list_of}
use Rattle.spec_model.proofs.TheList.{list_exact}
use Rattle.spec_members.proofs.Numbered.{member_ends}
use Rattle.spec_calls.specs.Rows.{row_bytes}
use Rattle.spec_covers.specs.declared.outcome.Outcome.{Outcome}
use Rattle.spec_across.specs.Under.{outcome_under}
use Rattle.spec_outcomes.specs.Firsts.{firsts_of}
use Rattle.spec_outcomes.specs.OutcomesCall.{four_bytes, outcome_size, outcome_rows}
use Rattle.spec_outcomes.proofs.Taken.{take_in}
use Rattle.spec_outcomes.proofs.Firsts.{first_in}
use Rattle.states_outcomes.specs.Rows.{row_of, is_new}
use Rattle.outcome_states.specs.Gathered.{Known, Keeps, Gathers}
use Rattle.outcome_states.proofs.Known.{new_next, all_known}
use Rattle.outcome_states.proofs.Shown.{row_is, rows_more, rows_length, from_many, from_more, from_none}

-- a number that has a member is below the length
pub member_within : (l : List Schedule) (k : ℕ) (s : Schedule) → member l k ≡ some s → k < length l
member_within l k s e = go (dec_lt k (length l))
  where
    go : Dec (k < length l) → k < length l
    go (yes h) = h
    go (no h) = absurd (none-ne-some s (sym ((member_ends l k).1 (omega (arith, h))) ∙ e))

module _ (M : Model) (L : Laws M) (p : Program) (eight : (s : Schedule) → Full M p s → length (outcome_under M p s).memory ≡ 8) (from k : ℕ) where
  abbrev F : List Schedule
  F = firsts_of M p

  abbrev W : List Schedule
  W = drop from (take k F)

  each_eight : (s : Schedule) → Memᴰ s W → length (outcome_under M p s).memory ≡ 8
  each_eight s m =
      let t : Memᴰ s (take k F) = subst (Memᴰ s) (take-append-drop from (take k F)) (mathlib.Core.List.Memᴰ.append_right (take from (take k F)) m) in
      eight s ((list_exact M L p s).0 (first_in M p s (take_in F k s t)).0).0

  -- ONE ROW MORE
  module _ (s : Schedule) (next : member F k ≡ some s) (x : Outcome) (is : x ≡ outcome_under M p s) (cut : ℕ) (lent lent' out out' : List ℕ) where
    pub keeps : take cut lent' ≡ paste (take cut lent) (9 * k) (row_of x) 9 → (k < from → out' ≡ out)
        → (from ≤ k → (t l : List ℕ) → out ≡ over t l → length t ≡ (k - from) * outcome_size M → length out ≡ length l → out' ≡ over (t ++ (flat_map four_bytes x.memory ++ row_bytes M.need s x.fails)) l)
        → Keeps M p s k cut from lent lent' out out'
    keeps row before behind = record {
      row = row ∙ ap (λ (y : Outcome). paste (take cut lent) (9 * k) (row_of y) 9) is;
      shown = λ held same e. go held same e (dec_lt k from);
    }
      where
        within : k ≤ length F
        within = let h = member_within F k s next in omega (arith, h)

        go : (held : List ℕ) → length out ≡ length held → out ≡ over (outcome_rows M p W) held → Dec (k < from) → out' ≡ over (outcome_rows M p (drop from (take (k + 1) F))) held
        go held same e (yes h) = before h ∙ e ∙ ap (λ (l : List Schedule). over (outcome_rows M p l) held) (sym (from_none M p from k within s next h))
        go held same e (no h) =
            let reached : from ≤ k = omega (arith, h) in
            behind reached (outcome_rows M p W) held e (rows_length M p W each_eight ∙ ap (λ (n : ℕ). n * outcome_size M) (from_many M p from k within)) same
            ∙ ap (λ (t : List ℕ). over (outcome_rows M p W ++ t) held) (row_is M p s x is)
            ∙ ap (λ (t : List ℕ). over t held) (sym (rows_more M p W s) ∙ ap (outcome_rows M p) (sym (from_more M p from k within s next reached)))

-- ---- what is found first is the next one
module _ (M : Model) (L : Laws M) (p : Program) (eight : (s : Schedule) → Full M p s → length (outcome_under M p s).memory ≡ 8) (rows : List ℕ) (k : ℕ) (known : Known M p rows k) where
  -- the schedule found is the next one
  pub found_next : (s : Schedule) → some s ≡ find (λ s. is_new rows k (outcome_under M p s)) (list_of M p) → member (firsts_of M p) k ≡ some s
  found_next s e = sym (new_next M L p eight rows k known (some s) e)

  -- none is found: there are no more
  pub none_next : none ≡ find (λ s. is_new rows k (outcome_under M p s)) (list_of M p) → length (firsts_of M p) ≤ k
  none_next e = (member_ends (firsts_of M p) k).0 (sym (new_next M L p eight rows k known none e))

-- ---- at the end
module _ (M : Model) (L : Laws M) (p : Program) (eight : (s : Schedule) → Full M p s → length (outcome_under M p s).memory ≡ 8)
    (cut limit from k : ℕ) (lent lent' out out' : List ℕ) (words : length lent' ≡ length lent) (room : 9 * k ≤ cut) (few : k ≤ limit) (within : k ≤ length (firsts_of M p))
    (known : Known M p (take cut lent') k) (output : out' ≡ over (outcome_rows M p (drop from (take k (firsts_of M p)))) out) where
  -- all are gathered
  pub gathers_all : length (firsts_of M p) ≤ k → Gathers M p cut limit from lent lent' out out' (record { all = true; known = k })
  gathers_all h = record {
    words = words;
    room = room;
    few = few;
    within = within;
    rows = known;
    all = λ e. h;
    exact = λ e. all_known M L p eight (take cut lent') k known h;
    output = output;
  }

  -- it is not known whether all are
  pub gathers_some : Gathers M p cut limit from lent lent' out out' (record { all = false; known = k })
  gathers_some = record {
    words = words;
    room = room;
    few = few;
    within = within;
    rows = known;
    all = λ e. absurd (true≢false (sym e));
    exact = λ e. absurd (true≢false (sym e));
    output = output;
  }
