-- WHAT WAS GATHERED IS THE PAGE, where it is all or as many as were asked for; and what the list gives stands over it else.
use Rattle.std.specs.Prelude.{Result, Ok, Err}
use Prim.Native.Nat.{ℕ, zero, suc, ◌+◌, ◌-◌, ◌/◌, ◌^◌, ◌<◌, ◌≤◌}
use mathlib.Core.Path.{◌≡◌, refl, sym, ap, ◌∙◌}
use mathlib.Core.Bool.{Bool, cond}
use mathlib.Core.List.{List, [], ◌∷◌, ◌++◌, flat_map, append_assoc}
use native.Mathlib.Nat.{div-eq_of_lt}
use native.Mathlib.Omega.{arith}
use native.Mathlib.Decide.{dec_lt}
use lib.ListN.{length, take, drop, length-append, length-take, length-drop, take-append-drop, drop_of_length-le}
use lib.Seq.{take_all, take-take, length-take-le, drop-append-le, drop-append-add, drop-drop}
use borrow.Author.Tests.{lt-ltb, le-ltb}
use Rattle.spec_file.specs.declared.refusal.Refusal.{Refusal}
use Rattle.spec_file.specs.Over.{over}
use Rattle.spec_file.specs.Program.{Program}
use Rattle.spec_file.specs.Decode.{Decoded, accepted, refused, decode}
use Rattle.spec_file.proofs.Over.{over_nil}
use Rattle.spec_schedules.specs.Order.{Schedule}
use Rattle.spec_model.specs.Model as Memory
use Rattle.spec_model.specs.OnFile.{admit}
use Rattle.spec_calls.specs.Scratch.{zeros}
use Rattle.listing_model.specs.declared.memory.Model.{Model}
use Rattle.listing_model.specs.declared.memory.Model.TheVariants.{Sequential, TotalStoreOrder}
use Rattle.listing_model.specs.ModelOf.{model_of}
use Rattle.spec_outcomes.specs.Firsts.{firsts_of}
use Rattle.spec_outcomes.specs.OutcomesCall.{outcome_size, outcome_row, outcome_rows, page_of, outcomes_on, output_on, outcomes_file, outcomes_output, outcomes_scratch}
use Rattle.outcome_states.proofs.Shown.{rows_none}

-- rows that there is room for are few
pub room_few : (m : Model) (n : ℕ) → n < 2 ^ 64 → n / outcome_size (model_of m) < 2 ^ 59
room_few Sequential n h = omega (arith, h)
room_few TotalStoreOrder n h = omega (arith, h)

pub room_is : (M : Memory.Model) (w n : ℕ) → w ≡ M.need → n / (w + 34) ≡ n / outcome_size M
room_is M w n e = let z : w + 34 ≡ outcome_size M = omega (arith, e) in ap (λ (k : ℕ). n / k) z

drop_taken : {A : Type 0} (a b : ℕ) (l : List A) → drop a (take (a + b) l) ≡ take b (drop a l)
drop_taken zero b l = let z : 0 + b ≡ b = omega arith in ap (λ (n : ℕ). take n l) z
drop_taken (suc a) b [] = ap (drop (suc a)) (take_all (suc a + b) [] (omega arith)) ∙ drop_of_length-le [] {i = suc a} (omega arith) ∙ sym (take_all b [] (omega arith))
drop_taken (suc a) b (x ∷ l) = let z : suc a + b ≡ suc (a + b) = omega arith in ap (λ (n : ℕ). drop (suc a) (take n (x ∷ l))) z ∙ drop_taken a b l

over_over : (t u l : List ℕ) → length u ≤ length t → over t (over u l) ≡ over t l
unfolding over
over_over t u l h =
    let z : length t ≡ length u + (length t - length u) = omega (arith, h) in
    ap (λ (d : List ℕ). t ++ d) (ap (λ (n : ℕ). drop n (u ++ drop (length u) l)) z ∙ drop-append-add u (drop (length u) l) (length t - length u)
    ∙ drop-drop (length t - length u) (length u) l ∙ ap (λ (n : ℕ). drop n l) (sym z))

module _ (M : Memory.Model) (p : Program) where
  abbrev F : List Schedule
  F = firsts_of M p

  rows_append : (ss rs : List Schedule) → outcome_rows M p (ss ++ rs) ≡ outcome_rows M p ss ++ outcome_rows M p rs
  unfolding outcome_rows flat_map
  rows_append [] rs = refl
  rows_append (s ∷ ss) rs = ap (λ (t : List ℕ). outcome_row M p s ++ t) (rows_append ss rs) ∙ sym (append_assoc (outcome_row M p s) (outcome_rows M p ss) (outcome_rows M p rs))

  module _ (from room : ℕ) (out : List ℕ) (is : room ≡ length out / outcome_size M) where
    page : take room (drop from F) ≡ page_of M p from out
    unfolding page_of
    page = ap (λ (n : ℕ). take n (drop from F)) is

    module _ (k : ℕ) (few : k ≤ from + room) (within : k ≤ length F) where
      -- all are gathered
      pub page_all : length F ≤ k → (k - from ≡ length (page_of M p from out)) × (drop from (take k F) ≡ page_of M p from out)
      page_all h =
          let d = length-drop from F in
          let e : drop from (take k F) ≡ page_of M p from out = ap (drop from) (take_all k F h) ∙ sym (take_all room (drop from F) (omega (arith, d, h, few, within))) ∙ page in
          (sym (sym (ap length e) ∙ ap length (ap (drop from) (take_all k F h)) ∙ d ∙ omega (arith, h, within)), e)

      -- as many as were asked for
      pub page_limit : k ≡ from + room → (room ≡ length (page_of M p from out)) × (drop from (take k F) ≡ page_of M p from out)
      page_limit q =
          let e : drop from (take k F) ≡ take room (drop from F) = ap (λ (n : ℕ). drop from (take n F)) q ∙ drop_taken from room F in
          (sym (sym (ap length page) ∙ length-take room (drop from F) ∙ omega (arith, length-drop from F, q, within)), e ∙ page)

      -- what was gathered is the front of the page
      front : length (outcome_rows M p (drop from (take k F))) ≤ length (outcome_rows M p (page_of M p from out))
      front = go (dec_lt k from)
        where
          go : Dec (k < from) → length (outcome_rows M p (drop from (take k F))) ≤ length (outcome_rows M p (page_of M p from out))
          go (yes h) =
              let z : drop from (take k F) ≡ [] = drop_of_length-le (take k F) {i = from} (omega (arith, length-take-le k F within, h)) in
              let n : length (outcome_rows M p (drop from (take k F))) ≡ 0 = ap (λ (l : List Schedule). length (outcome_rows M p l)) z ∙ ap length (rows_none M p) in
              omega (arith, n)
          go (no h) =
              let rest : List Schedule = drop k (take (from + room) F) in
              let split : take (from + room) F ≡ take k F ++ rest = sym (ap (λ (l : List Schedule). l ++ rest) (sym (take-take k (from + room) F few)) ∙ take-append-drop k (take (from + room) F)) in
              let e : page_of M p from out ≡ drop from (take k F) ++ rest =
              sym page ∙ sym (drop_taken from room F) ∙ ap (drop from) split ∙ drop-append-le from (take k F) rest (omega (arith, length-take-le k F within, h)) in
              let n : length (outcome_rows M p (page_of M p from out)) ≡ length (outcome_rows M p (drop from (take k F))) + length (outcome_rows M p rest) =
              ap (λ (l : List Schedule). length (outcome_rows M p l)) e ∙ ap length (rows_append (drop from (take k F)) rest) ∙ length-append (outcome_rows M p (drop from (take k F))) (outcome_rows M p rest) in
              omega (arith, n)

      -- the list's answer stands over it
      pub page_again : (out₁ out₂ : List ℕ) → length out₁ ≡ length out → out₁ ≡ over (outcome_rows M p (drop from (take k F))) out → (r : ℕ) → r ≡ length (page_of M p from out₁)
          → out₂ ≡ over (outcome_rows M p (page_of M p from out₁)) out₁ → (r ≡ length (page_of M p from out)) × (out₂ ≡ over (outcome_rows M p (page_of M p from out)) out)
      unfolding page_of
      page_again out₁ out₂ same first r count put =
          let e : page_of M p from out₁ ≡ page_of M p from out = ap (λ (n : ℕ). take (n / outcome_size M) (drop from F)) same in (
            count ∙ ap length e,
            put ∙ ap (λ (l : List Schedule). over (outcome_rows M p l) out₁) e ∙ ap (over (outcome_rows M p (page_of M p from out))) first
                ∙ over_over (outcome_rows M p (page_of M p from out)) (outcome_rows M p (drop from (take k F))) out front,
          )

-- ---- on a file
-- the answers as the code gives them
abbrev pub written : ℕ → Result ℕ Refusal
written n = Ok n

abbrev pub refusal : ℕ → ℕ → Result ℕ Refusal
refusal n k = Err (record { number = n; place = k })

module _ (M : Memory.Model) (file : List ℕ) (from : ℕ) (out scratch : List ℕ) where
  pub record Said (r : Result ℕ Refusal) (out' scratch' : List ℕ) : Type 0 where
    pub answer : r ≡ outcomes_file M file from out
    pub output : out' ≡ outcomes_output M file from out
    pub later : scratch' ≡ outcomes_scratch (outcomes_file M file from out) scratch

  pub said_refused : (n k : ℕ) → admit M (decode file) ≡ refused n k → Said (refusal n k) out scratch
  unfolding outcomes_on output_on outcomes_scratch
  said_refused n k e =
      let a : refusal n k ≡ outcomes_file M file from out = ap (λ (d : Decoded). outcomes_on M d from out) (sym e) in
      record { answer = a; output = ap (λ (d : Decoded). output_on M d from out) (sym e); later = ap (λ (r : Result ℕ Refusal). outcomes_scratch r scratch) a }

  module _ (p : Program) (e : admit M (decode file) ≡ accepted p) where
    pub said_short : length out < outcome_size M → Said (refusal 22 0) out scratch
    unfolding outcomes_on output_on outcomes_scratch page_of
    said_short h =
        let a : refusal 22 0 ≡ outcomes_file M file from out = sym (ap (λ (d : Decoded). outcomes_on M d from out) e
        ∙ ap (λ (b : Bool). cond b (refusal 22 0) (written (length (page_of M p from out)))) (lt-ltb (length out) (outcome_size M) h)) in
        let none : page_of M p from out ≡ [] = ap (λ (n : ℕ). take n (drop from (firsts_of M p))) (div-eq_of_lt h) in
        record {
          answer = a;
          output = sym (ap (λ (d : Decoded). output_on M d from out) e ∙ ap (λ (l : List Schedule). over (outcome_rows M p l) out) none ∙ ap (λ (t : List ℕ). over t out) (rows_none M p) ∙ over_nil out);
          later = ap (λ (r : Result ℕ Refusal). outcomes_scratch r scratch) a;
        }

    pub said_rows : outcome_size M ≤ length out → (n : ℕ) (out' scratch' : List ℕ) → n ≡ length (page_of M p from out) → out' ≡ over (outcome_rows M p (page_of M p from out)) out → scratch' ≡ zeros scratch
        → Said (written n) out' scratch'
    unfolding outcomes_on output_on outcomes_scratch
    said_rows h n out' scratch' count put cleared =
        let b : outcomes_file M file from out ≡ written (length (page_of M p from out)) = ap (λ (d : Decoded). outcomes_on M d from out) e
        ∙ ap (λ (b : Bool). cond b (refusal 22 0) (written (length (page_of M p from out)))) (le-ltb (length out) (outcome_size M) h) in
        record {
          answer = ap (λ (k : ℕ). written k) count ∙ sym b;
          output = put ∙ sym (ap (λ (d : Decoded). output_on M d from out) e);
          later = cleared ∙ ap (λ (r : Result ℕ Refusal). outcomes_scratch r scratch) (sym b);
        }
