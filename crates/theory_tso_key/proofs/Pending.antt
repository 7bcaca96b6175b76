-- HOW MUCH IS PENDING: never more of a thread than its code has stores, so at most sixteen of all.
use Prim.Native.Nat.{ℕ, zero, suc, ◌+◌, ◌<◌, ◌≤◌}
use mathlib.Core.Path.{◌≡◌, refl, sym, ap, ap₂, subst, ◌∙◌}
use mathlib.Core.Bool.{Bool, true, false}
use mathlib.Core.Option.{Option, none, some}
use mathlib.Core.List.{List, [], ◌∷◌, ◌++◌, map}
use native.Mathlib.Omega.{arith}
use lib.ListN.{length, length-append, length-map, get_or}
use Rattle.spec_file.specs.Program.{Program, code_of}
use Rattle.spec_file.specs.WellFormed.{WellFormed, accesses, all_accesses}
use Rattle.spec_file.specs.declared.instruction.Access.TheVariants.{Store, Load, FetchAdd, CompareSwap}
use Rattle.spec_file.specs.declared.instruction.Instruction.{Instruction}
use Rattle.spec_file.specs.declared.instruction.Instruction.TheVariants.{Memory, Alone}
use Rattle.spec_schedules.specs.Lists.{range}
use Rattle.spec_schedules.specs.Order.{Schedule}
use Rattle.spec_schedules.specs.System.{run}
use Rattle.spec_sc.specs.Local.{Local, access_puts, first_puts, first_place, place_of, puts, next}
use Rattle.spec_sc.specs.State as SC
use Rattle.spec_sc.specs.State.{Cell}
use Rattle.spec_sc.proofs.Suffix.{Suffix}
use Rattle.spec_sc.proofs.Access.{Behind, behind}
use Rattle.spec_tso.specs.Queue.{Entry, queued, newer}
use Rattle.spec_tso.specs.State.{Thread, State, Kind, access, move, access_locks, first_locks, locked, idle, thread_of, cell_of, finds, thread_behind, place, step_of, able, kind_of, owner, step, enabled, TSO, start}
use Rattle.spec_tso.proofs.Steps.{enabled_able, able_range, able_pending}
use Rattle.spec_tso.proofs.Change.{thread_cases}
use Rattle.spec_tso.proofs.Rests.{rest_code}
use Rattle.spec_tso.proofs.Seen.{drained_thread}
use Rattle.theory_tso_key.specs.Views.{unnumbered, waiting}
use Rattle.theory_tso_key.specs.Key.{queues_of}
use Rattle.theory_tso_key.specs.Words.{join, store_of, stores, stores_of}
use Rattle.theory_tso_key.proofs.Rules.{Met}
use Rattle.theory_tso_key.proofs.Undone.{met_induction}

-- ---- stores in code
end_stores : (f r : List Instruction) → stores r ≤ stores (f ++ r)
unfolding stores
end_stores [] r = omega arith
end_stores (i ∷ f) r = omega (arith, end_stores f r)

suffix_stores : (r c : List Instruction) → Suffix r c → stores r ≤ stores c
suffix_stores r c s = subst (λ (x : List Instruction). stores r ≤ stores x) (sym s.1) (end_stores s.0 r)

stores_accesses : (c : List Instruction) → stores c ≤ accesses c
unfolding stores store_of accesses
stores_accesses [] = omega arith
stores_accesses (Memory (Store l p) ∷ is) = omega (arith, stores_accesses is)
stores_accesses (Memory (Load r l) ∷ is) = omega (arith, stores_accesses is)
stores_accesses (Memory (FetchAdd r l p) ∷ is) = omega (arith, stores_accesses is)
stores_accesses (Memory (CompareSwap r l e v) ∷ is) = omega (arith, stores_accesses is)
stores_accesses (Alone o ∷ is) = omega (arith, stores_accesses is)

pub stores_short : (c : List Instruction) → stores c ≤ length c
unfolding stores store_of
stores_short [] = omega arith
stores_short (Memory (Store l p) ∷ is) = omega (arith, stores_short is)
stores_short (Memory (Load r l) ∷ is) = omega (arith, stores_short is)
stores_short (Memory (FetchAdd r l p) ∷ is) = omega (arith, stores_short is)
stores_short (Memory (CompareSwap r l e v) ∷ is) = omega (arith, stores_short is)
stores_short (Alone o ∷ is) = omega (arith, stores_short is)

pub stores_few : (n : ℕ) (cs : List (List Instruction)) → stores_of n cs ≤ all_accesses cs
unfolding stores_of all_accesses
stores_few zero cs = omega arith
stores_few (suc n) [] = omega arith
stores_few (suc n) (c ∷ cs) = omega (arith, stores_accesses c, stores_few n cs)

-- ---- a step
none_queued : (i l : ℕ) (o : Option ℕ) → length (queued true i l o) ≡ 0
unfolding queued
none_queued i l none = refl
none_queued i l (some v) = refl

-- what the first access of this code adds to the queue
adds : (rs : List ℕ) (a : Instruction) (is : List Instruction) (i l x : ℕ) → length (queued (first_locks (a ∷ is)) i l (first_puts rs (a ∷ is) x)) ≤ store_of a
unfolding queued first_locks access_locks first_puts access_puts store_of
adds rs (Memory (Store m p)) is i l x = omega arith
adds rs (Memory (Load r m)) is i l x = omega arith
adds rs (Memory (FetchAdd r m p)) is i l x = let e = none_queued i l (access_puts rs (FetchAdd r m p) x) in omega (arith, e)
adds rs (Memory (CompareSwap r m e v)) is i l x = let z = none_queued i l (access_puts rs (CompareSwap r m e v) x) in omega (arith, z)
adds rs (Alone o) is i l x = omega arith

fewer : (q : List Entry) → length (newer q) ≤ length q
unfolding newer
fewer [] = omega arith
fewer (e ∷ q) = omega arith

-- pending stores, and those still in the code
abbrev unmoved : Thread → ℕ
unmoved h = length h.queue + stores h.local.rest

own_load : (k : Kind) (t : ℕ) (h : Thread) (c : Cell) (n : ℕ) → able k h n ≡ true → unmoved (thread_behind k t h c) ≤ unmoved h
unfolding thread_behind puts locked stores
own_load access t h c n m =
    let x = (finds t h c).value in
    let b = behind h.local x (able_pending h n m) in
    let s = suffix_stores (next h.local x).rest b.later b.within in
    let all = ap stores b.rest in
    let add = subst (λ (is : List Instruction). length (queued (first_locks is) h.history.done (place_of h.local) (first_puts h.local.registers is x)) ≤ store_of b.first) (sym b.rest)
    (adds h.local.registers b.first b.later h.history.done (place_of h.local) x) in
    omega (arith, s, all, add, length-append h.queue (queued (first_locks h.local.rest) h.history.done (place_of h.local) (first_puts h.local.registers h.local.rest x)))
own_load move t h c n m = omega (arith, fewer h.queue)

-- ---- along a run
pub pending_few : (p : Program) (v : Schedule) (σ : State) → Met p v σ → (t : ℕ) → unmoved (thread_of σ t) ≤ stores (code_of p t)
unfolding step run start idle
pending_few p v σ r t = met_induction p (λ v σ. (t : ℕ) → unmoved (thread_of σ t) ≤ stores (code_of p t)) first on v σ r t
  where
    first : (t : ℕ) → unmoved (thread_of (start p) t) ≤ stores (code_of p t)
    first t =
        let q = ap (λ (h : Thread). length h.queue) (drained_thread (SC.start p) t) in
        omega (arith, q, suffix_stores (thread_of (start p) t).local.rest (code_of p t) (rest_code p [] tt t))

    on : (v : Schedule) (σ : State) → Met p v σ → ((t : ℕ) → unmoved (thread_of σ t) ≤ stores (code_of p t)) → (b : ℕ) → enabled σ b ≡ true → (t : ℕ) → unmoved (thread_of (step σ b) t) ≤ stores (code_of p t)
    on v σ r h b m t =
        let k = kind_of b in
        let o = owner b in
        let able-b = enabled_able σ b m in
        thread_cases (λ i x. unmoved x ≤ stores (code_of p i)) σ k o (able_range σ k o (length σ.cells) able-b)
        (omega (arith, own_load k o (thread_of σ o) (cell_of σ (place σ k o)) (length σ.cells) able-b, h o)) t (λ ne. h t)

-- ---- all of them
codes_six : (cs : List (List Instruction)) → stores (get_or cs 0 []) + (stores (get_or cs 1 []) + (stores (get_or cs 2 []) + (stores (get_or cs 3 []) + (stores (get_or cs 4 []) + stores (get_or cs 5 []))))) ≤ stores_of 6 cs
unfolding stores_of stores
codes_six [] = omega arith
codes_six (a ∷ []) = omega arith
codes_six (a ∷ b ∷ []) = omega arith
codes_six (a ∷ b ∷ c ∷ []) = omega arith
codes_six (a ∷ b ∷ c ∷ d ∷ []) = omega arith
codes_six (a ∷ b ∷ c ∷ d ∷ e ∷ []) = omega arith
codes_six (a ∷ b ∷ c ∷ d ∷ e ∷ f ∷ cs) = omega arith

joined_six : {A : Type 0} (a b c d e f : List A) → length (join (a ∷ b ∷ c ∷ d ∷ e ∷ f ∷ [])) ≡ length a + (length b + (length c + (length d + (length e + length f))))
unfolding join
joined_six {A} a b c d e f =
    let none : List A = [] in
    let f1 = length-append f none in
    let e1 = length-append e (f ++ none) in
    let d1 = length-append d (e ++ (f ++ none)) in
    let c1 = length-append c (d ++ (e ++ (f ++ none))) in
    let b1 = length-append b (c ++ (d ++ (e ++ (f ++ none)))) in
    omega (arith, length-append a (b ++ (c ++ (d ++ (e ++ (f ++ none))))), b1, c1, d1, e1, f1)

-- AT MOST as many as the program has stores
pub pending_all : (p : Program) (v : Schedule) (σ : State) → Met p v σ → length (join (queues_of σ)) ≤ stores_of 6 p.threads
unfolding range code_of
pending_all p v σ r =
    let q : (t : ℕ) → length (waiting (thread_of σ t)) ≤ stores (get_or p.threads t []) = λ t. omega (arith, length-map (thread_of σ t).queue unnumbered, pending_few p v σ r t) in
    let w : ℕ → List Entry = λ t. waiting (thread_of σ t) in
    omega (arith, joined_six (w 0) (w 1) (w 2) (w 3) (w 4) (w 5), q 0, q 1, q 2, q 3, q 4, q 5, codes_six p.threads)
