-- Queues in slots: one store more behind the last, one less in front, and a slot outside of a queue.
use Prim.Native.Nat.{ℕ, zero, suc, ◌+◌, ◌-◌, ◌<◌, ◌≤◌}
use native.Mathlib.Omega.{arith}
use mathlib.Core.Path.{◌≡◌, refl, sym, ap, ap₂, ◌∙◌}
use mathlib.Core.Logic.{◌≢◌, ◌⊎◌, inl, inr}
use mathlib.Core.Option.{some}
use Rattle.std.proofs.Common.{Some, None}
use mathlib.Core.List.{List, [], ◌∷◌, ◌++◌}
use borrow.Author.Tests.{eq-eqb, ne_eqb}
use lib.ListN.{length, get_or, set}
use lib.Seq.{get_or-set_same, get_or-set_other}
use Rattle.spec_schedules.specs.Lists.{range}
use Rattle.spec_tso.specs.Queue.{Entry, newest}
use Rattle.tso_machine.specs.declared.state.Pending.{Pending}
use Rattle.tso_machine.specs.Slots.{no_store, entry_of, entry_at, queue_at, store_of}

pub queue_none : (slots : List Pending) (from : ℕ) → queue_at slots from 0 ≡ []
unfolding queue_at range
queue_none slots from = refl

pub queue_first : (slots : List Pending) (from n : ℕ) → queue_at slots from (suc n) ≡ entry_at slots from ∷ queue_at slots (suc from) n
unfolding queue_at range
queue_first slots from n = refl

-- the last of them
pub queue_last : (slots : List Pending) (from n k : ℕ) → k ≡ from + n → queue_at slots from (suc n) ≡ queue_at slots from n ++ (entry_at slots k ∷ [])
queue_last slots from zero k e =
    let z : from ≡ k = omega arith in
    queue_first slots from 0 ∙ ap₂ (λ (x : Entry) (q : List Entry). x ∷ q) (ap (entry_at slots) z) (queue_none slots (suc from))
    ∙ ap (λ (q : List Entry). q ++ (entry_at slots k ∷ [])) (sym (queue_none slots from))
queue_last slots from (suc n) k e =
    queue_first slots from (suc n) ∙ ap (λ (q : List Entry). entry_at slots from ∷ q) (queue_last slots (suc from) n k (omega arith))
    ∙ ap (λ (q : List Entry). q ++ (entry_at slots k ∷ [])) (sym (queue_first slots from n))

queue_same : (slots others : List Pending) (from n : ℕ) → ((k : ℕ) → from ≤ k → k < from + n → get_or others k no_store ≡ get_or slots k no_store) → queue_at others from n ≡ queue_at slots from n
unfolding entry_at
queue_same slots others from zero e = queue_none others from ∙ sym (queue_none slots from)
queue_same slots others from (suc n) e =
    queue_first others from n
    ∙ ap₂ (λ (x : Entry) (q : List Entry). x ∷ q) (ap entry_of (e from (omega arith) (omega arith))) (queue_same slots others (suc from) n (λ k a b. e k (omega arith) (omega arith)))
    ∙ sym (queue_first slots from n)

-- a slot outside of the queue
pub queue_away : (slots : List Pending) (from n k : ℕ) (e : Pending) → (k < from) ⊎ (from + n ≤ k) → queue_at (set slots k e) from n ≡ queue_at slots from n
queue_away slots from n k e (inl h) = queue_same slots (set slots k e) from n (λ j a b. get_or-set_other slots k j e no_store (λ q. omega (arith, q, a, h)))
queue_away slots from n k e (inr h) = queue_same slots (set slots k e) from n (λ j a b. get_or-set_other slots k j e no_store (λ q. omega (arith, q, b, h)))

-- a store put behind the last
pub queue_put : (slots : List Pending) (from n k : ℕ) (e : Pending) → k ≡ from + n → k < length slots → queue_at (set slots k e) from (suc n) ≡ queue_at slots from n ++ (entry_of e ∷ [])
unfolding entry_at
queue_put slots from n k e q h =
    queue_last (set slots k e) from n k q
    ∙ ap₂ (λ (x : List Entry) (y : Entry). x ++ (y ∷ [])) (queue_away slots from n k e (inr (omega arith))) (ap entry_of (get_or-set_same slots k e no_store h))

-- ---- the newest store to l
newest_last : (q : List Entry) (x : Entry) (l : ℕ) → x.location ≡ l → newest (q ++ (x ∷ [])) l ≡ some x
unfolding newest
newest_last [] x l e = let z = eq-eqb x.location l e in rw (z, newest)
newest_last (y ∷ q) x l e = let z = newest_last q x l e in rw (z, newest)

newest_other : (q : List Entry) (x : Entry) (l : ℕ) → x.location ≢ l → newest (q ++ (x ∷ [])) l ≡ newest q l
unfolding newest
newest_other [] x l e = let z = ne_eqb x.location l e in rw (z, newest)
newest_other (y ∷ q) x l e = let z = newest_other q x l e in rw (z, newest)

-- ---- as the code looks for it, from behind slot k - 1 back: it is there, or before it
up_to : (slots : List Pending) (head k l : ℕ) → head < k → newest (queue_at slots head (k - head)) l ≡ newest (queue_at slots head (k - 1 - head) ++ (entry_at slots (k - 1) ∷ [])) l
up_to slots head k l h =
    let z : k - head ≡ suc (k - 1 - head) = omega arith in
    ap (λ (n : ℕ). newest (queue_at slots head n) l) z ∙ ap (λ (q : List Entry). newest q l) (queue_last slots head (k - 1 - head) (k - 1) (omega arith))

pub look_here : (slots : List Pending) (head k l : ℕ) → head < k → (get_or slots (k - 1) no_store).location ≡ l → newest (queue_at slots head (k - head)) l ≡ store_of (Some (get_or slots (k - 1) no_store))
unfolding entry_at store_of
look_here slots head k l h q = up_to slots head k l h ∙ newest_last (queue_at slots head (k - 1 - head)) (entry_at slots (k - 1)) l q

pub look_before : (slots : List Pending) (head k l : ℕ) → head < k → (get_or slots (k - 1) no_store).location ≢ l → newest (queue_at slots head (k - head)) l ≡ newest (queue_at slots head (k - 1 - head)) l
unfolding entry_at
look_before slots head k l h q = up_to slots head k l h ∙ newest_other (queue_at slots head (k - 1 - head)) (entry_at slots (k - 1)) l q

pub look_nothing : (slots : List Pending) (head k l : ℕ) → k ≤ head → newest (queue_at slots head (k - head)) l ≡ store_of None
unfolding newest store_of
look_nothing slots head k l h =
    let z : k - head ≡ 0 = omega arith in
    ap (λ (n : ℕ). newest (queue_at slots head n) l) z ∙ ap (λ (q : List Entry). newest q l) (queue_none slots head)
