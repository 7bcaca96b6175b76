-- What the definition of consistent says of small graphs, on any values: which edges are there and which are not, and what is not made.
use Prim.Native.Nat.{ℕ, zero, suc}
use mathlib.Core.Path.{◌≡◌, refl, sym, ap}
use mathlib.Core.Logic.{◌≢◌, inl, inr, ⊎_elim}
use mathlib.Core.Bool.{true≢false}
use mathlib.Core.Option.{some, none-ne-some}
use mathlib.Core.List.Memᴰ
use mathlib.Core.List.{[], ◌∷◌}
use native.Mathlib.Omega.{arith}
use lib.ListN.{get_or}
use Rattle.spec_file.specs.Program.{initial}
use Rattle.spec_sc.specs.State.{Event, initial_write}
use Rattle.spec_sc.specs.Graph.{Graph}
use Rattle.spec_judge.specs.Consistent.{Later, order_of, Values, location_of, out_of, Makes, Before, program_order, reads_from, coherence, from_reads, Way, one, more}
use Rattle.spec_judge.proofs.Examples.{judging, graph_with, buffering, neither_seen, two_adds, selfish, behind, sentinel, both_initial}

differ : {a b c d : ℕ} → (a ≡ c → ⊥) → ◌≢◌ {A = Event} (a, b) (c, d)
differ n q = n (ap (λ (e : Event). e.0) q)

-- document 01's no: store, load, from-reads to the other store, load, from-reads back
pub neither_cycle : (v : Values) → Way (Before buffering neither_seen v) (0, 0) (0, 0)
unfolding judging
neither_cycle v = more {y = (1, 1)} {z = (0, 0)} (more {y = (1, 0)} {z = (1, 1)} (more {y = (0, 1)} {z = (1, 0)} (one {y = (0, 1)} (program_order refl (omega arith)))
    (from_reads initial_write (Memᴰ.head refl) (inl (refl, Memᴰ.head refl)) (differ (λ q. omega arith))))
    (program_order refl (omega arith)))
    (from_reads initial_write (Memᴰ.head refl) (inl (refl, Memᴰ.head refl)) (differ (λ q. omega arith)))

-- an event that reads from itself is a cycle
pub self_cycle : (v : Values) → Way (Before two_adds selfish v) (0, 0) (0, 0)
unfolding judging
self_cycle v = one (reads_from (Memᴰ.head refl) (differ (λ q. omega arith)))

-- a fetch and add follows its source in coherence, but has no edge to itself
abbrev added : Graph
added = record { reads = ((0, initial_write) ∷ []) ∷ []; writes = ((0, 0) ∷ []) ∷ [] }

one_write : (l : ℕ) → Later (order_of added l) (0, 0) (0, 0) → ⊥
one_write zero (inl q) = Memᴰ.not-nil q.1
one_write zero (inr q) = q
one_write (suc l) q = q

pub no_self_edge : (v : Values) → Before two_adds added v (0, 0) (0, 0) → ⊥
unfolding judging
no_self_edge v (program_order q h) = absurd (omega arith)
no_self_edge v (reads_from r n) = absurd (omega (arith, ap (λ (x : ℕ × Event). x.1.0) (Memᴰ.eq_of_singleton r)))
no_self_edge v (coherence l f) = one_write l f
no_self_edge v (from_reads s r f n) = n refl

-- what a program does not make: an event of no thread among the writes, a store among the reads, a read that is missing
pub surplus_write : (v : Values) → Makes behind (graph_with ([] ∷ ((1, initial_write) ∷ (0, initial_write) ∷ []) ∷ []) ((1, 7) ∷ (0, 0) ∷ []) []) v → ⊥
unfolding judging
surplus_write v m = ((m.writes 0 (1, 7)).0 (Memᴰ.head refl)).1 refl

pub surplus_read : (v : Values) → Makes behind (graph_with (((0, initial_write) ∷ []) ∷ ((1, initial_write) ∷ (0, initial_write) ∷ []) ∷ []) ((0, 0) ∷ []) []) v → ⊥
unfolding judging
surplus_read v m = true≢false (sym (m.noted (0, 0) initial_write (Memᴰ.head refl)))

pub missing_read : (v : Values) → Makes behind (graph_with ([] ∷ ((1, (0, 0)) ∷ []) ∷ []) ((0, 0) ∷ []) []) v → ⊥
unfolding judging
missing_read v m = absurd (omega (arith, ap (λ (r : ℕ × Event). r.0) (Memᴰ.eq_of_singleton (m.sourced (1, 0) refl).1)))

-- a read of the initial write finds what memory starts with: 0, or the value of a `03` line
pub initial_zero : (v : Values) → Makes behind (graph_with ([] ∷ ((1, initial_write) ∷ (0, initial_write) ∷ []) ∷ []) ((0, 0) ∷ []) []) v → v (1, 1) ≡ 0
unfolding judging
initial_zero v m = ⊎_elim (λ (h : (initial_write ≡ initial_write) × (v (1, 1) ≡ get_or (initial behind) (location_of behind v (1, 1)) 0)). h.1)
    (λ (h : (location_of behind v initial_write ≡ location_of behind v (1, 1)) × (out_of behind v initial_write ≡ some (v (1, 1)))). absurd (none-ne-some (v (1, 1)) h.1))
    (m.found (1, 1) initial_write (Memᴰ.head refl))

pub initial_one : (v : Values) → Makes sentinel both_initial v → v (1, 0) ≡ 1
unfolding judging
initial_one v m = ⊎_elim (λ (h : (initial_write ≡ initial_write) × (v (1, 0) ≡ get_or (initial sentinel) (location_of sentinel v (1, 0)) 0)). h.1)
    (λ (h : (location_of sentinel v initial_write ≡ location_of sentinel v (1, 0)) × (out_of sentinel v initial_write ≡ some (v (1, 0)))). absurd (none-ne-some (v (1, 0)) h.1))
    (m.found (1, 0) initial_write (Memᴰ.head refl))
