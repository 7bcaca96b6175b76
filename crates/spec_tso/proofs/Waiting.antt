-- Until a byte is taken its step waits: an access keeps its thread's local state and history, and an empty queue stays empty; a move keeps its entry.
use Prim.Native.Nat.{ℕ}
use mathlib.Core.Path.{◌≡◌, refl, sym, ap, subst, ◌∙◌}
use mathlib.Core.Bool.{true}
use mathlib.Core.List.{[], ◌∷◌, Memᴰ}
use native.Mathlib.Decide.{ℕ_discrete}
use lib.ListN.{length}
use Rattle.spec_schedules.specs.Order.{Schedule}
use Rattle.spec_schedules.specs.System.{run, Allowed}
use Rattle.spec_sc.specs.Local.{place_of, puts}
use Rattle.spec_sc.specs.State.{Cell}
use Rattle.spec_tso.specs.Queue.{queued, newer, oldest_value, movable}
use Rattle.spec_tso.specs.State.{Thread, State, thread_of, cell_of, locked, finds, target, number_of, thread_behind, place, step_of, able, kind_of, owner, step, TSO, Kind, access, move}
use Rattle.spec_tso.proofs.Bytes.{byte_of}
use Rattle.spec_tso.proofs.Steps.{enabled_able, able_range, thread_own, thread_other}
use Rattle.spec_tso.proofs.Queues.{number_front, place_front, value_front, movable_front}
use Rattle.spec_tso.proofs.Reading.{Core, core_trans, step_core}

-- an access
pub run_core : (z : Schedule) (σ : State) (t : ℕ) → Allowed TSO σ z → (Memᴰ t z → ⊥) → Core (thread_of (run TSO σ z) t) (thread_of σ t)
unfolding run
run_core [] σ t a n = (refl, refl)
run_core (b ∷ z) σ t a n =
    core_trans (thread_of (run TSO (step σ b) z) t) (thread_of (step σ b) t) (thread_of σ t) (run_core z (step σ b) t a.1 (λ m. n (Memᴰ.tail m))) (step_core σ b t a.0 (λ q. n (Memᴰ.head (sym q))))

-- the same oldest entry, and it can be moved
pub record Oldest (h k : Thread) (n : ℕ) : Type 0 where
  pub number : number_of move k ≡ number_of move h
  pub target : target move k ≡ target move h
  pub value : oldest_value k.queue ≡ oldest_value h.queue
  pub movable : movable k.queue n ≡ true

same_oldest : (h k : Thread) (n : ℕ) → movable h.queue n ≡ true → k ≡ h → Oldest h k n
same_oldest h k n m e = record { number = ap (number_of move) e; target = ap (target move) e; value = ap (λ (x : Thread). oldest_value x.queue) e; movable = ap (λ (x : Thread). movable x.queue n) e ∙ m }

access_oldest : (t : ℕ) (h : Thread) (c : Cell) (n : ℕ) → movable h.queue n ≡ true → Oldest h (thread_behind access t h c) n
unfolding thread_behind number_of target
access_oldest t h c n m = let w = queued (locked h.local) h.history.done (place_of h.local) (puts h.local (finds t h c).value) in record {
  number = number_front h.queue w n m;
  target = place_front h.queue w n m;
  value = value_front h.queue w n m;
  movable = movable_front h.queue w n m;
}

step_of_oldest : (σ : State) (k : Kind) (u t n : ℕ) → able k (thread_of σ u) (length σ.cells) ≡ true → (k ≡ move → u ≡ t → ⊥) → movable (thread_of σ t).queue n ≡ true → Oldest (thread_of σ t) (thread_of (step_of σ k u) t) n
step_of_oldest σ k u t n m ne q = go (ℕ_discrete t u) k refl
  where
    go : Dec (t ≡ u) → (j : Kind) → k ≡ j → Oldest (thread_of σ t) (thread_of (step_of σ k u) t) n
    go (no d) j e = same_oldest (thread_of σ t) (thread_of (step_of σ k u) t) n q (thread_other σ k u t d)
    go (yes d) move e = absurd (ne e (sym d))
    go (yes d) access e =
        subst (λ (x : Thread). Oldest (thread_of σ t) x n) (sym (ap (thread_of (step_of σ k u)) d ∙ thread_own σ k u (able_range σ k u (length σ.cells) m)))
        (subst (λ (x : ℕ). Oldest (thread_of σ t) (thread_behind k x (thread_of σ x) (cell_of σ (place σ k x))) n) d
        (subst (λ (j : Kind). Oldest (thread_of σ t) (thread_behind j t (thread_of σ t) (cell_of σ (place σ k t))) n) (sym e) (access_oldest t (thread_of σ t) (cell_of σ (place σ k t)) n q)))

oldest_trans : (h k j : Thread) (n : ℕ) → Oldest h k n → Oldest k j n → Oldest h j n
oldest_trans h k j n a b = record { number = b.number ∙ a.number; target = b.target ∙ a.target; value = b.value ∙ a.value; movable = b.movable }

-- a move
pub run_oldest : (z : Schedule) (σ : State) (b n : ℕ) → kind_of b ≡ move → Allowed TSO σ z → (Memᴰ b z → ⊥) → movable (thread_of σ (owner b)).queue n ≡ true → Oldest (thread_of σ (owner b)) (thread_of (run TSO σ z) (owner b)) n
unfolding run step
run_oldest [] σ b n k a no-b m = same_oldest (thread_of σ (owner b)) (thread_of σ (owner b)) n m refl
run_oldest (a ∷ z) σ b n k al no-b m =
    let one = step_of_oldest σ (kind_of a) (owner a) (owner b) n (enabled_able σ a al.0) (λ e q. no-b (Memᴰ.head (sym (byte_of a b (e ∙ sym k) q)))) m in
    oldest_trans (thread_of σ (owner b)) (thread_of (step σ a) (owner b)) (thread_of (run TSO (step σ a) z) (owner b)) n one (run_oldest z (step σ a) b n k al.1 (λ i. no-b (Memᴰ.tail i)) one.movable)

-- an empty queue, while its thread does no access
move_empty : (t : ℕ) (h : Thread) (c : Cell) → h.queue ≡ [] → (thread_behind move t h c).queue ≡ []
unfolding thread_behind newer
move_empty t h c e = ap newer e

step_of_empty : (σ : State) (k : Kind) (u t : ℕ) → able k (thread_of σ u) (length σ.cells) ≡ true → (k ≡ access → t ≡ u → ⊥) → (thread_of σ t).queue ≡ [] → (thread_of (step_of σ k u) t).queue ≡ []
step_of_empty σ k u t m ne q = go (ℕ_discrete t u) k refl
  where
    go : Dec (t ≡ u) → (j : Kind) → k ≡ j → (thread_of (step_of σ k u) t).queue ≡ []
    go (no d) j e = ap (λ (x : Thread). x.queue) (thread_other σ k u t d) ∙ q
    go (yes d) access e = absurd (ne e d)
    go (yes d) move e =
        ap (λ (x : Thread). x.queue) (ap (thread_of (step_of σ k u)) d ∙ thread_own σ k u (able_range σ k u (length σ.cells) m))
        ∙ ap (λ (j : Kind). (thread_behind j u (thread_of σ u) (cell_of σ (place σ k u))).queue) e ∙ move_empty u (thread_of σ u) (cell_of σ (place σ k u)) (ap (λ (x : ℕ). (thread_of σ x).queue) (sym d) ∙ q)

pub run_empty : (z : Schedule) (σ : State) (b : ℕ) → kind_of b ≡ access → Allowed TSO σ z → (Memᴰ b z → ⊥) → (thread_of σ (owner b)).queue ≡ [] → (thread_of (run TSO σ z) (owner b)).queue ≡ []
unfolding run step
run_empty [] σ b k a no-b e = e
run_empty (a ∷ z) σ b k al no-b e = run_empty z (step σ a) b k al.1 (λ i. no-b (Memᴰ.tail i))
    (step_of_empty σ (kind_of a) (owner a) (owner b) (enabled_able σ a al.0) (λ q i. no-b (Memᴰ.head (sym (byte_of a b (q ∙ sym k) (sym i))))) e)
