-- The state before the first step: each thread settled with an empty history, each location with its initial value and no write.
use Prim.Native.Nat.{ℕ, zero, suc, ◌<◌}
use mathlib.Core.Path.{◌≡◌, refl, ◌∙◌}
use mathlib.Core.List.{List, [], ◌∷◌, map}
use native.Mathlib.Nat.{not-suc-le-zero, le_of_suc-le-suc}
use lib.ListN.{length, get_or, length-map}
use Rattle.spec_file.specs.Program.{Program, code_of, initial}
use Rattle.spec_file.specs.WellFormed.{Everywhere, WellFormed}
use Rattle.spec_file.specs.declared.instruction.Instruction.{Instruction}
use Rattle.spec_sc.specs.State.{Thread, no_thread, fresh_cell, thread_of, cell_of, opened, start}

pub start_threads : (p : Program) → length (start p).threads ≡ length p.threads
unfolding start
start_threads p = length-map p.threads opened

pub start_cells : (p : Program) → WellFormed p → length (start p).cells ≡ 8
unfolding start initial
start_cells p w = length-map (initial p) fresh_cell ∙ w.eight

-- a thread that exists starts with its code
opened_at : (cs : List (List Instruction)) (t : ℕ) → t < length cs → get_or (map opened cs) t no_thread ≡ opened (get_or cs t [])
opened_at [] t h = absurd (not-suc-le-zero h)
opened_at (c ∷ cs) zero h = refl
opened_at (c ∷ cs) (suc t) h = opened_at cs t (le_of_suc-le-suc h)

pub start_thread : (p : Program) (t : ℕ) → t < length p.threads → thread_of (start p) t ≡ opened (code_of p t)
unfolding thread_of start code_of
start_thread p t h = opened_at p.threads t h

-- a property of every thread at the start, from a property of every code
opened_cases : (Q : List Instruction → Type 0) (P : Thread → Type 0) → P no_thread → ((c : List Instruction) → Q c → P (opened c)) → (cs : List (List Instruction)) → Everywhere Q cs → (t : ℕ) → P (get_or (map opened cs) t no_thread)
opened_cases Q P n f [] q t = n
opened_cases Q P n f (c ∷ cs) q zero = f c q.0
opened_cases Q P n f (c ∷ cs) q (suc t) = opened_cases Q P n f cs q.1 t

pub start_cases : (p : Program) (Q : List Instruction → Type 0) (P : Thread → Type 0) → P no_thread → ((c : List Instruction) → Q c → P (opened c)) → Everywhere Q p.threads → (t : ℕ) → P (thread_of (start p) t)
unfolding thread_of start
start_cases p Q P n f q t = opened_cases Q P n f p.threads q t

-- no location is written
fresh_writes : (vs : List ℕ) (l : ℕ) → (get_or (map fresh_cell vs) l (fresh_cell 0)).writes ≡ []
unfolding fresh_cell
fresh_writes [] l = refl
fresh_writes (v ∷ vs) zero = refl
fresh_writes (v ∷ vs) (suc l) = fresh_writes vs l

pub start_writes : (p : Program) (l : ℕ) → (cell_of (start p) l).writes ≡ []
unfolding cell_of start
start_writes p l = fresh_writes (initial p) l

-- what asks nothing of a code holds of all
pub everyone : (cs : List (List Instruction)) → Everywhere (λ c. Unit {0}) cs
everyone [] = tt
everyone (c ∷ cs) = (tt, everyone cs)

-- no thread has done anything
pub start_history : (p : Program) (t : ℕ) → ((thread_of (start p) t).history.done ≡ 0) × ((thread_of (start p) t).history.reads ≡ [])
unfolding opened no_thread
start_history p = start_cases p (λ c. Unit {0}) (λ h. (h.history.done ≡ 0) × (h.history.reads ≡ [])) (refl, refl) (λ c u. (refl, refl)) (everyone p.threads)

-- a location starts with its initial value
fresh_value : (vs : List ℕ) (l : ℕ) → (get_or (map fresh_cell vs) l (fresh_cell 0)).value ≡ get_or vs l 0
unfolding fresh_cell
fresh_value [] l = refl
fresh_value (v ∷ vs) zero = refl
fresh_value (v ∷ vs) (suc l) = fresh_value vs l

pub start_value : (p : Program) (l : ℕ) → (cell_of (start p) l).value ≡ get_or (initial p) l 0
unfolding cell_of start
start_value p l = fresh_value (initial p) l
