-- Fenced code stays fenced along a run: behind settling, behind each access, and where nothing is pending any more. Code without a store is
-- fenced, code that only reads has no store.
use Prim.Native.Nat.{ℕ, zero, suc}
use mathlib.Core.Path.{◌≡◌, refl, sym, ap, ◌∙◌}
use mathlib.Core.Bool.{Bool, true, false, not, false≢true}
use mathlib.Core.Option.{Option, none, some}
use mathlib.Core.List.{List, [], ◌∷◌}
use Rattle.spec_file.proofs.DigitValues.{both}
use Rattle.spec_file.specs.declared.instruction.Access.TheVariants.{Store, Load, FetchAdd, CompareSwap}
use Rattle.spec_file.specs.declared.instruction.Own.TheVariants.{Assign, AddAssign, SkipUnless, Assert}
use Rattle.spec_file.specs.declared.instruction.Instruction.{Instruction}
use Rattle.spec_file.specs.declared.instruction.Instruction.TheVariants.{Memory, Alone}
use Rattle.spec_sc.specs.Local.{Local, holds, outcome, settle, begins_with_access, access_takes, access_puts, first_takes, first_puts, first_next, pending, takes, puts, next}
use Rattle.spec_sc.proofs.Same.{both_and}
use Rattle.spec_tso.specs.Queue.{Entry, queued, at_once, is_empty, free}
use Rattle.spec_tso.specs.State.{access_locks, first_locks, locked}
use Rattle.spec_tso.proofs.Queues.{free_empty}
use Rattle.spec_fenced.specs.Fenced.{fenced, storeless, only_reads}

-- what settling leaves of fenced code is fenced
pub settle_fenced : (is : List Instruction) (k : ℕ) (rs : List ℕ) (b : Bool) → fenced k b is ≡ true → fenced 0 b (settle k rs is).rest ≡ true
unfolding settle outcome fenced
settle_fenced [] k rs b f = refl
settle_fenced (i ∷ is) (suc k) rs b f = settle_fenced is k rs b f
settle_fenced (Memory a ∷ is) zero rs b f = f
settle_fenced (Alone (Assign r p) ∷ is) zero rs b f = settle_fenced is 0 _ b f
settle_fenced (Alone (AddAssign r p) ∷ is) zero rs b f = settle_fenced is 0 _ b f
settle_fenced (Alone (SkipUnless t n) ∷ is) zero rs b f = let g = both (fenced 0 b is) (fenced n b is) f in go (holds rs t) refl (settle_fenced is 0 rs b g.0) (settle_fenced is n rs b g.1)
  where
    go : (x : Bool) → holds rs t ≡ x → fenced 0 b (settle 0 rs is).rest ≡ true → fenced 0 b (settle n rs is).rest ≡ true → fenced 0 b (settle 0 rs (Alone (SkipUnless t n) ∷ is)).rest ≡ true
    go true e i j = rw (e, settle) i
    go false e i j = rw (e, settle) j
settle_fenced (Alone (Assert t) ∷ is) zero rs b f = go (holds rs t) refl (settle_fenced is 0 rs b f)
  where
    go : (x : Bool) → holds rs t ≡ x → fenced 0 b (settle 0 rs is).rest ≡ true → fenced 0 b (settle 0 rs (Alone (Assert t) ∷ is)).rest ≡ true
    go true e i = rw (e, settle) i
    go false e i = rw (e, settle)

-- what is fenced with a store pending is so with none
pub calmer : (is : List Instruction) (k : ℕ) (b : Bool) → fenced k true is ≡ true → fenced k b is ≡ true
unfolding fenced
calmer [] k b f = refl
calmer (i ∷ is) (suc k) b f = calmer is k b f
calmer (Memory (Store l p) ∷ is) zero b f = f
calmer (Memory (Load r l) ∷ is) zero b f = absurd (false≢true f)
calmer (Memory (FetchAdd r l p) ∷ is) zero b f = f
calmer (Memory (CompareSwap r l e v) ∷ is) zero b f = f
calmer (Alone (Assign r p) ∷ is) zero b f = calmer is 0 b f
calmer (Alone (AddAssign r p) ∷ is) zero b f = calmer is 0 b f
calmer (Alone (SkipUnless t n) ∷ is) zero b f = let g = both (fenced 0 true is) (fenced n true is) f in both_and (calmer is 0 b g.0) (calmer is n b g.1)
calmer (Alone (Assert t) ∷ is) zero b f = calmer is 0 b f

-- code without a store is fenced, wherever it is entered
pub storeless_fenced : (is : List Instruction) (k : ℕ) → storeless is ≡ true → fenced k false is ≡ true
unfolding fenced storeless
storeless_fenced [] k f = refl
storeless_fenced (Memory (Store l p) ∷ is) k f = absurd (false≢true f)
storeless_fenced (Memory (Load r l) ∷ is) zero f = storeless_fenced is 0 f
storeless_fenced (Memory (Load r l) ∷ is) (suc k) f = storeless_fenced is k f
storeless_fenced (Memory (FetchAdd r l p) ∷ is) zero f = storeless_fenced is 0 f
storeless_fenced (Memory (FetchAdd r l p) ∷ is) (suc k) f = storeless_fenced is k f
storeless_fenced (Memory (CompareSwap r l e v) ∷ is) zero f = storeless_fenced is 0 f
storeless_fenced (Memory (CompareSwap r l e v) ∷ is) (suc k) f = storeless_fenced is k f
storeless_fenced (Alone (Assign r p) ∷ is) zero f = storeless_fenced is 0 f
storeless_fenced (Alone (AddAssign r p) ∷ is) zero f = storeless_fenced is 0 f
storeless_fenced (Alone (SkipUnless t n) ∷ is) zero f = both_and (storeless_fenced is 0 f) (storeless_fenced is n f)
storeless_fenced (Alone (Assert t) ∷ is) zero f = storeless_fenced is 0 f
storeless_fenced (Alone o ∷ is) (suc k) f = storeless_fenced is k f

-- code that only reads has no store
pub reads_storeless : (is : List Instruction) → only_reads is ≡ true → storeless is ≡ true
unfolding only_reads storeless
reads_storeless [] f = refl
reads_storeless (Memory (Store l p) ∷ is) f = f
reads_storeless (Memory (Load r l) ∷ is) f = reads_storeless is f
reads_storeless (Memory (FetchAdd r l p) ∷ is) f = absurd (false≢true f)
reads_storeless (Memory (CompareSwap r l e v) ∷ is) f = absurd (false≢true f)
reads_storeless (Alone o ∷ is) f = reads_storeless is f

-- the next access of a fenced thread with these stores pending: a store, or an access with nothing pending, which acts on memory at once
pub data Turn (q : List Entry) (h : Local) : Type 0 where
  storing : takes h ≡ false → locked h ≡ false → ((x : ℕ) → fenced 0 true (next h x).rest ≡ true) → Turn q h
  direct : q ≡ [] → ((i l x : ℕ) → queued (locked h) i l (puts h x) ≡ []) → ((x : ℕ) → at_once (locked h) (puts h x) ≡ puts h x)
      → ((x : ℕ) → fenced 0 false (next h x).rest ≡ true) → Turn q h

nothing_waits : (q : List Entry) → not (not (is_empty q)) ≡ true → q ≡ []
unfolding is_empty
nothing_waits [] e = refl
nothing_waits (x ∷ q) e = absurd (false≢true e)

empty_calm : (q : List Entry) → q ≡ [] → not (is_empty q) ≡ false
unfolding is_empty
empty_calm q e = rw e

locked_queues : (i l : ℕ) (o : Option ℕ) → queued true i l o ≡ []
unfolding queued
locked_queues i l none = refl
locked_queues i l (some v) = refl

pub turn : (q : List Entry) (h : Local) → pending h ≡ true → free (locked h) q ≡ true → fenced 0 (not (is_empty q)) h.rest ≡ true → Turn q h
unfolding pending locked takes puts next fenced begins_with_access first_takes first_locks first_puts first_next access_takes access_locks access_puts queued at_once
turn q h m f c = go h.rest refl m f c
  where
    go : (is : List Instruction) → h.rest ≡ is → begins_with_access is ≡ true → free (first_locks is) q ≡ true → fenced 0 (not (is_empty q)) is ≡ true → Turn q h
    go [] e m f c = absurd (false≢true m)
    go (Alone o ∷ is) e m f c = absurd (false≢true m)
    go (Memory (Store l p) ∷ is) e m f c = storing (rw e) (rw e) (λ x. rw e (settle_fenced is 0 _ true c))
    go (Memory (Load r l) ∷ is) e m f c =
        let g = both (not (not (is_empty q))) (fenced 0 (not (is_empty q)) is) c in
        let n = nothing_waits q g.0 in
        let calm : fenced 0 false is ≡ true = ap (λ (b : Bool). fenced 0 b is) (sym (empty_calm q n)) ∙ g.1 in
        direct n (λ i l x. rw e) (λ x. rw e) (λ x. rw e (settle_fenced is 0 _ false calm))
    go (Memory (FetchAdd r l p) ∷ is) e m f c = direct (free_empty q f) (λ i j x. rw e (locked_queues i j (access_puts h.registers (FetchAdd r l p) x))) (λ x. rw e) (λ x. rw e (settle_fenced is 0 _ false c))
    go (Memory (CompareSwap r l a v) ∷ is) e m f c = direct (free_empty q f) (λ i j x. rw e (locked_queues i j (access_puts h.registers (CompareSwap r l a v) x))) (λ x. rw e) (λ x. rw e (settle_fenced is 0 _ false c))
