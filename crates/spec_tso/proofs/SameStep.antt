-- When a step does the same on two cells: if it only reads from its own queue, or does not read at all, and writes nothing to memory.
use Prim.Native.Nat.{ℕ}
use mathlib.Core.Path.{◌≡◌, refl, sym, ap, ◌∙◌}
use mathlib.Core.Bool.{Bool, true, false}
use mathlib.Core.Option.{Option, none, some}
use Rattle.spec_sc.specs.Local.{pending, place_of, takes, puts, next}
use Rattle.spec_sc.specs.State.{Event, History, Cell, latest, noted}
use Rattle.spec_sc.specs.Actions.{given}
use Rattle.spec_sc.proofs.Access.{blind_next, blind_puts}
use Rattle.spec_tso.specs.Queue.{Entry, Found, newest, found_in, at_once}
use Rattle.spec_tso.specs.State.{Thread, locked, finds, thread_behind, reaches, Kind, access, move}
use Rattle.spec_tso.specs.Actions.{reading, source_if, before_if, action_of}

-- a step of thread t, which is h, does on the cell d what it does on c
pub record Same (k : Kind) (t : ℕ) (h : Thread) (c d : Cell) : Type 0 where
  pub thread : thread_behind k t h d ≡ thread_behind k t h c
  pub memory : reaches k t h d ≡ reaches k t h c
  pub action : (b : ℕ) → action_of b k t h d ≡ action_of b k t h c

-- on the same cell
pub same_cell : (k : Kind) (t : ℕ) (h : Thread) (c d : Cell) → d ≡ c → Same k t h c d
same_cell k t h c d e = record { thread = ap (thread_behind k t h) e; memory = ap (reaches k t h) e; action = λ b. ap (action_of b k t h) e }

-- a move that finds nothing to move
same_move : (t : ℕ) (h : Thread) (c d : Cell) → reaches move t h c ≡ none → Same move t h c d
unfolding thread_behind reaches action_of reading source_if given before_if
same_move t h c d q = record { thread = refl; memory = refl; action = λ b. rw q }

-- an access to which the cell makes no difference
same_access : (t : ℕ) (h : Thread) (c d : Cell) → next h.local (finds t h d).value ≡ next h.local (finds t h c).value →
    noted (takes h.local) (finds t h d).source h.history ≡ noted (takes h.local) (finds t h c).source h.history →
    puts h.local (finds t h d).value ≡ puts h.local (finds t h c).value → source_if (takes h.local) (finds t h d) ≡ source_if (takes h.local) (finds t h c) →
    reaches access t h c ≡ none → Same access t h c d
unfolding thread_behind reaches action_of reading given before_if
same_access t h c d n i p s q = record {
  thread = rw (n, i, p);
  memory = ap (at_once (locked h.local)) p;
  action = λ b. rw (s, p, q);
}

-- an access that reads from its own queue
finds_own : (t : ℕ) (h : Thread) (c d : Cell) (e : Entry) → newest h.queue (place_of h.local) ≡ some e → finds t h d ≡ finds t h c
unfolding finds found_in
finds_own t h c d e q = rw q

same_own : (t : ℕ) (h : Thread) (c d : Cell) (e : Entry) → newest h.queue (place_of h.local) ≡ some e → reaches access t h c ≡ none → Same access t h c d
same_own t h c d e q z = same_access t h c d (ap (λ (f : Found). next h.local f.value) f) (ap (λ (f : Found). noted (takes h.local) f.source h.history) f)
    (ap (λ (f : Found). puts h.local f.value) f) (ap (source_if (takes h.local)) f) z
  where
    f : finds t h d ≡ finds t h c
    f = finds_own t h c d e q

-- an access that does not read: a store
pub noted_blind : (b : Bool) (e f : Event) (h : History) → b ≡ false → noted b e h ≡ noted b f h
unfolding noted
noted_blind b e f h q = rw q

source_blind : (b : Bool) (e f : Found) → b ≡ false → source_if b e ≡ source_if b f
unfolding source_if
source_blind b e f q = rw q

same_store : (t : ℕ) (h : Thread) (c d : Cell) → pending h.local ≡ true → takes h.local ≡ false → reaches access t h c ≡ none → Same access t h c d
same_store t h c d p e z =
    let o = blind_puts h.local (finds t h d).value (finds t h c).value p e in
    same_access t h c d (blind_next h.local (finds t h d).value (finds t h c).value p e) (noted_blind (takes h.local) (finds t h d).source (finds t h c).source h.history e)
    (o.1 ∙ sym o.2) (source_blind (takes h.local) (finds t h d) (finds t h c) e) z

-- a step that writes nothing to memory does the same on every cell, or it reads memory
pub data Looks (k : Kind) (t : ℕ) (h : Thread) (c : Cell) : Type 0 where
  blind : ((d : Cell) → Same k t h c d) → Looks k t h c
  looks : ((b : ℕ) → (action_of b k t h c).reads ≡ true) → ((b : ℕ) → (action_of b k t h c).source ≡ latest c.writes) → Looks k t h c

access_looks : (t : ℕ) (h : Thread) (c : Cell) → pending h.local ≡ true → reaches access t h c ≡ none → Looks access t h c
unfolding action_of reading source_if finds found_in
access_looks t h c p z = go (takes h.local) refl (newest h.queue (place_of h.local)) refl
  where
    go : (b : Bool) → takes h.local ≡ b → (o : Option Entry) → newest h.queue (place_of h.local) ≡ o → Looks access t h c
    go false e o q = blind (λ d. same_store t h c d p e z)
    go true e (some x) q = blind (λ d. same_own t h c d x q z)
    go true e none q = looks (λ b. e) (λ b. rw (e, q))

pub looking : (k : Kind) (t : ℕ) (h : Thread) (c : Cell) → (k ≡ access → pending h.local ≡ true) → reaches k t h c ≡ none → Looks k t h c
looking access t h c p z = access_looks t h c (p refl) z
looking move t h c p z = blind (λ d. same_move t h c d z)
