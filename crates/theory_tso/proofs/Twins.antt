-- R2 IS SOUND: where a twin u of t stands as t stands, exchanging the two leaves the state as it is. So every full schedule that takes a byte
-- of t now has an exchanged one that takes that of u.
use Prim.Native.Nat.{ℕ, ◌+◌, ◌<◌}
use mathlib.Core.Path.{◌≡◌, refl, sym, ap, ap₂, subst, ◌∙◌}
use mathlib.Core.Logic.{◌≢◌, inl, inr}
use mathlib.Core.Bool.{Bool, true, false, false≢true}
use mathlib.Core.List.{List, [], ◌∷◌, ◌++◌, Memᴰ}
use native.Mathlib.Omega.{arith}
use lib.Dec.{eqb}
use borrow.Author.Tests.{eqb-true, ne_eqb}
use Rattle.spec_file.specs.Program.{Program, code_of}
use Rattle.spec_file.specs.WellFormed.{WellFormed}
use Rattle.spec_file.proofs.DigitValues.{both}
use Rattle.spec_schedules.specs.Order.{Schedule}
use Rattle.spec_schedules.specs.System.{Allowed}
use Rattle.spec_schedules.proofs.Runs.{full_split}
use Rattle.spec_model.specs.Exchange.{Together, together}
use Rattle.spec_model.specs.Laws.{Admitted}
use Rattle.spec_model.specs.Alike.{Smaller}
use Rattle.spec_model.proofs.Exchanges.{members}
use Rattle.spec_model.proofs.Permitted.{together_true}
use Rattle.spec_model.proofs.Swapped.{swapped, swapped_high, swapped_else, swapped_cases, swapped_twice, swapped_exchange}
use Rattle.spec_model.proofs.Twins as Model
use Rattle.spec_sc.specs.Local.{Local}
use Rattle.spec_sc.specs.State.{Event, initial_write}
use Rattle.spec_sc.specs.Exchange.{moved_event, moved_read, moved_reads}
use Rattle.spec_file.specs.Lists.{same_list}
use Rattle.theory_search.specs.Standing.{same_local, silent}
use Rattle.spec_sc.proofs.Suffix.{Suffix, suffix_equal}
use Rattle.spec_sc.proofs.FixedState.{write_cell, event_fixed, reads_fixed, cells_fixed}
use Rattle.spec_file.proofs.Lists.{same_list_is}
use Rattle.theory_search.proofs.Standing.{same_local_lem, silent_true}
use Rattle.spec_sc.proofs.Standing.{Silent}
use Rattle.spec_tso.specs.Queue.{Entry}
use Rattle.spec_tso.specs.State.{Thread, State, Kind, access, move, without_queues, thread_of, kind_of, owner, byte_for, start, TSO}
use Rattle.spec_tso.specs.Graph.{end_of, Full}
use Rattle.spec_tso.specs.Exchange.{moved_byte, moved_thread, Moves}
use Rattle.spec_tso.proofs.Bytes.{for_owner}
use Rattle.spec_tso.proofs.Seen.{seen_cell, run_threads, start_threads}
use Rattle.spec_tso.proofs.Sourced.{From, sourced}
use Rattle.spec_tso.proofs.Rests.{rest_code}
use Rattle.spec_tso.specs.TotalStoreOrder.{tso}
use Rattle.spec_tso.proofs.Laws.{tso_laws, within}
use Rattle.theory_tso.specs.Rules.{renamed, same_source, same_entry, stands_as, twin}

-- what the tests say
same_entry_lem : (e f : Entry) → same_entry e f ≡ true → e ≡ f
unfolding same_entry
same_entry_lem e f q =
    let a = both (eqb e.number f.number) _ q in
    let b = both (eqb e.location f.location) _ a.1 in
    let r1 = eqb-true e.number f.number a.0 in
    let r2 = eqb-true e.location f.location b.0 in
    let r3 = eqb-true e.value f.value b.1 in
    let mk : ℕ → ℕ → ℕ → Entry = λ i l v. record { number = i; location = l; value = v } in
    let s : mk e.number e.location e.value ≡ mk f.number f.location f.value = rw (r1, r2, r3) in
    s

-- the reads of t, by the test, are those of u with the two exchanged, where u read nothing of t
module _ (u t : ℕ) (ne : u ≢ t) where
  pub renamed_swapped : (x : ℕ) → x ≢ t → renamed u t x ≡ swapped u t x
  unfolding renamed swapped
  renamed_swapped x n = go (eqb x u) refl
    where
      go : (b : Bool) → eqb x u ≡ b → renamed u t x ≡ swapped u t x
      go true e = rw (e, renamed, swapped)
      go false e = rw (e, ne_eqb x t n, renamed, swapped)

  same_source_lem : (r s : ℕ × Event) → r.1.0 ≢ t → same_source u t r s ≡ true → s ≡ moved_read (swapped u t) r
  unfolding same_source moved_read moved_event
  same_source_lem r s n q =
      let a = both (eqb r.0 s.0) _ q in
      let b = both (eqb (renamed u t r.1.0) s.1.0) _ a.1 in
      ap₂ (λ (x : ℕ) (y : Event). let z : ℕ × Event = (x, y) in z) (sym (eqb-true r.0 s.0 a.0))
      (ap₂ (λ (x y : ℕ). let z : Event = (x, y) in z) (sym (eqb-true (renamed u t r.1.0) s.1.0 b.0) ∙ renamed_swapped r.1.0 n) (sym (eqb-true r.1.1 s.1.1 b.1)))

  same_reads : (rs ks : List (ℕ × Event)) → ((r : ℕ × Event) → Memᴰ r rs → r.1.0 ≢ t) → same_list (same_source u t) rs ks ≡ true → ks ≡ moved_reads (swapped u t) rs
  unfolding same_list moved_reads
  same_reads [] [] n e = refl
  same_reads [] (k ∷ ks) n e = absurd (false≢true e)
  same_reads (r ∷ rs) [] n e = absurd (false≢true e)
  same_reads (r ∷ rs) (k ∷ ks) n e =
      let a = both (same_source u t r k) _ e in
      ap₂ (λ (x : ℕ × Event) (xs : List (ℕ × Event)). x ∷ xs) (same_source_lem r k (n r (Memᴰ.head refl)) a.0) (same_reads rs ks (λ x m. n x (Memᴰ.tail m)) a.1)

module _ (π : ℕ → ℕ) where
  reads_back : ((x : ℕ) → π (π x) ≡ x) → (rs : List (ℕ × Event)) → moved_reads π (moved_reads π rs) ≡ rs
  unfolding moved_reads moved_read moved_event
  reads_back h [] = refl
  reads_back h (r ∷ rs) = ap₂ (λ (a : ℕ × Event) (b : List (ℕ × Event)). a ∷ b) (ap (λ (x : ℕ). let z : ℕ × Event = (r.0, (x, r.1.1)) in z) (h r.1.0)) (reads_back h rs)

  -- a thread by its parts
  abbrev mk_thread : Local → ℕ → List (ℕ × Event) → List Entry → Thread
  mk_thread l d rs q = record { local = l; history = record { done = d; reads = rs }; queue = q }

  thread_moved : (h k : Thread) → h.local ≡ k.local → h.history.done ≡ k.history.done → k.history.reads ≡ moved_reads π h.history.reads → h.queue ≡ k.queue → k ≡ moved_thread π h
  unfolding moved_thread
  thread_moved h k a b c d =
      let s : mk_thread k.local k.history.done k.history.reads k.queue ≡ mk_thread h.local h.history.done (moved_reads π h.history.reads) h.queue = rw (a, b, c, d) in
      s

-- a thread of which nothing is in memory
abbrev pub Quiet : State → ℕ → Type 0
Quiet σ u = Silent (without_queues σ) u

-- a source of another thread's read is no write of it
pub from_other : (σ : State) (u x : ℕ) (e : Event) → u < 6 → x ≢ u → Quiet σ u → From σ x e → e.0 ≢ u
unfolding initial_write
from_other σ u x e h ne quiet (inl q) i = ne (sym q ∙ i)
from_other σ u x e h ne quiet (inr (inl q)) i = omega (arith, ap (λ (y : Event). y.0) q)
from_other σ u x e h ne quiet (inr (inr m)) i =
    let c = write_cell (without_queues σ) m.0 e (subst (λ k. Memᴰ e k.writes) (sym (seen_cell σ m.0)) m.1) in
    quiet c.0 c.1 e c.2 i

byte_less : (k : Kind) (u t : ℕ) → u < t → byte_for k u < byte_for k t
unfolding byte_for
byte_less access u t h = h
byte_less move u t h = omega arith

-- the exchanged byte of t is that of u, and smaller
byte_swapped : (u : ℕ) (b : ℕ) → u < owner b → moved_byte (swapped u (owner b)) b < b
unfolding moved_byte
byte_swapped u b h =
    let ne : u ≢ owner b = λ q. omega arith in
    let e : byte_for (kind_of b) (swapped u (owner b) (owner b)) ≡ byte_for (kind_of b) u = ap (byte_for (kind_of b)) (swapped_high u (owner b) ne) in
    let l = byte_less (kind_of b) u (owner b) h in
    let o = for_owner b in
    omega arith

-- exchanging two threads twice leaves a thread as it is
moved_twice : (u t : ℕ) → u ≢ t → (h : Thread) → moved_thread (swapped u t) (moved_thread (swapped u t) h) ≡ h
unfolding moved_thread
moved_twice u t ne h = ap (λ (rs : List (ℕ × Event)). mk_thread (swapped u t) h.local h.history.done rs h.queue) (reads_back (swapped u t) (swapped_twice u t ne) h.history.reads)

module _ (p : Program) (w : WellFormed p) (v : Schedule) (a : Allowed TSO (start p) v) (u t : ℕ) (ne : u ≢ t) (hu : u < 6) (ht : t < 6) (k : Together p u t)
    (quiet : Quiet (end_of p v) u) (quiet' : Quiet (end_of p v) t) where
  abbrev σ : State
  σ = end_of p v

  abbrev h : Thread
  h = thread_of σ u

  abbrev g : Thread
  g = thread_of σ t

  -- what the test says: t is u with the two exchanged in its sources
  pub stands_moved : stands_as u t (thread_of (end_of p v) u) (thread_of (end_of p v) t) ≡ true → thread_of (end_of p v) t ≡ moved_thread (swapped u t) (thread_of (end_of p v) u)
  unfolding stands_as
  stands_moved e =
      let x = both (same_local h.local g.local) _ e in
      let y = both (eqb h.history.done g.history.done) _ x.1 in
      let z = both (same_list (same_source u t) h.history.reads g.history.reads) _ y.1 in
      thread_moved (swapped u t) h g
      (same_local_lem h.local g.local (λ n. suffix_equal (code_of p t) _ _ (subst (Suffix _) (members p w u t k).2 (rest_code p v a u)) (rest_code p v a t) n) x.0)
      (eqb-true _ _ y.0)
      (same_reads u t ne h.history.reads g.history.reads (λ r m. from_other σ t u r.1 ht ne quiet' (sourced p w v a u r m)) z.0)
      (same_list_is same_entry same_entry_lem h.queue g.queue z.1)

  else : (x : ℕ) → x ≢ u → x ≢ t → thread_of σ x ≡ moved_thread (swapped u t) (thread_of σ x)
  else x i j = thread_moved (swapped u t) (thread_of σ x) (thread_of σ x) refl refl
      (sym (reads_fixed (swapped u t) (thread_of σ x).history.reads (λ r m.
      let f = sourced p w v a x r m in
      event_fixed (swapped u t) r.1 (swapped_else u t ne r.1.0 (from_other σ u x r.1 hu i quiet f) (from_other σ t x r.1 ht j quiet' f))))) refl

  -- THE STATE STAYS when twins are exchanged
  pub twins_state : thread_of (end_of p v) t ≡ moved_thread (swapped u t) (thread_of (end_of p v) u) → Moves (swapped u t) (end_of p v) (end_of p v)
  unfolding without_queues
  twins_state there = record {
    threads = swapped_cases u t ne (λ x y. thread_of σ y ≡ moved_thread (swapped u t) (thread_of σ x)) there (sym (moved_twice u t ne h) ∙ ap (moved_thread (swapped u t)) (sym there)) else;
    cells = cells_fixed (swapped u t) σ.cells (λ c m f i. event_fixed (swapped u t) f (swapped_else u t ne f.0 (quiet c m f i) (quiet' c m f i)));
    within = λ y l. let s = run_threads v (start p) ∙ start_threads p in let b = within p w (swapped u t) (swapped_exchange p u t ne hu ht k) y (omega arith) in omega arith;
  }

-- R2: neither byte of t goes before that of its smaller twin u
pub twin_smaller : (p : Program) → Admitted tso p → (v : Schedule) (u b : ℕ) (z : Schedule) → u < owner b → twin p (end_of p v) (owner b) u ≡ true → Full p (v ++ (b ∷ z)) → Smaller tso p (v ++ (b ∷ z))
unfolding twin
twin_smaller p a v u b z l e f =
    let w = a.0 in
    let σ : State = end_of p v in
    let t : ℕ = owner b in
    let x = both (together p.groups u t) _ e in
    let y = both (stands_as u t (thread_of σ u) (thread_of σ t)) _ x.1 in
    let q = both (silent (without_queues σ) u) _ y.1 in
    let k = together_true p u t x.0 in
    let m = members p w u t k in
    let six = w.six in
    let ne : u ≢ t = λ i. omega (arith, l, i) in
    let hu : u < 6 = omega (arith, m.0) in
    let ht : t < 6 = omega (arith, m.1) in
    let s = full_split TSO (start p) v (b ∷ z) f in
    let su = silent_true (without_queues σ) u q.0 in
    let st = silent_true (without_queues σ) t q.1 in
    let fix = twins_state p w v s.0 u t ne hu ht k su st (stands_moved p w v s.0 u t ne hu ht k su st y.0) in
    Model.twin_smaller tso tso_laws p a v (swapped u t) (swapped_exchange p u t ne hu ht k) fix b z (byte_swapped u b l) f
