-- VALUES OF A RUN ARE 32-BIT: registers, pending stores and memory.
use Prim.Native.Nat.{ℕ, zero, suc, ◌<◌, ◌≤◌, ◌^◌}
use mathlib.Core.Path.{◌≡◌, refl, sym, ap, subst, ◌∙◌}
use mathlib.Core.Bool.{Bool, true, false}
use mathlib.Core.Option.{Option, none, some}
use mathlib.Core.List.{List, [], ◌∷◌, ◌++◌}
use native.Mathlib.Omega.{arith}
use native.Mathlib.Decide.{ℕ_discrete}
use lib.Dec.{eqb}
use lib.ListN.{length, get_or}
use Rattle.spec_file.specs.WellFormed.{Everywhere}
use Rattle.spec_sc.specs.Local.{Local, place_of, puts, next}
use Rattle.spec_sc.specs.State.{Cell, Event, written}
use Rattle.spec_sc.proofs.Words.{Word, Words, next_words, puts_word}
use Rattle.spec_tso.specs.Queue.{Entry, newest, found_in, queued, at_once, oldest_value, newer}
use Rattle.spec_tso.specs.State.{Thread, State, Kind, access, move, thread_of, cell_of, locked, finds, number_of, reaches, thread_behind, cell_behind, place, step_of, able, kind_of, owner, step, enabled}
use Rattle.spec_tso.proofs.Steps.{enabled_able, able_range, cell_own, cell_other}
use Rattle.spec_tso.proofs.Change.{thread_cases}
use Rattle.spec_tso.proofs.Regular.{Regular, place_in}

abbrev EntryWord : Entry → Type 0
EntryWord e = Word e.value

-- of a thread, and of a state
abbrev pub ThreadWords : Thread → Type 0
ThreadWords h = Words h.local × Everywhere EntryWord h.queue

abbrev pub StateWords : State → Type 0
StateWords σ = ((t : ℕ) → ThreadWords (thread_of σ t)) × ((l : ℕ) → Word (cell_of σ l).value)

abbrev Given : Option ℕ → Type 0
Given o = (v : ℕ) → o ≡ some v → Word v

some_once : (v w : ℕ) → ◌≡◌ {A = Option ℕ} (some v) (some w) → v ≡ w
some_once v w e = cc

none_some : (w : ℕ) → ◌≡◌ {A = Option ℕ} none (some w) → ⊥
none_some w e = let z : ◌≡◌ {A = ℕ} 0 1 = cc in omega arith

newest_word : (q : List Entry) (l : ℕ) → Everywhere EntryWord q → (e : Entry) → newest q l ≡ some e → Word e.value
unfolding newest
newest_word [] l x e i = let z : ◌≡◌ {A = ℕ} 0 1 = cc in absurd (omega arith)
newest_word (f ∷ q) l x e i = go (newest q l) refl (eqb f.location l) refl (λ k j. newest_word q l x.1 k j) i
  where
    go : (o : Option Entry) → newest q l ≡ o → (b : Bool) → eqb f.location l ≡ b → ((k : Entry) → newest q l ≡ some k → Word k.value) → newest (f ∷ q) l ≡ some e → Word e.value
    go (some k) p b r ih j =
        let m : newest (f ∷ q) l ≡ some k = rw (p, newest) in
        let n : k ≡ e = let s : some k ≡ some e = sym m ∙ j in cc in
        subst (λ (y : Entry). Word y.value) n (ih k p)
    go none p true r ih j =
        let m : newest (f ∷ q) l ≡ some f = rw (p, r, newest) in
        let n : f ≡ e = let s : some f ≡ some e = sym m ∙ j in cc in
        subst (λ (y : Entry). Word y.value) n x.0
    go none p false r ih j =
        let m : newest (f ∷ q) l ≡ none = rw (p, r, newest) in
        let s : ◌≡◌ {A = Option Entry} none (some e) = sym m ∙ j in
        let z : ◌≡◌ {A = ℕ} 0 1 = cc in absurd (omega arith)

found_word : (t : ℕ) (o : Option Entry) (c : Cell) → ((e : Entry) → o ≡ some e → Word e.value) → Word c.value → Word (found_in t o c).value
unfolding found_in
found_word t none c x y = y
found_word t (some e) c x y = x e refl

queued_words : (b : Bool) (i l : ℕ) (o : Option ℕ) → Given o → Everywhere EntryWord (queued b i l o)
unfolding queued
queued_words b i l none g = tt
queued_words true i l (some v) g = tt
queued_words false i l (some v) g = (g v refl, tt)

both_everywhere : (a b : List Entry) → Everywhere EntryWord a → Everywhere EntryWord b → Everywhere EntryWord (a ++ b)
both_everywhere [] b x y = y
both_everywhere (e ∷ a) b x y = (x.0, both_everywhere a b x.1 y)

newer_words : (q : List Entry) → Everywhere EntryWord q → Everywhere EntryWord (newer q)
unfolding newer
newer_words [] x = tt
newer_words (e ∷ q) x = x.1

oldest_given : (q : List Entry) → Everywhere EntryWord q → Given (oldest_value q)
unfolding oldest_value
oldest_given [] x v e = absurd (none_some v e)
oldest_given (f ∷ q) x v e = subst Word (some_once f.value v e) x.0

once_given : (b : Bool) (o : Option ℕ) → Given o → Given (at_once b o)
unfolding at_once
once_given true o g = g
once_given false o g = λ v e. absurd (none_some v e)

written_word : (e : Event) (o : Option ℕ) (c : Cell) → Given o → Word c.value → Word (written e o c).value
unfolding written
written_word e none c g w = w
written_word e (some v) c g w = g v refl

module _ (t : ℕ) (h : Thread) (c : Cell) (w : ThreadWords h) (y : Word c.value) where
  finds_word : Word (finds t h c).value
  unfolding finds
  finds_word = found_word t (newest h.queue (place_of h.local)) c (newest_word h.queue (place_of h.local) w.1) y

  puts_given : Given (puts h.local (finds t h c).value)
  puts_given v e = puts_word h.local (finds t h c).value v w.0 e

  reaches_given : (k : Kind) → Given (reaches k t h c)
  unfolding reaches
  reaches_given access = once_given (locked h.local) (puts h.local (finds t h c).value) puts_given
  reaches_given move = oldest_given h.queue w.1

  behind_words : (k : Kind) → ThreadWords (thread_behind k t h c)
  unfolding thread_behind
  behind_words access = (
    next_words h.local (finds t h c).value w.0 finds_word,
    both_everywhere h.queue _ w.1 (queued_words (locked h.local) h.history.done (place_of h.local) (puts h.local (finds t h c).value) puts_given),
  )
  behind_words move = (w.0, newer_words h.queue w.1)

-- BEHIND A STEP
step_words : (σ : State) (k : Kind) (t : ℕ) → Regular σ → able k (thread_of σ t) (length σ.cells) ≡ true → StateWords σ → StateWords (step_of σ k t)
unfolding cell_behind
step_words σ k t g m w = (
  λ u. thread_cases (λ i h. ThreadWords h) σ k t (able_range σ k t (length σ.cells) m) (behind_words t (thread_of σ t) (cell_of σ (place σ k t)) (w.0 t) (w.1 (place σ k t)) k) u (λ ne. w.0 u),
  λ l. cells l (ℕ_discrete l (place σ k t)),
)
  where
    cells : (l : ℕ) → Dec (l ≡ place σ k t) → Word (cell_of (step_of σ k t) l).value
    cells l (no ne) = subst (λ (c : Cell). Word c.value) (sym (cell_other σ k t l ne)) (w.1 l)
    cells l (yes e) = subst (λ (i : ℕ). Word (cell_of (step_of σ k t) i).value) (sym e) (subst (λ (c : Cell). Word c.value) (sym (cell_own σ k t (place_in σ g k t m)))
        (written_word (t, number_of k (thread_of σ t)) (reaches k t (thread_of σ t) (cell_of σ (place σ k t))) (cell_of σ (place σ k t))
        (reaches_given t (thread_of σ t) (cell_of σ (place σ k t)) (w.0 t) (w.1 (place σ k t)) k) (w.1 (place σ k t))))

pub words_step : (σ : State) (b : ℕ) → Regular σ → enabled σ b ≡ true → StateWords σ → StateWords (step σ b)
unfolding step
words_step σ b g m w = step_words σ (kind_of b) (owner b) g (enabled_able σ b m) w
