-- A THREAD THAT GOES ON ALONE AND WRITES NOTHING: what it comes to, how a view decides where it goes, what it reads on the way, and what a write by
-- another thread does to it.
use Prim.Native.Nat.{ℕ, zero, suc, ◌+◌, ◌<◌, ◌≤◌}
use mathlib.Core.Path.{◌≡◌, refl, sym, ap, ap₂, subst, ◌∙◌}
use mathlib.Core.Logic.{◌≢◌}
use mathlib.Core.Bool.{Bool, true, false, not, ◌&&◌, true≢false}
use mathlib.Core.List.{List, ◌∷◌, Memᴰ}
use native.Mathlib.Omega.{arith}
use native.Mathlib.Decide.{ℕ_discrete, dec_lt}
use lib.ListN.{get_or}
use borrow.Author.Tests.{not-true}
use Rattle.spec_file.specs.WellFormed.{accesses}
use Rattle.spec_file.specs.declared.instruction.Instruction.{Instruction}
use Rattle.spec_file.proofs.DigitValues.{both}
use Rattle.spec_sc.specs.Local.{Local, first_place, pending, place_of, takes, puts, next}
use Rattle.spec_sc.specs.State.{Event, History, Thread, Cell, fresh_cell, latest, noted, advanced}
use Rattle.spec_sc.specs.Actions.{given}
use Rattle.spec_sc.proofs.Access.{next_fewer, blind_puts}
use Rattle.theory_sc.proofs.Digits.{led}
use Rattle.theory_sc_key.specs.Registers.{Like}
use Rattle.theory_sc_key.specs.Nearness.{found, looks, onward, gone_on}
use Rattle.theory_sc_key.proofs.Registers.{like_sym, next_like}

-- none of h's next n accesses writes
abbrev pub Looks : List Cell → ℕ → Thread → Type 0
Looks cs n h = (i : ℕ) → i < n → looks cs (gone_on cs i h) ≡ true

-- by n accesses that write nothing h comes to be k
abbrev pub Comes : List Cell → ℕ → Thread → Thread → Type 0
Comes cs n h k = Looks cs n h × (gone_on cs n h ≡ k)

pub look_parts : (cs : List Cell) (h : Thread) → looks cs h ≡ true → (pending h.local ≡ true) × (given (puts h.local (found cs h).value) ≡ false)
unfolding looks
look_parts cs h e = let b = both (pending h.local) _ e in (b.0, not-true (given (puts h.local (found cs h).value)) b.1)

-- ---- one access more, in front and at the end
gone_first : (cs : List Cell) (n : ℕ) (h : Thread) → gone_on cs n (onward cs h) ≡ gone_on cs (suc n) h
unfolding gone_on
gone_first cs zero h = refl
gone_first cs (suc n) h = ap (onward cs) (gone_first cs n h)

pub comes_first : (cs : List Cell) (n : ℕ) (h k : Thread) → looks cs h ≡ true → Comes cs n (onward cs h) k → Comes cs (suc n) h k
unfolding gone_on
comes_first cs n h k l c = (go, sym (gone_first cs n h) ∙ c.1)
  where
    go : Looks cs (suc n) h
    go zero i = l
    go (suc j) i = ap (looks cs) (sym (gone_first cs j h)) ∙ c.0 j (omega arith)

pub comes_rest : (cs : List Cell) (n : ℕ) (h k : Thread) → Comes cs (suc n) h k → Comes cs n (onward cs h) k
comes_rest cs n h k c = (λ j i. ap (looks cs) (gone_first cs j h) ∙ c.0 (suc j) (omega arith), gone_first cs n h ∙ c.1)

pub comes_last : (cs : List Cell) (n : ℕ) (h k : Thread) → Comes cs n h k → looks cs k ≡ true → Comes cs (suc n) h (onward cs k)
unfolding gone_on
comes_last cs n h k c l = (λ i s. go i s (dec_lt i n), ap (onward cs) c.1)
  where
    go : (i : ℕ) → i < suc n → Dec (i < n) → looks cs (gone_on cs i h) ≡ true
    go i s (yes q) = c.0 i q
    go i s (no q) = let e : i ≡ n = omega arith in ap (λ (j : ℕ). looks cs (gone_on cs j h)) e ∙ ap (looks cs) c.1 ∙ l

-- ---- ONE VIEW DECIDES WHERE A THREAD GOES: by equal values in memory, threads with like local states go on alike
abbrev pub SameValues : List Cell → List Cell → Type 0
SameValues cs ds = (l : ℕ) → (get_or cs l (fresh_cell 0)).value ≡ (get_or ds l (fresh_cell 0)).value

pub gone_like : (cs ds : List Cell) (n : ℕ) (h g : Thread) → SameValues cs ds → Like h.local g.local → Like (gone_on cs n h).local (gone_on ds n g).local
unfolding gone_on advanced place_of
gone_like cs ds zero h g same e = e
gone_like cs ds (suc n) h g same e =
    let before = gone_like cs ds n h g same e in
    let x : Thread = gone_on cs n h in
    let y : Thread = gone_on ds n g in
    let finds : (found cs x).value ≡ (found ds y).value = same (place_of x.local) ∙ ap (λ (c : List Instruction). (get_or ds (first_place c) (fresh_cell 0)).value) before.rest in
    subst (λ (v : ℕ). Like (next x.local (found cs x).value) (next y.local v)) finds (next_like x.local y.local before (found cs x).value).0

-- with each access there is less code left
fewer : (cs : List Cell) (n i : ℕ) (h : Thread) → Looks cs n h → i ≤ n → accesses (gone_on cs n h).local.rest + n ≤ accesses (gone_on cs i h).local.rest + i
unfolding gone_on advanced
fewer cs zero i h l s = let e : i ≡ 0 = omega arith in let q = ap (λ (j : ℕ). accesses (gone_on cs j h).local.rest) e in omega arith
fewer cs (suc n) i h l s = go (ℕ_discrete i (suc n)) (λ q. fewer cs n i h (λ j k. l j (omega arith)) q)
  where
    go : Dec (i ≡ suc n) → (i ≤ n → accesses (gone_on cs n h).local.rest + n ≤ accesses (gone_on cs i h).local.rest + i) →
        accesses (gone_on cs (suc n) h).local.rest + suc n ≤ accesses (gone_on cs i h).local.rest + i
    go (yes e) ih = let q = ap (λ (j : ℕ). accesses (gone_on cs j h).local.rest) e in omega (arith, q)
    go (no e) ih = omega (arith, ih (omega arith), next_fewer (gone_on cs n h).local (found cs (gone_on cs n h)).value (look_parts cs (gone_on cs n h) (l n (omega arith))).0)

pub comes_within : (cs : List Cell) (n : ℕ) (h k : Thread) → Comes cs n h k → n ≤ accesses h.local.rest
unfolding gone_on
comes_within cs n h k c = let q = fewer cs n 0 h c.0 (omega arith) in omega (arith, q)

no_later : (cs ds : List Cell) (n m : ℕ) (h k g j : Thread) → SameValues cs ds → Like h.local g.local → Like k.local j.local →
    Comes cs n h k → Comes ds m g j → m ≤ n
no_later cs ds n m h k g j same e f c d = go (dec_lt n m)
  where
    go : Dec (n < m) → m ≤ n
    go (no q) = omega arith
    go (yes q) =
        let one = ap accesses (sym (gone_like cs ds n h g same e).rest ∙ ap (λ (x : Thread). x.local.rest) c.1 ∙ f.rest ∙ ap (λ (x : Thread). x.local.rest) (sym d.1)) in
        absurd (omega (arith, fewer ds m n g d.0 (omega arith), one))

-- threads that go on alike come to like ends by as many accesses
pub as_many : (cs ds : List Cell) (n m : ℕ) (h k g j : Thread) → SameValues cs ds → Like h.local g.local → Like k.local j.local →
    Comes cs n h k → Comes ds m g j → n ≡ m
as_many cs ds n m h k g j same e f c d =
    let a = no_later cs ds n m h k g j same e f c d in
    let b = no_later ds cs m n g j h k (λ l. sym (same l)) (like_sym h.local g.local e) (like_sym k.local j.local f) d c in
    omega arith

-- ---- WHAT A THREAD READS ON THE WAY
look_takes : (cs : List Cell) (h : Thread) → looks cs h ≡ true → takes h.local ≡ true
unfolding given
look_takes cs h e = let l = look_parts cs h e in go l.0 l.1 (takes h.local) refl
  where
    go : pending h.local ≡ true → given (puts h.local (found cs h).value) ≡ false → (b : Bool) → takes h.local ≡ b → takes h.local ≡ true
    go pend none true q = q
    go pend none false q = absurd (true≢false (sym (ap given (blind_puts h.local (found cs h).value 0 pend q).1) ∙ none))

-- the read that h's next access adds
abbrev pub reading : List Cell → Thread → ℕ × Event
reading cs h = (h.history.done, latest (found cs h).writes)

pub look_history : (cs : List Cell) (h : Thread) → looks cs h ≡ true → (onward cs h).history ≡ record { done = suc h.history.done; reads = reading cs h ∷ h.history.reads }
unfolding advanced noted
look_history cs h l = let e = look_takes cs h l in rw e

read_in : (cs : List Cell) (n : ℕ) (h : Thread) → Looks cs n h → (i : ℕ) → i < n → Memᴰ (reading cs (gone_on cs i h)) (gone_on cs n h).history.reads
unfolding gone_on
read_in cs zero h l i s = absurd (omega arith)
read_in cs (suc n) h l i s = subst (λ (x : History). Memᴰ (reading cs (gone_on cs i h)) x.reads) (sym (look_history cs (gone_on cs n h) (l n (omega arith))))
    (go (dec_lt i n) (λ q. read_in cs n h (λ j k. l j (omega arith)) i q))
  where
    go : Dec (i < n) → (i < n → Memᴰ (reading cs (gone_on cs i h)) (gone_on cs n h).history.reads) →
        Memᴰ (reading cs (gone_on cs i h)) (reading cs (gone_on cs n h) ∷ (gone_on cs n h).history.reads)
    go (yes q) ih = Memᴰ.tail (ih q)
    go (no q) ih = let e : i ≡ n = omega arith in Memᴰ.head (ap (λ (j : ℕ). reading cs (gone_on cs j h)) e)

-- ---- WHERE READS LEAD from a start, if a read of e at l finds `val l e`
module _ (val : ℕ → Event → ℕ) (start : Local) where
  abbrev pub Led : Thread → Type 0
  Led h = h.local ≡ led val start h.history.reads

  -- the same reads lead to one state
  pub led_once : (h k : Thread) → Led h → Led k → h.history ≡ k.history → h ≡ k
  led_once h k a b e =
      let local = a ∙ ap (λ (y : History). led val start y.reads) e ∙ sym b in
      ap₂ (λ (l : Local) (y : History). let z : Thread = record { local = l; history = y } in z) local e

  module _ (cs : List Cell) (valued : (l : ℕ) → (get_or cs l (fresh_cell 0)).value ≡ val l (latest (get_or cs l (fresh_cell 0)).writes)) where
    pub led_onward : (h : Thread) → Led h → looks cs h ≡ true → Led (onward cs h)
    unfolding advanced led
    led_onward h a l =
        ap (next h.local) (valued (place_of h.local)) ∙ ap (λ (x : Local). next x (val (place_of x) (reading cs h).1)) a
        ∙ ap (λ (y : History). led val start y.reads) (sym (look_history cs h l))

    pub led_gone : (n : ℕ) (h : Thread) → Led h → Looks cs n h → Led (gone_on cs n h)
    unfolding gone_on
    led_gone zero h a l = a
    led_gone (suc n) h a l = led_onward (gone_on cs n h) (led_gone n h a (λ j k. l j (omega arith))) (l n (omega arith))

    -- who comes where k is behind its read came where k was
    pub comes_before : (n : ℕ) (h k : Thread) → Led h → Led k → looks cs k ≡ true → Comes cs (suc n) h (onward cs k) → Comes cs n h k
    unfolding gone_on
    comes_before n h k a b l c =
        let fewer_looks : Looks cs n h = λ j i. c.0 j (omega arith) in
        let y = sym (look_history cs (gone_on cs n h) (c.0 n (omega arith))) ∙ ap (λ (x : Thread). x.history) c.1 ∙ look_history cs k l in
        let reads : reading cs (gone_on cs n h) ∷ (gone_on cs n h).history.reads ≡ reading cs k ∷ k.history.reads = ap (λ (x : History). x.reads) y in
        let done = ap (λ (x : History). x.done) y in
        let same : (gone_on cs n h).history ≡ k.history =
        ap₂ (λ (i : ℕ) (rs : List (ℕ × Event)). let z : History = record { done = i; reads = rs } in z) (omega (arith, done)) (cc) in
        (fewer_looks, led_once (gone_on cs n h) k (led_gone n h a fewer_looks) b same)

-- ---- A WRITE AT l, by which cs becomes ds
-- h's next n accesses go elsewhere
abbrev pub Misses : List Cell → ℕ → Thread → ℕ → Type 0
Misses cs n h l = (i : ℕ) → i < n → place_of (gone_on cs i h).local ≢ l

-- whether they do is seen from the view
pub misses_like : (cs ds : List Cell) (n : ℕ) (h g : Thread) (l : ℕ) → SameValues cs ds → Like h.local g.local → Misses cs n h l → Misses ds n g l
unfolding place_of
misses_like cs ds n h g l same e m i s q = m i s (ap first_place (gone_like cs ds i h g same e).rest ∙ q)

module _ (cs ds : List Cell) (l : ℕ) (elsewhere : (x : ℕ) → x ≢ l → get_or cs x (fresh_cell 0) ≡ get_or ds x (fresh_cell 0)) where
  gone_past : (n : ℕ) (h : Thread) → Misses cs n h l → gone_on cs n h ≡ gone_on ds n h
  unfolding gone_on
  gone_past zero h m = refl
  gone_past (suc n) h m =
      ap (advanced (gone_on cs n h)) (elsewhere (place_of (gone_on cs n h).local) (m n (omega arith)))
      ∙ ap (onward ds) (gone_past n h (λ i s. m i (omega arith)))

  -- a thread that goes elsewhere does not see the write
  pub comes_past : (n : ℕ) (h k : Thread) → Misses cs n h l → Comes cs n h k → Comes ds n h k × Misses ds n h l
  unfolding looks
  comes_past n h k m c = ((λ i s. sees i s ∙ c.0 i s, sym (gone_past n h m) ∙ c.1), λ i s q. m i s (ap (λ (x : Thread). place_of x.local) (at i s) ∙ q))
    where
      at : (i : ℕ) → i < n → gone_on cs i h ≡ gone_on ds i h
      at i s = gone_past i h (λ j r. m j (omega arith))

      sees : (i : ℕ) → i < n → looks ds (gone_on ds i h) ≡ looks cs (gone_on cs i h)
      sees i s = ap (looks ds) (sym (at i s))
          ∙ ap (λ (c : Cell). pending (gone_on cs i h).local && not (given (puts (gone_on cs i h).local c.value))) (sym (elsewhere (place_of (gone_on cs i h).local) (m i s)))

-- a thread that went there would have read the last write of l
pub comes_unread : (cs : List Cell) (n : ℕ) (h k : Thread) (l : ℕ) → Comes cs n h k →
    ((r : ℕ × Event) → Memᴰ r k.history.reads → r.1 ≢ latest (get_or cs l (fresh_cell 0)).writes) → Misses cs n h l
comes_unread cs n h k l p new i s q =
    new (reading cs (gone_on cs i h)) (subst (λ (x : Thread). Memᴰ (reading cs (gone_on cs i h)) x.history.reads) p.1 (read_in cs n h p.0 i s))
    (ap (λ (j : ℕ). latest (get_or cs j (fresh_cell 0)).writes) q)
