-- What a call offers is a member of its list; what a call answers, and its output behind each answer; what was answered last behind a call.
use Prim.Native.Nat.{ℕ}
use mathlib.Core.Path.{◌≡◌, refl, sym}
use mathlib.Core.Bool.{Bool, true, false}
use mathlib.Core.Option.{Option, none, some}
use mathlib.Core.List.{List, [], ◌∷◌, Memᴰ}
use native.Mathlib.Omega.{arith}
use Rattle.spec_file.specs.Over.{over}
use Rattle.spec_schedules.specs.Lists.{head_of}
use Rattle.spec_schedules.specs.Order.{Schedule, less}
use Rattle.spec_schedules.specs.Calls.{found, nomore, refused, next, offer, answer_to, content, last}

head_in : (l : List Schedule) (s : Schedule) → head_of l ≡ some s → Memᴰ s l
unfolding head_of
head_in [] s e = absurd (let z : ◌≡◌ {A = ℕ} 0 1 = cc in omega arith)
head_in (x ∷ l) s e = Memᴰ.head (let i : x ≡ s = cc in sym i)

next_in : (l : List Schedule) (b s : Schedule) → next l b ≡ some s → Memᴰ s l
unfolding next
next_in [] b s e = absurd (let z : ◌≡◌ {A = ℕ} 0 1 = cc in omega arith)
next_in (x ∷ l) b s e = go (less b x) refl (λ k. next_in l b s k)
  where
    go : (c : Bool) → less b x ≡ c → (next l b ≡ some s → Memᴰ s l) → Memᴰ s (x ∷ l)
    go true q ih = let k : some x ≡ some s = rw (q, next) at e in Memᴰ.head (let i : x ≡ s = cc in sym i)
    go false q ih = Memᴰ.tail (ih (rw (q, next) at e))

pub offer_in : (l : List Schedule) (o : Option Schedule) (s : Schedule) → offer l o ≡ some s → Memᴰ s l
unfolding offer
offer_in l none s e = head_in l s e
offer_in l (some b) s e = next_in l b s e

pub offer_next : (l : List Schedule) (s : Schedule) → offer l (some s) ≡ next l s
unfolding offer
offer_next l s = refl

-- what a call answers
pub answer_short : (o : Option Schedule) → answer_to true o ≡ refused 22 0
unfolding answer_to
answer_short o = refl

pub answer_none : answer_to false none ≡ nomore
unfolding answer_to
answer_none = refl

pub answer_some : (s : Schedule) → answer_to false (some s) ≡ found s
unfolding answer_to
answer_some s = refl

-- the output behind an answer
pub content_found : (s : Schedule) (out : List ℕ) → content (found s) out ≡ over s out
unfolding content
content_found s out = refl

pub content_nomore : (out : List ℕ) → content nomore out ≡ out
unfolding content
content_nomore out = refl

pub content_refused : (n k : ℕ) (out : List ℕ) → content (refused n k) out ≡ out
unfolding content
content_refused n k out = refl

-- a property of what was answered last, behind an answer
pub last_answer : (P : Schedule → Type 0) (Q : Option Schedule → Type 0) → ((s : Schedule) → P s → Q (some s)) → (b : Bool) (x o : Option Schedule) → Q o → ((s : Schedule) → x ≡ some s → P s) → Q (last o (answer_to b x))
unfolding answer_to last
last_answer P Q f true x o k h = k
last_answer P Q f false none o k h = k
last_answer P Q f false (some s) o k h = f s (h s refl)
