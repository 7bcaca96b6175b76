-- 7 STANDS AT THE EARLIEST LINE of all far skips: the far skips of what has been read, each thread complete but the last, and those of the
-- lines to come are together the same list before and behind each line; 7 names its first.
use Prim.Native.Nat.{ℕ, zero, suc, ◌+◌, ◌-◌, ◌≤◌, ◌<◌}
use native.Mathlib.Omega.{arith}
use mathlib.Core.Path.{◌≡◌, refl, sym, ap, ap₂, subst, ◌∙◌}
use mathlib.Core.Logic.{◌⊎◌, inl, inr, ⊎_elim}
use mathlib.Core.Bool.{Bool, true, false, cond, not, ◌||◌}
use mathlib.Core.List.{List, [], ◌∷◌, ◌++◌, append_assoc, append-nil}
use lib.ListN.{length, get_or, set, length-set, length-append}
use lib.Dec.{eqb, ltb}
use borrow.Author.Tests.{eqb-true, eqb-false, ltb-true, ltb-false, le-ltb, lt-ltb}
use Rattle.spec_file.specs.TextLines.{TextLine, split}
use Rattle.spec_file.specs.Meaning.{Meaning, remarked, framed, broken, meaning}
use Rattle.spec_file.specs.Program.{Program}
use Rattle.spec_file.specs.Frames.{Frame, byte, known, in_range, opens, declares, starts, skip_of}
use Rattle.spec_file.specs.Decode.{Placed, Reading, fresh, thread_at, last_thread, in_place, within_limits, start_fits, alike_fits, frame_refusal, after, far_skip, first_far_skip, program_in, Decoded, accepted, refused, finish, read_lines, decode}
use Rattle.spec_file.specs.WellFormed.{Everywhere}
use Rattle.spec_file.specs.FarSkips.{instructions_from, FarSkip, SevenExactly}
use Rattle.spec_file.proofs.Tests.{second}
use Rattle.spec_file.proofs.Meaning.{framed_bytes}
use Rattle.spec_file.proofs.Skips.{no_skip}
use Rattle.spec_file.proofs.Sound.{Good, Sound, sound_fresh, sound_after, passes, ungrouped}

-- ---- the far skips of what has been read
-- of a thread with m instructions still to come
unfoldable far_lines : ℕ → List Placed → List ℕ
far_lines m [] = []
far_lines m (x ∷ xs) = cond (ltb (length xs + m) (skip_of x.code)) (x.line ∷ far_lines m xs) (far_lines m xs)

-- how many instructions are still to come in a thread in front of these, if m are in the last: only the last thread is not complete
unfoldable to_come : ℕ → List (List Placed) → ℕ
to_come m [] = m
to_come m (c ∷ cs) = 0

-- of threads of which the last has m instructions still to come
unfoldable far_all : ℕ → List (List Placed) → List ℕ
far_all m [] = []
far_all m (c ∷ cs) = far_lines (to_come m cs) c ++ far_all m cs

-- of lines to come, of which the first has number n
unfoldable far_rest : ℕ → List TextLine → List ℕ
far_rest n [] = []
far_rest n (l ∷ ls) =
    elim (meaning l) [
      | broken ↦ far_rest (n + 1) ls
      | remarked ↦ far_rest (n + 1) ls
      | framed f ↦ cond (ltb (instructions_from ls) (skip_of f)) (n ∷ far_rest (n + 1) ls) (far_rest (n + 1) ls)
    ]

-- the first of them, or 0
unfoldable first_of : List ℕ → ℕ
first_of [] = 0
first_of (x ∷ l) = x

-- ---- at the end 7 names the first
first_of_thread : (c : List Placed) → far_skip c ≡ first_of (far_lines 0 c)
unfolding far_skip far_lines first_of
first_of_thread [] = refl
first_of_thread (x ∷ xs) =
    go (ltb (length xs) (skip_of x.code)) (first_of_thread xs)
    ∙ ap (λ (k : ℕ). first_of (cond (ltb k (skip_of x.code)) (x.line ∷ far_lines 0 xs) (far_lines 0 xs))) (omega arith)
  where
    go : (b : Bool) → far_skip xs ≡ first_of (far_lines 0 xs) → cond b x.line (far_skip xs) ≡ first_of (cond b (x.line ∷ far_lines 0 xs) (far_lines 0 xs))
    go true ih = refl
    go false ih = ih

none_of_thread : (c : List Placed) → Everywhere Good c → first_of (far_lines 0 c) ≡ 0 → far_lines 0 c ≡ []
unfolding far_lines first_of
none_of_thread [] g e = refl
none_of_thread (x ∷ xs) g e = go (ltb (length xs + 0) (skip_of x.code)) (none_of_thread xs g.1) e
  where
    go : (b : Bool) → (first_of (far_lines 0 xs) ≡ 0 → far_lines 0 xs ≡ [])
        → first_of (cond b (x.line ∷ far_lines 0 xs) (far_lines 0 xs)) ≡ 0 → cond b (x.line ∷ far_lines 0 xs) (far_lines 0 xs) ≡ []
    go true ih q = absurd (omega (arith, g.0.numbered, q))
    go false ih q = ih q

first_behind : (l m : List ℕ) → (first_of l ≡ 0 → l ≡ []) → first_of (l ++ m) ≡ cond (eqb (first_of l) 0) (first_of m) (first_of l)
unfolding first_of
first_behind l m h = go (eqb (first_of l) 0) refl l refl
  where
    go : (b : Bool) → eqb (first_of l) 0 ≡ b → (k : List ℕ) → l ≡ k → first_of (l ++ m) ≡ cond b (first_of m) (first_of l)
    go true e k q = ap (λ (r : List ℕ). first_of (r ++ m)) (h (eqb-true (first_of l) 0 e))
    go false e [] q = absurd (eqb-false (first_of l) 0 e (ap first_of q))
    go false e (x ∷ k) q = ap (λ (r : List ℕ). first_of (r ++ m)) q ∙ sym (ap first_of q)

complete : (cs : List (List Placed)) → to_come 0 cs ≡ 0
unfolding to_come
complete [] = refl
complete (c ∷ cs) = refl

first_of_all : (cs : List (List Placed)) → Everywhere (Everywhere Good) cs → first_far_skip cs ≡ first_of (far_all 0 cs)
unfolding first_far_skip far_all first_of
first_of_all [] g = refl
first_of_all (c ∷ cs) g =
    let f = first_of_thread c in
    let r = first_of_all cs g.1 in
    ap₂ (λ (a b : ℕ). cond (eqb a 0) b a) f r
    ∙ sym (first_behind (far_lines 0 c) (far_all 0 cs) (none_of_thread c g.0))
    ∙ ap (λ (k : ℕ). first_of (far_lines k c ++ far_all 0 cs)) (sym (complete cs))

none_of_all : (cs : List (List Placed)) → Everywhere (Everywhere Good) cs → first_of (far_all 0 cs) ≡ 0 → far_all 0 cs ≡ []
unfolding far_all first_of
none_of_all [] g e = refl
none_of_all (c ∷ cs) g e =
    let k = ap (λ (k : ℕ). far_lines k c ++ far_all 0 cs) (complete cs) in
    let b = first_behind (far_lines 0 c) (far_all 0 cs) (none_of_thread c g.0) in
    k ∙ go (eqb (first_of (far_lines 0 c)) 0) refl (none_of_all cs g.1) (sym b ∙ sym (ap first_of k) ∙ e)
  where
    go : (b : Bool) → eqb (first_of (far_lines 0 c)) 0 ≡ b → (first_of (far_all 0 cs) ≡ 0 → far_all 0 cs ≡ [])
        → cond b (first_of (far_all 0 cs)) (first_of (far_lines 0 c)) ≡ 0 → far_lines 0 c ++ far_all 0 cs ≡ []
    go true q ih z = ap₂ (λ (a b : List ℕ). a ++ b) (none_of_thread c g.0 (eqb-true (first_of (far_lines 0 c)) 0 q)) (ih z)
    go false q ih z = absurd (eqb-false (first_of (far_lines 0 c)) 0 q z)

-- ---- a line more
-- an instruction more in a thread: those before have one more behind them
thread_more : (m : ℕ) (c : List Placed) (x : Placed) → far_lines m (c ++ (x ∷ [])) ≡ far_lines (suc m) c ++ cond (ltb m (skip_of x.code)) (x.line ∷ []) []
unfolding far_lines
thread_more m [] x = ap (λ (k : ℕ). cond (ltb k (skip_of x.code)) (x.line ∷ []) []) (omega arith)
thread_more m (y ∷ ys) x =
    let n : length (ys ++ (x ∷ [])) + m ≡ length ys + suc m = rw (length-append ys (x ∷ [])) (omega arith) in
    let ih = thread_more m ys x in
    ap₂ (λ (k : ℕ) (r : List ℕ). cond (ltb k (skip_of y.code)) (y.line ∷ r) r) n ih ∙ go (ltb (length ys + suc m) (skip_of y.code))
  where
    rest : List ℕ
    rest = cond (ltb m (skip_of x.code)) (x.line ∷ []) []

    go : (b : Bool) → cond b (y.line ∷ (far_lines (suc m) ys ++ rest)) (far_lines (suc m) ys ++ rest) ≡ cond b (y.line ∷ far_lines (suc m) ys) (far_lines (suc m) ys) ++ rest
    go true = refl
    go false = refl

-- setting a thread keeps how many are to come in front
to_come_set : (m i : ℕ) (c d : List Placed) (cs : List (List Placed)) → to_come m (set (d ∷ cs) i c) ≡ 0
unfolding to_come
to_come_set m zero c d cs = refl
to_come_set m (suc i) c d cs = refl

-- an instruction more in the last thread
all_more : (m : ℕ) (x : Placed) (cs : List (List Placed)) (i : ℕ) → suc i ≡ length cs
    → far_all m (set cs i (get_or cs i [] ++ (x ∷ []))) ≡ far_all (suc m) cs ++ cond (ltb m (skip_of x.code)) (x.line ∷ []) []
unfolding far_all to_come
all_more m x [] i e = absurd (omega (arith, e))
all_more m x (c ∷ []) zero e =
    append-nil (far_lines m (c ++ (x ∷ [])))
    ∙ thread_more m c x
    ∙ ap (λ (r : List ℕ). r ++ cond (ltb m (skip_of x.code)) (x.line ∷ []) []) (sym (append-nil (far_lines (suc m) c)))
all_more m x (c ∷ d ∷ cs) zero e = absurd (omega (arith, e))
all_more m x (c ∷ []) (suc i) e = absurd (omega (arith, e))
all_more m x (c ∷ d ∷ cs) (suc i) e =
    let v : List Placed = get_or (d ∷ cs) i [] ++ (x ∷ []) in
    ap₂ (λ (k : ℕ) (r : List ℕ). far_lines k c ++ r) (to_come_set m i v d cs) (all_more m x (d ∷ cs) i (omega (arith, e)))
    ∙ sym (append_assoc (far_lines 0 c) (far_all (suc m) (d ∷ cs)) (cond (ltb m (skip_of x.code)) (x.line ∷ []) []))

-- a thread more: the last one before is complete
all_open : (m : ℕ) (cs : List (List Placed)) → far_all m (cs ++ ([] ∷ [])) ≡ far_all 0 cs
unfolding far_all far_lines to_come
all_open m [] = refl
all_open m (c ∷ []) = refl
all_open m (c ∷ d ∷ cs) = ap (λ (r : List ℕ). far_lines 0 c ++ r) (all_open m (d ∷ cs))

-- lines that are no instruction skip nothing
unskipped : (f : Frame) (k : ℕ) → byte f 0 ≡ k → k < 4 → skip_of f ≡ 0
unskipped f k e h = no_skip f (λ q. omega (arith, e, q, h)) (λ q. omega (arith, e, q, h))

-- the far skips read and to come
abbrev far : ℕ → List TextLine → List (List Placed) → List ℕ
far n ls cs = far_all (instructions_from ls) cs ++ far_rest n ls

passed : (n : ℕ) (l : TextLine) (ls : List TextLine) (f : Frame) (r : Reading) → meaning l ≡ framed f → frame_refusal r f ≡ 0
    → far n (l ∷ ls) r.threads ≡ far (n + 1) ls (after n f r).threads
unfolding instructions_from far_rest after thread_at last_thread opens declares starts
passed n l ls f r q e = go (opens f) refl (declares f) refl (starts f) refl
  where
    m : ℕ
    m = instructions_from ls

    none : skip_of f ≡ 0 → cond (ltb m (skip_of f)) (n ∷ far_rest (n + 1) ls) (far_rest (n + 1) ls) ≡ far_rest (n + 1) ls
    none z = ap (λ (b : Bool). cond b (n ∷ far_rest (n + 1) ls) (far_rest (n + 1) ls)) (ap (ltb m) z ∙ le-ltb m 0 (omega arith))

    go : (o : Bool) → opens f ≡ o → (d : Bool) → declares f ≡ d → (z : Bool) → starts f ≡ z
        → far n (l ∷ ls) r.threads ≡ far (n + 1) ls (after n f r).threads
    go true o d k z v =
        rw (q, o, instructions_from, far_rest, after)
        (ap₂ (λ (a b : List ℕ). a ++ b) (sym (all_open m r.threads)) (none (unskipped f 1 (eqb-true (byte f 0) 1 o) (omega arith))))
    go false o true k z v =
        rw (q, o, k, instructions_from, far_rest, after)
        (ap (λ (b : List ℕ). far_all m r.threads ++ b) (none (unskipped f 2 (eqb-true (byte f 0) 2 k) (omega arith))))
    go false o false k true v =
        rw (q, o, k, v, instructions_from, far_rest, after)
        (ap (λ (b : List ℕ). far_all m r.threads ++ b) (none (unskipped f 3 (eqb-true (byte f 0) 3 v) (omega arith))))
    go false o false k false v =
        let some_thread : 0 < length r.threads = ltb-true 0 (length r.threads) (second (opens f) _ (ungrouped r f (passes r f e).in_place k v).1 o) in
        let x : Placed = record { line = n; code = f } in
        rw (q, o, k, v, instructions_from, far_rest, after)
        (ap (λ (a : List ℕ). far_all (suc m) r.threads ++ a) (split_off (ltb m (skip_of f)))
        ∙ sym (append_assoc (far_all (suc m) r.threads) (cond (ltb m (skip_of f)) (n ∷ []) []) (far_rest (n + 1) ls))
        ∙ ap (λ (a : List ℕ). a ++ far_rest (n + 1) ls) (sym (all_more m x r.threads (length r.threads - 1) (omega arith))))
      where
        split_off : (b : Bool) → cond b (n ∷ far_rest (n + 1) ls) (far_rest (n + 1) ls) ≡ cond b (n ∷ []) [] ++ far_rest (n + 1) ls
        split_off true = refl
        split_off false = refl

-- ---- what an answer of the lines says of them
abbrev Settled : Decoded → List ℕ → Type 0
Settled (accepted p) l = l ≡ []
Settled (refused n k) l = n ≡ 7 → (m : List ℕ) × (l ≡ k ∷ m)

not_seven : (a b c d s e : Bool) → ◌≡◌ {A = ℕ} (cond (not a) 3 (cond (not b) 4 (cond (not c) 5 (cond (not d) 6 (cond (not s) 40 (cond (not e) 8 0)))))) 7 → ⊥
not_seven true true true true true true q = omega (arith, q)
not_seven true true true true true false q = omega (arith, q)
not_seven true true true true false e q = omega (arith, q)
not_seven true true true false s e q = omega (arith, q)
not_seven true true false d s e q = omega (arith, q)
not_seven true false c d s e q = omega (arith, q)
not_seven false b c d s e q = omega (arith, q)

seven_free : (r : Reading) (f : Frame) → frame_refusal r f ≡ 7 → ⊥
unfolding frame_refusal
seven_free r f e = not_seven (known f) (in_range f) (in_place r f) (within_limits r f) (start_fits r f) (alike_fits r f) e

at_end : (r : Reading) → Sound r → Settled (finish r) (far_all 0 r.threads ++ [])
unfolding finish first_of
at_end r s = go (eqb (first_far_skip r.threads) 0) refl (far_all 0 r.threads ++ []) (append-nil (far_all 0 r.threads))
  where
    first : first_far_skip r.threads ≡ first_of (far_all 0 r.threads)
    first = first_of_all r.threads s.good

    go : (b : Bool) → eqb (first_far_skip r.threads) 0 ≡ b → (l : List ℕ) → l ≡ far_all 0 r.threads
        → Settled (cond b (accepted (program_in r)) (refused 7 (first_far_skip r.threads))) l
    go true e l q = q ∙ none_of_all r.threads s.good (sym first ∙ eqb-true (first_far_skip r.threads) 0 e)
    go false e [] q = λ z. absurd (eqb-false (first_far_skip r.threads) 0 e (first ∙ ap first_of (sym q)))
    go false e (x ∷ l) q = λ z. (l, ap (λ (k : ℕ). k ∷ l) (ap first_of q ∙ sym first))

by_lines : (n : ℕ) (ls : List TextLine) (r : Reading) → 1 ≤ n → Sound r → Settled (read_lines n ls r) (far n ls r.threads)
unfolding read_lines instructions_from far_rest
by_lines n [] r h s = at_end r s
by_lines n (l ∷ ls) r h s = go (meaning l) refl (by_lines (n + 1) ls r (omega arith) s) (λ f k. by_lines (n + 1) ls (after n f r) (omega arith) k)
  where
    go : (m : Meaning) → meaning l ≡ m
        → Settled (read_lines (n + 1) ls r) (far (n + 1) ls r.threads)
        → ((f : Frame) → Sound (after n f r) → Settled (read_lines (n + 1) ls (after n f r)) (far (n + 1) ls (after n f r).threads))
        → Settled (read_lines n (l ∷ ls) r) (far n (l ∷ ls) r.threads)
    go broken q past later = rw (q, read_lines) (λ z. absurd (omega (arith, z)))
    go remarked q past later = rw (q, read_lines, instructions_from, far_rest) past
    go (framed f) q past later = subst (λ (d : Decoded). Settled d (far n (l ∷ ls) r.threads)) (sym line) (by (eqb (frame_refusal r f) 0) refl)
      where
        line : read_lines n (l ∷ ls) r ≡ cond (eqb (frame_refusal r f) 0) (read_lines (n + 1) ls (after n f r)) (refused (frame_refusal r f) n)
        line = rw (q, read_lines) refl

        by : (b : Bool) → eqb (frame_refusal r f) 0 ≡ b
            → Settled (cond b (read_lines (n + 1) ls (after n f r)) (refused (frame_refusal r f) n)) (far n (l ∷ ls) r.threads)
        by true e =
            let z = eqb-true (frame_refusal r f) 0 e in
            subst (Settled (read_lines (n + 1) ls (after n f r))) (sym (passed n l ls f r q z)) (later f (sound_after n r f h (framed_bytes l f q) s z))
        by false e = λ z. absurd (seven_free r f z)

-- ---- the list of them is in order
above : (n : ℕ) (ls : List TextLine) (k : ℕ) → FarSkip n ls k → n ≤ k
above n [] k h = absurd h
above n (l ∷ ls) k (inl h) = omega (arith, h.0)
above n (l ∷ ls) k (inr h) = omega (arith, above (n + 1) ls k h)

-- a line that is no frame is no far skip
unframed : (n : ℕ) (l : TextLine) (ls : List TextLine) (k : ℕ) → ((f : Frame) → meaning l ≡ framed f → ⊥) → FarSkip n (l ∷ ls) k → FarSkip (n + 1) ls k
unframed n l ls k h (inl x) = absurd (h x.1.0 x.1.1)
unframed n l ls k h (inr x) = x

not_broken : (f : Frame) → broken ≡ framed f → ⊥
not_broken f z = let w : ◌≡◌ {A = ℕ} 0 1 = cc in omega (arith, w)

not_remark : (f : Frame) → remarked ≡ framed f → ⊥
not_remark f z = let w : ◌≡◌ {A = ℕ} 0 1 = cc in omega (arith, w)

-- a frame that skips no more than there is, is no far skip
near : (n : ℕ) (l : TextLine) (ls : List TextLine) (f : Frame) (k : ℕ) → meaning l ≡ framed f → ltb (instructions_from ls) (skip_of f) ≡ false
    → FarSkip n (l ∷ ls) k → FarSkip (n + 1) ls k
near n l ls f k q e (inl x) =
    let same : x.1.0 ≡ f = let z = sym x.1.1 ∙ q in cc in
    absurd (omega (arith, ltb-false (instructions_from ls) (skip_of f) e, subst (λ (g : Frame). instructions_from ls < skip_of g) same x.1.2))
near n l ls f k q e (inr x) = x

-- whether the list is empty or begins with a line, that says it of the far skips
abbrev Tells : ℕ → List TextLine → List ℕ → Type 0
Tells n ls [] = (k : ℕ) → FarSkip n ls k → ⊥
Tells n ls (j ∷ l) = FarSkip n ls j × ((k : ℕ) → FarSkip n ls k → j ≤ k)

passed_over : (n : ℕ) (l : TextLine) (ls : List TextLine) → ((k : ℕ) → FarSkip n (l ∷ ls) k → FarSkip (n + 1) ls k) → (r : List ℕ) → Tells (n + 1) ls r → Tells n (l ∷ ls) r
passed_over n l ls h [] t = λ k x. t k (h k x)
passed_over n l ls h (j ∷ r) t = (inr t.0, λ k x. t.1 k (h k x))

tells : (n : ℕ) (ls : List TextLine) → Tells n ls (far_rest n ls)
unfolding far_rest
tells n [] = λ k x. x
tells n (l ∷ ls) = go (meaning l) refl (tells (n + 1) ls)
  where
    go : (m : Meaning) → meaning l ≡ m → Tells (n + 1) ls (far_rest (n + 1) ls) → Tells n (l ∷ ls) (far_rest n (l ∷ ls))
    go broken q ih = rw (q, far_rest) (passed_over n l ls (λ k. unframed n l ls k (λ f z. not_broken f (sym q ∙ z))) (far_rest (n + 1) ls) ih)
    go remarked q ih = rw (q, far_rest) (passed_over n l ls (λ k. unframed n l ls k (λ f z. not_remark f (sym q ∙ z))) (far_rest (n + 1) ls) ih)
    go (framed f) q ih = subst (Tells n (l ∷ ls)) (sym line) (by (ltb (instructions_from ls) (skip_of f)) refl)
      where
        line : far_rest n (l ∷ ls) ≡ cond (ltb (instructions_from ls) (skip_of f)) (n ∷ far_rest (n + 1) ls) (far_rest (n + 1) ls)
        line = rw (q, far_rest) refl

        by : (b : Bool) → ltb (instructions_from ls) (skip_of f) ≡ b → Tells n (l ∷ ls) (cond b (n ∷ far_rest (n + 1) ls) (far_rest (n + 1) ls))
        by true e = (inl (refl, (f, q, ltb-true (instructions_from ls) (skip_of f) e)), above n (l ∷ ls))
        by false e = passed_over n l ls (λ k. near n l ls f k q e) (far_rest (n + 1) ls) ih

-- 7 EXACTLY
by_file : (file : List ℕ) → Settled (decode file) (far_rest 1 (split file))
unfolding decode fresh far_all
by_file file = go (ltb 4096 (length file))
  where
    go : (b : Bool) → Settled (cond b (refused 1 0) (read_lines 1 (split file) fresh)) (far_rest 1 (split file))
    go true = λ z. absurd (omega (arith, z))
    go false = by_lines 1 (split file) fresh (omega arith) sound_fresh

pub seven_exactly : (file : List ℕ) → SevenExactly file
seven_exactly file = record {
  earliest = λ k e. let s = subst (λ (d : Decoded). Settled d (far_rest 1 (split file))) e (by_file file) refl in subst (Tells 1 (split file)) s.1 (tells 1 (split file));
  none = λ p e. subst (Tells 1 (split file)) (subst (λ (d : Decoded). Settled d (far_rest 1 (split file))) e (by_file file)) (tells 1 (split file));
}
