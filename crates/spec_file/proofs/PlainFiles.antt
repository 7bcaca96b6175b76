-- Files that are equal once their remark lines are taken out and their capitals lowered are read alike: as the same program, or refused by the same number. Capitals
-- alone change nothing at all: code is compared by its bytes after reading. Lines' numbers are all that remarks change, and nothing but places rests on them.
use Prim.Native.Nat.{ℕ, zero, suc, ◌+◌, ◌≤◌}
use native.Mathlib.Omega.{arith}
use mathlib.Core.Path.{◌≡◌, refl, sym, ◌∙◌, ap, ap₂, subst}
use mathlib.Core.Bool.{Bool, true, false, cond, not, ◌&&◌, ◌||◌}
use mathlib.Core.List.{List, [], ◌∷◌, ◌++◌, map, map-append}
use lib.ListN.{length, get_or, set, drop, length-map, get_or-map}
use lib.Dec.{eqb, ltb}
use borrow.Author.Tests.{ne_eqb, le-ltb, ltb-false}
use Rattle.spec_file.specs.Lists.{same_list}
use Rattle.spec_file.specs.TextLines.{TextLine, split}
use Rattle.spec_file.specs.Meaning.{Meaning, remarked, framed, broken, meaning}
use Rattle.spec_file.specs.Plain.{is_remark, kept, lowered, plain}
use Rattle.spec_file.proofs.Plain.{lowered_line, length_lowered, split_lowered, split_plain, meaning_lowered, remark_line, other_line}
use Rattle.spec_file.specs.declared.instruction.Instruction.{Instruction}
use Rattle.spec_file.specs.Program.{Program}
use Rattle.spec_file.specs.Frames.{Frame, known, in_range, opens, declares, starts, byte, word, is_access, skip_of, instruction}
use Rattle.spec_file.specs.Decode.{Placed, Start, Reading, fresh, thread_at, last_thread, in_place, accesses_in, all_accesses_in, within_limits, is_given, value_at, start_fits, same_bytes, same_code, grouped, member_fits, followers_fit, members_fit, alike_fits, frame_refusal, after, far_skip, first_far_skip, locations, program_in, Decoded, accepted, refused, finish, read_lines, decode}
use Rattle.spec_file.specs.SameButPlace.{SameButPlace}
use Rattle.spec_file.specs.WellFormed.{Everywhere}
use Rattle.spec_file.proofs.Places.{after_every}

-- ---- capitals
lines_lowered : (n : ℕ) (ls : List TextLine) (r : Reading) → read_lines n (map lowered_line ls) r ≡ read_lines n ls r
unfolding read_lines
lines_lowered n [] r = refl
lines_lowered n (l ∷ ls) r = go (meaning l) refl (λ s. lines_lowered (n + 1) ls s)
  where
    go : (m : Meaning) → meaning l ≡ m → ((s : Reading) → read_lines (n + 1) (map lowered_line ls) s ≡ read_lines (n + 1) ls s)
        → read_lines n (lowered_line l ∷ map lowered_line ls) r ≡ read_lines n (l ∷ ls) r
    go broken q ih = rw (meaning_lowered l ∙ q, q, read_lines)
    go remarked q ih = rw (meaning_lowered l ∙ q, q, read_lines) (ih r)
    go (framed f) q ih = rw (meaning_lowered l ∙ q, q, read_lines) (ap (λ (d : Decoded). cond (eqb (frame_refusal r f) 0) d (refused (frame_refusal r f) n)) (ih (after n f r)))

-- CAPITALS CHANGE NOTHING, no place and no comparison of code either
pub capitals_same : (file : List ℕ) → decode (lowered file) ≡ decode file
unfolding decode
capitals_same file =
    ap₂ (λ (n : ℕ) (ls : List TextLine). cond (ltb 4096 n) (refused 1 0) (read_lines 1 ls fresh)) (length_lowered file) (split_lowered file)
    ∙ ap (λ (d : Decoded). cond (ltb 4096 (length file)) (refused 1 0) d) (lines_lowered 1 (split file) fresh)

-- ---- what has been read, without the numbers of lines
abbrev bare : Placed → Placed
bare x = record { line = 0; code = x.code }

unfoldable unlined : Reading → Reading
unlined r = record { threads = map (map bare) r.threads; groups = r.groups; given = r.given }

thread_bare : (r : Reading) (t : ℕ) → thread_at (unlined r) t ≡ map bare (thread_at r t)
unfolding thread_at unlined
thread_bare r t = get_or-map (map bare) r.threads t []

last_bare : (r : Reading) → last_thread (unlined r) ≡ last_thread r
unfolding last_thread unlined
last_bare r = rw (length-map r.threads (map bare))

accesses_bare : (xs : List Placed) → accesses_in (map bare xs) ≡ accesses_in xs
unfolding accesses_in
accesses_bare [] = refl
accesses_bare (x ∷ xs) = ap (λ (n : ℕ). cond (is_access x.code) 1 0 + n) (accesses_bare xs)

all_accesses_bare : (cs : List (List Placed)) → all_accesses_in (map (map bare) cs) ≡ all_accesses_in cs
unfolding all_accesses_in
all_accesses_bare [] = refl
all_accesses_bare (c ∷ cs) = ap₂ (λ (m n : ℕ). m + n) (accesses_bare c) (all_accesses_bare cs)

code_bare : (xs ys : List Placed) → same_code (map bare xs) (map bare ys) ≡ same_code xs ys
unfolding same_code same_bytes same_list
code_bare [] [] = refl
code_bare [] (y ∷ ys) = refl
code_bare (x ∷ xs) [] = refl
code_bare (x ∷ xs) (y ∷ ys) = rw (code_bare xs ys)

threads_bare : (r : Reading) → length (unlined r).threads ≡ length r.threads
unfolding unlined
threads_bare r = length-map r.threads (map bare)

counted_bare : (r : Reading) → all_accesses_in (unlined r).threads ≡ all_accesses_in r.threads
unfolding unlined
counted_bare r = all_accesses_bare r.threads

place_bare : (r : Reading) (f : Frame) → in_place (unlined r) f ≡ in_place r f
unfolding in_place unlined
place_bare r f = rw (length-map r.threads (map bare))

limits_bare : (r : Reading) (f : Frame) → within_limits (unlined r) f ≡ within_limits r f
unfolding within_limits
limits_bare r f = rw (threads_bare r, last_bare r, thread_bare r (last_thread r), length-map (thread_at r (last_thread r)) bare, counted_bare r)

front_bare : (r : Reading) (f : Frame) → start_fits (unlined r) f ≡ start_fits r f
unfolding start_fits unlined
front_bare r f = rw (length-map r.threads (map bare))

member_bare : (r : Reading) (t : ℕ) → member_fits (unlined r) t ≡ member_fits r t
unfolding member_fits unlined
member_bare r t = rw (length-map r.threads (map bare))

followers_bare : (r : Reading) (t : ℕ) (us : List ℕ) → followers_fit (unlined r) t us ≡ followers_fit r t us
unfolding followers_fit
followers_bare r t [] = refl
followers_bare r t (u ∷ us) =
    rw (member_bare r u, thread_bare r t, thread_bare r u, code_bare (thread_at r t) (thread_at r u), followers_bare r u us)

members_bare : (r : Reading) (ts : List ℕ) → members_fit (unlined r) ts ≡ members_fit r ts
unfolding members_fit
members_bare r [] = refl
members_bare r (t ∷ ts) = rw (member_bare r t, followers_bare r t ts)

-- no refusal of a line goes by them
refusal_bare : (r : Reading) (f : Frame) → frame_refusal (unlined r) f ≡ frame_refusal r f
unfolding frame_refusal alike_fits
refusal_bare r f = rw (place_bare r f, limits_bare r f, front_bare r f, members_bare r (drop 1 f))

set_bare : (cs : List (List Placed)) (i : ℕ) (c : List Placed) → map (map bare) (set cs i c) ≡ set (map (map bare) cs) i (map bare c)
set_bare [] i c = refl
set_bare (b ∷ cs) zero c = refl
set_bare (b ∷ cs) (suc i) c = ap (λ (ds : List (List Placed)). map bare b ∷ ds) (set_bare cs i c)

after_bare : (n : ℕ) (f : Frame) (r : Reading) → unlined (after n f r) ≡ after 0 f (unlined r)
unfolding after unlined
after_bare n f r = go (opens f) (declares f) (starts f)
  where
    own : List Placed
    own = thread_at r (last_thread r)

    one : Placed
    one = record { line = n; code = f }

    placed : map (map bare) (set r.threads (last_thread r) (own ++ (one ∷ [])))
        ≡ set (map (map bare) r.threads) (last_thread (unlined r)) (thread_at (unlined r) (last_thread (unlined r)) ++ (bare one ∷ []))
    placed =
        set_bare r.threads (last_thread r) (own ++ (one ∷ []))
        ∙ ap (λ (c : List Placed). set (map (map bare) r.threads) (last_thread r) c) (map-append bare own (one ∷ []))
        ∙ ap (λ (c : List Placed). set (map (map bare) r.threads) (last_thread r) (c ++ (bare one ∷ []))) (sym (thread_bare r (last_thread r)))
        ∙ ap (λ (t : ℕ). set (map (map bare) r.threads) t (thread_at (unlined r) t ++ (bare one ∷ []))) (sym (last_bare r))

    more : List Start
    more = record { location = byte f 1; value = word f 2 } ∷ r.given

    go : (a b c : Bool) → unlined
        (cond a (record { threads = r.threads ++ ([] ∷ []); groups = r.groups; given = r.given })
        (cond b (record { threads = r.threads; groups = r.groups ++ (drop 1 f ∷ []); given = r.given })
        (cond c (record { threads = r.threads; groups = r.groups; given = more })
        (record { threads = set r.threads (last_thread r) (own ++ (one ∷ [])); groups = r.groups; given = r.given }))))
        ≡
        cond a (record { threads = map (map bare) r.threads ++ ([] ∷ []); groups = r.groups; given = r.given })
        (cond b (record { threads = map (map bare) r.threads; groups = r.groups ++ (drop 1 f ∷ []); given = r.given })
        (cond c (record { threads = map (map bare) r.threads; groups = r.groups; given = more })
        (record {
          threads = set (map (map bare) r.threads) (last_thread (unlined r)) (thread_at (unlined r) (last_thread (unlined r)) ++ (bare one ∷ []));
          groups = r.groups;
          given = r.given;
        })))
    go true b c = ap (λ (cs : List (List Placed)). record { threads = cs; groups = r.groups; given = r.given }) (map-append (map bare) r.threads ([] ∷ []))
    go false true c = refl
    go false false true = refl
    go false false false = ap (λ (cs : List (List Placed)). record { threads = cs; groups = r.groups; given = r.given }) placed

-- ---- what they do change: the place of 7, which is a line from 1
unfoldable far : List Placed → Bool
far [] = false
far (x ∷ xs) = ltb (length xs) (skip_of x.code) || far xs

unfoldable any_far : List (List Placed) → Bool
any_far [] = false
any_far (c ∷ cs) = far c || any_far cs

abbrev Numbered : Placed → Type 0
Numbered x = 1 ≤ x.line

far_test : (xs : List Placed) → Everywhere Numbered xs → eqb (far_skip xs) 0 ≡ not (far xs)
unfolding far_skip far
far_test [] h = refl
far_test (x ∷ xs) h = go (ltb (length xs) (skip_of x.code)) (far_test xs h.1)
  where
    go : (b : Bool) → eqb (far_skip xs) 0 ≡ not (far xs) → eqb (cond b x.line (far_skip xs)) 0 ≡ not (b || far xs)
    go true ih = ne_eqb x.line 0 (λ e. omega (arith, h.0))
    go false ih = ih

first_test : (cs : List (List Placed)) → Everywhere (Everywhere Numbered) cs → eqb (first_far_skip cs) 0 ≡ not (any_far cs)
unfolding first_far_skip any_far
first_test [] h = refl
first_test (c ∷ cs) h = go (far c) refl (far_test c h.0) (first_test cs h.1)
  where
    go : (b : Bool) → far c ≡ b → eqb (far_skip c) 0 ≡ not (far c) → eqb (first_far_skip cs) 0 ≡ not (any_far cs)
        → eqb (cond (eqb (far_skip c) 0) (first_far_skip cs) (far_skip c)) 0 ≡ not (far c || any_far cs)
    go true q e ih = let k : eqb (far_skip c) 0 ≡ false = e ∙ ap not q in rw (q, k) k
    go false q e ih = let k : eqb (far_skip c) 0 ≡ true = e ∙ ap not q in rw (q, k) ih

far_bare : (xs : List Placed) → far (map bare xs) ≡ far xs
unfolding far
far_bare [] = refl
far_bare (x ∷ xs) = rw (length-map xs bare, far_bare xs)

any_bare : (cs : List (List Placed)) → any_far (map (map bare) cs) ≡ any_far cs
unfolding any_far
any_bare [] = refl
any_bare (c ∷ cs) = rw (far_bare c, any_bare cs)

code_of_bare : (xs : List Placed) → map (λ x. instruction x.code) (map bare xs) ≡ map (λ x. instruction x.code) xs
code_of_bare [] = refl
code_of_bare (x ∷ xs) = ap (λ r. instruction x.code ∷ r) (code_of_bare xs)

codes_of_bare : (cs : List (List Placed)) → map (map (λ x. instruction x.code)) (map (map bare) cs) ≡ map (map (λ x. instruction x.code)) cs
codes_of_bare [] = refl
codes_of_bare (c ∷ cs) = ap₂ (λ (d : List Instruction) (ds : List (List Instruction)). d ∷ ds) (code_of_bare c) (codes_of_bare cs)

program_bare : (r : Reading) → program_in (unlined r) ≡ program_in r
unfolding program_in unlined
program_bare r =
    ap (λ (cs : List (List Instruction)). record { threads = cs; groups = r.groups; starting = map (λ l. value_at l r.given) locations })
    (codes_of_bare r.threads)

-- ---- two readings that differ only in the numbers of lines
record Same (r s : Reading) : Type 0 where
  bares : unlined r ≡ unlined s
  left : Everywhere (Everywhere Numbered) r.threads
  right : Everywhere (Everywhere Numbered) s.threads

same_refusal : (r s : Reading) (f : Frame) → Same r s → frame_refusal r f ≡ frame_refusal s f
same_refusal r s f h = sym (refusal_bare r f) ∙ ap (λ (q : Reading). frame_refusal q f) h.bares ∙ refusal_bare s f

same_after : (n m : ℕ) (r s : Reading) (f : Frame) → 1 ≤ n → 1 ≤ m → Same r s → Same (after n f r) (after m f s)
same_after n m r s f a b h = record {
  bares = after_bare n f r ∙ ap (after 0 f) h.bares ∙ sym (after_bare m f s);
  left = after_every Numbered n f r a h.left;
  right = after_every Numbered m f s b h.right;
}

-- an answer without its place
unfoldable unplaced : Decoded → Decoded
unplaced (accepted p) = accepted p
unplaced (refused n k) = refused n 0

-- what the end of the lines answers, by what the numbers of lines do not change
finished : Bool → Program → Decoded
finished b p = cond (not b) (accepted p) (refused 7 0)

finish_by : (r : Reading) → Everywhere (Everywhere Numbered) r.threads
    → unplaced (finish r) ≡ finished (any_far (unlined r).threads) (program_in (unlined r))
unfolding finish finished unlined unplaced
finish_by r h =
    go (eqb (first_far_skip r.threads) 0)
    ∙ rw (first_test r.threads h, ← any_bare r.threads, ← program_bare r)
  where
    go : (b : Bool) → unplaced (cond b (accepted (program_in r)) (refused 7 (first_far_skip r.threads)))
        ≡ cond b (accepted (program_in r)) (refused 7 0)
    go true = refl
    go false = refl

same_finish : (r s : Reading) → Same r s → unplaced (finish r) ≡ unplaced (finish s)
same_finish r s h =
    finish_by r h.left
    ∙ ap (λ (q : Reading). finished (any_far q.threads) (program_in q)) h.bares
    ∙ sym (finish_by s h.right)

-- ---- remark lines taken out
lines_kept : (n m : ℕ) (ls : List TextLine) (r s : Reading) → 1 ≤ n → 1 ≤ m → Same r s → unplaced (read_lines n ls r) ≡ unplaced (read_lines m (kept ls) s)
unfolding read_lines kept unplaced
lines_kept n m [] r s a b h = same_finish r s h
lines_kept n m (l ∷ ls) r s a b h =
    go (is_remark l) refl (lines_kept (n + 1) m ls r s (omega arith) b h)
    (λ q t k. lines_kept (n + 1) (m + 1) ls q t (omega arith) (omega arith) k)
  where
    Later : Type 0
    Later = (q t : Reading) → Same q t → unplaced (read_lines (n + 1) ls q) ≡ unplaced (read_lines (m + 1) (kept ls) t)

    by : (f : Frame) (c : Bool) → unplaced (read_lines (n + 1) ls (after n f r)) ≡ unplaced (read_lines (m + 1) (kept ls) (after m f s))
        → unplaced (cond c (read_lines (n + 1) ls (after n f r)) (refused (frame_refusal s f) n))
        ≡ unplaced (cond c (read_lines (m + 1) (kept ls) (after m f s)) (refused (frame_refusal s f) m))
    by f true e = e
    by f false e = refl

    line : is_remark l ≡ false → (x : Meaning) → meaning l ≡ x → Later → unplaced (read_lines n (l ∷ ls) r) ≡ unplaced (read_lines m (l ∷ kept ls) s)
    line e remarked q later = absurd (other_line l e q)
    line e broken q later = rw (q, read_lines)
    line e (framed f) q later =
        rw (q, read_lines, same_refusal r s f h) (by f (eqb (frame_refusal s f) 0) (later (after n f r) (after m f s) (same_after n m r s f a b h)))

    go : (c : Bool) → is_remark l ≡ c → unplaced (read_lines (n + 1) ls r) ≡ unplaced (read_lines m (kept ls) s) → Later
        → unplaced (read_lines n (l ∷ ls) r) ≡ unplaced (read_lines m (cond (is_remark l) (kept ls) (l ∷ kept ls)) s)
    go true e past later = rw (e, remark_line l e, read_lines) past
    go false e past later = rw e (line e (meaning l) refl later)

-- a file of at most 4,096 bytes by what is left of it
read_plain : (file : List ℕ) → length file ≤ 4096 → unplaced (decode file) ≡ unplaced (read_lines 1 (split (plain file)) fresh)
unfolding decode fresh
read_plain file h =
    ap (λ (b : Bool). unplaced (cond b (refused 1 0) (read_lines 1 (split file) fresh))) (le-ltb 4096 (length file) h)
    ∙ lines_kept 1 1 (split file) fresh fresh (omega arith) (omega arith) (record { bares = refl; left = tt; right = tt })
    ∙ ap unplaced (sym (lines_lowered 1 (kept (split file)) fresh))
    ∙ ap (λ (ls : List TextLine). unplaced (read_lines 1 ls fresh)) (sym (split_plain file))

-- the same program, or a refusal by the same number
but_place : (d e : Decoded) → unplaced d ≡ unplaced e → SameButPlace d e
unfolding unplaced
but_place (accepted p) (accepted q) h = cc
but_place (accepted p) (refused m j) h = let z : ◌≡◌ {A = ℕ} 0 1 = cc in omega arith
but_place (refused n k) (accepted q) h = let z : ◌≡◌ {A = ℕ} 0 1 = cc in omega arith
but_place (refused n k) (refused m j) h = cc

-- REMARKS AND CAPITALS change no answer but in the place of a refusal, of files that 1 does not refuse
pub plain_same : (f g : List ℕ) → plain f ≡ plain g → length f ≤ 4096 → length g ≤ 4096 → SameButPlace (decode f) (decode g)
plain_same f g e a b =
    but_place (decode f) (decode g)
    (read_plain f a ∙ ap (λ (t : List ℕ). unplaced (read_lines 1 (split t) fresh)) e ∙ sym (read_plain g b))

pub accepted_size : (f : List ℕ) (p : Program) → decode f ≡ accepted p → length f ≤ 4096
unfolding decode
accepted_size f p e = go (ltb 4096 (length f)) refl
  where
    go : (b : Bool) → ltb 4096 (length f) ≡ b → length f ≤ 4096
    go true q = let i : refused 1 0 ≡ accepted p = rw q at e in absurd (let z : ◌≡◌ {A = ℕ} 0 1 = cc in omega arith)
    go false q = ltb-false 4096 (length f) q

-- TWO ACCEPTED FILES that differ only in remarks and capitals are one program
pub same_program : (f g : List ℕ) (p q : Program) → plain f ≡ plain g → decode f ≡ accepted p → decode g ≡ accepted q → p ≡ q
same_program f g p q e a b =
    subst (λ (d : Decoded). SameButPlace d (accepted q)) a
    (subst (λ (d : Decoded). SameButPlace (decode f) d) b (plain_same f g e (accepted_size f p a) (accepted_size g q b)))

pub same_decoded : (f g : List ℕ) (p q : Program) → plain f ≡ plain g → decode f ≡ accepted p → decode g ≡ accepted q → decode f ≡ decode g
same_decoded f g p q e a b = a ∙ ap accepted (same_program f g p q e a b) ∙ sym b
