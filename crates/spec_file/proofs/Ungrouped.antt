-- A FILE WITH ITS `02` LINES TAKEN OUT is accepted where the file is, and is read as the same program without groups: behind the first of
-- these lines stand no others but remarks, so no instruction's line number changes.
use Prim.Native.Nat.{ℕ, ◌+◌, ◌≤◌}
use native.Mathlib.Omega.{arith}
use mathlib.Core.Path.{◌≡◌, refl, sym, ◌∙◌, ap}
use mathlib.Core.Bool.{Bool, true, false, cond, not, true≢false}
use mathlib.Core.List.{List, [], ◌∷◌, ◌++◌}
use lib.Dec.{eqb, ltb}
use lib.ListN.{length, set, drop, length-append}
use borrow.Author.Tests.{eqb-true, le-ltb, ltb-false}
use Rattle.spec_file.specs.TextLines.{TextLine, split}
use Rattle.spec_file.specs.Meaning.{Meaning, remarked, framed, broken, meaning}
use Rattle.spec_file.specs.Plain.{joined}
use Rattle.spec_file.proofs.TextLines.{whole, unended}
use Rattle.spec_file.proofs.Plain.{Lines, no_line, last_line, one_more, split_lines, split_joined, joined_split}
use Rattle.spec_file.specs.Program.{Program}
use Rattle.spec_file.specs.Frames.{Frame, byte, word, opens, declares, starts}
use Rattle.spec_file.specs.Decode.{Reading, fresh, thread_at, last_thread, start_fits, frame_refusal, after, first_far_skip, program_in, Decoded, accepted, refused, finish, read_lines, decode}
use Rattle.spec_file.specs.WellFormed.{WellFormed}
use Rattle.spec_file.specs.Ungrouped.{ungrouped, declaring, undeclared, without_alike}
use Rattle.spec_file.proofs.AcceptedWellFormed.{refused_first, refused_else}
use Rattle.spec_file.proofs.DigitValues.{both}
use Rattle.spec_file.proofs.Tests.{second}
use Rattle.spec_file.proofs.Sound.{Passes, passes, no_groups, opens_declares}
use Rattle.spec_file.proofs.Sound as Sound

-- ---- the lines that are left
lines_undeclared : (ls : List TextLine) → Lines ls → Lines (undeclared ls)
unfolding undeclared
lines_undeclared ls no_line = no_line
lines_undeclared ls (last_line l h n) = go (declaring (meaning (unended l)))
  where
    go : (b : Bool) → Lines (cond b [] (unended l ∷ []))
    go true = no_line
    go false = last_line l h n
lines_undeclared ls (one_more l ms h k) = go (declaring (meaning (whole l))) (lines_undeclared ms k)
  where
    go : (b : Bool) → Lines (undeclared ms) → Lines (cond b (undeclared ms) (whole l ∷ undeclared ms))
    go true j = j
    go false j = one_more l (undeclared ms) h j

pub split_without : (file : List ℕ) → split (without_alike file) ≡ undeclared (split file)
unfolding without_alike
split_without file = split_joined (undeclared (split file)) (lines_undeclared (split file) (split_lines file))

-- a file without its `02` lines is no longer than it was
shorter : (ls : List TextLine) → length (joined (undeclared ls)) ≤ length (joined ls)
unfolding undeclared joined
shorter [] = omega arith
shorter (l ∷ ls) = go (declaring (meaning l)) (shorter ls)
  where
    tail : List TextLine → List ℕ
    tail ms = cond l.ended (10 ∷ []) [] ++ joined ms

    go : (b : Bool) → length (joined (undeclared ls)) ≤ length (joined ls) → length (joined (cond b (undeclared ls) (l ∷ undeclared ls))) ≤ length (l.bytes ++ tail ls)
    go true h = omega (arith, h, length-append l.bytes (tail ls), length-append (cond l.ended (10 ∷ []) []) (joined ls))
    go false h =
        omega (
          arith,
          h,
          length-append l.bytes (tail ls),
          length-append (cond l.ended (10 ∷ []) []) (joined ls),
          length-append l.bytes (tail (undeclared ls)),
          length-append (cond l.ended (10 ∷ []) []) (joined (undeclared ls)),
        )

pub without_shorter : (file : List ℕ) → length (without_alike file) ≤ length file
unfolding without_alike
without_shorter file = omega (arith, shorter (split file), ap length (joined_split file))

-- ---- what has been read, without groups
abbrev bare : Reading → Reading
bare r = record { threads = r.threads; groups = []; given = r.given }

finish_bare : (r : Reading) (p : Program) → finish r ≡ accepted p → finish (bare r) ≡ accepted (ungrouped p)
unfolding finish program_in ungrouped
finish_bare r p e =
    let a = refused_else (eqb (first_far_skip r.threads) 0) 7 (first_far_skip r.threads) (accepted (program_in r)) p e in
    let q : program_in r ≡ p = let k = a.1 in cc in
    rw a.0 (ap (λ (x : Program). accepted (ungrouped x)) q)

-- what a `02` frame adds is groups alone
declared_groups : (n : ℕ) (f : Frame) (r : Reading) → declares f ≡ true → after n f r ≡ record { threads = r.threads; groups = r.groups ++ (drop 1 f ∷ []); given = r.given }
unfolding after
declared_groups n f r e = go (opens f) refl
  where
    go : (b : Bool) → opens f ≡ b → after n f r ≡ record { threads = r.threads; groups = r.groups ++ (drop 1 f ∷ []); given = r.given }
    go true q = absurd (true≢false (sym e ∙ opens_declares f q))
    go false q = rw (q, e)

-- a frame that is no `02` adds no group
other_groups : (n : ℕ) (f : Frame) (r : Reading) → declares f ≡ false → (after n f r).groups ≡ r.groups
unfolding after
other_groups n f r e = rw e (go (opens f) (starts f))
  where
    go : (a b : Bool) → (cond {A = Reading} a (record { threads = r.threads ++ ([] ∷ []); groups = r.groups; given = r.given })
        (cond b (record { threads = r.threads; groups = r.groups; given = record { location = byte f 1; value = word f 2 } ∷ r.given })
        (record {
          threads = set r.threads (last_thread r) (thread_at r (last_thread r) ++ (record { line = n; code = f } ∷ []));
          groups = r.groups;
          given = r.given;
        }))).groups ≡ r.groups
    go true b = refl
    go false true = refl
    go false false = refl

-- a frame that passes and is no `02` stands before every `02`: a `03` by 40, all else by 5
none_before : (r : Reading) (f : Frame) → Passes r f → declares f ≡ false → r.groups ≡ []
unfolding start_fits
none_before r f p d = go (starts f) refl
  where
    go : (b : Bool) → starts f ≡ b → r.groups ≡ []
    go true e =
        let a = both (eqb (length r.threads) 0) _ (second (not (starts f)) _ p.in_front (ap not e)) in
        no_groups r.groups (both (eqb (length r.groups) 0) _ a.1).0
    go false e = (Sound.ungrouped r f p.in_place d e).0

bare_same : (r : Reading) → r.groups ≡ [] → bare r ≡ r
bare_same r e = ap (λ (gs : List (List ℕ)). record { threads = r.threads; groups = gs; given = r.given }) (sym e)

some_group : (gs : List (List ℕ)) (g : List ℕ) → gs ++ (g ∷ []) ≡ [] → ⊥
some_group gs g e = omega (arith, ap length e, length-append gs (g ∷ []))

-- ---- the lines that are left, read without groups; while there is no group yet, with the same numbers
read_undeclared : (n m : ℕ) (ls : List TextLine) (r : Reading) (p : Program) → (r.groups ≡ [] → n ≡ m) → read_lines n ls r ≡ accepted p → read_lines m (undeclared ls) (bare r) ≡ accepted (ungrouped p)
unfolding read_lines undeclared declaring
read_undeclared n m [] r p same e = finish_bare r p e
read_undeclared n m (l ∷ ls) r p same e =
    go (meaning l) refl (λ k. read_undeclared (n + 1) (m + 1) ls r p (λ q. ap (λ (i : ℕ). i + 1) (same q)) k) (λ f i h k. read_undeclared (n + 1) i ls (after n f r) p h k)
  where
    Later : Type 0
    Later = (f : Frame) (i : ℕ) → ((after n f r).groups ≡ [] → n + 1 ≡ i) → read_lines (n + 1) ls (after n f r) ≡ accepted p → read_lines i (undeclared ls) (bare (after n f r)) ≡ accepted (ungrouped p)

    frame : (f : Frame) → Later → frame_refusal r f ≡ 0 → read_lines (n + 1) ls (after n f r) ≡ accepted p → (b : Bool) → declares f ≡ b → meaning l ≡ framed f →
        read_lines m (cond (declaring (meaning l)) (undeclared ls) (l ∷ undeclared ls)) (bare r) ≡ accepted (ungrouped p)
    frame f later pass k true d q =
        let a = declared_groups n f r d in
        let h : (after n f r).groups ≡ [] → n + 1 ≡ m = λ z. absurd (some_group r.groups (drop 1 f) (sym (ap (λ (x : Reading). x.groups) a) ∙ z)) in
        rw (q, d) (ap (λ (x : Reading). read_lines m (undeclared ls) (bare x)) (sym a) ∙ later f m h k)
    frame f later pass k false d q =
        let z = none_before r f (passes r f pass) d in
        let i = same z in
        let j : (after n f r).groups ≡ [] = other_groups n f r d ∙ z in
        let step : read_lines n (l ∷ undeclared ls) r ≡ read_lines (n + 1) (undeclared ls) (after n f r) = rw (q, read_lines, pass) in
        rw (q, d)
        (ap (λ (x : ℕ). read_lines x (l ∷ undeclared ls) (bare r)) (sym i) ∙ ap (read_lines n (l ∷ undeclared ls)) (bare_same r z) ∙ step
        ∙ ap (read_lines (n + 1) (undeclared ls)) (sym (bare_same (after n f r) j)) ∙ later f (n + 1) (λ w. refl) k)

    go : (x : Meaning) → meaning l ≡ x → (read_lines (n + 1) ls r ≡ accepted p → read_lines (m + 1) (undeclared ls) (bare r) ≡ accepted (ungrouped p)) → Later →
        read_lines m (cond (declaring (meaning l)) (undeclared ls) (l ∷ undeclared ls)) (bare r) ≡ accepted (ungrouped p)
    go broken q past later = let k : refused 2 n ≡ accepted p = rw (q, read_lines) at e in let z : ◌≡◌ {A = ℕ} 0 1 = cc in absurd (omega arith)
    go remarked q past later =
        let step : read_lines m (l ∷ undeclared ls) (bare r) ≡ read_lines (m + 1) (undeclared ls) (bare r) = rw (q, read_lines) in
        rw q (step ∙ past (rw (q, read_lines) at e))
    go (framed f) q past later =
        let rest = read_lines (n + 1) ls (after n f r) in
        let k : cond (eqb (frame_refusal r f) 0) rest (refused (frame_refusal r f) n) ≡ accepted p = rw (q, read_lines) at e in
        let a = refused_else (eqb (frame_refusal r f) 0) (frame_refusal r f) n rest p k in
        frame f later (eqb-true (frame_refusal r f) 0 a.0) a.1 (declares f) refl q

-- THE SAME FILE WITH ITS `02` LINES TAKEN OUT
pub without_alike_lem : (file : List ℕ) (p : Program) → decode file ≡ accepted p → decode (without_alike file) ≡ accepted (ungrouped p)
unfolding decode fresh
without_alike_lem file p e =
    let k = refused_first (ltb 4096 (length file)) 1 0 (read_lines 1 (split file) fresh) p e in
    let small = ltb-false 4096 (length file) k.0 in
    let short : ltb 4096 (length (without_alike file)) ≡ false = le-ltb 4096 (length (without_alike file)) (omega (arith, small, without_shorter file)) in
    rw (short, split_without file) (read_undeclared 1 1 (split file) fresh p (λ q. refl) k.1)

-- a well formed program is so without its groups
pub ungrouped_well_formed : (p : Program) → WellFormed p → WellFormed (ungrouped p)
unfolding ungrouped
ungrouped_well_formed p w = record { six = w.six; sixteen = w.sixteen; access_24 = w.access_24; ranges = w.ranges; skips = w.skips; groups = tt; apart = tt; eight = w.eight; words = w.words }
