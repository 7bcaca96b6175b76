-- Remark lines taken out and capitals lowered, seen in the lines of a text: `plain` leaves exactly the lines that are no remarks, each lowered, and
-- lowering changes nothing that a line says.
use Prim.Native.Nat.{ℕ, suc, ◌+◌, ◌*◌, ◌<◌}
use native.Mathlib.Omega.{arith}
use mathlib.Core.Path.{◌≡◌, refl, sym, ◌∙◌, ap, subst}
use mathlib.Core.Bool.{Bool, true, false, cond, ◌&&◌, true≢false}
use mathlib.Core.List.{List, [], ◌∷◌, ◌++◌, map, map-append, append-nil}
use mathlib.Core.Option.{Option, none, some}
use lib.Dec.{eqb}
use lib.ListN.{length, length-map}
use borrow.Author.Tests.{eqb-true}
use Rattle.spec_file.specs.Digit.{lower, digit, value}
use Rattle.spec_file.specs.Frame.{hexadecimal, pairs, frame}
use Rattle.spec_file.specs.Split.{line_length}
use Rattle.spec_file.specs.TextLines.{TextLine, prepend, before, split}
use Rattle.spec_file.specs.Meaning.{remark, remarked, framed, broken, spelt, meaning}
use Rattle.spec_file.specs.Plain.{joined, is_remark, kept, without_remarks, lowered, plain}
use Rattle.spec_file.proofs.DigitValues.{both, lower_other, digit_lower, value_lower}
use Rattle.spec_file.proofs.TextLines.{whole, unended, split_only, split_line}

-- ---- lines as a text has them: no 0a within a line, and only the last may be without its 0a
pub data Lines : List TextLine → Type 0 where
  no_line : Lines []
  last_line : (l : List ℕ) → line_length l ≡ length l → 0 < length l → Lines (unended l ∷ [])
  one_more : (l : List ℕ) (ls : List TextLine) → line_length l ≡ length l → Lines ls → Lines (whole l ∷ ls)

clear_more : (c : ℕ) (l : List ℕ) → eqb c 10 ≡ false → line_length l ≡ length l → line_length (c ∷ l) ≡ suc (length l)
unfolding line_length
clear_more c l e h = rw (e, line_length) (ap suc h)

lines_prepend : (c : ℕ) (ls : List TextLine) → eqb c 10 ≡ false → Lines ls → Lines (prepend c ls)
unfolding prepend line_length
lines_prepend c ls e no_line = last_line (c ∷ []) (clear_more c [] e refl) (omega arith)
lines_prepend c ls e (last_line l h n) = last_line (c ∷ l) (clear_more c l e h) (omega arith)
lines_prepend c ls e (one_more l ms h k) = one_more (c ∷ l) ms (clear_more c l e h) k

pub split_lines : (t : List ℕ) → Lines (split t)
unfolding split before line_length
split_lines [] = no_line
split_lines (c ∷ cs) = go (eqb c 10) refl (split_lines cs)
  where
    go : (b : Bool) → eqb c 10 ≡ b → Lines (split cs) → Lines (before c (split cs))
    go true e h = rw (e, before) (one_more [] (split cs) refl h)
    go false e h = rw (e, before) (lines_prepend c (split cs) e h)

-- ---- such lines are found again in the text that they make
pub split_joined : (ls : List TextLine) → Lines ls → split (joined ls) ≡ ls
unfolding split joined
split_joined ls no_line = refl
split_joined ls (last_line l h n) = ap split (append-nil l) ∙ split_only l n h
split_joined ls (one_more l ms h k) = split_line l (joined ms) h ∙ ap (λ (r : List TextLine). whole l ∷ r) (split_joined ms k)

-- a text is what its lines make: `without_remarks` takes out nothing but remark lines
joined_before : (c : ℕ) (ls : List TextLine) → joined (before c ls) ≡ c ∷ joined ls
unfolding joined before prepend
joined_before c ls = go ls (eqb c 10) refl
  where
    go : (ms : List TextLine) (b : Bool) → eqb c 10 ≡ b → joined (before c ms) ≡ c ∷ joined ms
    go ms true e = rw (e, before) (ap (λ (d : ℕ). d ∷ joined ms) (sym (eqb-true c 10 e)))
    go [] false e = rw (e, before)
    go (m ∷ ms) false e = rw (e, before)

pub joined_split : (t : List ℕ) → joined (split t) ≡ t
unfolding joined split
joined_split [] = refl
joined_split (c ∷ cs) = joined_before c (split cs) ∙ ap (λ (r : List ℕ). c ∷ r) (joined_split cs)

-- ---- remark lines taken out
lines_kept : (ls : List TextLine) → Lines ls → Lines (kept ls)
unfolding kept is_remark
lines_kept ls no_line = no_line
lines_kept ls (last_line l h n) = last_line l h n
lines_kept ls (one_more l ms h k) = go (remark l) (lines_kept ms k)
  where
    go : (b : Bool) → Lines (kept ms) → Lines (cond b (kept ms) (whole l ∷ kept ms))
    go true j = j
    go false j = one_more l (kept ms) h j

-- ---- capitals lowered
abbrev pub lowered_line : TextLine → TextLine
lowered_line l = record { bytes = lowered l.bytes; ended = l.ended }

pub length_lowered : (l : List ℕ) → length (lowered l) ≡ length l
unfolding lowered
length_lowered l = length-map l lower

line_length_lowered : (l : List ℕ) → line_length (lowered l) ≡ line_length l
unfolding line_length lowered
line_length_lowered [] = refl
line_length_lowered (x ∷ l) = go (eqb x 10) refl (line_length_lowered l)
  where
    go : (b : Bool) → eqb x 10 ≡ b → line_length (lowered l) ≡ line_length l → line_length (lower x ∷ lowered l) ≡ line_length (x ∷ l)
    go true e h = rw (lower_other x 10 (omega arith), e, line_length)
    go false e h = rw (lower_other x 10 (omega arith), e, line_length) (ap suc h)

clear_lowered : (l : List ℕ) → line_length l ≡ length l → line_length (lowered l) ≡ length (lowered l)
clear_lowered l h = line_length_lowered l ∙ h ∙ sym (length_lowered l)

lines_lowered : (ls : List TextLine) → Lines ls → Lines (map lowered_line ls)
lines_lowered ls no_line = no_line
lines_lowered ls (last_line l h n) = last_line (lowered l) (clear_lowered l h) (omega (arith, length_lowered l))
lines_lowered ls (one_more l ms h k) = one_more (lowered l) (map lowered_line ms) (clear_lowered l h) (lines_lowered ms k)

joined_lowered : (ls : List TextLine) → lowered (joined ls) ≡ joined (map lowered_line ls)
unfolding lowered joined lower
joined_lowered [] = refl
joined_lowered (l ∷ ls) =
    map-append lower l.bytes (cond l.ended (10 ∷ []) [] ++ joined ls)
    ∙ ap (λ (r : List ℕ). map lower l.bytes ++ r) (go l.ended (joined_lowered ls))
  where
    go : (b : Bool) → map lower (joined ls) ≡ joined (map lowered_line ls)
        → map lower (cond b (10 ∷ []) [] ++ joined ls) ≡ cond b (10 ∷ []) [] ++ joined (map lowered_line ls)
    go true h = ap (λ (r : List ℕ). 10 ∷ r) h
    go false h = h

-- THE LINES OF A TEXT LOWERED, and of what is left of it
pub split_lowered : (t : List ℕ) → split (lowered t) ≡ map lowered_line (split t)
split_lowered t =
    ap (λ (u : List ℕ). split (lowered u)) (sym (joined_split t)) ∙ ap split (joined_lowered (split t))
    ∙ split_joined (map lowered_line (split t)) (lines_lowered (split t) (split_lines t))

pub split_plain : (t : List ℕ) → split (plain t) ≡ map lowered_line (kept (split t))
unfolding plain without_remarks
split_plain t =
    ap split (joined_lowered (kept (split t)))
    ∙ split_joined (map lowered_line (kept (split t))) (lines_lowered (kept (split t)) (lines_kept (split t) (split_lines t)))

-- ---- what a lowered line says
hexadecimal_lowered : (l : List ℕ) → hexadecimal (lowered l) ≡ hexadecimal l
unfolding hexadecimal lowered
hexadecimal_lowered [] = refl
hexadecimal_lowered (x ∷ []) = refl
hexadecimal_lowered (x ∷ y ∷ l) = rw (digit_lower x, digit_lower y, hexadecimal_lowered l)

pairs_lowered : (l : List ℕ) → pairs (lowered l) ≡ pairs l
unfolding pairs lowered
pairs_lowered [] = refl
pairs_lowered (x ∷ []) = refl
pairs_lowered (x ∷ y ∷ l) = rw (value_lower x, value_lower y, pairs_lowered l)

pub frame_lowered : (l : List ℕ) → frame (lowered l) ≡ frame l
unfolding frame lowered
frame_lowered [] = refl
frame_lowered (x ∷ l) = go (hexadecimal (x ∷ l)) refl
  where
    go : (b : Bool) → hexadecimal (x ∷ l) ≡ b → frame (lowered (x ∷ l)) ≡ frame (x ∷ l)
    go true e = rw (hexadecimal_lowered (x ∷ l) ∙ e, e, frame) (ap some (pairs_lowered (x ∷ l)))
    go false e = rw (hexadecimal_lowered (x ∷ l) ∙ e, e, frame)

remark_lowered : (l : List ℕ) → remark (lowered l) ≡ remark l
unfolding remark lowered
remark_lowered [] = refl
remark_lowered (x ∷ l) = lower_other x 0x23 (omega arith)

spelt_lowered : (l : List ℕ) → spelt (lowered l) ≡ spelt l
unfolding spelt
spelt_lowered l = rw (remark_lowered l, frame_lowered l, spelt)

pub meaning_lowered : (l : TextLine) → meaning (lowered_line l) ≡ meaning l
unfolding meaning
meaning_lowered l = rw (spelt_lowered l.bytes)

-- ---- what a line says that is taken out
pub remark_line : (l : TextLine) → is_remark l ≡ true → meaning l ≡ remarked
unfolding meaning is_remark spelt
remark_line l e = let h = both l.ended (remark l.bytes) e in rw (h.0, h.1)

pub other_line : (l : TextLine) → is_remark l ≡ false → meaning l ≡ remarked → ⊥
unfolding meaning is_remark spelt
other_line l e q = go l.ended refl (remark l.bytes) refl (frame l.bytes) refl
  where
    go : (a : Bool) → l.ended ≡ a → (b : Bool) → remark l.bytes ≡ b → (o : Option (List ℕ)) → frame l.bytes ≡ o → ⊥
    go false h b r o f = let s : broken ≡ remarked = rw h at q in let z : ◌≡◌ {A = ℕ} 0 1 = cc in omega arith
    go true h true r o f = absurd (true≢false (rw (h, r) at e))
    go true h false r none f = let s : broken ≡ remarked = rw (h, r, f, spelt) at q in let z : ◌≡◌ {A = ℕ} 0 1 = cc in omega arith
    go true h false r (some g) f = let s : framed g ≡ remarked = rw (h, r, f, spelt) at q in let z : ◌≡◌ {A = ℕ} 0 1 = cc in omega arith
