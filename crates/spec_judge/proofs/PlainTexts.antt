-- Graph texts that are equal once their remark lines are taken out and their capitals lowered are read alike and judged alike: only the place of a refusal may
-- differ. Capitals alone change nothing at all.
use Prim.Native.Nat.{ℕ, ◌+◌}
use native.Mathlib.Omega.{arith}
use mathlib.Core.Path.{◌≡◌, refl, sym, ◌∙◌, ap, subst}
use mathlib.Core.Bool.{Bool, true, false, cond}
use mathlib.Core.List.{List, [], ◌∷◌, map}
use lib.Dec.{eqb}
use lib.ListN.{length}
use Rattle.spec_file.specs.TextLines.{TextLine, split}
use Rattle.spec_file.specs.Meaning.{Meaning, remarked, framed, broken, meaning}
use Rattle.spec_file.specs.Plain.{is_remark, kept, lowered, plain}
use Rattle.spec_file.proofs.Plain.{lowered_line, split_lowered, split_plain, meaning_lowered, remark_line, other_line}
use Rattle.spec_file.specs.Program.{Program}
use Rattle.spec_file.specs.Decode.{Decoded, accepted, refused, decode}
use Rattle.spec_file.proofs.PlainFiles.{same_program}
use Rattle.spec_sc.specs.Graph.{Graph}
use Rattle.spec_judge.specs.Reading.{Frame, Reading, refusal, after, fresh, Parsed, parsed, refused_at, read_lines, read_graph}
use Rattle.spec_judge.specs.Answer.{Answer, consistent, inconsistent, refusing, TextRead, Judgement, program_refused, output_refused, text_refused, judged_yes, judged_no}
use Rattle.spec_judge.specs.SameButPlace.{ReadSame, JudgedSame}
use Rattle.spec_judge.proofs.Judgements.{judgement_unique}

-- ---- capitals
lines_lowered : (n k : ℕ) (ls : List TextLine) (r : Reading) → read_lines n k (map lowered_line ls) r ≡ read_lines n k ls r
unfolding read_lines
lines_lowered n k [] r = refl
lines_lowered n k (l ∷ ls) r = go (meaning l) refl (λ s. lines_lowered n (k + 1) ls s)
  where
    go : (m : Meaning) → meaning l ≡ m → ((s : Reading) → read_lines n (k + 1) (map lowered_line ls) s ≡ read_lines n (k + 1) ls s)
        → read_lines n k (lowered_line l ∷ map lowered_line ls) r ≡ read_lines n k (l ∷ ls) r
    go broken q ih = rw (meaning_lowered l ∙ q, q, read_lines)
    go remarked q ih = rw (meaning_lowered l ∙ q, q, read_lines) (ih r)
    go (framed f) q ih = rw (meaning_lowered l ∙ q, q, read_lines) (ap (λ (d : Parsed). cond (eqb (refusal n r f) 0) d (refused_at (refusal n r f) k)) (ih (after f r)))

-- CAPITALS CHANGE NOTHING, no place either
pub text_capitals_same : (n : ℕ) (text : List ℕ) → read_graph n (lowered text) ≡ read_graph n text
unfolding read_graph
text_capitals_same n text = ap (λ (ls : List TextLine). read_lines n 1 ls (fresh n)) (split_lowered text) ∙ lines_lowered n 1 (split text) (fresh n)

-- ---- remark lines taken out
-- an answer without its place
unfoldable unplaced : Parsed → Parsed
unplaced (parsed g) = parsed g
unplaced (refused_at n k) = refused_at n 0

lines_kept : (n k m : ℕ) (ls : List TextLine) (r : Reading) → unplaced (read_lines n k ls r) ≡ unplaced (read_lines n m (kept ls) r)
unfolding read_lines kept unplaced
lines_kept n k m [] r = refl
lines_kept n k m (l ∷ ls) r = go (is_remark l) refl (lines_kept n (k + 1) m ls r) (λ s. lines_kept n (k + 1) (m + 1) ls s)
  where
    Later : Type 0
    Later = (s : Reading) → unplaced (read_lines n (k + 1) ls s) ≡ unplaced (read_lines n (m + 1) (kept ls) s)

    by : (f : Frame) (c : Bool) → unplaced (read_lines n (k + 1) ls (after f r)) ≡ unplaced (read_lines n (m + 1) (kept ls) (after f r))
        → unplaced (cond c (read_lines n (k + 1) ls (after f r)) (refused_at (refusal n r f) k))
        ≡ unplaced (cond c (read_lines n (m + 1) (kept ls) (after f r)) (refused_at (refusal n r f) m))
    by f true e = e
    by f false e = refl

    line : is_remark l ≡ false → (x : Meaning) → meaning l ≡ x → Later → unplaced (read_lines n k (l ∷ ls) r) ≡ unplaced (read_lines n m (l ∷ kept ls) r)
    line e remarked q later = absurd (other_line l e q)
    line e broken q later = rw (q, read_lines)
    line e (framed f) q later = rw (q, read_lines) (by f (eqb (refusal n r f) 0) (later (after f r)))

    go : (c : Bool) → is_remark l ≡ c → unplaced (read_lines n (k + 1) ls r) ≡ unplaced (read_lines n m (kept ls) r) → Later
        → unplaced (read_lines n k (l ∷ ls) r) ≡ unplaced (read_lines n m (cond (is_remark l) (kept ls) (l ∷ kept ls)) r)
    go true e past later = rw (e, remark_line l e, read_lines) past
    go false e past later = rw e (line e (meaning l) refl later)

-- a text by what is left of it
read_plain : (n : ℕ) (text : List ℕ) → unplaced (read_graph n text) ≡ unplaced (read_lines n 1 (split (plain text)) (fresh n))
unfolding read_graph
read_plain n text =
    lines_kept n 1 1 (split text) (fresh n)
    ∙ ap unplaced (sym (lines_lowered n 1 (kept (split text)) (fresh n)))
    ∙ ap (λ (ls : List TextLine). unplaced (read_lines n 1 ls (fresh n))) (sym (split_plain text))

but_place : (d e : Parsed) → unplaced d ≡ unplaced e → ReadSame d e
unfolding unplaced
but_place (parsed g) (parsed h) e = cc
but_place (parsed g) (refused_at m j) e = let z : ◌≡◌ {A = ℕ} 0 1 = cc in omega arith
but_place (refused_at n k) (parsed h) e = let z : ◌≡◌ {A = ℕ} 0 1 = cc in omega arith
but_place (refused_at n k) (refused_at m j) e = cc

-- REMARKS AND CAPITALS change nothing that a text is read as, but the place of a refusal
pub texts_same : (n : ℕ) (t u : List ℕ) → plain t ≡ plain u → ReadSame (read_graph n t) (read_graph n u)
texts_same n t u e =
    but_place (read_graph n t) (read_graph n u)
    (read_plain n t ∙ ap (λ (x : List ℕ). unplaced (read_lines n 1 (split x) (fresh n))) e ∙ sym (read_plain n u))

-- what the other text is read as
as_graph : (n : ℕ) (t u : List ℕ) (g : Graph) → plain t ≡ plain u → read_graph n t ≡ parsed g → read_graph n u ≡ parsed g
as_graph n t u g e q = go (read_graph n u) refl (subst (λ (d : Parsed). ReadSame d (read_graph n u)) q (texts_same n t u e))
  where
    go : (d : Parsed) → read_graph n u ≡ d → ReadSame (parsed g) d → read_graph n u ≡ parsed g
    go (parsed h) i s = i ∙ ap parsed (sym s)
    go (refused_at m j) i s = absurd s

as_refused : (n : ℕ) (t u : List ℕ) (m k : ℕ) → plain t ≡ plain u → read_graph n t ≡ refused_at m k → (j : ℕ) × (read_graph n u ≡ refused_at m j)
as_refused n t u m k e q = go (read_graph n u) refl (subst (λ (d : Parsed). ReadSame d (read_graph n u)) q (texts_same n t u e))
  where
    go : (d : Parsed) → read_graph n u ≡ d → ReadSame (refused_at m k) d → (j : ℕ) × (read_graph n u ≡ refused_at m j)
    go (parsed h) i s = absurd s
    go (refused_at l j) i s = (j, i ∙ ap (λ (x : ℕ). refused_at x j) (sym s))

-- ---- two accepted files of one program, and two texts
module _ (file other t u : List ℕ) (room : ℕ) (p : Program) (a : decode file ≡ accepted p) (b : decode other ≡ accepted p) (e : plain t ≡ plain u) where
  -- the program that the first file is read as
  one : (q : Program) → decode file ≡ accepted q → q ≡ p
  one q c = let k : accepted q ≡ accepted p = sym c ∙ a in cc

  text_of : (q : Program) (d d' : Parsed) → TextRead file t room q d → (read_graph (length q.threads) t ≡ d → read_graph (length q.threads) u ≡ d')
      → TextRead other u room q d'
  text_of q d d' h f = record {
    accepts = b ∙ ap accepted (sym (one q h.accepts));
    enough = h.enough;
    reads = f h.reads;
  }

  -- the other's judgement, made of the first's
  judged_alike : (x : Answer) → Judgement file t room x → (y : Answer) × Judgement other u room y × JudgedSame x y
  judged_alike x (program_refused n k c) = absurd (let q : refused n k ≡ accepted p = sym c ∙ a in let z : ◌≡◌ {A = ℕ} 0 1 = cc in omega arith)
  judged_alike x (output_refused q c h) = (refusing 22 0, output_refused q (b ∙ ap accepted (sym (one q c))) h, refl)
  judged_alike x (text_refused q n k h) =
      let o = as_refused (length q.threads) t u n k e h.reads in
      (refusing n o.0, text_refused q n o.0 (text_of q (refused_at n k) (refused_at n o.0) h (λ r. o.1)), refl)
  judged_alike x (judged_yes q g s h c l) =
      (consistent s, judged_yes q g s (text_of q (parsed g) (parsed g) h (as_graph (length q.threads) t u g e)) c l, refl)
  judged_alike x (judged_no q g h c) =
      (inconsistent, judged_no q g (text_of q (parsed g) (parsed g) h (as_graph (length q.threads) t u g e)) c, tt)

-- TWO TEXTS of one program that differ only in remarks and capitals are judged alike, and so if the files of the program differ only so
pub judged_same : (file other t u : List ℕ) (p q : Program) (room : ℕ) (x y : Answer) → decode file ≡ accepted p → decode other ≡ accepted q
    → plain file ≡ plain other → plain t ≡ plain u → Judgement file t room x → Judgement other u room y → JudgedSame x y
judged_same file other t u p q room x y a b e f j k =
    let m : q ≡ p = sym (same_program file other p q e a b) in
    let w = judged_alike file other t u room p a (b ∙ ap accepted m) f x j in
    subst (JudgedSame x) (judgement_unique other u room w.0 y w.1 k) w.2
