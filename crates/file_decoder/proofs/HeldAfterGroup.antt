-- A line that declares threads alike gives its members the next group's number, and the decoder's arrays hold the groups so far.
use Prim.Native.Nat.{ℕ, suc, ◌+◌, ◌<◌}
use native.Mathlib.Omega.{arith}
use mathlib.Core.Path.{◌≡◌, refl, sym, ap, ◌∙◌}
use mathlib.Core.Bool.{Bool, true, false, cond, not, ◌||◌, false≢true}
use mathlib.Core.List.{List, [], ◌∷◌, ◌++◌}
use lib.ListN.{length, get_or, set, drop, length-append, length-set}
use lib.Seq.{get_or-set_same, get_or-set_other}
use lib.Dec.{eqb}
use borrow.Author.Tests.{eqb-true, eqb-false}
use Rattle.file_refusals.specs.declared.counts.Counts.{Counts}
use Rattle.spec_file.specs.Frames.{Frame, byte, declares}
use Rattle.spec_file.specs.Decode.{Reading, thread_at, among, grouped, member_fits, members_fit, alike_fits, frame_refusal, after}
use Rattle.file_refusals.specs.Held.{frame_at, class_from, Holds}
use Rattle.file_decoder.specs.Held.{marked, grouped_counts, line_at, Lined}
use Rattle.spec_file.proofs.Tests.{second, neither}
use Rattle.spec_file.proofs.Everywhere.{everywhere_at}
use Rattle.spec_file.proofs.InstructionFrames.{among_member}
use Rattle.spec_file.proofs.GroupLines.{members, member_free}
use Rattle.spec_file.proofs.Sound.{passes}
use Rattle.file_decoder.proofs.HeldAfter.{first_declares}

-- ---- the members get the number, all others keep theirs
unmarked : (g t : ℕ) (ts class : List ℕ) → among t ts ≡ false → get_or (marked g ts class) t 0 ≡ get_or class t 0
unfolding marked among
unmarked g t [] class e = refl
unmarked g t (u ∷ us) class e =
    let p = neither (eqb t u) (among t us) e in
    unmarked g t us (set class u g) p.1 ∙ get_or-set_other class u t g 0 (eqb-false t u p.0)

length_marked : (g : ℕ) (ts class : List ℕ) → length (marked g ts class) ≡ length class
unfolding marked
length_marked g [] class = refl
length_marked g (t ∷ ts) class = length_marked g ts (set class t g) ∙ length-set class t g

first : (a b : Bool) → (a || b) ≡ true → b ≡ false → a ≡ true
first true b e h = refl
first false b e h = absurd (false≢true (sym h ∙ e))

mark : (g t : ℕ) (ts class : List ℕ) → among t ts ≡ true → t < length class → get_or (marked g ts class) t 0 ≡ g
unfolding marked among
mark g t [] class e h = absurd (false≢true e)
mark g t (u ∷ us) class e h =
    go (among t us) refl
    (λ q. mark g t us (set class u g) q (omega (arith, length-set class u g)))
    (λ q. unmarked g t us (set class u g) q ∙ here (eqb-true t u (first (eqb t u) (among t us) e q)))
  where
    here : t ≡ u → get_or (set class u g) t 0 ≡ g
    here q = rw (← q) (get_or-set_same class t g 0 h)

    go : (b : Bool) → among t us ≡ b → (among t us ≡ true → get_or (marked g us (set class u g)) t 0 ≡ g)
        → (among t us ≡ false → get_or (marked g us (set class u g)) t 0 ≡ g) → get_or (marked g us (set class u g)) t 0 ≡ g
    go true q later now = later q
    go false q later now = now q

-- ---- the number of the group that has a thread, with one group more
class_kept : (k t : ℕ) (gs : List (List ℕ)) (g : List ℕ) → among t g ≡ false → class_from k t (gs ++ (g ∷ [])) ≡ class_from k t gs
unfolding class_from
class_kept k t [] g e = rw e
class_kept k t (h ∷ gs) g e = ap (λ (m : ℕ). cond (among t h) k m) (class_kept (suc k) t gs g e)

class_new : (k t : ℕ) (gs : List (List ℕ)) (g : List ℕ) → among t g ≡ true → grouped t gs ≡ false → class_from k t (gs ++ (g ∷ [])) ≡ k + length gs
unfolding class_from grouped
class_new k t [] g e h = rw e (omega arith)
class_new k t (a ∷ gs) g e h =
    let p = neither (among t a) (grouped t gs) h in
    let ih = class_new (suc k) t gs g e p.1 in
    rw p.0 (omega arith)

-- ---- a group more
members_free : (r : Reading) (f : Frame) → frame_refusal r f ≡ 0 → declares f ≡ true → (t : ℕ) → among t (drop 1 f) ≡ true → grouped t r.groups ≡ false
unfolding alike_fits
members_free r f e d t a =
    let fits : members_fit r (drop 1 f) ≡ true = second (not (declares f)) _ (passes r f e).alike (ap not d) in
    member_free r t (everywhere_at (λ u. member_fits r u ≡ true) (among_member t (drop 1 f) a) (members r (drop 1 f) fits).fit)

pub held_grouped : (n : ℕ) (f : Frame) (code : List ℕ) (s : Counts) (r : Reading) → Holds code s r → frame_refusal r f ≡ 0
    → byte f 0 ≡ 0x02 → Holds code (grouped_counts (drop 1 f) s) (after n f r)
unfolding after thread_at frame_at
held_grouped n f code s r h e b =
    rw ((first_declares f b).0, (first_declares f b).1)
    (record {
      size = h.size;
      sizes = (h.sizes.0, length_marked (s.groups + 1) (drop 1 f) s.class ∙ h.sizes.1);
      threads = h.threads;
      lengths = h.lengths;
      bytes = h.bytes;
      frames = h.frames;
      accesses = h.accesses;
      groups = omega (arith, h.groups, length-append r.groups (drop 1 f ∷ []));
      class = λ t k. go t k (among t (drop 1 f)) refl;
      starting = h.starting;
    })
  where
    go : (t : ℕ) → t < 6 → (a : Bool) → among t (drop 1 f) ≡ a
        → get_or (marked (s.groups + 1) (drop 1 f) s.class) t 0 ≡ class_from 1 t (r.groups ++ (drop 1 f ∷ []))
    go t k true q =
        mark (s.groups + 1) t (drop 1 f) s.class q (omega (arith, h.sizes.1))
        ∙ omega (arith, h.groups)
        ∙ sym (class_new 1 t r.groups (drop 1 f) q (members_free r f e (first_declares f b).1 t q))
    go t k false q =
        unmarked (s.groups + 1) t (drop 1 f) s.class q
        ∙ h.class t k
        ∙ sym (class_kept 1 t r.groups (drop 1 f) q)

pub lined_grouped : (n : ℕ) (f : Frame) (rows : List ℕ) (r : Reading) → Lined rows r → frame_refusal r f ≡ 0
    → byte f 0 ≡ 0x02 → Lined rows (after n f r)
unfolding after thread_at line_at
lined_grouped n f rows r h e b =
    rw ((first_declares f b).0, (first_declares f b).1) (record { size = h.size; lines = h.lines })
