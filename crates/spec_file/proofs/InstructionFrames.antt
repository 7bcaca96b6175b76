-- A frame of a known kind that neither opens a thread, nor declares threads alike, nor gives a starting value is one of the ten instructions:
-- `by_code` proves of its first byte what is proved of each of the ten.
use Prim.Native.Nat.{ℕ, ◌+◌}
use native.Mathlib.Omega.{arith}
use mathlib.Core.Path.{◌≡◌, refl}
use mathlib.Core.Bool.{Bool, true, false, cond, ◌&&◌, ◌||◌, or-true, false≢true}
use mathlib.Core.List.{List, [], ◌∷◌, Memᴰ}
use lib.Dec.{eqb, leb}
use borrow.Author.Tests.{eqb-true, ne_eqb}
use Rattle.spec_file.specs.declared.instruction.Instruction.{Instruction}
use Rattle.spec_file.specs.declared.kind.Kind.{Kind}
use Rattle.spec_file.specs.Kinds.{row, kinds, lookup, kind_of}
use Rattle.spec_file.specs.Frames.{Frame, byte, kind, known, opens, declares, starts, is_access, skip_of, operand, build_own, build, instruction}
use Rattle.spec_file.specs.Decode.{among}
use Rattle.spec_file.specs.WellFormed.{Everywhere, accesses, most_skipped}
use Rattle.spec_file.proofs.Tests.{second}
use Rattle.spec_file.proofs.KindTable.{every_row, kind_rule, kind_byte, known_range, known_one}
use Rattle.spec_file.proofs.Everywhere.{everywhere_at}

-- a frame of an instruction
pub record IsInstruction (f : Frame) : Type 0 where
  pub is_known : known f ≡ true
  pub opens_none : opens f ≡ false
  pub declares_none : declares f ≡ false
  pub starts_none : starts f ≡ false

-- ---- the first bytes of instructions
unfoldable pub codes : List ℕ
codes = 0x10 ∷ 0x11 ∷ 0x12 ∷ 0x13 ∷ 0x20 ∷ 0x21 ∷ 0x22 ∷ 0x23 ∷ 0x24 ∷ 0x25 ∷ []

-- a member in the sense of the test is a member
pub among_member : (t : ℕ) (us : List ℕ) → among t us ≡ true → Memᴰ t us
unfolding among
among_member t [] e = absurd (false≢true e)
among_member t (u ∷ us) e = go (eqb t u) refl (λ h. among_member t us h)
  where
    go : (b : Bool) → eqb t u ≡ b → (among t us ≡ true → Memᴰ t us) → Memᴰ t (u ∷ us)
    go true q later = Memᴰ.head (eqb-true t u q)
    go false q later = Memᴰ.tail (later (second (eqb t u) (among t us) e q))

-- a kind that has frames is `01`, `02`, `03` or an instruction's
unfoldable listed_kind : Kind → Bool
listed_kind k = eqb k.byte 1 || (eqb k.byte 2 || (eqb k.byte 3 || (eqb k.most 0 || among k.byte codes)))

every_row_listed : every_row listed_kind kinds ≡ true
unfolding every_row listed_kind kinds among codes
every_row_listed = refl

unknown_listed : (b : ℕ) → listed_kind (row b 1 0 0 0 0 0 0) ≡ true
unfolding listed_kind
unknown_listed b = go (eqb b 1) (eqb b 2) (eqb b 3)
  where
    go : (s t u : Bool) → (s || (t || (u || true))) ≡ true
    go true t u = refl
    go false true u = refl
    go false false u = or-true u

code_listed : (f : Frame) → IsInstruction f → Memᴰ (byte f 0) codes
unfolding listed_kind opens declares starts kind
code_listed f i =
    let k : Kind = kind_of (byte f 0) in
    let e : k.byte ≡ byte f 0 = kind_byte (byte f 0) in
    let r = known_range f i.is_known in
    let n = known_one f i.is_known in
    let rule : listed_kind k ≡ true = kind_rule listed_kind (byte f 0) every_row_listed (unknown_listed (byte f 0)) in
    let a = second (eqb k.byte 1) _ rule (rw e i.opens_none) in
    let b = second (eqb k.byte 2) _ a (rw e i.declares_none) in
    let s = second (eqb k.byte 3) _ b (rw e i.starts_none) in
    let c = second (eqb k.most 0) (among k.byte codes) s (ne_eqb k.most 0 (λ z. omega arith)) in
    among_member (byte f 0) codes (rw e at c)

pub by_code : (f : Frame) → IsInstruction f → (P : ℕ → Type 0) → Everywhere P codes → P (byte f 0)
by_code f i P h = everywhere_at P (code_listed f i) h

-- ---- the instruction of a frame whose first byte is b
unfoldable pub instruction_at : Frame → ℕ → Instruction
instruction_at f b =
    build b
    (byte f (kind_of b).register) (byte f (kind_of b).location)
    (operand f (kind_of b).first) (operand f (kind_of b).second)
    (byte f (kind_of b).skip)

-- an access counts as one, every other instruction as none
pub accesses_cons : (f : Frame) → IsInstruction f → (is : List Instruction) → accesses (instruction f ∷ is) ≡ cond (is_access f) 1 0 + accesses is
unfolding instruction instruction_at kind is_access codes build_own build accesses kind_of lookup kinds
accesses_cons f i is =
    by_code f i
    (λ b. accesses (instruction_at f b ∷ is) ≡ cond (leb 0x10 b && leb b 0x13) 1 0 + accesses is)
    (omega arith, (omega arith, (omega arith, (omega arith, (omega arith, (omega arith, (omega arith, (omega arith, (omega arith, (omega arith, tt))))))))))

-- an instruction may skip as many as its frame says
pub most_skipped_lem : (f : Frame) → IsInstruction f → most_skipped (instruction f) ≡ skip_of f
unfolding instruction instruction_at kind skip_of codes build_own build kind_of lookup kinds
most_skipped_lem f i =
    by_code f i
    (λ b. most_skipped (instruction_at f b) ≡ cond (eqb (kind_of b).skip 0) 0 (byte f (kind_of b).skip))
    (refl, (refl, (refl, (refl, (refl, (refl, (refl, (refl, (refl, (refl, tt))))))))))
