-- The conditions computed on the code of one thread, and store buffering with fences, which is robust.
use Prim.Native.Nat.{◌<◌, ◌^◌}
use native.Mathlib.Omega.{arith}
use mathlib.Core.Path.{◌≡◌, refl}
use mathlib.Core.Bool.{Bool, true, false}
use mathlib.Core.List.{List, [], ◌∷◌}
use Rattle.spec_file.specs.Program.{Program, zeros}
use Rattle.spec_file.specs.WellFormed.{WellFormed, accesses, all_accesses}
use Rattle.spec_file.specs.declared.instruction.Operand.TheVariants.{Constant}
use Rattle.spec_file.specs.declared.instruction.Access.TheVariants.{Store, Load, FetchAdd, CompareSwap}
use Rattle.spec_file.specs.declared.instruction.Comparison.TheVariants.{Equal}
use Rattle.spec_file.specs.declared.instruction.Own.TheVariants.{SkipUnless, Assert}
use Rattle.spec_file.specs.declared.instruction.Instruction.{Instruction}
use Rattle.spec_file.specs.declared.instruction.Instruction.TheVariants.{Memory, Alone}
use Rattle.spec_across.specs.Robust.{Robust}
use Rattle.spec_fenced.specs.Fenced.{fenced, storeless, only_reads}
use Rattle.spec_fenced.proofs.Robust.{fenced_robust}

abbrev store : Instruction
store = Memory (Store 0 (Constant 1))

abbrev load : Instruction
load = Memory (Load 0 1)

abbrev add : Instruction
add = Memory (FetchAdd 0 2 (Constant 0))

abbrev swap : Instruction
swap = Memory (CompareSwap 0 2 (Constant 0) (Constant 1))

-- skips the next instruction unless register 0 holds 0
abbrev skip : Instruction
skip = Alone (SkipUnless (record { register = 0; comparison = Equal; operand = Constant 0 }) 1)

abbrev check : Instruction
check = Alone (Assert (record { register = 0; comparison = Equal; operand = Constant 0 }))

abbrev is_fenced : List Instruction → Bool
is_fenced c = fenced 0 false c

-- a store before a load is not fenced, also not with an assertion in between; with a fetch and add or a compare and swap it is
stored_loaded : is_fenced (store ∷ load ∷ []) ≡ false
unfolding fenced
stored_loaded = refl

stored_checked_loaded : is_fenced (store ∷ check ∷ load ∷ []) ≡ false
unfolding fenced
stored_checked_loaded = refl

stored_added_loaded : is_fenced (store ∷ add ∷ load ∷ []) ≡ true
unfolding fenced
stored_added_loaded = refl

stored_swapped_loaded : is_fenced (store ∷ store ∷ swap ∷ load ∷ []) ≡ true
unfolding fenced
stored_swapped_loaded = refl

-- a store with no load behind it needs no fence
loaded_stored : is_fenced (load ∷ store ∷ []) ≡ true
unfolding fenced
loaded_stored = refl

-- a fence that may be skipped is none; a skip over the load, or over a store that is fenced, does no harm
fence_skipped : is_fenced (store ∷ skip ∷ add ∷ load ∷ []) ≡ false
unfolding fenced
fence_skipped = refl

store_skipped : is_fenced (skip ∷ store ∷ add ∷ load ∷ []) ≡ true
unfolding fenced
store_skipped = refl

load_skipped : is_fenced (store ∷ add ∷ skip ∷ load ∷ load ∷ []) ≡ true
unfolding fenced
load_skipped = refl

-- fetch and add and compare and swap are no stores, but do not only read
without_store : storeless (add ∷ skip ∷ load ∷ swap ∷ check ∷ []) ≡ true
unfolding storeless
without_store = refl

with_store : storeless (add ∷ skip ∷ store ∷ []) ≡ false
unfolding storeless
with_store = refl

reading : only_reads (load ∷ skip ∷ load ∷ check ∷ []) ≡ true
unfolding only_reads
reading = refl

adding : only_reads (load ∷ add ∷ []) ≡ false
unfolding only_reads
adding = refl

-- store buffering with a fetch and add of zero as a fence
abbrev buffering : Program
buffering = record {
  threads = (Memory (Store 0 (Constant 1)) ∷ add ∷ Memory (Load 0 1) ∷ []) ∷ (Memory (Store 1 (Constant 1)) ∷ add ∷ Memory (Load 0 0) ∷ []) ∷ [];
  groups = [];
  starting = zeros;
}

small : (0 < 2 ^ 32) × (1 < 2 ^ 32)
small = (omega arith, omega arith)

well_formed_lem : WellFormed buffering
unfolding accesses all_accesses
well_formed_lem = record {
  six = omega arith;
  sixteen = (omega arith, (omega arith, tt));
  access_24 = omega arith;
  ranges = (
    ((omega arith, small.1), ((omega arith, omega arith, small.0), ((omega arith, omega arith), tt))),
    (((omega arith, small.1), ((omega arith, omega arith, small.0), ((omega arith, omega arith), tt))), tt),
  );
  skips = ((omega arith, (omega arith, (omega arith, tt))), ((omega arith, (omega arith, (omega arith, tt))), tt));
  groups = tt;
  apart = tt;
  eight = refl;
  words = (small.0, (small.0, (small.0, (small.0, (small.0, (small.0, (small.0, (small.0, tt))))))));
}

buffering_robust : Robust buffering
unfolding fenced
buffering_robust = fenced_robust buffering well_formed_lem (refl, (refl, tt))
