-- The values of a key, thread by thread: of a thread that has not ended, those registers that its row's set has.
use Prim.Native.Nat.{ℕ, zero, suc, ◌+◌, ◌-◌, ◌*◌, ◌/◌, ◌%◌, ◌<◌, ◌≤◌}
use mathlib.Core.Path.{◌≡◌, refl, sym, ap, ap₂, ◌∙◌}
use mathlib.Core.Bool.{Bool, true, false, cond}
use mathlib.Core.List.{List, [], ◌∷◌, ◌++◌, map, map-append, append-nil}
use native.Mathlib.Omega.{arith}
use native.Mathlib.Decide.{dec_lt}
use lib.Dec.{ltb}
use lib.ListN.{length, get_or, drop, length-append, length-drop, length-map}
use lib.Seq.{ext_get_or}
use borrow.Author.Tests.{lt-ltb, le-ltb}
use Rattle.spec_file.specs.declared.instruction.Instruction.{Instruction}
use Rattle.file_rows.specs.Rows.{thread_code}
use Rattle.machine.specs.Held.{idle, thread_at, Holds}
use Rattle.machine.specs.declared.state.Machine.{Machine}
use Rattle.machine.proofs.HeldAsking.{held_enabled}
use Rattle.machine_access.specs.declared.thread.ThreadState.{ThreadState}
use Rattle.machine_access.proofs.HeldSettling.{length_code, code_end}
use Rattle.spec_schedules.specs.Lists.{range, filter}
use Rattle.spec_schedules.specs.Sets.{has}
use Rattle.spec_schedules.proofs.Kept.{filter_append, filter_length}
use Rattle.spec_schedules.proofs.Lists.{range_length}
use Rattle.spec_sc.specs.State.{State, Cell, thread_of, cell_of, fresh_cell, value_of, memory_of}
use Rattle.spec_sc.proofs.Steps.{enabled_range}
use Rattle.theory_sc.proofs.Sets.{set_has}
use Rattle.theory_sc_key.specs.Registers.{live}
use Rattle.theory_sc_key.specs.Key.{left_of, live_at, register_at, values_of}
use Rattle.states_live.specs.Live.{Live}
use Rattle.states_live.proofs.LiveCount.{range_split}
use Rattle.states_key.specs.Gathered.{chosen, live_of, gathered, left_at}

-- ---- as the loop gathers them
module _ (lengths masks : List ℕ) (threads : List ThreadState) where
  pub gathered_none : (t : ℕ) → t ≡ 0 → gathered lengths masks threads t ≡ []
  unfolding gathered
  gathered_none t e = rw e

  gathered_one : (t : ℕ) → gathered lengths masks threads (t + 1) ≡ gathered lengths masks threads t ++ live_of lengths masks (get_or threads t idle) t
  unfolding gathered
  gathered_one t = let e : t + 1 ≡ suc t = omega arith in ap (gathered lengths masks threads) e

  pub gathered_on : (t : ℕ) → (get_or threads t idle).at < get_or lengths t 0
      → gathered lengths masks threads (t + 1) ≡ gathered lengths masks threads t ++ chosen (get_or masks (t * 16 + (get_or threads t idle).at) 0) (get_or threads t idle).registers
  gathered_on t h = let q = lt-ltb _ _ h in gathered_one t ∙ ap (λ (b : Bool). gathered lengths masks threads t ++ cond b (chosen (get_or masks (t * 16 + (get_or threads t idle).at) 0) (get_or threads t idle).registers) []) q

  pub gathered_past : (t : ℕ) → get_or lengths t 0 ≤ (get_or threads t idle).at → gathered lengths masks threads (t + 1) ≡ gathered lengths masks threads t
  gathered_past t h =
      let q = le-ltb _ _ h in
      gathered_one t ∙ ap (λ (b : Bool). gathered lengths masks threads t ++ cond b (chosen (get_or masks (t * 16 + (get_or threads t idle).at) 0) (get_or threads t idle).registers) []) q ∙ append-nil (gathered lengths masks threads t)

pub chosen_few : (mask : ℕ) (rs : List ℕ) → length (chosen mask rs) ≤ 4
chosen_few mask rs = omega (arith, length-map (filter (has mask) (range 0 4)) (λ r. get_or rs r 0), filter_length (has mask) (range 0 4), range_length 0 4)

pub gathered_few : (lengths masks : List ℕ) (threads : List ThreadState) (t : ℕ) → length (gathered lengths masks threads t) ≤ 4 * t
unfolding gathered
gathered_few lengths masks threads zero = omega arith
gathered_few lengths masks threads (suc t) = go (ltb (get_or threads t idle).at (get_or lengths t 0)) (gathered_few lengths masks threads t)
  where
    own : List ℕ
    own = chosen (get_or masks (t * 16 + (get_or threads t idle).at) 0) (get_or threads t idle).registers

    go : (b : Bool) → length (gathered lengths masks threads t) ≤ 4 * t → length (gathered lengths masks threads t ++ cond b own []) ≤ 4 * suc t
    go true h = omega (arith, length-append (gathered lengths masks threads t) own, chosen_few (get_or masks (t * 16 + (get_or threads t idle).at) 0) (get_or threads t idle).registers, h)
    go false h = omega (arith, length-append (gathered lengths masks threads t) [], h)

-- ---- stretches of numbers
same_stretch : (f g : ℕ → Bool) (u w : ℕ → ℕ) (n a b : ℕ) → ((i : ℕ) → i < n → f (a + i) ≡ g (b + i)) → ((i : ℕ) → i < n → u (a + i) ≡ w (b + i)) → map u (filter f (range a n)) ≡ map w (filter g (range b n))
unfolding range filter
same_stretch f g u w zero a b h k = refl
same_stretch f g u w (suc n) a b h k =
    let za : a + 0 ≡ a = omega arith in
    let zb : b + 0 ≡ b = omega arith in
    let rest = same_stretch f g u w n (suc a) (suc b)
    (λ i l. let x : suc a + i ≡ a + suc i = omega arith in let y : b + suc i ≡ suc b + i = omega arith in ap f x ∙ h (suc i) (omega arith) ∙ ap g y)
    (λ i l. let x : suc a + i ≡ a + suc i = omega arith in let y : b + suc i ≡ suc b + i = omega arith in ap u x ∙ k (suc i) (omega arith) ∙ ap w y) in
    go (f a) (g b) (ap f (sym za) ∙ h 0 (omega arith) ∙ ap g zb) (ap u (sym za) ∙ k 0 (omega arith) ∙ ap w zb) rest
  where
    go : (x y : Bool) → x ≡ y → u a ≡ w b → map u (filter f (range (suc a) n)) ≡ map w (filter g (range (suc b) n))
        → map u (elim x [ true ↦ a ∷ filter f (range (suc a) n) | false ↦ filter f (range (suc a) n) ]) ≡ map w (elim y [ true ↦ b ∷ filter g (range (suc b) n) | false ↦ filter g (range (suc b) n) ])
    go true true e q r = ap₂ (λ (z : ℕ) (l : List ℕ). z ∷ l) q r
    go false false e q r = r
    go true false e q r = let z : ◌≡◌ {A = ℕ} 0 1 = cc in absurd (omega arith)
    go false true e q r = let z : ◌≡◌ {A = ℕ} 0 1 = cc in absurd (omega arith)

none_stretch : (f : ℕ → Bool) (u : ℕ → ℕ) (n a : ℕ) → ((i : ℕ) → i < n → f (a + i) ≡ false) → map u (filter f (range a n)) ≡ []
unfolding range filter
none_stretch f u zero a h = refl
none_stretch f u (suc n) a h =
    let z : a + 0 ≡ a = omega arith in
    let e : f a ≡ false = ap f (sym z) ∙ h 0 (omega arith) in
    rw (e, filter) (none_stretch f u n (suc a) (λ i l. let x : suc a + i ≡ a + suc i = omega arith in ap f x ∙ h (suc i) (omega arith)))

same_map : (f g : ℕ → ℕ) (n a : ℕ) → ((i : ℕ) → a ≤ i → i < a + n → f i ≡ g i) → map f (range a n) ≡ map g (range a n)
unfolding range
same_map f g zero a h = refl
same_map f g (suc n) a h = ap₂ (λ (x : ℕ) (l : List ℕ). x ∷ l) (h a (omega arith) (omega arith)) (same_map f g n (suc a) (λ i l m. h i (omega arith) (omega arith)))

-- no register is live at the end
live_end : (r : ℕ) → live 0 [] r ≡ false
unfolding live
live_end r = refl

-- ---- of a machine that holds a state
module _ (code lengths masks : List ℕ) (m : Machine) (σ : State) (held : Holds code lengths m σ) (lives : Live code lengths masks)
    (short : (t : ℕ) → t < 6 → (get_or m.threads t idle).at < get_or lengths t 0 → get_or lengths t 0 ≤ 16) where
  own_values : (t : ℕ) → t < 6 → Dec ((thread_at m t).at < get_or lengths t 0) → map (register_at σ) (filter (live_at σ) (range (4 * t) 4)) ≡ live_of lengths masks (thread_at m t) t
  unfolding live_at register_at
  own_values t h (yes l) =
      let at : ℕ = (thread_at m t).at in
      let row = lives.rows t at h l (short t h l) in
      let q = lt-ltb _ _ l in
      let some = enabled_range σ t (held_enabled code lengths m σ held t h l) in
      same_stretch (live_at σ) (has (get_or masks (t * 16 + at) 0)) (register_at σ) (λ r. get_or (thread_at m t).registers r 0) 4 (4 * t) 0
      (λ r i.
      let d : (4 * t + r) / 4 ≡ t = omega arith in
      let e : (4 * t + r) % 4 ≡ r = omega arith in
      let z : r ≡ 0 + r = omega arith in
      ap₂ (λ (x y : ℕ). live 0 (thread_of σ x).local.rest y) d e ∙ ap (λ (c : List Instruction). live 0 c r) (held.threads t h).rest
      ∙ sym (ap (λ (s : ℕ). has s r) row ∙ set_has (live 0 (drop at (thread_code code t (get_or lengths t 0)))) 4 r i) ∙ ap (has (get_or masks (t * 16 + at) 0)) z)
      (λ r i.
      let d : (4 * t + r) / 4 ≡ t = omega arith in
      let e : (4 * t + r) % 4 ≡ r = omega arith in
      let z : r ≡ 0 + r = omega arith in
      ap₂ (λ (x y : ℕ). get_or (thread_of σ x).local.registers y 0) d e ∙ ap (λ (rs : List ℕ). get_or rs r 0) (held.registers t some) ∙ ap (λ (k : ℕ). get_or (thread_at m t).registers k 0) z)
      ∙ sym (ap (λ (b : Bool). cond b (chosen (get_or masks (t * 16 + at) 0) (thread_at m t).registers) []) q)
  own_values t h (no l) =
      let q = le-ltb (thread_at m t).at (get_or lengths t 0) (omega (arith, l)) in
      none_stretch (live_at σ) (register_at σ) 4 (4 * t)
      (λ r i.
      let d : (4 * t + r) / 4 ≡ t = omega arith in
      let e : (4 * t + r) % 4 ≡ r = omega arith in
      ap₂ (λ (x y : ℕ). live 0 (thread_of σ x).local.rest y) d e ∙ ap (λ (c : List Instruction). live 0 c r) ((held.threads t h).rest ∙ code_end code t (get_or lengths t 0) (thread_at m t).at (omega (arith, l))) ∙ live_end r)
      ∙ sym (ap (λ (b : Bool). cond b (chosen (get_or masks (t * 16 + (thread_at m t).at) 0) (thread_at m t).registers) []) q)

  gathered_held : (t : ℕ) → t ≤ 6 → gathered lengths masks m.threads t ≡ map (register_at σ) (filter (live_at σ) (range 0 (4 * t)))
  unfolding gathered range filter
  gathered_held zero h = refl
  gathered_held (suc t) h =
      let z : 4 * suc t ≡ 4 * t + 4 = omega arith in
      let y : 0 + 4 * t ≡ 4 * t = omega arith in
      let split : range 0 (4 * suc t) ≡ range 0 (4 * t) ++ range (4 * t) 4 = ap (range 0) z ∙ range_split 0 (4 * t) 4 ∙ ap (λ (k : ℕ). range 0 (4 * t) ++ range k 4) y in
      ap₂ (λ (k l : List ℕ). k ++ l) (gathered_held t (omega arith)) (sym (own_values t (omega arith) (dec_lt (thread_at m t).at (get_or lengths t 0))))
      ∙ sym (ap (λ (l : List ℕ). map (register_at σ) (filter (live_at σ) l)) split ∙ ap (map (register_at σ)) (filter_append (live_at σ) (range 0 (4 * t)) (range (4 * t) 4))
      ∙ map-append (register_at σ) (filter (live_at σ) (range 0 (4 * t))) (filter (live_at σ) (range (4 * t) 4)))

  memory_held : m.memory ≡ memory_of σ
  unfolding memory_of cell_of value_of
  memory_held = ext_get_or 0 m.memory (map value_of σ.cells) (held.sizes.1 ∙ sym (length-map σ.cells value_of ∙ held.eight))
      (λ i h. sym (held.values i (omega (arith, held.sizes.1))) ∙ sym (mapped σ.cells i (omega (arith, held.sizes.1, held.eight))))
    where
      mapped : (cs : List Cell) (i : ℕ) → i < length cs → get_or (map value_of cs) i 0 ≡ (get_or cs i (fresh_cell 0)).value
      mapped [] i h = absurd (omega arith)
      mapped (c ∷ cs) zero h = refl
      mapped (c ∷ cs) (suc i) h = mapped cs i (omega arith)

  pub values_held : gathered lengths masks m.threads 6 ++ m.memory ≡ values_of σ
  values_held = ap₂ (λ (k l : List ℕ). k ++ l) (gathered_held 6 (omega arith)) memory_held

-- how many instructions are left
pub left_held : (code lengths : List ℕ) (m : Machine) (σ : State) → Holds code lengths m σ → left_at lengths m.threads ≡ left_of σ
left_held code lengths m σ held =
    same_map (λ t. get_or lengths t 0 - (get_or m.threads t idle).at) (λ t. length (thread_of σ t).local.rest) 6 0
    (λ t a h. let e = ap length (held.threads t (omega arith)).rest in
    let n = length-drop (thread_at m t).at (thread_code code t (get_or lengths t 0)) in
    let c = length_code code t (get_or lengths t 0) in
    omega (arith, e, n, c))
