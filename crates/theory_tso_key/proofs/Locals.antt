-- ONE VIEW FROM THE KEY: positions with as much code left, the same pending and the same values that matter are such that the same is seen of them.
use Prim.Native.Nat.{ℕ, zero, suc, ◌+◌, ◌*◌, ◌/◌, ◌%◌, ◌<◌, ◌≤◌}
use mathlib.Core.Path.{◌≡◌, refl, sym, ap, ap₂, subst, ◌∙◌}
use mathlib.Core.Logic.{⊎_elim}
use mathlib.Core.Bool.{Bool, true, false}
use mathlib.Core.List.Memᴰ
use mathlib.Core.List.{List, [], ◌∷◌, ◌++◌, map, Memᴰ}
use native.Mathlib.Omega.{arith}
use native.Mathlib.Decide.{dec_lt}
use lib.ListN.{length, length-append, length-map, length-set, get_or, get_or-eq_default}
use Rattle.spec_file.specs.Program.{Program, code_of}
use Rattle.spec_file.specs.WellFormed.{WellFormed}
use Rattle.spec_file.specs.declared.instruction.Instruction.{Instruction}
use Rattle.spec_schedules.specs.Lists.{range, filter}
use Rattle.spec_schedules.specs.Order.{Schedule}
use Rattle.spec_schedules.specs.System.{run, Allowed}
use Rattle.spec_schedules.proofs.Lists.{in_range_lem, in_filter}
use Rattle.spec_schedules.proofs.Loops.{mapped_at}
use Rattle.spec_sc.specs.Local.{Local}
use Rattle.spec_sc.specs.State as SC
use Rattle.spec_sc.specs.State.{value_of, memory_of}
use Rattle.spec_sc.proofs.Suffix.{Suffix, suffix_equal}
use Rattle.theory_sc_key.specs.Registers.{live, Like}
use Rattle.theory_sc_key.specs.Key.{left_of, live_at, register_at, values_of}
use Rattle.theory_sc_key.proofs.Limits.{next_keeps, four}
use Rattle.theory_sc_key.proofs.Packing.{front_once}
use Rattle.spec_tso.specs.Queue.{Entry}
use Rattle.spec_tso.specs.State.{Thread, State, Kind, access, move, unqueued, without_queues, idle, no_thread, thread_of, cell_of, finds, thread_behind, place, step_of, kind_of, owner, step, TSO, start}
use Rattle.spec_tso.proofs.Steps.{enabled_able, able_range, missing}
use Rattle.spec_tso.proofs.Change.{thread_cases}
use Rattle.spec_tso.proofs.Regular.{Regular}
use Rattle.spec_tso.proofs.Rests.{rest_code}
use Rattle.spec_tso.proofs.Seen.{drained_thread, seen_thread}
use Rattle.theory_tso_key.specs.Views.{waiting, SameView}
use Rattle.theory_tso_key.specs.Key.{queues_of}
use Rattle.theory_tso_key.proofs.Rules.{Met, met_regular}

-- ---- AS MANY REGISTERS along a run, at most four
own_count : (k : Kind) (σ : State) (t : ℕ) → length (thread_behind k t (thread_of σ t) (cell_of σ (place σ k t))).local.registers ≡ length (thread_of σ t).local.registers
unfolding thread_behind
own_count access σ t = next_keeps (λ rs. length rs ≡ length (thread_of σ t).local.registers) (λ rs r x e. length-set rs r x ∙ e) (thread_of σ t).local
    (finds t (thread_of σ t) (cell_of σ (place σ access t))).value refl
own_count move σ t = refl

run_count : (v : Schedule) (σ : State) → Allowed TSO σ v → (t : ℕ) → length (thread_of (run TSO σ v) t).local.registers ≡ length (thread_of σ t).local.registers
unfolding run step
run_count [] σ a t = refl
run_count (b ∷ v) σ a t = run_count v (step σ b) a.1 t
    ∙ thread_cases (λ i h. length h.local.registers ≡ length (thread_of σ i).local.registers) σ (kind_of b) (owner b)
    (able_range σ (kind_of b) (owner b) (length σ.cells) (enabled_able σ b a.0)) (own_count (kind_of b) σ (owner b)) t (λ ne. refl)

registers_of : (p : Program) (v : Schedule) (σ : State) → Met p v σ → (t : ℕ) → length (thread_of σ t).local.registers ≡ length (thread_of (start p) t).local.registers
registers_of p v σ r t = ap (λ (ρ : State). length (thread_of ρ t).local.registers) r.0 ∙ run_count v (start p) r.1 t

start_four : (p : Program) (t : ℕ) → length (thread_of (start p) t).local.registers ≤ 4
unfolding start idle
start_four p t = let e = ap (λ (h : Thread). length h.local.registers) (drained_thread (SC.start p) t) in omega (arith, e, four p t)

-- ---- of thread t, seen as under sequential consistency
pub local_seen : (σ : State) (t : ℕ) → (SC.thread_of (without_queues σ) t).local ≡ (thread_of σ t).local
unfolding unqueued
local_seen σ t = ap (λ (h : SC.Thread). h.local) (seen_thread σ t)

pub register_seen : (σ : State) (t r : ℕ) → get_or (SC.thread_of (without_queues σ) t).local.registers r 0 ≡ get_or (thread_of σ t).local.registers r 0
register_seen σ t r = ap (λ (h : Local). get_or h.registers r 0) (local_seen σ t)

-- ---- lists
mapped_same : (f g : ℕ → ℕ) (l : List ℕ) → map f l ≡ map g l → (i : ℕ) → Memᴰ i l → f i ≡ g i
mapped_same f g [] e i m = absurd (Memᴰ.not-nil m)
mapped_same f g (x ∷ l) e i m =
    let h : f x ≡ g x = cc in
    let t : map f l ≡ map g l = cc in
    ⊎_elim (λ (q : i ≡ x). ap f q ∙ h ∙ ap g (sym q)) (λ (k : Memᴰ i l). mapped_same f g l t i k) (Memᴰ.cases_cons m)

filter_same : (f g : ℕ → Bool) (l : List ℕ) → ((i : ℕ) → f i ≡ g i) → filter f l ≡ filter g l
unfolding filter
filter_same f g [] h = refl
filter_same f g (x ∷ l) h = ap₂ (λ (b : Bool) (k : List ℕ). let z : List ℕ = elim b [ true ↦ x ∷ k | false ↦ k ] in z) (h x) (filter_same f g l h)

pub queue_at : (ρ : State) (t : ℕ) → t < 6 → get_or (queues_of ρ) t [] ≡ waiting (thread_of ρ t)
unfolding range
queue_at ρ zero h = refl
queue_at ρ (suc zero) h = refl
queue_at ρ (suc (suc zero)) h = refl
queue_at ρ (suc (suc (suc zero))) h = refl
queue_at ρ (suc (suc (suc (suc zero)))) h = refl
queue_at ρ (suc (suc (suc (suc (suc zero))))) h = refl
queue_at ρ (suc (suc (suc (suc (suc (suc t)))))) h = absurd (omega arith)

-- ---- TWO POSITIONS with as much code left
module _ (p : Program) (w : WellFormed p) (v : Schedule) (σ : State) (x : Schedule) (τ : State) (r : Met p v σ) (s : Met p x τ) (left : left_of (without_queues σ) ≡ left_of (without_queues τ)) where
  far_away : (y : Schedule) (ρ : State) → Met p y ρ → (t : ℕ) → (t < 6 → ⊥) → thread_of ρ t ≡ no_thread
  far_away y ρ m t h = missing ρ t (let g = (met_regular p w y ρ m).six in omega (arith, g, h))

  rest_same : (t : ℕ) → (thread_of σ t).local.rest ≡ (thread_of τ t).local.rest
  rest_same t = go (dec_lt t 6)
    where
      code : (y : Schedule) (ρ : State) → Met p y ρ → Suffix (thread_of ρ t).local.rest (code_of p t)
      code y ρ m = subst (λ (κ : State). Suffix (thread_of κ t).local.rest (code_of p t)) (sym m.0) (rest_code p y m.1 t)

      at : (ρ : State) → t < 6 → get_or (left_of (without_queues ρ)) t 0 ≡ length (thread_of ρ t).local.rest
      at ρ h = mapped_at (λ i. length (SC.thread_of (without_queues ρ) i).local.rest) 0 6 t h
          ∙ ap (λ (i : ℕ). length (SC.thread_of (without_queues ρ) i).local.rest) (let z : 0 + t ≡ t = omega arith in z) ∙ ap (λ (h : Local). length h.rest) (local_seen ρ t)

      go : Dec (t < 6) → (thread_of σ t).local.rest ≡ (thread_of τ t).local.rest
      go (yes h) = suffix_equal (code_of p t) (thread_of σ t).local.rest (thread_of τ t).local.rest (code v σ r) (code x τ s) (sym (at σ h) ∙ ap (λ (l : List ℕ). get_or l t 0) left ∙ at τ h)
      go (no h) = ap (λ (k : Thread). k.local.rest) (far_away v σ r t h ∙ sym (far_away x τ s t h))

  lives_same : filter (live_at (without_queues σ)) (range 0 24) ≡ filter (live_at (without_queues τ)) (range 0 24)
  unfolding live_at
  lives_same = filter_same (live_at (without_queues σ)) (live_at (without_queues τ)) (range 0 24)
      (λ i. ap (λ (c : List Instruction). live 0 c (i % 4)) (ap (λ (h : Local). h.rest) (local_seen σ (i / 4)) ∙ rest_same (i / 4) ∙ sym (ap (λ (h : Local). h.rest) (local_seen τ (i / 4)))))

  registers_many : length (map (register_at (without_queues σ)) (filter (live_at (without_queues σ)) (range 0 24))) ≡ length (map (register_at (without_queues τ)) (filter (live_at (without_queues τ)) (range 0 24)))
  registers_many = length-map (filter (live_at (without_queues σ)) (range 0 24)) (register_at (without_queues σ)) ∙ ap length lives_same
      ∙ sym (length-map (filter (live_at (without_queues τ)) (range 0 24)) (register_at (without_queues τ)))

  -- they have equally many values
  pub values_many : length (values_of (without_queues σ)) ≡ length (values_of (without_queues τ))
  unfolding memory_of without_queues
  values_many =
      length-append (map (register_at (without_queues σ)) (filter (live_at (without_queues σ)) (range 0 24))) (memory_of (without_queues σ))
      ∙ ap₂ (λ (a b : ℕ). a + b) registers_many
      (length-map σ.cells value_of ∙ (met_regular p w v σ r).eight ∙ sym (met_regular p w x τ s).eight ∙ sym (length-map τ.cells value_of))
      ∙ sym (length-append (map (register_at (without_queues τ)) (filter (live_at (without_queues τ)) (range 0 24))) (memory_of (without_queues τ)))

  -- and the same values, and the same pending
  module _ (values : values_of (without_queues σ) ≡ values_of (without_queues τ)) (queues : queues_of σ ≡ queues_of τ) where
    parts : (map (register_at (without_queues σ)) (filter (live_at (without_queues σ)) (range 0 24)) ≡ map (register_at (without_queues τ)) (filter (live_at (without_queues τ)) (range 0 24)))
        × (memory_of (without_queues σ) ≡ memory_of (without_queues τ))
    parts = front_once (map (register_at (without_queues σ)) (filter (live_at (without_queues σ)) (range 0 24))) (map (register_at (without_queues τ)) (filter (live_at (without_queues τ)) (range 0 24)))
        (memory_of (without_queues σ)) (memory_of (without_queues τ)) registers_many values

    -- a live register holds the same
    register_same : (t i : ℕ) → t < 6 → i < 4 → live 0 (thread_of σ t).local.rest i ≡ true → get_or (thread_of σ t).local.registers i 0 ≡ get_or (thread_of τ t).local.registers i 0
    unfolding live_at register_at
    register_same t i ht hi l =
        let n : ℕ = t * 4 + i in
        let d : n / 4 ≡ t = omega arith in
        let m : n % 4 ≡ i = omega arith in
        let here : live_at (without_queues σ) n ≡ true =
        ap₂ (λ (y z : ℕ). live 0 (SC.thread_of (without_queues σ) y).local.rest z) d m ∙ ap (λ (h : Local). live 0 h.rest i) (local_seen σ t) ∙ l in
        let q = mapped_same (register_at (without_queues σ)) (register_at (without_queues τ)) (filter (live_at (without_queues σ)) (range 0 24))
        (parts.0 ∙ ap (map (register_at (without_queues τ))) (sym lives_same)) n (in_filter (live_at (without_queues σ)) (range 0 24) n (in_range_lem 0 24 n (omega arith) (omega arith)) here) in
        sym (ap₂ (λ (y z : ℕ). get_or (SC.thread_of (without_queues σ) y).local.registers z 0) d m ∙ register_seen σ t i) ∙ q
        ∙ ap₂ (λ (y z : ℕ). get_or (SC.thread_of (without_queues τ) y).local.registers z 0) d m ∙ register_seen τ t i

    local_like : (t : ℕ) → Like (thread_of σ t).local (thread_of τ t).local
    unfolding no_thread idle SC.no_thread
    local_like t = record { rest = rest_same t; registers = (many, λ i l. go i l (dec_lt t 6) (dec_lt i 4)) }
      where
        many : length (thread_of σ t).local.registers ≡ length (thread_of τ t).local.registers
        many = registers_of p v σ r t ∙ sym (registers_of p x τ s t)

        -- beyond a thread's registers there is 0
        out : (i : ℕ) → length (thread_of σ t).local.registers ≤ i → get_or (thread_of σ t).local.registers i 0 ≡ get_or (thread_of τ t).local.registers i 0
        out i h = get_or-eq_default (thread_of σ t).local.registers 0 {n = i} h ∙ sym (get_or-eq_default (thread_of τ t).local.registers 0 {n = i} (omega (arith, h, many)))

        go : (i : ℕ) → live 0 (thread_of σ t).local.rest i ≡ true → Dec (t < 6) → Dec (i < 4) → get_or (thread_of σ t).local.registers i 0 ≡ get_or (thread_of τ t).local.registers i 0
        go i l (yes ht) (yes hi) = register_same t i ht hi l
        go i l d (no hi) = out i (omega (arith, registers_of p v σ r t, start_four p t, hi))
        go i l (no ht) (yes hi) = ap (λ (k : Thread). get_or k.local.registers i 0) (far_away v σ r t ht ∙ sym (far_away x τ s t ht))

    queue_same : (t : ℕ) → waiting (thread_of σ t) ≡ waiting (thread_of τ t)
    queue_same t = go (dec_lt t 6)
      where
        at : (ρ : State) → t < 6 → get_or (queues_of ρ) t [] ≡ waiting (thread_of ρ t)
        at ρ h = queue_at ρ t h

        go : Dec (t < 6) → waiting (thread_of σ t) ≡ waiting (thread_of τ t)
        go (yes h) = sym (at σ h) ∙ ap (λ (l : List (List Entry)). get_or l t []) queues ∙ at τ h
        go (no h) = ap waiting (far_away v σ r t h ∙ sym (far_away x τ s t h))

    -- THE SAME IS SEEN
    pub same_view : SameView σ τ
    unfolding memory_of without_queues
    same_view = record { threads = λ t. record { local = local_like t; queue = queue_same t }; memory = parts.1 }
