-- THE FIRST OF WHAT IS FOUND, one next byte at a time; and that nothing failing is found behind a prefix exactly where no step behind it fails, however many
-- steps more there may be.
use Prim.Native.Nat.{ℕ, zero, suc, ◌+◌, ◌-◌, ◌<◌, ◌≤◌}
use mathlib.Core.Path.{◌≡◌, refl, sym, ap, ◌∙◌}
use mathlib.Core.Bool.{Bool, true, false}
use mathlib.Core.Option.{Option, none, some}
use mathlib.Core.List.{List, [], ◌∷◌, ◌++◌}
use native.Mathlib.Omega.{arith}
use lib.ListN.{length}
use Rattle.spec_schedules.specs.Lists.{head_of}
use Rattle.spec_schedules.specs.Order.{Schedule}
use Rattle.spec_schedules.specs.System.{System, Lawful, run, Allowed}
use Rattle.theory_search.specs.Found.{concat_range, found_from}
use Rattle.theory_search.proofs.Found.{concat_range_more, concat_range_over}
use Rattle.theory_states.specs.Positions.{GoesOn, Breaks}
use Rattle.theory_states.specs.Numbers.{Numbers, numbers, numbers_from}
use Rattle.theory_states.proofs.Numbers.{enough}
use Rattle.theory_states.proofs.Found.{passed_over, none_failing}

-- ---- the first of a list
pub no_head : (l : List Schedule) → none ≡ head_of l → l ≡ []
unfolding head_of
no_head [] e = refl
no_head (s ∷ l) e = absurd (let z : ◌≡◌ {A = ℕ} 0 1 = cc in omega arith)

pub head_nil : (l : List Schedule) → l ≡ [] → head_of l ≡ none
unfolding head_of
head_nil l e = ap head_of e

-- of two lists, one behind the other
head_front : (a b : List Schedule) (s : Schedule) → some s ≡ head_of a → some s ≡ head_of (a ++ b)
unfolding head_of
head_front [] b s e = absurd (let z : ◌≡◌ {A = ℕ} 0 1 = cc in omega arith)
head_front (r ∷ a) b s e = e

-- ---- over the next bytes in turn
module _ (f : ℕ → List Schedule) (top : ℕ) (whole : List Schedule) where
  -- the first of all is the first of those with t or a later byte
  abbrev pub Seeks : ℕ → Type 0
  Seeks t = head_of whole ≡ head_of (concat_range f (top - t) t)

  pub seek_start : (t : ℕ) → t ≡ 0 → whole ≡ concat_range f (top - t) t → Seeks 0
  seek_start t z e = ap head_of (e ∙ ap (λ (i : ℕ). concat_range f (top - i) i) z)

  -- one with t
  pub seek_found : (t : ℕ) → t < top → Seeks t → (s : Schedule) → some s ≡ head_of (f t) → some s ≡ head_of whole
  seek_found t h q s e = head_front (f t) (concat_range f (top - (t + 1)) (t + 1)) s e ∙ sym (q ∙ ap head_of (concat_range_more f top t h))

  -- none with t
  pub seek_next : (t : ℕ) → t < top → Seeks t → none ≡ head_of (f t) → Seeks (t + 1)
  seek_next t h q e = q ∙ ap head_of (concat_range_more f top t h ∙ ap (λ (l : List Schedule). l ++ concat_range f (top - (t + 1)) (t + 1)) (no_head (f t) e))

  -- none at all
  pub seek_over : (t : ℕ) → top ≤ t → Seeks t → none ≡ head_of whole
  seek_over t h q = sym (q ∙ head_nil (concat_range f (top - t) t) (concat_range_over f top t h))

-- behind a prefix as many steps fewer are left as it has
pub size_left : (M : System) → Lawful M → (v : Schedule) (σ : M.State) → Allowed M σ v → M.size (run M σ v) + length v ≤ M.size σ
unfolding run
size_left M lawful [] σ a = omega arith
size_left M lawful (t ∷ v) σ a = let h = lawful.falls σ t a.0 in let r = size_left M lawful v (M.step σ t) a.1 in omega (arith, h, r)

-- ---- where nothing has failed
module _ (M : System) (lawful : Lawful M) (top : ℕ) (cut : Schedule → M.State → ℕ → Bool) (Met : Schedule → M.State → Type 0) (on : GoesOn M cut Met) (breaks : M.State → ℕ → Bool)
    (fails : M.State → Bool) (law : Breaks M cut Met fails breaks) (test : Schedule → Bool) (agree : (v : Schedule) (σ : M.State) → Met v σ → test v ≡ fails σ)
    (k : ℕ) (v : Schedule) (σ : M.State) (met : Met v σ) (h : M.size σ ≤ k) (fine : fails σ ≡ false) where
  -- the number that fail does not go by how many steps more there may be
  same : (numbers_from M top cut breaks k v σ).failing ≡ (numbers M top cut breaks v σ).failing
  same = ap (λ (n : Numbers). n.failing) (enough M top cut breaks lawful k (M.size σ) v σ h (omega arith))

  -- no step fails: nothing failing is found
  pub clean_passed : (numbers M top cut breaks v σ).failing ≡ 0 → none ≡ head_of (found_from M top cut test k none v σ)
  clean_passed z = sym (head_nil (found_from M top cut test k none v σ) (passed_over M top cut Met on breaks fails law test agree k v σ met fine (same ∙ z)))

  -- and the other way round
  pub clean_known : none ≡ head_of (found_from M top cut test k none v σ) → (numbers M top cut breaks v σ).failing ≡ 0
  clean_known e = sym same ∙ none_failing M top cut Met on breaks fails law test agree k v σ met fine (no_head (found_from M top cut test k none v σ) e)
