-- A STEP AND ANOTHER THREAD'S ACCESS that puts nothing may be turned round unless they cross: the step puts where the access looks at memory. Whether they
-- cross is seen from the view.
use Prim.Native.Nat.{ℕ, ◌<◌}
use mathlib.Core.Path.{◌≡◌, refl, sym, ap, ap₂, subst, ◌∙◌}
use mathlib.Core.Logic.{◌≢◌}
use mathlib.Core.Bool.{Bool, true, false, not, ◌&&◌, ◌||◌, true≢false}
use mathlib.Core.Option.{Option, none}
use native.Mathlib.Omega.{arith}
use lib.Dec.{eqb}
use lib.ListN.{length}
use borrow.Author.Tests.{eqb-true, eq-eqb, ne_eqb}
use Rattle.spec_file.proofs.Tests.{equal_tests}
use Rattle.spec_sc.specs.Actions.{given}
use Rattle.theory_search.proofs.Back.{and_false}
use Rattle.spec_tso.specs.State.{Thread, State, Kind, access, move, thread_of, cell_of, target, reaches, place, step_of, kind_of, owner, step, enabled}
use Rattle.spec_tso.specs.Actions.{action, moving, dependent}
use Rattle.spec_tso.proofs.Bytes.{kind_low, owner_access}
use Rattle.spec_tso.proofs.Steps.{enabled_small, thread_other, step_access, putting, still_cell, place_other}
use Rattle.spec_tso.proofs.Swap.{putting_other}
use Rattle.spec_tso.proofs.Orders.{swap}
use Rattle.spec_tso.proofs.Regular.{Regular}
use Rattle.theory_tso.specs.Deeds.{looking, deed_of, deed, makes, empties, puts_first, looks_first, waits}
use Rattle.theory_tso.specs.declared.deed.Deed.{Deed}
use Rattle.theory_tso.proofs.Deeds.{waits_exact}
use Rattle.theory_tso_key.specs.Views.{SameView}
use Rattle.theory_tso_key.proofs.Threads.{looking_alike}
use Rattle.theory_tso_key.proofs.Views.{putting_view, place_view}

-- the step b puts where t's next access looks at memory
abbrev pub crosses : State → ℕ → ℕ → Bool
crosses σ b t = looking access (thread_of σ t) && (given (putting σ (kind_of b) (owner b)) && eqb (place σ (kind_of b) (owner b)) (place σ access t))

pub crosses_view : (σ τ : State) → SameView σ τ → (b t : ℕ) → crosses σ b t ≡ crosses τ b t
crosses_view σ τ same b t = ap₂ (λ (x y : Bool). x && y) (looking_alike (thread_of σ t) (thread_of τ t) (same.threads t) access)
    (ap₂ (λ (x y : Bool). x && y) (ap given (putting_view σ τ same (kind_of b) (owner b))) (ap₂ eqb (place_view σ τ same (kind_of b) (owner b)) (place_view σ τ same access t)))

-- ---- tests alone
eqb_turned : (a b : ℕ) → eqb a b ≡ eqb b a
eqb_turned a b = equal_tests (eqb a b) (eqb b a) (λ e. eq-eqb b a (sym (eqb-true a b e))) (λ e. eq-eqb a b (sym (eqb-true b a e)))

-- the access behind the step
later_apart : (e d : Deed) → d.moves ≡ false → d.puts ≡ false → eqb e.thread d.thread ≡ false → (d.looks && (e.puts && eqb e.location d.location)) ≡ false → waits e d ≡ false
unfolding waits makes empties puts_first looks_first
later_apart e d m n th x = rw (m, n, th) (ap₂ (λ (y z : Bool). y || z) (ap₂ (λ (y z : Bool). y || z) (and_false (not e.moves)) (ap (λ (y : Bool). e.moves && y) (and_false d.locks) ∙ and_false e.moves))
    (go (eqb e.location d.location) e.puts d.looks x))
  where
    go : (q ep dk : Bool) → (dk && (ep && q)) ≡ false → (q && ((ep && (dk && true)) || (e.looks && false))) ≡ false
    go false ep dk y = refl
    go true false dk y = and_false e.looks
    go true true false y = and_false e.looks
    go true true true y = absurd (true≢false y)

-- the access before the step
first_apart : (e d : Deed) → e.moves ≡ false → e.puts ≡ false → eqb e.thread d.thread ≡ false → (e.looks && (d.puts && eqb e.location d.location)) ≡ false → waits e d ≡ false
unfolding waits makes empties puts_first looks_first
first_apart e d m n th x = rw (m, n, th) (ap₂ (λ (y z : Bool). y || z) (ap (λ (y : Bool). y || false) (and_false d.moves)) (go (eqb e.location d.location) d.puts e.looks x))
  where
    go : (q dp ek : Bool) → (ek && (dp && q)) ≡ false → (q && (false || (ek && dp))) ≡ false
    go false dp ek y = refl
    go true dp false y = refl
    go true false true y = refl
    go true true true y = absurd (true≢false y)

-- ---- an access that puts nothing leaves what another thread's step puts, and where
pub step_is : (σ : State) (t : ℕ) → t < 6 → step σ t ≡ step_of σ access t
step_is σ t h = step_access σ t (omega arith)

pub put_kept : (σ : State) (t : ℕ) → t < 6 → putting σ access t ≡ none → (k : Kind) (s : ℕ) → s ≢ t → putting (step σ t) k s ≡ putting σ k s
put_kept σ t h q k s ne = ap (λ (ρ : State). putting ρ k s) (step_is σ t h) ∙ putting_other σ access t k s (λ e. ne (sym e)) ∙ ap (reaches k s (thread_of σ s)) (still_cell σ access t (place σ k s) q)

module _ (σ : State) (g : Regular σ) (b t : ℕ) (small : t < 6) (ne : owner b ≢ t) (apart : crosses σ b t ≡ false) where
  kind_t : kind_of t ≡ access
  kind_t = kind_low t (omega arith)

  owner_t : owner t ≡ t
  owner_t = (owner_access t kind_t).0

  not_byte : b ≢ t
  not_byte e = ne (ap owner e ∙ owner_t)

  -- the step, then the access
  pub turned_back : enabled σ b ≡ true → enabled (step σ b) t ≡ true → putting (step σ b) access t ≡ none → (enabled σ t ≡ true) × (enabled (step σ t) b ≡ true) × (step (step σ b) t ≡ step (step σ t) b)
  unfolding deed deed_of moving place step given
  turned_back m n q =
      let other : thread_of (step σ b) t ≡ thread_of σ t = thread_other σ (kind_of b) (owner b) t (λ e. ne (sym e)) in
      let w : waits (deed σ b) (deed (step σ b) t) ≡ false = later_apart (deed σ b) (deed (step σ b) t) (ap moving kind_t)
      (ap₂ (λ (k : Kind) (o : ℕ). given (putting (step σ b) k o)) kind_t owner_t ∙ ap given q) (ap (eqb (owner b)) owner_t ∙ ne_eqb (owner b) t ne)
      (ap₂ (λ (k : Kind) (o : ℕ). looking k (thread_of (step σ b) o) && (given (putting σ (kind_of b) (owner b)) && eqb (place σ (kind_of b) (owner b)) (target k (thread_of (step σ b) o)))) kind_t owner_t
      ∙ ap (λ (h : Thread). looking access h && (given (putting σ (kind_of b) (owner b)) && eqb (place σ (kind_of b) (owner b)) (target access h))) other ∙ apart) in
      (swap σ b t not_byte m n (waits_exact σ b t g m ∙ w)).0

  -- the access, then the step
  pub turned_on : enabled σ t ≡ true → enabled (step σ t) b ≡ true → putting σ access t ≡ none → (enabled σ b ≡ true) × (enabled (step σ b) t ≡ true) × (step (step σ t) b ≡ step (step σ b) t)
  unfolding deed deed_of moving place given
  turned_on m n q =
      let other : thread_of (step σ t) (owner b) ≡ thread_of σ (owner b) = ap (λ (ρ : State). thread_of ρ (owner b)) (step_is σ t small) ∙ thread_other σ access t (owner b) ne in
      let w : waits (deed σ t) (deed (step σ t) b) ≡ false = first_apart (deed σ t) (deed (step σ t) b) (ap moving kind_t)
      (ap₂ (λ (k : Kind) (o : ℕ). given (putting σ k o)) kind_t owner_t ∙ ap given q) (ap (λ (o : ℕ). eqb o (owner b)) owner_t ∙ ne_eqb t (owner b) (λ e. ne (sym e)))
      (ap₂ (λ (k : Kind) (o : ℕ). looking k (thread_of σ o) && (given (putting (step σ t) (kind_of b) (owner b)) && eqb (target k (thread_of σ o)) (place (step σ t) (kind_of b) (owner b)))) kind_t owner_t
      ∙ ap₂ (λ (o : Option ℕ) (h : Thread). looking access (thread_of σ t) && (given o && eqb (place σ access t) (target (kind_of b) h))) (put_kept σ t small q (kind_of b) (owner b) ne) other
      ∙ ap (λ (x : Bool). looking access (thread_of σ t) && (given (putting σ (kind_of b) (owner b)) && x)) (eqb_turned (place σ access t) (place σ (kind_of b) (owner b))) ∙ apart) in
      (swap σ t b (λ e. not_byte (sym e)) m n (waits_exact σ t b g m ∙ w)).0
