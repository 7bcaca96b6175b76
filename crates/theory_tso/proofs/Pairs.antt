-- MOVE BY MOVE. A survivor w, and v, the exchange by π of the listed schedule of its class, with one end. A pair is two threads of one line that π turns
-- round: w prefers the one, v the other. Phase by phase both come to one state at their moves and take the same move there, of a thread that π leaves and that
-- is in no pair. So the threads of each pair are twinned to the end.
use Prim.Native.Nat.{ℕ, zero, suc, ◌+◌, ◌<◌, ◌≤◌}
use mathlib.Core.Path.{◌≡◌, refl, sym, ap, subst, ◌∙◌}
use mathlib.Core.Logic.{◌≢◌, ◌⊎◌, inl, inr}
use mathlib.Core.Bool.{true, true≢false}
use mathlib.Core.List.{List, [], ◌∷◌, ◌++◌, Memᴰ}
use native.Mathlib.Omega.{arith}
use native.Mathlib.Decide.{ℕ_discrete, dec_lt}
use lib.ListN.{length, length-append}
use Rattle.spec_file.specs.Program.{Program}
use Rattle.spec_file.specs.WellFormed.{WellFormed}
use Rattle.spec_schedules.specs.Order.{Schedule}
use Rattle.spec_schedules.specs.System.{run, FullFrom}
use Rattle.spec_schedules.specs.Permutations.{permutations, moved}
use Rattle.spec_schedules.proofs.Lists.{of_filter}
use Rattle.spec_schedules.proofs.Runs.{run_append, full_split, ended_none}
use Rattle.spec_model.specs.Exchange.{Together, Exchange, permits, permitted}
use Rattle.spec_model.proofs.Exchanges.{members}
use Rattle.spec_model.proofs.Permitted.{permitted_exchange}
use Rattle.theory_sc.proofs.Preferring as Lines
use Rattle.spec_tso.specs.State.{State, Kind, access, move, kind_of, owner, byte_for, step, enabled, TSO}
use Rattle.spec_tso.proofs.Lawful.{lawful}
use Rattle.spec_tso.proofs.Bytes.{for_owner, owner_access}
use Rattle.spec_tso.proofs.Regular.{Regular, regular_step, regular_run}
use Rattle.theory_tso.proofs.Phases.{accesses, from_move, Prompt, both_parts, from_access, from_move_lem, same_phase}
use Rattle.theory_tso.proofs.Twinned.{Tw, tw_behind, alone, owner_16}
use Rattle.theory_tso.proofs.OnePhase.{Never, phase_twinned}
use Rattle.theory_tso.proofs.Cycles.{goes_up, goes_down}

pub is_move : (f : ℕ) → kind_of f ≡ move → f ≡ owner f + 16
unfolding byte_for
is_move f e = sym (for_owner f) ∙ ap (λ (k : Kind). byte_for k (owner f)) e

keeps : (σ : State) (x y z : ℕ) → Regular σ → enabled σ (x + 16) ≡ true → y ≢ x → z ≢ x → Tw σ y z → Tw (step σ (x + 16)) y z
keeps σ x y z reg m ny nz t = tw_behind σ reg (x + 16) m y z (λ q. ny (q ∙ owner_16 x)) (λ q. nz (q ∙ owner_16 x)) t

nothing : from_move [] ≡ []
unfolding from_move
nothing = refl

-- what is left begins with a move
pub begins : (s : Schedule) (x : ℕ) (r : Schedule) → from_move s ≡ x ∷ r → kind_of x ≡ move
begins [] x r e = absurd (omega (arith, ap length (sym nothing ∙ e)))
begins (y ∷ s) x r e = go (kind_of y) refl (λ k. begins s x r k)
  where
    go : (b : Kind) → kind_of y ≡ b → (from_move s ≡ x ∷ r → kind_of x ≡ move) → kind_of x ≡ move
    go access k ih = ih (sym (from_access y s k) ∙ e)
    go move k ih = let q : y ∷ s ≡ x ∷ r = sym (from_move_lem y s k) ∙ e in let i : y ≡ x = cc in subst (λ (j : ℕ). kind_of j ≡ move) i k

module _ (p : Program) (wf : WellFormed p) (perm : List ℕ) (mem : Memᴰ perm (permitted p)) where
  abbrev pub π : ℕ → ℕ
  π = moved perm

  pub exchange : Exchange p (moved perm)
  exchange = permitted_exchange p perm mem

  abbrev pub inv : ℕ → ℕ
  inv = exchange.0.inverse

  after : (x : ℕ) → π (inv x) ≡ x
  after = exchange.0.after_inverse

  before : (x : ℕ) → inv (π x) ≡ x
  before = exchange.0.inverse_after

  abbrev pub Line : ℕ → ℕ → Type 0
  Line = Lines.Line p

  line_sym : (a b : ℕ) → Line a b → Line b a
  line_sym = Lines.line_sym p

  line_trans : (a b c : ℕ) → Line a b → Line b c → Line a c
  line_trans = Lines.line_trans p wf

  pub line_moved : (a : ℕ) → Lines.Line p a (moved perm a)
  line_moved a = go (exchange.1 a)
    where
      go : (moved perm a ≡ a) ⊎ Together p a (moved perm a) → Lines.Line p a (moved perm a)
      go (inl e) = inl (sym e)
      go (inr k) = inr k

  pub in_permutations : Memᴰ perm permutations
  unfolding permitted
  in_permutations = (of_filter (permits p.groups) permutations perm mem).0

  up : (a : ℕ) → a < π a → (b : ℕ) × (a < b) × (π b ≤ a) × Line a b
  up = goes_up perm in_permutations (Lines.Line p) (λ a. inl refl) line_sym line_trans line_moved

  down : (a : ℕ) → π a < a → (b : ℕ) × (b ≤ π a) × (π a < π b) × Line b a
  down = goes_down perm in_permutations (Lines.Line p) (λ a. inl refl) line_sym line_trans line_moved

  -- the threads of a pair stand in one line
  pub paired : (a b : ℕ) → moved perm b < moved perm a → Lines.Line p a b → Together p (moved perm b) (moved perm a)
  paired a b h l = go (line_trans (π b) b (π a) (line_sym b (π b) (line_moved b)) (line_trans b a (π a) (line_sym a b l) (line_moved a)))
    where
      go : Lines.Line p (moved perm b) (moved perm a) → Together p (moved perm b) (moved perm a)
      go (inl e) = absurd (omega arith)
      go (inr k) = k

  -- a and b are turned round; w prefers π b, v prefers π a
  abbrev pub Pair : ℕ → ℕ → Type 0
  Pair a b = (a < b) × (π b < π a) × Line a b

  abbrev pub Twinned : State → Type 0
  Twinned σ = (a b : ℕ) → Pair a b → Tw σ (π b) (π a)

  -- r is full from σ and has the end of s
  abbrev pub Ends : State → Schedule → Schedule → Type 0
  Ends σ s r = FullFrom TSO σ r × (run TSO σ r ≡ run TSO σ s)

  -- what R1, R2 and R2 far say of w, at each place
  abbrev pub KeepsRules : State → Schedule → Type 0
  KeepsRules σ [] = Unit {0}
  KeepsRules σ (x ∷ s) =
      ((y : ℕ) (r : Schedule) → Ends σ (x ∷ s) (y ∷ r) → x ≤ y)
      × ((a b : ℕ) → Pair a b → Tw σ (π b) (π a) → x ≢ π a)
      × ((a b : ℕ) → Pair a b → Tw σ (π b) (π a) → (r : Schedule) → Ends σ (x ∷ s) ((π a + 16) ∷ r) → x ≤ π b + 16)
      × KeepsRules (step σ x) s

  -- what the rules say of m, seen at its exchange v: no move where an access could go; the moves in the order of m
  abbrev pub KeepsListed : State → Schedule → Type 0
  KeepsListed σ [] = Unit {0}
  KeepsListed σ (x ∷ s) =
      (kind_of x ≡ move → (t : ℕ) (r : Schedule) → kind_of t ≡ access → Ends σ (x ∷ s) (t ∷ r) → ⊥)
      × ((c d : ℕ) (r : Schedule) → x ≡ π d + 16 → Ends σ (x ∷ s) ((π c + 16) ∷ r) → d ≤ c)
      × ((a b : ℕ) → Pair a b → Tw σ (π b) (π a) → x ≢ π b)
      × ((a b d : ℕ) → Pair a b → Tw σ (π b) (π a) → (r : Schedule) → x ≡ π d + 16 → Ends σ (x ∷ s) ((π b + 16) ∷ r) → d ≤ a)
      × KeepsListed (step σ x) s

  w_prompt : (s : Schedule) (σ : State) → KeepsRules σ s → Prompt σ s
  w_prompt [] σ k = tt
  w_prompt (x ∷ s) σ k = (
    (λ e t r q f i.
        let low = k.0 t r (f, i) in
        let small = (owner_access t q).1 in
        let m = is_move x e in
        omega arith),
    w_prompt s (step σ x) k.3,
  )

  v_prompt : (s : Schedule) (σ : State) → KeepsListed σ s → Prompt σ s
  v_prompt [] σ k = tt
  v_prompt (x ∷ s) σ k = ((λ e t r q f i. k.0 e t r q (f, i)), v_prompt s (step σ x) k.4)

  w_behind : (a s : Schedule) (σ : State) → KeepsRules σ (a ++ s) → KeepsRules (run TSO σ a) s
  unfolding run
  w_behind [] s σ k = k
  w_behind (x ∷ a) s σ k = w_behind a s (step σ x) k.3

  v_behind : (a s : Schedule) (σ : State) → KeepsListed σ (a ++ s) → KeepsListed (run TSO σ a) s
  unfolding run
  v_behind [] s σ k = k
  v_behind (x ∷ a) s σ k = v_behind a s (step σ x) k.4

  -- ONE PHASE, pair by pair
  never_w : (a b : ℕ) → Pair a b → (s : Schedule) (σ : State) → KeepsRules σ s → Never (π b) (π a) (π a) σ s
  never_w a b k [] σ h = tt
  never_w a b k (x ∷ s) σ h = (h.1 a b k, never_w a b k s (step σ x) h.3)

  never_v : (a b : ℕ) → Pair a b → (s : Schedule) (σ : State) → KeepsListed σ s → Never (π b) (π a) (π b) σ s
  never_v a b k [] σ h = tt
  never_v a b k (x ∷ s) σ h = (h.2 a b k, never_v a b k s (step σ x) h.4)

  one_phase : (σ : State) (w v : Schedule) → Regular σ → FullFrom TSO σ w → FullFrom TSO σ v → run TSO σ w ≡ run TSO σ v → KeepsRules σ w → KeepsListed σ v → Twinned σ → Twinned (run TSO σ (accesses w))
  one_phase σ w v reg fw fv e ws vs tw a b k =
      let m = members p wf (π b) (π a) (paired a b k.1 k.2) in
      let six = wf.six in
      phase_twinned (π b) (π a) (λ i. omega (arith, i, k.1)) (omega (arith, m.0)) (omega (arith, m.1)) (length w) w v σ (omega arith) reg fw fv e
      (w_prompt w σ ws) (v_prompt v σ vs) (never_w a b k w σ ws) (never_v a b k v σ vs) (tw a b k)

  -- AT A MOVE: both take the same one, of a thread that stays and stands in no pair
  module _ (σ : State) (reg : Regular σ) (tw : Twinned σ) (x x' : ℕ) (w v : Schedule) (fw : FullFrom TSO σ ((x + 16) ∷ w)) (fv : FullFrom TSO σ ((x' + 16) ∷ v))
      (e : run TSO σ ((x + 16) ∷ w) ≡ run TSO σ ((x' + 16) ∷ v)) (ws : KeepsRules σ ((x + 16) ∷ w)) (vs : KeepsListed σ ((x' + 16) ∷ v)) where
    abbrev a : ℕ
    a = inv x

    abbrev a' : ℕ
    a' = inv x'

    πa : π a ≡ x
    πa = after x

    πa' : π a' ≡ x'
    πa' = after x'

    w_least : x ≤ x'
    w_least = let k = ws.0 (x' + 16) v (fv, sym e) in omega arith

    v_least : a' ≤ a
    v_least = vs.1 a a' w (ap (λ (i : ℕ). i + 16) (sym πa')) (subst (λ (i : ℕ). Ends σ ((x' + 16) ∷ v) ((i + 16) ∷ w)) (sym πa) (fw, e))

    -- R2 far on w, where x' is the greater of a pair
    far_w : (b : ℕ) → Pair a' b → x ≤ π b
    far_w b k = let h = ws.2 a' b k (tw a' b k) v (subst (λ (i : ℕ). Ends σ ((x + 16) ∷ w) ((i + 16) ∷ v)) (sym πa') (fv, sym e)) in omega arith

    -- R2 far on m, where x is the one that v does not prefer
    far_v : (b : ℕ) → Pair b a → a' ≤ b
    far_v b k = vs.3 b a a' k (tw b a k) w (ap (λ (i : ℕ). i + 16) (sym πa')) (subst (λ (i : ℕ). Ends σ ((x' + 16) ∷ v) ((i + 16) ∷ w)) (sym πa) (fw, e))

    -- the pairs that a cycle has
    above : a' < x' → x ≤ a'
    above h =
        let u = up a' (omega (arith, πa', h)) in
        let k = far_w u.0 (u.1, omega (arith, u.2, πa', h), u.3) in
        omega (arith, u.2)

    below : x < a → (b : ℕ) × (b ≤ x) × (a' ≤ b) × Line b a
    below h =
        let d = down a (omega (arith, πa, h)) in
        let k = far_v d.0 (omega (arith, πa, h, d.1), d.2, d.3) in
        (d.0, omega (arith, πa, d.1), k, d.3)

    -- the two are one
    same_move : x ≡ x'
    same_move = go (ℕ_discrete x x')
      where
        apart : x < x' → a' < a → ⊥
        apart h k = at (dec_lt x a) (dec_lt a' x')
          where
            pair : Line a' a → ⊥
            pair l =
                let t = tw a' a (k, omega (arith, πa, πa', h), l) in
                alone σ reg x x' (λ q. absurd (omega (arith, q, h))) (subst (λ (i : ℕ). Tw σ i x') πa (subst (Tw σ (π a)) πa' t)) w v fw fv e

            at : Dec (x < a) → Dec (a' < x') → ⊥
            at (yes i) (yes j) =
                let d = below i in
                let q : x ≡ a' = omega (arith, d.1, d.2, above j) in
                pair (subst (λ (n : ℕ). Line n a) q (subst (λ (n : ℕ). Line n a) πa (line_sym a (π a) (line_moved a))))
            at (yes i) (no j) = let d = below i in omega (arith, d.1, d.2)
            at (no i) (yes j) = let u = above j in omega arith
            at (no i) (no j) = omega arith

        go : Dec (x ≡ x') → x ≡ x'
        go (yes q) = q
        go (no q) =
            let ne : a' ≢ a = λ i. q (sym πa ∙ ap π (sym i) ∙ πa') in
            let l1 = w_least in
            let l2 = v_least in
            absurd (apart (lt x x' l1 q) (lt a' a l2 ne))
          where
            lt : (m n : ℕ) → m ≤ n → m ≢ n → m < n
            lt m n h k = at (dec_lt m n)
              where
                at : Dec (m < n) → m < n
                at (yes i) = i
                at (no i) = absurd (k (omega arith))

    -- the thread of the move stays
    stays_there : a ≡ x
    stays_there = go (dec_lt a x) (dec_lt x a)
      where
        q : x ≡ x'
        q = same_move

        i : a ≡ a'
        i = ap inv same_move

        go : Dec (a < x) → Dec (x < a) → a ≡ x
        go (yes h) d = let u = above (omega (arith, q, i, h)) in absurd (omega (arith, q, i, h, u))
        go (no h) (yes k) = let d = below k in absurd (omega (arith, i, d.1, d.2, k))
        go (no h) (no k) = omega arith

    -- the thread of the move is in no pair
    no_greater : (b c : ℕ) → Pair b c → π b ≢ x
    no_greater b c k q =
        let t = tw b c k in
        let h = ws.2 b c k t w (subst (λ (j : ℕ). Ends σ ((x + 16) ∷ w) ((j + 16) ∷ w)) (sym q) (fw, refl)) in
        omega (arith, k.1, q, h)

    no_lesser : (b c : ℕ) → Pair b c → π c ≢ x
    no_lesser b c k q =
        let t = tw b c k in
        let h = vs.3 b c a' k t w (ap (λ (i : ℕ). i + 16) (sym πa')) (subst (λ (j : ℕ). Ends σ ((x' + 16) ∷ v) ((j + 16) ∷ w)) (sym q) (fw, e)) in
        omega (arith, k.0, h, sym (before c) ∙ ap inv q, ap inv same_move, stays_there)

  -- TO THE END
  abbrev Goal : ℕ → Type 0
  Goal n = (σ : State) (w v : Schedule) → length w ≤ n → Regular σ → FullFrom TSO σ w → FullFrom TSO σ v → run TSO σ w ≡ run TSO σ v → KeepsRules σ w → KeepsListed σ v → Twinned σ → Twinned (run TSO σ w)

  -- behind the accesses
  module _ (n : ℕ) (ih : Goal n) (S : State) (reg : Regular S) (tw : Twinned S) where
    from_here : (w v : Schedule) → length w ≤ suc n → ((f : ℕ) (r : Schedule) → w ≡ f ∷ r → kind_of f ≡ move) → ((g : ℕ) (r : Schedule) → v ≡ g ∷ r → kind_of g ≡ move) →
        FullFrom TSO S w → FullFrom TSO S v → run TSO S w ≡ run TSO S v → KeepsRules S w → KeepsListed S v → Twinned (run TSO S w)
    unfolding run
    from_here [] v le mw mv fw fv e ws vs = tw
    from_here (f ∷ w) [] le mw mv fw fv e ws vs = absurd (true≢false (sym fw.0 ∙ ended_none TSO lawful S f fv))
    from_here (f ∷ w) (g ∷ v) le mw mv fw fv e ws vs =
        let i : f ≡ owner f + 16 = is_move f (mw f w refl) in
        let j : g ≡ owner g + 16 = is_move g (mv g v refl) in
        let x : ℕ = owner f in
        let x' : ℕ = owner g in
        let fw' = subst (λ (b : ℕ). FullFrom TSO S (b ∷ w)) i fw in
        let fv' = subst (λ (b : ℕ). FullFrom TSO S (b ∷ v)) j fv in
        let e' : run TSO S ((x + 16) ∷ w) ≡ run TSO S ((x' + 16) ∷ v) = ap (λ (b : ℕ). run TSO S (b ∷ w)) (sym i) ∙ e ∙ ap (λ (b : ℕ). run TSO S (b ∷ v)) j in
        let ws' = subst (λ (b : ℕ). KeepsRules S (b ∷ w)) i ws in
        let vs' = subst (λ (b : ℕ). KeepsListed S (b ∷ v)) j vs in
        let q : x ≡ x' = same_move S reg tw x x' w v fw' fv' e' ws' vs' in
        let b : g ≡ f = j ∙ ap (λ (k : ℕ). k + 16) (sym q) ∙ sym i in
        let tw' : Twinned (step S f) = λ c d k. subst (λ (τ : ℕ). Tw (step S τ) (π d) (π c)) (sym i)
        (keeps S x (π d) (π c) reg fw'.0 (no_lesser S reg tw x x' w v fw' fv' e' ws' vs' c d k) (no_greater S reg tw x x' w v fw' fv' e' ws' vs' c d k) (tw c d k)) in
        ih (step S f) w v (omega arith) (regular_step S f reg fw.0) fw.1 (subst (λ (k : ℕ). FullFrom TSO (step S k) v) b fv.1) (e ∙ ap (λ (k : ℕ). run TSO (step S k) v) b) ws.3 (subst (λ (k : ℕ). KeepsListed (step S k) v) b vs.4) tw'

  loop_step : (n : ℕ) → ((S : State) → Regular S → Twinned S → (w v : Schedule) → length w ≤ n → ((f : ℕ) (r : Schedule) → w ≡ f ∷ r → kind_of f ≡ move) → ((g : ℕ) (r : Schedule) → v ≡ g ∷ r → kind_of g ≡ move) →
      FullFrom TSO S w → FullFrom TSO S v → run TSO S w ≡ run TSO S v → KeepsRules S w → KeepsListed S v → Twinned (run TSO S w)) → Goal n
  loop_step n go σ w v le reg fw fv e ws vs tw =
      let ph = same_phase w v σ reg fw fv e (w_prompt w σ ws) (v_prompt v σ vs) in
      let S : State = run TSO σ (accesses w) in
      let bw = both_parts w in
      let bv = both_parts v in
      let sw = full_split TSO σ (accesses w) (from_move w) (subst (FullFrom TSO σ) bw fw) in
      let sv = full_split TSO σ (accesses v) (from_move v) (subst (FullFrom TSO σ) bv fv) in
      let ew : run TSO σ w ≡ run TSO S (from_move w) = ap (run TSO σ) bw ∙ run_append TSO σ (accesses w) (from_move w) in
      let ev : run TSO σ v ≡ run TSO S (from_move v) = ap (run TSO σ) bv ∙ run_append TSO σ (accesses v) (from_move v) ∙ ap (λ (τ : State). run TSO τ (from_move v)) (sym ph) in
      let wl = w_behind (accesses w) (from_move w) σ (subst (KeepsRules σ) bw ws) in
      let vl = subst (λ (τ : State). KeepsListed τ (from_move v)) (sym ph) (v_behind (accesses v) (from_move v) σ (subst (KeepsListed σ) bv vs)) in
      let len : length (from_move w) ≤ length w = omega (arith, ap length bw, length-append (accesses w) (from_move w)) in
      subst Twinned (sym ew)
      (go S (regular_run (accesses w) σ reg sw.0) (one_phase σ w v reg fw fv e ws vs tw) (from_move w) (from_move v) (omega (arith, len, le)) (λ f r k. begins w f r k) (λ g r k. begins v g r k)
      sw.1 (subst (λ (τ : State). FullFrom TSO τ (from_move v)) (sym ph) sv.1) (sym ew ∙ e ∙ ev) wl vl)

  pub to_the_end : (n : ℕ) → Goal n
  unfolding run
  to_the_end zero = loop_step zero none_left
    where
      none_left : (S : State) → Regular S → Twinned S → (w v : Schedule) → length w ≤ 0 → ((f : ℕ) (r : Schedule) → w ≡ f ∷ r → kind_of f ≡ move) → ((g : ℕ) (r : Schedule) → v ≡ g ∷ r → kind_of g ≡ move) →
          FullFrom TSO S w → FullFrom TSO S v → run TSO S w ≡ run TSO S v → KeepsRules S w → KeepsListed S v → Twinned (run TSO S w)
      none_left S reg tw [] v le mw mv fw fv e ws vs = tw
      none_left S reg tw (f ∷ w) v le mw mv fw fv e ws vs = absurd (omega arith)
  to_the_end (suc n) = loop_step (suc n) (λ S reg tw. from_here n (to_the_end n) S reg tw)
