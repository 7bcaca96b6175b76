-- What being listed says of m, seen at its exchange v: from any place v's byte, exchanged back, is at most any that could go first there in an alike
-- schedule. So a listed schedule keeps R1, R2 and R2 far.
use Prim.Native.Nat.{ℕ, ◌+◌, ◌<◌, ◌≤◌}
use mathlib.Core.Path.{◌≡◌, refl, sym, ap, ap₂, subst, ◌∙◌}
use mathlib.Core.Logic.{◌≢◌}
use mathlib.Core.Bool.{true}
use mathlib.Core.List.{List, [], ◌∷◌, ◌++◌, append_assoc, Memᴰ}
use native.Mathlib.Omega.{arith}
use native.Mathlib.Decide.{dec_lt}
use Rattle.spec_file.specs.Program.{Program}
use Rattle.spec_schedules.specs.Order.{Schedule, less}
use Rattle.spec_schedules.specs.System.{run, Allowed, FullFrom}
use Rattle.spec_schedules.specs.Permutations.{moved}
use Rattle.spec_schedules.proofs.Order.{less_heads, less_behind}
use Rattle.spec_schedules.proofs.Runs.{run_append, run_snoc, full_split, full_join}
use Rattle.spec_model.specs.Exchange.{Together, Exchange, permitted}
use Rattle.spec_model.specs.Model.{moved_schedule}
use Rattle.spec_model.specs.Laws.{Admitted}
use Rattle.spec_model.specs.Alike.{Alike, Listed}
use Rattle.spec_model.proofs.Exchanges.{members, exchange_back}
use Rattle.spec_model.proofs.Exchanged.{exchanged, exchanged_graph}
use Rattle.spec_model.proofs.Alike.{alike_sym, alike_trans, alike_end}
use Rattle.spec_model.proofs.Swapped.{swapped, swapped_low, swapped_exchange}
use Rattle.spec_model.proofs.Twins.{fixed_alike}
use Rattle.spec_tso.specs.State.{State, Kind, access, move, TSO, kind_of, owner, byte_for, start}
use Rattle.spec_tso.specs.Graph.{end_of, Full}
use Rattle.spec_tso.specs.Exchange.{moved_byte}
use Rattle.spec_tso.proofs.Bytes.{kind_low, owner_access}
use Rattle.spec_tso.proofs.Exchange.{moved_kind}
use Rattle.spec_tso.specs.TotalStoreOrder.{tso}
use Rattle.spec_tso.proofs.Laws.{tso_laws}
use Rattle.theory_tso.proofs.Twinned.{Tw, kind_16, owner_16}
use Rattle.theory_tso.proofs.TwinTest.{tw_fixed}
use Rattle.theory_tso.proofs.Pairs.{is_move, exchange, inv, Pair, KeepsListed, paired}

moved_append : (π : ℕ → ℕ) (a s : Schedule) → moved_schedule tso π (a ++ s) ≡ moved_schedule tso π a ++ moved_schedule tso π s
moved_append π [] s = refl
moved_append π (x ∷ a) s = ap (λ (k : Schedule). moved_byte π x ∷ k) (moved_append π a s)

moved_for : (ρ : ℕ → ℕ) (k : Kind) (t b : ℕ) → kind_of b ≡ k → owner b ≡ t → moved_byte ρ b ≡ byte_for k (ρ t)
unfolding moved_byte
moved_for ρ k t b i o = ap₂ (λ (j : Kind) (u : ℕ). byte_for j (ρ u)) i o

-- by kind: an access's byte is the thread, a move's sixteen more
moved_access : (ρ : ℕ → ℕ) (t : ℕ) → t < 16 → moved_byte ρ t ≡ ρ t
unfolding byte_for
moved_access ρ t h = moved_for ρ access t t (kind_low t h) (owner_access t (kind_low t h)).0

moved_move : (ρ : ℕ → ℕ) (t : ℕ) → moved_byte ρ (t + 16) ≡ ρ t + 16
unfolding byte_for
moved_move ρ t = moved_for ρ move t (t + 16) (kind_16 t) (owner_16 t)

module _ (p : Program) (a : Admitted tso p) (π : ℕ → ℕ) (x : Exchange p π) (v : Schedule) (fv : Full p v) (listed : Listed tso p (moved_schedule tso π v)) where
  alike_moved : (s : Schedule) → Full p s → Alike tso p s (moved_schedule tso π s)
  alike_moved s f = (π, x, exchanged_graph tso tso_laws p a π x s f)

  -- NO ALIKE SCHEDULE that leaves v here goes lower, in the listed schedule's order
  pub listed_least : (u : Schedule) (b : ℕ) (s : Schedule) → v ≡ u ++ (b ∷ s) → (y : ℕ) (r : Schedule) → Full p (u ++ (y ∷ r)) → Alike tso p (u ++ (y ∷ r)) v → moved_byte π b ≤ moved_byte π y
  listed_least u b s e y r f al = go (dec_lt (moved_byte π y) (moved_byte π b))
    where
      back : Alike tso p (moved_schedule tso π (u ++ (y ∷ r))) (moved_schedule tso π v)
      back = alike_trans tso tso_laws p a (moved_schedule tso π (u ++ (y ∷ r))) (u ++ (y ∷ r)) (moved_schedule tso π v)
          (alike_sym tso tso_laws p a (u ++ (y ∷ r)) (moved_schedule tso π (u ++ (y ∷ r))) (alike_moved (u ++ (y ∷ r)) f))
          (alike_trans tso tso_laws p a (u ++ (y ∷ r)) v (moved_schedule tso π v) al (alike_moved v fv))

      go : Dec (moved_byte π y < moved_byte π b) → moved_byte π b ≤ moved_byte π y
      go (no h) = omega arith
      go (yes h) =
          let low : less (moved_schedule tso π (u ++ (y ∷ r))) (moved_schedule tso π v) ≡ true =
          ap₂ less (moved_append π u (y ∷ r)) (ap (moved_schedule tso π) e ∙ moved_append π u (b ∷ s))
          ∙ less_behind (moved_schedule tso π u) (moved_byte π y ∷ moved_schedule tso π r) (moved_byte π b ∷ moved_schedule tso π s)
          ∙ less_heads (moved_byte π y) (moved_byte π b) (moved_schedule tso π r) (moved_schedule tso π s) h in
          absurd (listed.1 (moved_schedule tso π (u ++ (y ∷ r)), (exchanged tso tso_laws p a π x (u ++ (y ∷ r)) f).0, low, back))

  -- no smaller byte leads to the same end
  pub listed_first : (u : Schedule) (b : ℕ) (s : Schedule) → v ≡ u ++ (b ∷ s) → (y : ℕ) (r : Schedule) → FullFrom TSO (end_of p u) (y ∷ r) → run TSO (end_of p u) (y ∷ r) ≡ run TSO (end_of p u) (b ∷ s) →
      moved_byte π b ≤ moved_byte π y
  listed_first u b s e y r f q =
      let k = full_split TSO (start p) u (b ∷ s) (subst (Full p) e fv) in
      listed_least u b s e y r (full_join TSO (start p) u (y ∷ r) k.0 f)
      (alike_end tso tso_laws p a (u ++ (y ∷ r)) v (run_append TSO (start p) u (y ∷ r) ∙ q ∙ sym (run_append TSO (start p) u (b ∷ s)) ∙ ap (end_of p) (sym e)))

  -- no smaller byte leads to the same end with twinned threads exchanged: y's byte, that could go first, stands for z's
  pub listed_twinned : (u : Schedule) (b : ℕ) (s : Schedule) → v ≡ u ++ (b ∷ s) → (y z : ℕ) → y ≢ z → Together p y z → Tw (end_of p u) y z → (c : ℕ) (r : Schedule) → FullFrom TSO (end_of p u) (c ∷ r) →
      run TSO (end_of p u) (c ∷ r) ≡ run TSO (end_of p u) (b ∷ s) → moved_byte π b ≤ moved_byte π (moved_byte (swapped y z) c)
  listed_twinned u b s e y z ne k tw c r f q =
      listed_least u b s e (moved_byte (swapped y z) c) (moved_schedule tso (swapped y z) r) fixed.0
      (alike_trans tso tso_laws p a (u ++ moved_schedule tso (swapped y z) (c ∷ r)) (u ++ (c ∷ r)) v fixed.1
      (alike_end tso tso_laws p a (u ++ (c ∷ r)) v (run_append TSO (start p) u (c ∷ r) ∙ q ∙ sym (run_append TSO (start p) u (b ∷ s)) ∙ ap (end_of p) (sym e))))
    where
      parts : Allowed TSO (start p) u × FullFrom TSO (end_of p u) (b ∷ s)
      parts = full_split TSO (start p) u (b ∷ s) (subst (Full p) e fv)

      swaps : Exchange p (swapped y z)
      swaps =
          let m = members p a.0 y z k in
          let six = a.0.six in
          swapped_exchange p y z ne (omega (arith, m.0)) (omega (arith, m.1)) k

      fixed : Full p (u ++ moved_schedule tso (swapped y z) (c ∷ r)) × Alike tso p (u ++ moved_schedule tso (swapped y z) (c ∷ r)) (u ++ (c ∷ r))
      fixed = fixed_alike tso tso_laws p a u (swapped y z) swaps (tw_fixed p a.0 u parts.0 y z ne k tw) (c ∷ r) (full_join TSO (start p) u (c ∷ r) parts.0 f)

module _ (p : Program) (a : Admitted tso p) (perm : List ℕ) (mem : Memᴰ perm (permitted p)) (v : Schedule) (fv : Full p v) (listed : Listed tso p (moved_schedule tso (inv p a.0 perm mem) v)) where
  abbrev ι : ℕ → ℕ
  ι = inv p a.0 perm mem

  back : Exchange p ι
  back = exchange_back p (moved perm) (exchange p a.0 perm mem)

  undo : (c : ℕ) → ι (moved perm c) ≡ c
  undo c = (exchange p a.0 perm mem).0.inverse_after c

  back_move : (c : ℕ) → moved_byte ι (moved perm c + 16) ≡ c + 16
  back_move c = moved_move ι (moved perm c) ∙ ap (λ (t : ℕ). t + 16) (undo c)

  back_access : (c : ℕ) → moved perm c < 16 → moved_byte ι (moved perm c) ≡ c
  back_access c h = moved_access ι (moved perm c) h ∙ undo c

  -- at each place of v
  pub listed_side : (s u : Schedule) → v ≡ u ++ s → KeepsListed p a.0 perm mem (end_of p u) s
  listed_side [] u e = tt
  listed_side (b ∷ s) u e = (
    (λ q t r k n.
        let low = listed_first p a ι back v fv listed u b s e t r n.0 n.1 in
        let i = is_move (moved_byte ι b) (moved_kind ι back.0 b ∙ q) in
        let j = (owner_access (moved_byte ι t) (moved_kind ι back.0 t ∙ k)).1 in
        omega arith),
    (λ c d r q n.
        let low = listed_first p a ι back v fv listed u b s e (moved perm c + 16) r n.0 n.1 in
        omega (arith, low, back_move c, ap (moved_byte ι) q ∙ back_move d)),
    (λ c d k tw q. access_side c d k tw q),
    (λ c d g k tw r q n.
        let low = listed_twinned p a ι back v fv listed u b s e (moved perm d) (moved perm c) (apart c d k) (line c d k) tw (moved perm d + 16) r n.0 n.1 in
        let to : moved_byte (swapped (moved perm d) (moved perm c)) (moved perm d + 16) ≡ moved perm c + 16 =
        moved_move (swapped (moved perm d) (moved perm c)) (moved perm d) ∙ ap (λ (t : ℕ). t + 16) (swapped_low (moved perm d) (moved perm c) (apart c d k)) in
        omega (arith, low, ap (moved_byte ι) to ∙ back_move c, ap (moved_byte ι) q ∙ back_move g)),
    subst (λ (τ : State). KeepsListed p a.0 perm mem τ s) (run_snoc TSO (start p) u b) (listed_side s (u ++ (b ∷ [])) (e ∙ sym (append_assoc u (b ∷ []) s))),
  )
    where
      line : (c d : ℕ) → Pair p a.0 perm mem c d → Together p (moved perm d) (moved perm c)
      line c d k = paired p a.0 perm mem c d k.1 k.2

      apart : (c d : ℕ) → Pair p a.0 perm mem c d → moved perm d ≢ moved perm c
      apart c d k i = omega (arith, i, k.1)

      parts : Allowed TSO (start p) u × FullFrom TSO (end_of p u) (b ∷ s)
      parts = full_split TSO (start p) u (b ∷ s) (subst (Full p) e fv)

      access_side : (c d : ℕ) → Pair p a.0 perm mem c d → Tw (end_of p u) (moved perm d) (moved perm c) → b ≢ moved perm d
      access_side c d k tw q =
          let m = members p a.0 (moved perm d) (moved perm c) (line c d k) in
          let six = a.0.six in
          let ld : moved perm d < 16 = omega (arith, m.0) in
          let lc : moved perm c < 16 = omega (arith, m.1) in
          let low = listed_twinned p a ι back v fv listed u b s e (moved perm d) (moved perm c) (apart c d k) (line c d k) tw b s parts.1 refl in
          let to : moved_byte (swapped (moved perm d) (moved perm c)) b ≡ moved perm c =
          ap (moved_byte (swapped (moved perm d) (moved perm c))) q ∙ moved_access (swapped (moved perm d) (moved perm c)) (moved perm d) ld ∙ swapped_low (moved perm d) (moved perm c) (apart c d k) in
          omega (arith, low, ap (moved_byte ι) to ∙ back_access c lc, ap (moved_byte ι) q ∙ back_access d ld, k.0)
