-- R1, R2 AND R2 FAR ARE EXACT: a full schedule is listed exactly where none of them gives a step up. A survivor's class has a listed schedule m, and π turns m's
-- graph into the survivor's. The pairs that π turns round are twinned at the start, so to the end; so π leaves the end as it is, the two graphs are one, and
-- the survivor, on time, is the least of it.
use Prim.Native.Nat.{ℕ, ◌<◌}
use mathlib.Core.Path.{◌≡◌, refl, sym, ap, ap₂, subst, ◌∙◌}
use mathlib.Core.Logic.{◌≢◌, inl, inr, ◌↔◌}
use mathlib.Core.Bool.{Bool, true, false}
use mathlib.Core.List.Memᴰ
use mathlib.Core.List.{List, [], ◌∷◌, ◌++◌, Memᴰ}
use native.Mathlib.Omega.{arith}
use lib.ListN.{length}
use Rattle.spec_file.specs.Program.{Program}
use Rattle.spec_schedules.specs.Lists.{range, any}
use Rattle.spec_schedules.specs.Order.{Schedule}
use Rattle.spec_schedules.specs.System.{run, Allowed}
use Rattle.spec_schedules.specs.Permutations.{moved}
use Rattle.spec_schedules.proofs.Lists.{of_range, any_yes}
use Rattle.spec_schedules.proofs.Order.{AtMost}
use Rattle.spec_schedules.proofs.Runs.{full_allowed}
use Rattle.spec_model.specs.Exchange.{Permutation, Exchange, permitted}
use Rattle.spec_model.specs.Model.{moved_schedule}
use Rattle.spec_model.specs.Laws.{Admitted}
use Rattle.spec_model.specs.Alike.{Alike, Smaller, Listed}
use Rattle.spec_model.proofs.Exchanges.{members, exchange_back}
use Rattle.spec_model.proofs.Exchanged.{exchanged, exchanged_graph}
use Rattle.spec_model.proofs.Permitted.{tabled, exchange_permitted}
use Rattle.spec_model.proofs.Orders.{same_end}
use Rattle.spec_model.proofs.Alike.{alike_sym}
use Rattle.spec_model.proofs.TheList.{list_exact, one_each}
use Rattle.spec_model.proofs.Swapped.{swapped, swapped_low, swapped_exchange}
use Rattle.theory_search.proofs.Late.{late_smaller}
use Rattle.spec_sc.specs.State.{Cell}
use Rattle.spec_sc.specs.State as SC
use Rattle.spec_sc.specs.Exchange.{Renames}
use Rattle.spec_sc.proofs.Start.{start_writes}
use Rattle.theory_sc.proofs.Inversions.{ties}
use Rattle.theory_sc.proofs.Preferring.{Line, line_sym, line_trans}
use Rattle.spec_tso.specs.State.{Kind, TSO, thread_of, kind_of, owner, byte_for, start}
use Rattle.spec_tso.specs.Graph.{graph, end_of, Full}
use Rattle.spec_tso.specs.Actions.{action}
use Rattle.spec_tso.specs.Exchange.{moved_byte, Moves}
use Rattle.spec_tso.proofs.Bytes.{for_owner}
use Rattle.spec_tso.proofs.Exchange.{moved_kind, moved_owner}
use Rattle.spec_tso.proofs.Permitted.{moves_start}
use Rattle.spec_tso.proofs.Regular.{regular_start}
use Rattle.spec_tso.proofs.Seen.{drained_cell}
use Rattle.spec_tso.specs.TotalStoreOrder.{tso}
use Rattle.spec_tso.proofs.Laws.{tso_laws}
use Rattle.theory_tso.specs.Rules.{late, taken, twin}
use Rattle.theory_tso.proofs.Twins.{twin_smaller}
use Rattle.theory_tso.specs.Far.{far}
use Rattle.theory_tso.specs.Survivor.{Survives}
use Rattle.theory_tso.proofs.Twinned.{Quiet}
use Rattle.theory_tso.proofs.Far.{far_smaller}
use Rattle.theory_tso.proofs.Pairs.{exchange, inv, line_moved, in_permutations, paired, KeepsRules, KeepsListed, Twinned, to_the_end}
use Rattle.theory_tso.proofs.SurvivorSide.{survivor_least, survivor_side}
use Rattle.theory_tso.proofs.ListedSide.{listed_side}
use Rattle.theory_tso.proofs.Tied.{Tied, tied_sym, tied_trans, fixed_end}

-- nothing is in memory at the start
quiet_start : (p : Program) (u : ℕ) → Quiet (start p) u
unfolding start
quiet_start p u l j m = Memᴰ.not-nil (subst (Memᴰ (u, j)) (ap (λ (c : Cell). c.writes) (drained_cell (SC.start p) l) ∙ start_writes p l) m)

-- exchanging a schedule there and back
byte_back : (π : ℕ → ℕ) (q : Permutation π) (b : ℕ) → moved_byte q.inverse (moved_byte π b) ≡ b
unfolding moved_byte
byte_back π q b =
    ap₂ (λ (k : Kind) (t : ℕ). byte_for k (q.inverse t)) (moved_kind π q b) (moved_owner π q b) ∙ ap (byte_for (kind_of b)) (q.inverse_after (owner b)) ∙ for_owner b

schedule_back : (π : ℕ → ℕ) (q : Permutation π) (s : Schedule) → moved_schedule tso q.inverse (moved_schedule tso π s) ≡ s
schedule_back π q [] = refl
schedule_back π q (b ∷ s) = ap₂ (λ (x : ℕ) (xs : Schedule). x ∷ xs) (byte_back π q b) (schedule_back π q s)

module _ (p : Program) (a : Admitted tso p) where
  module _ (w m : Schedule) (fw : Full p w) (s : Survives p w) (lm : Listed tso p m) (perm : List ℕ) (mem : Memᴰ perm (permitted p)) (t : Renames (moved perm) (graph p m) (graph p w)) where
    abbrev x : Exchange p (moved perm)
    x = exchange p a.0 perm mem

    -- the listed schedule, exchanged: w's graph, so w's end
    abbrev v : Schedule
    v = moved_schedule tso (moved perm) m

    fv : Full p v
    fv = (exchanged tso tso_laws p a (moved perm) x m lm.0).0

    same : end_of p v ≡ end_of p w
    same = same_end tso tso_laws p a v w fv fw ((tso_laws.program p a).renamed_once (moved perm) x m v w (exchanged_graph tso tso_laws p a (moved perm) x m lm.0) t)

    listed_back : Listed tso p (moved_schedule tso (inv p a.0 perm mem) v)
    listed_back = subst (Listed tso p) (sym (schedule_back (moved perm) x.0 m)) lm

    -- the pairs are twinned at the start
    begin : Twinned p a.0 perm mem (start p)
    begin c d k =
        let l = paired p a.0 perm mem c d k.1 k.2 in
        let b = members p a.0 (moved perm d) (moved perm c) l in
        let six = a.0.six in
        let ne : moved perm d ≢ moved perm c = λ i. omega (arith, i, k.1) in
        let e = (moves_start p a.0 (swapped (moved perm d) (moved perm c)) (swapped_exchange p (moved perm d) (moved perm c) ne (omega (arith, b.0)) (omega (arith, b.1)) l).1).threads (moved perm d) in
        (ap (thread_of (start p)) (sym (swapped_low (moved perm d) (moved perm c) ne)) ∙ e, quiet_start p (moved perm d), quiet_start p (moved perm c))

    side_w : KeepsRules p a.0 perm mem (start p) w
    unfolding run
    side_w = survivor_side p a w fw s perm mem w [] refl

    side_v : KeepsListed p a.0 perm mem (start p) v
    unfolding run
    side_v = listed_side p a perm mem v fv listed_back v [] refl

    -- threads exchanged with each other are twinned at the end
    twinned : Twinned p a.0 perm mem (end_of p w)
    twinned = to_the_end p a.0 perm mem (length w) (start p) w v (omega arith) (regular_start p a.0) fw fv (sym same) side_w side_v begin

    allowed : Allowed TSO (start p) w
    allowed = (full_allowed TSO (start p) w fw).0

    abbrev Bound : ℕ → ℕ → Type 0
    Bound = Tied p a.0 w allowed

    tied_inverted : (c d : ℕ) → c < d → moved perm d < moved perm c → Line p c d → Bound (moved perm c) (moved perm d)
    tied_inverted c d h k l =
        let g = paired p a.0 perm mem c d k l in
        let b = members p a.0 (moved perm d) (moved perm c) g in
        let six = a.0.six in
        tied_sym p a.0 w allowed (moved perm d) (moved perm c) (inr ((λ i. omega (arith, i, k)), omega (arith, b.0), omega (arith, b.1), twinned c d (h, k, l)))

    tied_moved : (c : ℕ) → Bound (moved perm c) (moved perm (moved perm c))
    tied_moved = ties perm (in_permutations p a.0 perm mem) (Line p) (λ c d. Bound (moved perm c) (moved perm d)) (λ c. inl refl) (line_sym p) (line_trans p a.0) (line_moved p a.0 perm mem)
        (λ c. inl refl) (λ c d. tied_sym p a.0 w allowed (moved perm c) (moved perm d)) (λ c d e. tied_trans p a.0 w allowed (moved perm c) (moved perm d) (moved perm e)) tied_inverted

    tied_all : (u : ℕ) → Bound u (moved perm u)
    tied_all u = subst (λ (i : ℕ). Bound i (moved perm i)) (x.0.after_inverse u) (tied_moved (x.0.inverse u))

    -- THE EXCHANGE LEAVES w'S END AS IT IS
    fixed : Moves (moved perm) (end_of p w) (end_of p w)
    fixed = fixed_end p a.0 w allowed (moved perm) x tied_all

    -- ONE GRAPH
    one_graph : graph p m ≡ graph p w
    one_graph = (tso_laws.program p a).renamed_once x.0.inverse (exchange_back p (moved perm) x) w m w ((tso_laws.program p a).renames_back (moved perm) x m w t)
        ((tso_laws.program p a).renames_back (moved perm) x w w (tso_laws.exchange (moved perm) x.0 (end_of p w) (end_of p w) fixed).graph)

  alike_survivor : (w m : Schedule) → Full p w → Survives p w → Listed tso p m → Alike tso p m w → graph p m ≡ graph p w
  alike_survivor w m fw s lm l =
      let k = exchange_permitted p l.0 l.1 in
      one_graph w m fw s lm (tabled l.0) k.0 (subst (λ (ρ : ℕ → ℕ). Renames ρ (graph p m) (graph p w)) (sym k.1) l.2)

  -- THE RULES ARE EXACT
  pub survivor_listed : (w : Schedule) → Full p w → Survives p w → Listed tso p w
  survivor_listed w f s =
      let c = one_each tso tso_laws p a w f in
      let lm = (list_exact tso tso_laws p c.0).0 c.1 in
      go c.0 lm c.2 (survivor_least p a w f s c.0 lm.0 (alike_survivor w c.0 f s lm c.2))
    where
      go : (m : Schedule) → Listed tso p m → Alike tso p m w → AtMost w m → Listed tso p w
      go m l k (inl e) = subst (Listed tso p) (sym e) l
      go m l k (inr e) = absurd (l.1 (w, f, e, alike_sym tso tso_laws p a m w k))

  -- SOUND: a listed schedule survives
  pub listed_survives : (w : Schedule) → Listed tso p w → Survives p w
  listed_survives w l v b z e = (on_time (late (taken p v) (action (end_of p v) b)) refl, no_twin (any (twin p (end_of p v) (owner b)) (range 0 (owner b))) refl, not_far (far p v (end_of p v) b) refl)
    where
      full : Full p (v ++ (b ∷ z))
      full = subst (Full p) e l.0

      never : Smaller tso p (v ++ (b ∷ z)) → ⊥
      never k = l.1 (subst (Smaller tso p) (sym e) k)

      on_time : (x : Bool) → late (taken p v) (action (end_of p v) b) ≡ x → late (taken p v) (action (end_of p v) b) ≡ false
      on_time true q = absurd (never (late_smaller tso tso_laws p a v b z q full))
      on_time false q = q

      no_twin : (x : Bool) → any (twin p (end_of p v) (owner b)) (range 0 (owner b)) ≡ x → any (twin p (end_of p v) (owner b)) (range 0 (owner b)) ≡ false
      no_twin true q =
          let r = any_yes (twin p (end_of p v) (owner b)) (range 0 (owner b)) q in
          let h = (of_range 0 (owner b) r.0 r.1).1 in
          absurd (never (twin_smaller p a v r.0 b z (omega (arith, h)) r.2 full))
      no_twin false q = q

      not_far : (x : Bool) → far p v (end_of p v) b ≡ x → far p v (end_of p v) b ≡ false
      not_far true q = absurd (never (far_smaller p a v b z q full))
      not_far false q = q

  -- LISTED EXACTLY WHERE NO RULE CUTS
  pub listed_exactly : (w : Schedule) → Full p w → Survives p w ↔ Listed tso p w
  listed_exactly w f = ((λ s. survivor_listed w f s), λ l. listed_survives w l)
