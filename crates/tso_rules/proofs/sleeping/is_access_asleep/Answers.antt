-- `is_access_asleep` asks for a store first, then who could wake the access.
use Rattle.std.proofs.Common.{ℕ, ◌+◌, ◌*◌, ◌<◌, ◌≡◌, sym, ap, ap₂, subst, ◌∙◌, Bool, ◌&&◌, arith, get_or}
use mathlib.Core.Option.{some}
use Rattle.file_rows.specs.Rows.{instruction_at}
use Rattle.spec_tso.specs.State.{byte_for, access, place, thread_of}
use Rattle.theory_tso.specs.Rules.{wakes, unwoken}
use Rattle.tso_rules.proofs.Asleep.{quiet_but, unwoken_reader, unwoken_store, reads_or_not, shown_place, shown_locks, shown_takes}
use Rattle.tso_rules.proofs.sleeping.is_access_asleep.Goals as goal

pub returns-then-not-is_in : goal.returns-then-not-is_in
returns-then-not-is_in c = let q = sym c.is_in.ensures ∙ c.if-not-is_in.true in λ σ left shown may. rw q

pub bounds-at-wide : goal.bounds-at-wide
bounds-at-wide c = omega (arith, c.wide-2.ensures.same, c.requires.0)

pub overflow_add-row : goal.overflow_add-row
overflow_add-row c = let l = subst (λ (i : ℕ). get_or c.args.at.now i 0 < 16) (sym c.wide-2.ensures.same) (c.requires.1 (sym c.is_in.ensures ∙ c.if-not-is_in.false)) in omega (arith, c.wide.ensures.same, c.wide-2.ensures.same, c.requires.0, l)

pub is_reader-requires : goal.is_reader-requires
is_reader-requires c = let l = subst (λ (i : ℕ). get_or c.args.at.now i 0 < 16) (sym c.wide-2.ensures.same) (c.requires.1 (sym c.is_in.ensures ∙ c.if-not-is_in.false)) in omega (arith, c.wide.ensures.same, c.wide-2.ensures.same, c.requires.0, l)

pub returns-then-not-is_reader : goal.returns-then-not-is_reader
returns-then-not-is_reader c =
    let a = c.args in
    let is = sym c.is_in.ensures ∙ c.if-not-is_in.false in
    let ro = c.wide.result * 16 + get_or a.at.now c.wide-2.result 0 in
    let er : ro ≡ a.t * 16 + get_or a.at.now a.t 0 = ap₂ (λ (i j : ℕ). i * 16 + get_or a.at.now j 0) c.wide.ensures.same c.wide-2.ensures.same in
    λ σ left shown may.
    let r = sym c.is_reader.ensures ∙ c.if-not-is_reader.true in
    unwoken_store σ a.t c.requires.0 (shown_locks a.program.now.code a.program.now.lengths a.at.now a.slots.now a.heads.now a.tails.now σ shown a.t c.requires.0 (may is).0 ro er ∙ reads_or_not (instruction_at a.program.now.code ro) r) (shown_takes a.program.now.code a.program.now.lengths a.at.now a.slots.now a.heads.now a.tails.now σ shown a.t c.requires.0 (may is).0 ro er ∙ r) ∙ ap (λ (y : Bool). y && unwoken σ (byte_for access a.t)) (sym is)

pub location_at-requires : goal.location_at-requires
location_at-requires c = let l = subst (λ (i : ℕ). get_or c.args.at.now i 0 < 16) (sym c.wide-2.ensures.same) (c.requires.1 (sym c.is_in.ensures ∙ c.if-not-is_in.false)) in omega (arith, c.wide.ensures.same, c.wide-2.ensures.same, c.requires.0, l)

pub locks_at-requires : goal.locks_at-requires
locks_at-requires c = let l = subst (λ (i : ℕ). get_or c.args.at.now i 0 < 16) (sym c.wide-2.ensures.same) (c.requires.1 (sym c.is_in.ensures ∙ c.if-not-is_in.false)) in omega (arith, c.wide.ensures.same, c.wide-2.ensures.same, c.requires.0, l)

pub is_woken-requires : goal.is_woken-requires
is_woken-requires c = (c.requires.2, c.requires.3)

pub returns : goal.returns
returns c =
    let a = c.args in
    let is = sym c.is_in.ensures ∙ c.if-not-is_in.false in
    let ro = c.wide.result * 16 + get_or a.at.now c.wide-2.result 0 in
    let er : ro ≡ a.t * 16 + get_or a.at.now a.t 0 = ap₂ (λ (i j : ℕ). i * 16 + get_or a.at.now j 0) c.wide.ensures.same c.wide-2.ensures.same in
    λ σ left shown may.
    let r = sym c.is_reader.ensures ∙ c.if-not-is_reader.false in
    let e : c.location_at.result ≡ place σ access a.t = c.location_at.ensures ∙ sym (shown_place a.program.now.code a.program.now.lengths a.at.now a.slots.now a.heads.now a.tails.now σ shown a.t c.requires.0 (may is).0 ro er) in
    let small : c.location_at.result < 8 = (let s = (may is).1 in omega (arith, e, s)) in
    quiet_but (λ u. wakes (some c.locks_at.result) c.location_at.result (thread_of σ u)) a.t c.is_woken.result (c.is_woken.ensures a.program.now.code σ left shown small)
    ∙ unwoken_reader σ a.t c.location_at.result c.locks_at.result c.requires.0 e (shown_locks a.program.now.code a.program.now.lengths a.at.now a.slots.now a.heads.now a.tails.now σ shown a.t c.requires.0 (may is).0 ro er ∙ sym c.locks_at.ensures) (shown_takes a.program.now.code a.program.now.lengths a.at.now a.slots.now a.heads.now a.tails.now σ shown a.t c.requires.0 (may is).0 ro er ∙ r) ∙ ap (λ (y : Bool). y && unwoken σ (byte_for access a.t)) (sym is)
