-- `words_of` makes the first three words, then joins them with the values. What its arrays hold is in `Whole`.
use Rattle.std.proofs.Common.{refl, sym, ◌∙◌, arith}
use lib.ListN.{length-map}
use Rattle.spec_tso.specs.Queue.{Entry}
use Rattle.spec_tso.specs.State.{without_queues}
use Rattle.spec_tso.specs.Graph.{end_of}
use Rattle.theory_sc_key.specs.Key.{values_of}
use Rattle.theory_tso_key.specs.Words.{join, stored}
use Rattle.states_key.specs.Gathered.{left_at}
use Rattle.tso_key.specs.Carried.{queues_to}
use Rattle.tso_key.proofs.Whole.{shaped, short_held, ends_held, sixteen_held, slots_held, stored_held, first_held, second_held, places_word, words_held}
use Rattle.tso_key.proofs.keys.words_of.Goals as goal

pub sets_word-requires : goal.sets_word-requires
sets_word-requires c = c.near_word-near.ensures.0

pub lefts_word-lefts-requires : goal.lefts_word-lefts-requires
lefts_word-lefts-requires c = let a = c.args in let q = c.requires in short_held q.0 a.lengths.now a.class.now q.1 q.2 a.x.now q.3 q.4 q.5

pub with_pending-requires : goal.with_pending-requires
with_pending-requires c = let a = c.args in let q = c.requires in (c.lefts_word-lefts.ensures.1, ends_held q.0 a.lengths.now a.class.now q.1 q.2 a.x.now q.3 q.4 q.5)

pub waiting_of-requires : goal.waiting_of-requires
waiting_of-requires c =
    let a = c.args in
    let q = c.requires in
    (ends_held q.0 a.lengths.now a.class.now q.1 q.2 a.x.now q.3 q.4 q.5, sixteen_held q.0 a.lengths.now a.class.now q.1 q.2 a.x.now q.3 q.4 q.5, slots_held q.0 a.lengths.now a.class.now q.1 q.2 a.x.now q.3 q.4 q.5)

pub joined-requires : goal.joined-requires
joined-requires c =
    let a = c.args in
    let q = c.requires in
    omega (arith, c.waiting_of.ensures.2, sixteen_held q.0 a.lengths.now a.class.now q.1 q.2 a.x.now q.3 q.4 q.5)

pub returns : goal.returns
returns c code threads groups n p v st ev fits most =
    let a = c.args in
    let x = a.x.now in
    let w = c.waiting_of in
    let pending = c.with_pending in
    let lefts = c.lefts_word-lefts in
    let sets = c.sets_word in
    let near = c.near_word-near in
    let all = join (queues_to x.place.slots x.place.heads x.place.tails 6) in
    let first = first_held code a.lengths.now a.class.now threads groups x p v st near.result (near.ensures.1 groups p st.reached.lines) sets.result sets.ensures in
    let second = second_held code a.lengths.now a.class.now threads groups x p v st pending.result (pending.ensures (left_at a.lengths.now x.place.threads) lefts.ensures.0) in
    let whole = c.joined.ensures (stored all) (values_of (without_queues (end_of p v))) w.ensures.0 (length-map all (λ (e : Entry). e.value) ∙ sym w.ensures.2) ev
    (shaped code a.lengths.now a.class.now threads groups x p v st).many in
    words_held code a.lengths.now a.class.now threads groups x p v st sets.result pending.result w.result.places (stored all) (values_of (without_queues (end_of p v))) c.joined.result n first second
    (places_word code a.lengths.now a.class.now threads groups x p v st w.result.places w.ensures.1) (stored_held code a.lengths.now a.class.now threads groups x p v st) refl whole fits most
