-- `key` puts the parts together.
use Rattle.std.proofs.Common.{refl}
use Rattle.spec_sc.specs.Graph.{end_of}
use Rattle.theory_sc_key.proofs.ByWord.{carried_key_lem}
use Rattle.states_key.proofs.KeyWords.{stands_short, stands_late, key_held}
use Rattle.states_key.proofs.keys.key.Goals as goal

pub first_word-first-requires : goal.first_word-first-requires
first_word-first-requires c =
    let a = c.args in
    let q = c.requires in
    (stands_late q.0 a.lengths.now a.class.now a.masks.now q.1 q.2 a.x.now q.3 q.4 q.5, stands_short q.0 a.lengths.now a.class.now a.masks.now q.1 q.2 a.x.now q.3 q.4 q.5)

pub values_of-requires : goal.values_of-requires
values_of-requires c =
    let a = c.args in
    let q = c.requires in
    stands_short q.0 a.lengths.now a.class.now a.masks.now q.1 q.2 a.x.now q.3 q.4 q.5

pub returns : goal.returns
returns c =
    let a = c.args in
    λ code threads groups n p v at lives fits within.
    key_held code a.lengths.now a.class.now a.masks.now threads groups a.x.now p v at lives (carried_key_lem p at.reached.loaded.well_formed v (end_of p v) (refl, at.reached.allowed))
    c.first_word-first.result c.near_word-second.result n c.values_of.result c.packed.result c.first_word-first.ensures (c.near_word-second.ensures groups p at.reached.lines) c.values_of.ensures c.packed.ensures fits within
