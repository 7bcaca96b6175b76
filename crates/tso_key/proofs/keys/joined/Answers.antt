-- `joined` stores three words, then one block behind the other.
use Rattle.std.proofs.Common.{rules, ◌≡◌, refl, [], ◌∷◌, arith, length}
use Rattle.theory_sc_key.specs.Key.{pairs}
use Rattle.tso_key.proofs.Filled.{heads_three, block_one, block_size, block_two}
use Rattle.tso_key.proofs.keys.joined.Goals as goal

pub put_pairs-requires : goal.put_pairs-requires
put_pairs-requires c = let w = c.args.w in let h : length w.values ≡ 16 = search rules in (omega arith, omega (arith, h))

pub put_pairs-requires-2 : goal.put_pairs-requires-2
put_pairs-requires-2 c =
    let h : length c.args.values ≡ 32 = search rules in
    (omega (arith, c.requires), omega (arith, h))

pub returns : goal.returns
returns c s l es size el many =
    let a = c.args in
    let w = a.w in
    let f = c.requires in
    block_two a.first a.second w.places w.count s l size f many a.values _ el
    (c.put_pairs-2.ensures (a.first ∷ a.second ∷ w.places ∷ pairs s) (block_size a.first a.second w.places w.count s l size f many)
    (block_one a.first a.second w.places w.count s l size f many w.values _ es
    (c.put_pairs.ensures (a.first ∷ a.second ∷ w.places ∷ []) refl (heads_three a.first a.second w.places w.count s l size f many))))
