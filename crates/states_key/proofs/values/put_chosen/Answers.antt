-- `put_chosen` puts each of the four registers where it is wanted.
use Rattle.std.proofs.Common.{ℕ, ◌<◌, ◌≡◌, sym, ap, ◌∙◌, List, ◌++◌, arith, length, get_or}
use Rattle.theory_sc_key.specs.Key.{padded}
use Rattle.states_key.proofs.Padding.{wanted, put_held, put_size, chosen_four}
use Rattle.states_key.proofs.values.put_chosen.Goals as goal

pub returns-clause-stored : goal.returns-clause-stored
returns-clause-stored c =
    let a = c.args in
    let one = c.put-a in
    let two = c.put-b in
    let three = c.put-c in
    let four = c.put in
    let b0 = c.is_in in
    let b1 = c.is_in-2 in
    let b2 = c.is_in-3 in
    let b3 = c.is_in-4 in
    let v : ℕ → ℕ = λ r. get_or a.registers r 0 in
    let r1 : a.n < 32 = omega (arith, c.requires) in
    let r2 : one.result < 32 = omega (arith, c.requires, one.ensures.next.1) in
    let r3 : two.result < 32 = omega (arith, c.requires, one.ensures.next.1, two.ensures.next.1) in
    let r4 : three.result < 32 = omega (arith, c.requires, one.ensures.next.1, two.ensures.next.1, three.ensures.next.1) in
    λ l size held.
    let l1 : List ℕ = l ++ wanted b0.result (v 0) in
    let l2 : List ℕ = l1 ++ wanted b1.result (v 1) in
    let l3 : List ℕ = l2 ++ wanted b2.result (v 2) in
    let l4 : List ℕ = l3 ++ wanted b3.result (v 3) in
    let h1 : one.new.values ≡ padded 32 l1 = put_held a.values.now l a.n held size r1 b0.result (v 0) one.new.values one.ensures.stored in
    let s1 : length l1 ≡ one.result = put_size a.values.now l a.n held size r1 b0.result (v 0) one.result one.ensures.next.0 in
    let h2 : two.new.values ≡ padded 32 l2 = put_held one.new.values l1 one.result h1 s1 r2 b1.result (v 1) two.new.values two.ensures.stored in
    let s2 : length l2 ≡ two.result = put_size one.new.values l1 one.result h1 s1 r2 b1.result (v 1) two.result two.ensures.next.0 in
    let h3 : three.new.values ≡ padded 32 l3 = put_held two.new.values l2 two.result h2 s2 r3 b2.result (v 2) three.new.values three.ensures.stored in
    let s3 : length l3 ≡ three.result = put_size two.new.values l2 two.result h2 s2 r3 b2.result (v 2) three.result three.ensures.next.0 in
    let h4 : four.new.values ≡ padded 32 l4 = put_held three.new.values l3 three.result h3 s3 r4 b3.result (v 3) four.new.values four.ensures.stored in
    let s4 : length l4 ≡ four.result = put_size three.new.values l3 three.result h3 s3 r4 b3.result (v 3) four.result four.ensures.next.0 in
    let all = chosen_four a.mask a.registers l b0.result b1.result b2.result b3.result b0.ensures b1.ensures b2.ensures b3.ensures in
    (ap length (sym all) ∙ s4, h4 ∙ ap (padded 32) all)
