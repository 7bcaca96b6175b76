-- `next_asking` is the library's search over the callers in turn.
use Rattle.std.proofs.Common.{ℕ, ◌+◌, ◌%◌, false, get_or, refl, rules, tests}
use Rattle.std.proofs.lemmas.Iterator.{YieldsList-from_range, YieldsList-from_map}
use Rattle.std.proofs.lemmas.Iterator.Search.{find_from_yields_List}
use Rattle.service_serve.proofs.Choosing.{found_next}
use Rattle.service_serve.proofs.order.next_asking.Goals as goal

pub returns : goal.returns
returns c =
    let x = c.args in
    let f = λ (k : ℕ). get_or x.asking.now k false in
    let n = c.last_read.result in
    found_next f n x.last c.last_read.ensures.read c.find.result
    (find_from_yields_List f _ _ c.find.result c.find.ensures.ran (YieldsList-from_map _ (λ d. (n + d) % 4) (YieldsList-from_range 1 5 4 c.map.ensures.source refl) c.map.ensures.closure (λ d r q k. search rules)) (λ k b q h. search (rules, tests)))
