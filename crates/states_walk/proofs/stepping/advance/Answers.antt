use Rattle.std.proofs.Common.{ℕ, sym, ap₂, ◌∙◌, List, get_or, set}
use Rattle.spec_sc.specs.Graph.{end_of}
use Rattle.spec_sc.proofs.Steps.{enabled_small}
use Rattle.theory_sc_key.specs.Ways.{way_behind, ways_behind}
use Rattle.theory_sc_key.proofs.Ways.{ways_more}
use Rattle.states_walk.proofs.stepping.advance.Goals as goal

pub step-location-requires : goal.step-location-requires
step-location-requires c = let q = c.requires in (q.0, q.1, q.2, q.3, q.4, q.5.reached, q.6)

pub mark_way-requires : goal.mark_way-requires
mark_way-requires c = enabled_small (end_of c.requires.3 c.requires.4) c.args.t c.requires.6

pub returns : goal.returns
unfolding ways_behind
returns c class count groups p v stands =
    let a = c.args in
    let next = c.step-location.ensures class count groups p v stands.reached in record {
      reached = next.0;
      ways = c.mark_way.ensures ∙ ap₂ (λ (ws : List ℕ) (l : ℕ). set ws a.t (way_behind (get_or ws a.t 0) l)) stands.ways next.1 ∙ sym (ways_more p v a.t);
    }
