-- `near_word` joins the six sets.
use Rattle.std.proofs.Common.{rules}
use Rattle.tso_key.proofs.Digits.{six_sets}
use Rattle.tso_key.proofs.nearness.near_word.Goals as goal

pub returns : goal.returns
returns c =
    let f = c.near_set-f in
    let e = c.near_set-e in
    let d = c.near_set-d in
    let k = c.near_set-c in
    let b = c.near_set-b in
    let a = c.near_set-a in (
      search rules,
      λ groups p lined. six_sets a.result b.result k.result d.result e.result f.result _ _ _ _ _ _ (a.ensures groups p lined) (b.ensures groups p lined) (k.ensures groups p lined)
          (d.ensures groups p lined) (e.ensures groups p lined) (f.ensures groups p lined),
    )
