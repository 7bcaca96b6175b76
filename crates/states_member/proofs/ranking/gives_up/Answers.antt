-- `gives_up` asks whether the step is tried, and whether some are asleep for good behind it.
use Rattle.std.proofs.Common.{refl, sym, ◌∙◌, [], ◌∷◌, ◌++◌}
use Rattle.spec_sc.specs.Graph.{end_of}
use Rattle.spec_sc.proofs.Steps.{enabled_small}
use Rattle.states_member.proofs.Smaller.{untried_up, asleep_up}
use Rattle.states_member.proofs.ranking.gives_up.Goals as goal

pub is_tried-requires : goal.is_tried-requires
is_tried-requires c = let e = c.requires.0 in enabled_small (end_of e.2 e.3) c.args.b e.5

pub returns-then-not-is_tried : goal.returns-then-not-is_tried
returns-then-not-is_tried c threads groups p v at ok =
    let a = c.args in
    untried_up p v a.b ok (sym (c.is_tried.ensures a.setup.now.program.code a.setup.now.program.lengths threads groups a.x.now.place p v at.reached refl refl refl) ∙ c.if-not-is_tried.true)

pub advance-requires : goal.advance-requires
advance-requires c = let e = c.requires.0 in (c.args.setup.now.program.class, e.0, e.1, e.2, e.3, e.4, e.5)

pub some_asleep-requires : goal.some_asleep-requires
some_asleep-requires c =
    let e = c.requires.0 in
    let a = c.args in
    (a.setup.now.program.class, e.0, e.1, c.advance.new.x.place, e.2, e.3 ++ (a.b ∷ []), (c.advance.ensures a.setup.now.program.class e.0 e.1 e.2 e.3 e.4).reached, refl, refl, c.requires.1)

pub returns : goal.returns
returns c threads groups p v at ok =
    let a = c.args in
    let y = c.advance in
    asleep_up p v a.b (sym (c.is_tried.ensures a.setup.now.program.code a.setup.now.program.lengths threads groups a.x.now.place p v at.reached refl refl refl) ∙ c.if-not-is_tried.false) c.some_asleep.result
    (sym (c.some_asleep.ensures a.setup.now.program.class threads groups y.new.x.place p (v ++ (a.b ∷ [])) (y.ensures a.setup.now.program.class threads groups p v at).reached refl refl))
