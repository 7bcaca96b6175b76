-- `is_relaxed` carries the schedule out, writes the text of its graph, reads it back and judges it.
use Rattle.std.proofs.Common.{rules, ◌≡◌, ◌≤◌, refl, sym, arith, length, take, length-take-le}
use Rattle.file_decoder.specs.Compiled.{program_of}
use Rattle.machine.proofs.HeldStart.{loaded_compiled, starting_compiled, threads_held}
use Rattle.spec_model.specs.Model.{graph}
use Rattle.spec_sc.specs.Text.{graph_text}
use Rattle.spec_tso.specs.TotalStoreOrder.{tso}
use Rattle.spec_tso.proofs.Laws.{at_most_16}
use Rattle.graph_reader.specs.Held.{Tabled}
use Rattle.tso_replay.specs.Carried.{HoldsRun}
use Rattle.robust.proofs.RowJudged.{few_notes, text_within, text_is, graph_read, graph_passes, graph_tabled, judged_relaxed}
use Rattle.robust.proofs.testing.is_relaxed.Goals.{After-replayed-run, After-write_graph-n, After-unwrap-table}
use Rattle.robust.proofs.testing.is_relaxed.Goals as goal

-- what the run leaves
held : (c : After-replayed-run) → HoldsRun c.args.program.code c.args.program.lengths (program_of c.args.program) c.args.steps.now c.replayed-run.result
held c =
    let p = c.args.program in
    c.replayed-run.ensures (program_of p) (loaded_compiled p c.requires.0.0) (starting_compiled p) (at_most_16 (program_of p) c.requires.0.1)

module _ (c : After-write_graph-n) (h : HoldsRun c.args.program.code c.args.program.lengths (program_of c.args.program) c.args.steps.now c.replayed-run.result) where
  -- the text lies within the buffer, and is the graph's
  within : c.write_graph-n.result ≤ length c.write_graph-n.new.out
  within = text_within (program_of c.args.program) c.requires.0 c.args.steps.now c.requires.1 _ _ c.replayed-run.result h _ _ _ refl c.write_graph-n.ensures

  written : take c.write_graph-n.result c.write_graph-n.new.out ≡ graph_text (graph tso (program_of c.args.program) c.args.steps.now)
  written = text_is (program_of c.args.program) c.requires.0 c.args.steps.now c.requires.1 _ _ c.replayed-run.result h _ _ _ refl c.write_graph-n.ensures

-- what was read of it is a table of the graph
tabled : (c : After-unwrap-table) → take c.write_graph-n.result c.write_graph-n.new.out ≡ graph_text (graph tso (program_of c.args.program) c.args.steps.now)
    → Tabled c.unwrap-table.result.pairs c.unwrap-table.result.counts (graph tso (program_of c.args.program) c.args.steps.now)
tabled c is =
    let p = program_of c.args.program in
    graph_tabled p c.requires.0 c.args.steps.now c.requires.1 _ (threads_held _ _ c.args.program.threads p (loaded_compiled c.args.program c.requires.0.0)) _ is
    c.read_graph.result c.read_graph.ensures c.unwrap-table.result c.unwrap-table.ensures

pub replayed-run-requires : goal.replayed-run-requires
replayed-run-requires c =
    let p = c.args.program in
    (program_of p, loaded_compiled p c.requires.0.0, starting_compiled p, at_most_16 (program_of p) c.requires.0.1)

pub write_graph-n-requires : goal.write_graph-n-requires
write_graph-n-requires c =
    let h = held (goal.at.write_graph-n-requires c).After-replayed-run in
    (search rules, few_notes (program_of c.args.program) c.requires.0 c.args.steps.now c.requires.1 _ _ c.replayed-run.result h)

pub slice_bounds-text-end : goal.slice_bounds-text-end
slice_bounds-text-end c =
    let at = goal.at.slice_bounds-text-end c in
    within at.After-write_graph-n (held at.After-replayed-run)

pub slice_bounds-read_graph-end : goal.slice_bounds-read_graph-end
slice_bounds-read_graph-end c =
    let at = goal.at.slice_bounds-read_graph-end c in
    sym (length-take-le _ _ (within at.After-write_graph-n (held at.After-replayed-run)))

pub read_graph-requires : goal.read_graph-requires
read_graph-requires c =
    let p = c.args.program in
    omega (arith, threads_held _ _ p.threads (program_of p) (loaded_compiled p c.requires.0.0), c.requires.0.0.six)

pub unwrap-table-requires : goal.unwrap-table-requires
unwrap-table-requires c =
    let at = goal.at.unwrap-table-requires c in
    let p = program_of c.args.program in
    graph_passes p c.requires.0 c.args.steps.now c.requires.1 _ (threads_held _ _ c.args.program.threads p (loaded_compiled c.args.program c.requires.0.0)) _
    (written at.After-write_graph-n (held at.After-replayed-run)) c.read_graph.result c.read_graph.ensures

pub judged-requires : goal.judged-requires
judged-requires c =
    let at = goal.at.judged-requires c in
    let p = program_of c.args.program in
    let s = c.args.steps.now in
    let loaded = loaded_compiled c.args.program c.requires.0.0 in (
      p,
      graph_text (graph tso p s),
      graph tso p s,
      loaded,
      starting_compiled c.args.program,
      graph_read p c.requires.0 s c.requires.1 _ (threads_held _ _ c.args.program.threads p loaded),
      tabled at.After-unwrap-table (written at.After-write_graph-n (held at.After-replayed-run)),
    )

pub returns : goal.returns
returns c =
    let at = goal.at.returns c in
    let p = program_of c.args.program in
    let s = c.args.steps.now in
    let loaded = loaded_compiled c.args.program c.requires.0.0 in
    judged_relaxed p s c.judged.result c.is_none.result c.is_none.ensures
    (c.judged.ensures p (graph_text (graph tso p s)) (graph tso p s) loaded (starting_compiled c.args.program)
    (graph_read p c.requires.0 s c.requires.1 _ (threads_held _ _ c.args.program.threads p loaded)) (tabled at.After-unwrap-table (written at.After-write_graph-n (held at.After-replayed-run))))
