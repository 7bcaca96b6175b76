-- `robust_of` counts the accesses, looks at the output's length, asks whether the code is fenced, and walks the list.
use Rattle.std.proofs.Common.{length}
use Rattle.file_decoder.specs.Compiled.{program_of}
use Rattle.machine.proofs.HeldStart.{loaded_compiled}
use Rattle.spec_across.proofs.Relaxed.{first_relaxed}
use Rattle.listing_cursor.specs.Steps.{found_of}
use Rattle.robust.proofs.Walked.{found_put, found_fits}
use Rattle.robust.proofs.Called.{answered_41, admitted_few, answered_22, answered_fenced, answered_found}
use Rattle.robust.proofs.robust_call.robust_of.Goals as goal

pub too_many-requires : goal.too_many-requires
too_many-requires c =
    (program_of c.args.program, loaded_compiled c.args.program c.requires)

pub returns-then-too_many : goal.returns-then-too_many
returns-then-too_many c =
    let p = program_of c.args.program in
    let whole = answered_41 p c.args.out.now _ (c.too_many.ensures p (loaded_compiled c.args.program c.requires)) c.if-too_many.true in
    record { answer = whole.0; output = whole.1 }

pub returns-then-out-lt48 : goal.returns-then-out-lt48
returns-then-out-lt48 c =
    let p = program_of c.args.program in
    let whole = answered_22 p c.args.out.now _ (c.too_many.ensures p (loaded_compiled c.args.program c.requires)) c.if-too_many.false c.if-out-lt48.true in
    record { answer = whole.0; output = whole.1 }

pub is_fenced-requires : goal.is_fenced-requires
is_fenced-requires c =
    (program_of c.args.program, loaded_compiled c.args.program c.requires)

pub returns-then-is_fenced : goal.returns-then-is_fenced
returns-then-is_fenced c =
    let p = program_of c.args.program in
    let whole = answered_fenced p c.args.out.now _ (c.too_many.ensures p (loaded_compiled c.args.program c.requires)) c.if-too_many.false c.if-out-lt48.false c.requires
    (c.is_fenced.ensures p (loaded_compiled c.args.program c.requires) c.if-is_fenced.true) in
    record { answer = whole.0; output = whole.1 }

pub first_relaxed-requires : goal.first_relaxed-requires
first_relaxed-requires c =
    let p = program_of c.args.program in
    admitted_few p c.args.out.now _ (c.too_many.ensures p (loaded_compiled c.args.program c.requires)) c.if-too_many.false c.requires

pub put_found-requires : goal.put_found-requires
put_found-requires c =
    let short = c.first_relaxed.ensures.short in
    (short, found_fits c.first_relaxed.result (length c.args.out.now) short c.if-out-lt48.false)

pub returns : goal.returns
returns c =
    let p = program_of c.args.program in
    let out = c.args.out.now in
    let put = c.put_found.ensures in
    let whole = answered_found p out _ (c.too_many.ensures p (loaded_compiled c.args.program c.requires)) c.if-too_many.false c.if-out-lt48.false _ _
    (found_put (found_of c.first_relaxed.result) (first_relaxed p) c.first_relaxed.ensures.first out _ c.put_found.result put.steps put.output) in
    record { answer = whole.0; output = whole.1 }
