-- `compared` has both files' programs listed.
use Rattle.std.proofs.Common.{rules, ◌≡◌, ◌∙◌}
use Rattle.std.specs.Prelude.{Err}
use Rattle.spec_file.specs.Decode.{decode}
use Rattle.file_decoder.specs.Compiled.{program_of}
use Rattle.file_decoder.proofs.Said.{answer_refused, answer_accepted}
use Rattle.spec_model.specs.OnFile.{admit}
use Rattle.listing_model.specs.ModelOf.{model_of}
use Rattle.listing_model.proofs.ModelLaws.{model_laws}
use Rattle.listing_cursor.specs.Steps.{found_of}
use Rattle.listing_replay.proofs.ListedProgram.{answer_listed}
use Rattle.covers.specs.declared.covers_call.CoversRefusal.TheVariants.{First, Second, Output}
use Rattle.covers.proofs.Called.{refused_reply, on_first, on_second, on_22, on_found}
use Rattle.covers.proofs.Mapped.{mapped_ok, mapped_err}
use Rattle.covers.proofs.covers_call.compared.Goals as goal

pub returns-in_err-p : goal.returns-in_err-p
returns-in_err-p c =
    let a = c.args in
    let d = admit (model_of a.model) (decode a.first.now) in
    let e = admit (model_of a.other) (decode a.second.now) in
    let r = mapped_err _ c.admitted.result c.map_err.result c.map_err.ensures.cases c.in_err-p.field-0.0 c.in_err-p.was in
    let met = r.2 in
    let is : c.in_err-p.field-0.0 ≡ First r.0 = search rules in
    let reply : c.from_residual.result ≡ refused_reply (First r.0) = search rules in
    let whole = on_first a.need (model_of a.model) (model_of a.other) a.out.now a.scratch.now d e r.0 (answer_refused c.admitted.result d c.admitted.ensures r.0 r.1) in
    record { answer = reply ∙ whole.answer; output = whole.output; scratch = whole.scratch }

pub returns-in_err-q : goal.returns-in_err-q
returns-in_err-q c =
    let a = c.args in
    let d = admit (model_of a.model) (decode a.first.now) in
    let e = admit (model_of a.other) (decode a.second.now) in
    let p = mapped_ok _ c.admitted.result c.map_err.result c.map_err.ensures.cases c.in_ok-p.p c.in_ok-p.was in
    let r = mapped_err _ c.admitted-2.result c.map_err-2.result c.map_err-2.ensures.cases c.in_err-q.field-0.0 c.in_err-q.was in
    let met = r.2 in
    let is : c.in_err-q.field-0.0 ≡ Second r.0 = search rules in
    let reply : c.from_residual-in_err-q.result ≡ refused_reply (Second r.0) = search rules in
    let whole = on_second a.need (model_of a.model) (model_of a.other) a.out.now a.scratch.now d e (program_of c.in_ok-p.p) (answer_accepted c.admitted.result d c.admitted.ensures c.in_ok-p.p p) r.0
    (answer_refused c.admitted-2.result e c.admitted-2.ensures r.0 r.1) in
    record { answer = reply ∙ whole.answer; output = whole.output; scratch = whole.scratch }

pub returns-then-out-need : goal.returns-then-out-need
returns-then-out-need c =
    let a = c.args in
    let d = admit (model_of a.model) (decode a.first.now) in
    let e = admit (model_of a.other) (decode a.second.now) in
    let p = mapped_ok _ c.admitted.result c.map_err.result c.map_err.ensures.cases c.in_ok-p.p c.in_ok-p.was in
    let q = mapped_ok _ c.admitted-2.result c.map_err-2.result c.map_err-2.ensures.cases c.in_ok-q.q c.in_ok-q.was in
    let whole = on_22 a.need (model_of a.model) (model_of a.other) a.out.now a.scratch.now d e (program_of c.in_ok-p.p) (answer_accepted c.admitted.result d c.admitted.ensures c.in_ok-p.p p)
    (program_of c.in_ok-q.q) (answer_accepted c.admitted-2.result e c.admitted-2.ensures c.in_ok-q.q q) c.if-out-need.true in
    let reply : Err c.neither.result ≡ refused_reply (Output (record { number = 22; place = 0 })) = search rules in
    record { answer = reply ∙ whole.answer; output = whole.output; scratch = whole.scratch }

pub lacking_with-found-requires : goal.lacking_with-found-requires
lacking_with-found-requires c =
    let a = c.args in
    let p = mapped_ok _ c.admitted.result c.map_err.result c.map_err.ensures.cases c.in_ok-p.p c.in_ok-p.was in
    let q = mapped_ok _ c.admitted-2.result c.map_err-2.result c.map_err-2.ensures.cases c.in_ok-q.q c.in_ok-q.was in (
      answer_listed (model_of a.model) (model_laws a.model) c.admitted.result c.in_ok-p.p a.first.now c.admitted.ensures p,
      answer_listed (model_of a.other) (model_laws a.other) c.admitted-2.result c.in_ok-q.q a.second.now c.admitted-2.ensures q,
    )

pub returns : goal.returns
returns c =
    let a = c.args in
    let d = admit (model_of a.model) (decode a.first.now) in
    let e = admit (model_of a.other) (decode a.second.now) in
    let p = mapped_ok _ c.admitted.result c.map_err.result c.map_err.ensures.cases c.in_ok-p.p c.in_ok-p.was in
    let q = mapped_ok _ c.admitted-2.result c.map_err-2.result c.map_err-2.ensures.cases c.in_ok-q.q c.in_ok-q.was in
    let found = c.lacking_with-found in
    let put = c.put_found.ensures in
    let whole = on_found a.need (model_of a.model) (model_of a.other) a.out.now a.scratch.now d e (program_of c.in_ok-p.p) (answer_accepted c.admitted.result d c.admitted.ensures c.in_ok-p.p p)
    (program_of c.in_ok-q.q) (answer_accepted c.admitted-2.result e c.admitted-2.ensures c.in_ok-q.q q) c.if-out-need.false (found_of found.result) found.ensures.first _ _ c.put_found.result put.steps put.output found.ensures.words in
    record { answer = whole.answer; output = whole.output; scratch = whole.scratch }
