-- `force_with` reads the file, then the set; then the game is played with the scratch.
use Rattle.std.proofs.Common.{ℕ, ◌≡◌, Err, refl, ap, ◌∙◌, rules}
use Rattle.file_decoder.specs.Compiled.{program_of}
use Rattle.file_decoder.proofs.Decoded.{decoded_refused, decoded_accepted, decoded_well_formed}
use Rattle.spec_force.specs.Forced.{refusing, program_refused, set_refused, played}
use Rattle.spec_calls.specs.Scratch.{force_scratch}
use Rattle.force.specs.Answered.{answer_of}
use Rattle.force.proofs.Names.{all_named, lowest_missing}
use Rattle.force.proofs.Starting.{answered_zeros}
use Rattle.force.proofs.answering.force_with.Goals as goal

-- the program is refused
pub returns-in_err-p : goal.returns-in_err-p
unfolding answer_of force_scratch
returns-in_err-p c =
    let r = c.in_err-p.field-0.0 in
    let reply : c.from_residual.result ≡ Err r = search rules in
    (refusing r.number r.place, program_refused _ _ (decoded_refused c.decode.result c.args.file.now c.decode.ensures r c.in_err-p.was), reply, refl)

-- the set names a thread that is not there
pub returns-in-Some : goal.returns-in-Some
unfolding answer_of force_scratch
returns-in-Some c =
    let decode = c.decode in
    let e = decoded_accepted decode.result c.args.file.now decode.ensures _ c.in_ok-p.was in
    let w = decoded_well_formed decode.result c.args.file.now decode.ensures _ c.in_ok-p.was in
    let place : c.from.result ≡ c.in-Some.k = search rules in
    (refusing 48 c.in-Some.k, set_refused (program_of c.in_ok-p.p) c.in-Some.k e (lowest_missing c.in_ok-p.p w c.args.set c.in-Some.k c.in-Some.ensures), ap (λ (n : ℕ). answer_of (refusing 48 n)) place, refl)

pub answered-requires : goal.answered-requires
answered-requires c = decoded_well_formed c.decode.result c.args.file.now c.decode.ensures _ c.in_ok-p.was

pub returns : goal.returns
returns c =
    let set = c.args.set in
    let decode = c.decode in
    let p = program_of c.in_ok-p.p in
    let e = decoded_accepted decode.result c.args.file.now decode.ensures _ c.in_ok-p.was in
    let w = decoded_well_formed decode.result c.args.file.now decode.ensures _ c.in_ok-p.was in
    let r = c.answered.ensures.answer in
    (r.0, played p r.0 (record { accepts = e; names = all_named c.in_ok-p.p w set c.in_default.ensures }) r.1, r.2, c.answered.ensures.zeros ∙ answered_zeros set p r.0 r.1 c.args.scratch.now)
