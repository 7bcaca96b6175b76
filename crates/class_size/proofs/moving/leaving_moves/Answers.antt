use Rattle.std.proofs.Common.{rules, arith, ◌≡◌, ◌&&◌, ◌/◌, ◌%◌, false, get_or}
use Rattle.graph_writer.specs.NoteText.{notes_at}
use Rattle.class_size.specs.Moves.{unmoved_in}
use Rattle.class_size.proofs.FromFn.{made_at}
use Rattle.class_size.proofs.moving.leaving_moves.Goals as goal

pub returns : goal.returns
returns c = λ k h. made_at _ (λ j y. y ≡ (get_or c.args.may j false && unmoved_in (notes_at c.args.log.now c.args.steps) (j / 6) (j % 6))) _ c.from_fn.result 36
    (λ j y q b called. search rules) 0 36 (omega arith) c.from_fn.ensures.items.each k (omega arith) h false
