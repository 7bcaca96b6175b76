-- `counts` lends `counted` room for 64 rows of the model's width.
use Rattle.std.proofs.Common.{ℕ, ◌+◌, ◌*◌, sym, ap, ◌∙◌, arith, length-take-le}
use Rattle.listing_model.proofs.ModelLaws.{need_48}
use Rattle.listing.proofs.counting.counts.Goals as goal

pub overflow_add-n : goal.overflow_add-n
overflow_add-n c = omega (arith, c.width.ensures, need_48 c.args.model)

pub overflow_mul-n : goal.overflow_mul-n
overflow_mul-n c = omega (arith, c.width.ensures, need_48 c.args.model)

pub slice_bounds-rows-end : goal.slice_bounds-rows-end
slice_bounds-rows-end c = omega (arith, c.width.ensures, need_48 c.args.model)

pub slice_bounds-counted-end : goal.slice_bounds-counted-end
slice_bounds-counted-end c = sym (length-take-le _ _ (omega (arith, c.width.ensures, need_48 c.args.model)))

pub counted-requires : goal.counted-requires
counted-requires c =
    let w = c.width.ensures in
    let args = c.args in
    (c.requires, length-take-le _ _ (omega (arith, w, need_48 args.model)) ∙ ap (λ (n : ℕ). 64 * (n + 2)) w)
