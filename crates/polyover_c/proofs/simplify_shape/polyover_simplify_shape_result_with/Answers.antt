-- The options and the contours that are handed on are those of C, and so is the answer.
use Rattle.polyover_c.proofs.simplify_shape.polyover_simplify_shape_result_with.Goals as goal

pub returns : goal.returns
returns c = record {
  status = c.simplified_shape_held-told.result.outcome.status;
  so = rw (c.give_told.ensures.held, c.give_told.ensures.as_given)
      (rw (c.numbers.ensures, c.given.ensures.coordinates, c.given.ensures.ends)
      at c.simplified_shape_held-told.ensures);
  told = c.give_told.ensures.code;
}
