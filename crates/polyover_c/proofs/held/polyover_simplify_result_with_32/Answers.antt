-- The options and contours that are handed on are those of C, and so is the answer.
use Rattle.polyover_c.proofs.held.polyover_simplify_result_with_32.Goals as goal

pub returns : goal.returns
returns c = record {
  status = c.simplification_held.result.status;
  so = rw c.give.ensures.held
      (rw (c.numbers.ensures, c.given.ensures.coordinates, c.given.ensures.ends) at c.simplification_held.ensures);
  told = c.give.ensures.code;
}
