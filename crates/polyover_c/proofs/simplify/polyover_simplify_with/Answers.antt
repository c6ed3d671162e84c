-- The options and contours that are handed on are those of C.
use Rattle.polyover_c.proofs.simplify.polyover_simplify_with.Goals as goal

pub returns : goal.returns
returns c = (
  c.simplify_arrays.result,
  rw (c.numbers.ensures, c.given.ensures.coordinates, c.given.ensures.ends) at c.simplify_arrays.ensures,
  c.code.ensures,
)
