-- The contours that are handed on are those of C.
use Rattle.polyover_c.proofs.relate_one_exact.polyover_relate_one_exact_with.Goals as goal

pub returns : goal.returns
returns c = (
  c.relate_one_exactly.result,
  rw (
    c.given.ensures.coordinates,
    c.given.ensures.ends,
    c.given-2.ensures.coordinates,
    c.given-2.ensures.ends,
  ) at c.relate_one_exactly.ensures,
  c.code.ensures,
)
