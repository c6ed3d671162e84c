-- The contours that are handed on are those of C.
use Rattle.polyover_c.proofs.edges.polyover_edges_with_32.Goals as goal

pub returns : goal.returns
returns c = (
  c.edges_arrays.result,
  rw (
    c.given.ensures.coordinates,
    c.given.ensures.ends,
    c.given-2.ensures.coordinates,
    c.given-2.ensures.ends,
  ) at c.edges_arrays.ensures,
  c.code.ensures,
)
