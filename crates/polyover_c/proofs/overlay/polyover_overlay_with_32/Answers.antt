-- The options and contours that are handed on are those of C.
use Rattle.polyover_c.proofs.overlay.polyover_overlay_with_32.Goals as goal

pub returns : goal.returns
returns c = (
  c.overlay_arrays.result,
  rw (
    c.numbers.ensures,
    c.given.ensures.coordinates,
    c.given.ensures.ends,
    c.given-2.ensures.coordinates,
    c.given-2.ensures.ends,
  ) at c.overlay_arrays.ensures,
  c.code.ensures,
)
