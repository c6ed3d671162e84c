-- The contours that are handed on are those of C.
use Rattle.polyover_c.proofs.clip.polyover_clip_with_32.Goals as goal

pub returns : goal.returns
returns c = (
  c.clip_arrays.result,
  rw (
    c.given.ensures.coordinates,
    c.given.ensures.ends,
    c.given-2.ensures.coordinates,
    c.given-2.ensures.ends,
  ) at c.clip_arrays.ensures,
  c.code.ensures,
)
