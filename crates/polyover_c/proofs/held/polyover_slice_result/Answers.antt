-- The contours that are handed on are those of C, and so is the answer.
use Rattle.polyover_c.proofs.held.polyover_slice_result.Goals as goal

pub returns : goal.returns
returns c = record {
  status = c.slices_held.result.status;
  so = rw c.give.ensures.held (rw (
    c.given.ensures.coordinates,
    c.given.ensures.ends,
    c.given-2.ensures.coordinates,
    c.given-2.ensures.ends,
  ) at c.slices_held.ensures);
  told = c.give.ensures.code;
}
