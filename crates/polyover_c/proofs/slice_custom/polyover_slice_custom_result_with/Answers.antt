-- The options, the contours and the lines that are handed on are those of C, and so is the answer.
use Rattle.polyover_c.proofs.slice_custom.polyover_slice_custom_result_with.Goals as goal

pub returns : goal.returns
returns c = record {
  status = c.asked_slices_held.result.status;
  so = rw c.give.ensures.held (rw (
    c.numbers.ensures,
    c.given.ensures.coordinates,
    c.given.ensures.ends,
    c.given-2.ensures.coordinates,
    c.given-2.ensures.ends,
  ) at c.asked_slices_held.ensures);
  told = c.give.ensures.code;
}
