-- The options and contours that are handed on are those of C, and so is the answer.
use Rattle.polyover_c.proofs.vectors.polyover_vectors_result_with_32.Goals as goal

pub returns : goal.returns
returns c = record {
  status = c.vectors_held-vectors.result.status;
  so = rw c.give_32.ensures.held (rw (
    c.numbers.ensures,
    c.given.ensures.coordinates,
    c.given.ensures.ends,
    c.given-2.ensures.coordinates,
    c.given-2.ensures.ends,
  ) at c.vectors_held-vectors.ensures);
  told = c.give_32.ensures.code;
}
