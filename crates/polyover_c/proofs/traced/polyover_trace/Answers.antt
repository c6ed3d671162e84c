-- The edges that are handed on are those of C, and so is the answer.
use Rattle.polyover_c.proofs.traced.polyover_trace.Goals as goal

pub returns : goal.returns
returns c = record {
  status = c.trace_held.result.status;
  so = rw c.give.ensures.held (rw (
    c.given.ensures.coordinates,
    c.given.ensures.sides,
  ) at c.trace_held.ensures);
  told = c.give.ensures.code;
}
