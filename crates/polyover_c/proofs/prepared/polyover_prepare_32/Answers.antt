-- C is given the parts that are held.
use Rattle.polyover_calls.specs.Given.{contours_of}
use Rattle.polyover_calls.specs.Prepared.{parts_of, parts_at_32, edge_of_32, block_of_32}
use Rattle.polyover_calls.proofs.Preparing.{handed_out}
use Rattle.polyover_c.proofs.prepared.polyover_prepare_32.Goals as goal

pub returns : goal.returns
returns c = handed_out (λ z. z) 1073741823 c.args.fill c.args.solver
    (contours_of c.args.contours.now.coordinates.now c.args.contours.now.ends.now)
    (parts_of (λ z. z) edge_of_32 block_of_32 c.prepared_held.result.parts) (parts_at_32 c.give.new.self)
    c.prepared_held.result.status c.give.result
    (rw (c.given.ensures.coordinates, c.given.ensures.ends) at c.prepared_held.ensures) c.give.ensures.parts
    c.give.ensures.code
