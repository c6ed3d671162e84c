-- C is given the parts that are held.
use Rattle.polyover_calls.specs.Given.{contours_of}
use Rattle.polyover_calls.specs.Prepared.{block_of_64}
use Rattle.polyover_located.specs.Held.{parts_of, parts_at_64, edge_of_64}
use Rattle.polyover_located.proofs.Endings.{handed_out}
use Rattle.polyover_c.proofs.located.polyover_prepare_exact.Goals as goal

pub returns : goal.returns
returns c = handed_out (λ z. z) 4611686018427387903 c.args.fill
    (contours_of c.args.contours.now.coordinates.now c.args.contours.now.ends.now)
    (parts_of (λ z. z) edge_of_64 block_of_64 c.shape_held.result.shape) (parts_at_64 c.give.new.self)
    c.shape_held.result.status c.give.result
    (rw (c.given.ensures.coordinates, c.given.ensures.ends) at c.shape_held.ensures) c.give.ensures.parts
    c.give.ensures.code
