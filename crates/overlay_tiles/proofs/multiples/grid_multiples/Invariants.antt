-- The multiples so far are those before the next one.
use Rattle.std.proofs.Common.{map}
use Rattle.overlay_tiles.specs.Spans.{plain_span}
use Rattle.overlay_tiles.proofs.FrontMultiples.{AreFirst, way_left}
use Rattle.overlay_tiles.proofs.multiples.grid_multiples.Given as goal

abbrev pub invariant-loop-next : goal.invariant-loop-next
invariant-loop-next g l =
    let whole = g.I.IntNumber.whole in
    AreFirst whole (whole l.fn.step) (plain_span whole l.fn.span) (map whole l.multiples.items) l.next

abbrev pub decreases-loop-next : goal.decreases-loop-next
decreases-loop-next g l = way_left g.I.IntNumber.whole (g.I.IntNumber.whole l.fn.span.greatest) l.next
