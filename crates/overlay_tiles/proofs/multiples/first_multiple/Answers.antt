-- The way from the least number leads to the first multiple.
use Rattle.overlay_geom.proofs.Signs.{linear}
use Rattle.overlay_tiles.specs.Spans.{plain_span}
use Rattle.overlay_tiles.proofs.AllMultiples.{first_multiple_found}
use Rattle.overlay_tiles.proofs.multiples.first_multiple.Goals as goal

pub returns : goal.returns
returns g c =
    let whole = g.I.IntNumber.whole in
    let positive = c.requires.step.positive in
    first_multiple_found whole (whole c.args.step) (plain_span whole c.args.span) (whole c.way_to_next.result)
    c.multiple_after.result (omega linear) c.way_to_next.ensures c.multiple_after.ensures
