-- Twice the cross product is compared by half of the sum, and by the rest.
use Rattle.std.proofs.Common.{lit<}
use Rattle.overlay_geom.proofs.DoubledNumbers.{compared_by_rest, compared_with_half}
use Rattle.overlay_geom.proofs.number.coordinate.I64IntNumber.compare_doubled.Goals as goal
use mir.Syntax.{w64, w128}

pub returns-in-Equal : goal.returns-in-Equal
returns-in-Equal c = compared_by_rest w64 w128 9223372036854775806 c.args.cross c.args.x c.args.y _ _
    (record {
      room = lit< tt;
      x_fits = c.ranges.x;
      y_fits = c.ranges.y;
      x_within = c.requires.x;
      y_within = c.requires.y;
      x_widened = c.from.ensures;
      y_widened = c.from-2.ensures;
    })
    c.ranges.cross (record { sfits = lit< tt }) c.cmp.result c.cmp.ensures c.in-Equal.is c.cmp-in-Equal.result
    c.cmp-in-Equal.ensures

pub returns-in_default : goal.returns-in_default
returns-in_default c = compared_with_half w64 w128 9223372036854775806 c.args.cross c.args.x c.args.y _ _
    (record {
      room = lit< tt;
      x_fits = c.ranges.x;
      y_fits = c.ranges.y;
      x_within = c.requires.x;
      y_within = c.requires.y;
      x_widened = c.from.ensures;
      y_widened = c.from-2.ensures;
    })
    c.ranges.cross (record { sfits = lit< tt }) c.cmp.result c.cmp.ensures c.in_default.not-Equal
