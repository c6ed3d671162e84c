-- The coordinate computed from the widened numbers is the wanted coordinate, and fits.
use Rattle.std.proofs.Common.{lit<, to_z, of_z}
use Rattle.overlay_geom.proofs.Widths.{Exact}
use Rattle.overlay_geom.proofs.OnWay.{place}
use Rattle.overlay_geom.proofs.WidenedWay.{Exact-part_way, Exact-fits, Exact-narrowed}
use Rattle.overlay_geom.proofs.number.coordinate.I32IntNumber.part_way.Goals as goal
use mir.Syntax.{w32, w64}

-- the program computes it
computed : (c : goal.After-nearest_on_way) → Exact 1073741823 (place c.args.self c.args.to c.args.t c.args.d)
    (to_z w64 (of_z w64 c.nearest_on_way.result))
computed c = Exact-part_way w32 w64 1073741823 9223372036854775807 c.args.self c.args.to c.args.t c.args.d _ _ _ _ _
    (lit< tt) (lit< tt)
    (record {
      from = c.requires.from;
      to = c.requires.to;
      begun = c.requires.begun;
      part = c.requires.part;
      divides = c.requires.divides;
      limit = c.requires.fits;
      from_fits = c.ranges.self;
      to_fits = c.ranges.to;
      part_fits = c.ranges.t;
      whole_fits = c.ranges.d;
    })
    c.from-from.ensures c.from-to.ensures c.from.ensures c.from-2.ensures c.nearest_on_way.ensures

pub overflow_cast-result : goal.overflow_cast-result
overflow_cast-result c = Exact-fits w32 1073741823 _ _ (lit< tt) (computed c)

pub returns : goal.returns
returns c = Exact-narrowed w32 1073741823 _ _ (lit< tt) (computed c)
