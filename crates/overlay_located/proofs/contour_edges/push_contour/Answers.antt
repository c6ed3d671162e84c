-- The contour's edges are those from its first point through all and back.
use Rattle.std.proofs.lemmas.List.Elements.{All-contains}
use Rattle.overlay_geom.specs.Points.{plain_point, plain_points, InRange}
use Rattle.overlay_geom.proofs.ResolvedSteps.{first_mapped}
use Rattle.overlay_located.proofs.contour_edges.push_contour.Goals as goal

pub push_round-requires-clause-first : goal.push_round-requires-clause-first
push_round-requires-clause-first g c =
    All-contains (InRange g.I.IntNumber.limit) (plain_points g.I.IntNumber.whole c.args.contour.now)
    (plain_point g.I.IntNumber.whole c.in-Some.first.now)
    c.requires.contour (first_mapped (plain_point g.I.IntNumber.whole) c.args.contour.now c.in-Some.first.now
    (c.in-Some.ensures).value)
