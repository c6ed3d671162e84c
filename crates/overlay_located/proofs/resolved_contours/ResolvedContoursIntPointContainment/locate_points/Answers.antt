-- Where a point lies in one shape, it lies among that shape alone.
use Rattle.std.proofs.Common.{◌∷◌, [], All}
use Rattle.std.proofs.lemmas.List.Elements.{All-head}
use Rattle.overlay_geom.specs.Paths.{paths_of_shape}
use Rattle.overlay_geom.specs.Plane.{Point, in_plane}
use Rattle.overlay_geom.specs.Points.{plain_points, AllInRange}
use Rattle.overlay_geom.specs.Resolved.{IsResolved}
use Rattle.overlay_relate.specs.Locations.{IsLocatedIn, IsLocatedAmong}
use Rattle.overlay_relate.specs.declared.location.PointLocation.{PointLocation}
use Rattle.overlay_relate.proofs.Answered.{answers_weaker}
use Rattle.overlay_relate.proofs.Located.{among_one}
use Rattle.overlay_located.proofs.resolved_contours.ResolvedContoursIntPointContainment.locate_points.Goals as goal

pub locate_in_contours-requires-clause-contours : goal.locate_in_contours-requires-clause-contours
locate_in_contours-requires-clause-contours g c =
    All-head (All (AllInRange g.I.IntNumber.limit)) (paths_of_shape g.I.IntNumber.whole c.args.self.now.contours.now) []
    c.requires.self_in_range

pub locate_in_contours-requires-clause-resolved : goal.locate_in_contours-requires-clause-resolved
locate_in_contours-requires-clause-resolved g c =
    All-head (All IsResolved) (paths_of_shape g.I.IntNumber.whole c.args.self.now.contours.now) [] c.requires.resolved

pub returns-clause-located : goal.returns-clause-located
returns-clause-located g c =
    let whole = g.I.IntNumber.whole in
    let shape = paths_of_shape whole c.args.self.now.contours.now in
    answers_weaker (λ (q : Point) (l : PointLocation). IsLocatedIn shape (in_plane q) l)
    (λ (q : Point) (l : PointLocation). IsLocatedAmong (shape ∷ []) (in_plane q) l)
    (λ q l at. among_one shape (in_plane q) l at) (plain_points whole c.args.points.now)
    c.in_ok-locations.locations.items c.in_ok-locations.ensures
