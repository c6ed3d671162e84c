-- A location that was found is so.
use Rattle.std.proofs.Common.{subst}
use Rattle.std.specs.Prelude.{IfSome}
use Rattle.overlay_geom.specs.Paths.{paths_of_shape}
use Rattle.overlay_geom.specs.Plane.{in_plane}
use Rattle.overlay_geom.specs.Points.{plain_point}
use Rattle.overlay_relate.specs.Locations.{IsLocatedIn}
use Rattle.overlay_located.proofs.contours.location_of.Goals as goal

pub returns-in-Some : goal.returns-in-Some
returns-in-Some g c =
    let whole = g.I.IntNumber.whole in
    let p = in_plane (plain_point whole c.args.p) in
    subst (λ o. IfSome o (IsLocatedIn (paths_of_shape whole c.args.contours.now) p))
    c.in-Some.is c.requires.found
