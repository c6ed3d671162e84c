-- It is the first of one answer.
use Rattle.std.proofs.Common.{[], sym, subst, arith}
use Rattle.std.proofs.lemmas.List.Elements.{All-nil, All-cons}
use Rattle.overlay_geom.specs.Paths.{paths_of_shape}
use Rattle.overlay_geom.specs.Plane.{in_plane}
use Rattle.overlay_geom.specs.Points.{plain_point, InRange}
use Rattle.overlay_relate.specs.Locations.{IsLocatedIn}
use Rattle.overlay_located.proofs.contours.locate_alone.Goals as goal

pub locate_in_shape-requires-clause-points : goal.locate_in_shape-requires-clause-points
locate_in_shape-requires-clause-points g c =
    All-cons (InRange g.I.IntNumber.limit) _ [] c.requires.point (All-nil (InRange g.I.IntNumber.limit))

pub index-requires : goal.index-requires
index-requires g c = let counted = c.in_ok-located.ensures.located.counted in omega (arith, counted)

pub returns : goal.returns
returns g c =
    let p = plain_point g.I.IntNumber.whole c.args.p in
    subst (IsLocatedIn (paths_of_shape g.I.IntNumber.whole c.args.contours.now) (in_plane p)) (sym c.index.ensures)
    (c.in_ok-located.ensures.located.each 0 p c.index.result.now (omega arith))
