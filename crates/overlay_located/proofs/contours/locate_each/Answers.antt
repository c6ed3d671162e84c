-- One point more is located.
use Rattle.std.proofs.Common.{◌+◌, [], ◌∷◌, ◌++◌, take, map, sym, subst}
use Rattle.std.specs.List.{All}
use Rattle.std.proofs.lemmas.Option.{IfSome_then}
use Rattle.overlay_geom.specs.Paths.{paths_of_shape}
use Rattle.overlay_geom.specs.Plane.{Point, in_plane}
use Rattle.overlay_geom.specs.Points.{plain_point, plain_points, InRange}
use Rattle.overlay_geom.specs.Resolved.{plain_edges}
use Rattle.overlay_geom.proofs.Mapped.{All-mapped_at, mapped_more, mapped_whole}
use Rattle.overlay_order.specs.Counts.{boolean_counts}
use Rattle.overlay_relate.specs.Answers.{AnswersWhere}
use Rattle.overlay_relate.specs.Locations.{IsLocatedIn}
use Rattle.overlay_relate.specs.declared.location.PointLocation.{PointLocation}
use Rattle.overlay_relate.proofs.Answered.{answers_none, answers_more}
use Rattle.overlay_located.specs.Once.{counted_once, turned_uprights}
use Rattle.overlay_located.specs.Queries.{plain_query, IsTold}
use Rattle.overlay_located.proofs.OnceShapes.{located_in_shape}
use Rattle.overlay_located.proofs.contours.locate_each.Goals as goal

pub loop-at-init : goal.loop-at-init
loop-at-init g c =
    let whole = g.I.IntNumber.whole in (
      c.in_ok-told.ensures (plain_edges whole c.args.edges.now),
      subst (AnswersWhere (IsLocatedIn (paths_of_shape whole c.args.contours.now)) [])
          (sym c.in_ok-located.ensures.items)
          (answers_none (λ (q : Point) (l : PointLocation). IsLocatedIn (paths_of_shape whole c.args.contours.now)
          (in_plane q) l)),
    )

pub location_of-requires-clause-point : goal.location_of-requires-clause-point
location_of-requires-clause-point g c =
    All-mapped_at (InRange g.I.IntNumber.limit) (plain_point g.I.IntNumber.whole) c.args.points.now c.loop-at.at
    c.index-points-at.result c.loop-at-test.true c.index-points-at.is c.requires.points

pub location_of-requires-clause-found : goal.location_of-requires-clause-found
location_of-requires-clause-found g c =
    let whole = g.I.IntNumber.whole in
    let es = plain_edges whole c.args.edges.now in
    let p = in_plane (plain_point whole c.index-points-at.result) in
    IfSome_then c.parity_location-found.result (c.parity_location-found.ensures es c.requires.long
    (subst (λ qs. All (λ q. IsTold (map counted_once es) (plain_query whole boolean_counts q)) qs)
    (sym c.deref.ensures.value) c.in_ok-told-2.ensures.all)
    (subst (λ qs. All (λ q. IsTold (map counted_once (turned_uprights es)) (plain_query whole boolean_counts q)) qs)
    (sym c.deref-in-loop-at.ensures.value) c.in_ok-told-2.ensures.uprights))
    (λ l at. located_in_shape (paths_of_shape whole c.args.contours.now) es c.requires.edges p l at)

pub loop-at-preserved : goal.loop-at-preserved
loop-at-preserved g c =
    let whole = g.I.IntNumber.whole in
    let points = c.args.points.now in
    let paths = paths_of_shape whole c.args.contours.now in
    let p = c.index-points-at.result in
    let seen = plain_points whole (take c.loop-at.at points) in (
      c.in_ok-told-2.ensures,
      subst (AnswersWhere (IsLocatedIn paths) (plain_points whole (take (c.loop-at.at + 1) points)))
          (sym c.in_ok-push.ensures.items)
          (subst (λ ps. AnswersWhere (IsLocatedIn paths) ps (c.loop-at.located.items ++ c.in_ok-location.location ∷ []))
          (sym (mapped_more (plain_point whole) points c.loop-at.at p c.loop-at-test.true c.index-points-at.is))
          (answers_more (λ (q : Point) (l : PointLocation). IsLocatedIn paths (in_plane q) l) seen (plain_point whole p)
          c.loop-at.located.items c.in_ok-location.location c.loop-at.invariant.1 c.in_ok-location.ensures)),
    )

pub returns : goal.returns
returns g c =
    let whole = g.I.IntNumber.whole in
    subst (λ ps. AnswersWhere (IsLocatedIn (paths_of_shape whole c.args.contours.now)) ps c.loop-at.located.items)
    (mapped_whole (plain_point whole) c.args.points.now c.loop-at.at c.loop-at-test.false) c.loop-at.invariant.1
