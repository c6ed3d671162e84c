-- The points of the run are asked; the others lie outside the contour, which leaves where they lie.
use Rattle.std.proofs.Common.{◌∷◌, [], length, subst}
use Rattle.overlay_geom.specs.Points.{plain_point, plain_points, InRange}
use Rattle.overlay_geom.proofs.Mapped.{mapped_range, All-mapped_range}
use Rattle.overlay_relate.specs.Answers.{AnswersWhere}
use Rattle.overlay_relate.specs.Joined.{joined_by, AreJoined}
use Rattle.overlay_relate.specs.Locations.{IsLocatedIn}
use Rattle.overlay_relate.specs.declared.joined.Parts.TheVariants.{Contours}
use Rattle.overlay_relate.proofs.JoinedParts.{contour_joined, contour_apart}
use Rattle.overlay_relate.proofs.in_shapes.join_contour.Goals as goal

pub returns-then-start-end-clause-joined : goal.returns-then-start-end-clause-joined
returns-then-start-end-clause-joined g c seen so_far =
    let whole = g.I.IntNumber.whole in
    contour_apart (plain_points whole c.args.contour.now) (plain_points whole c.args.points.now)
    c.run_over-start.result.0
    c.run_over-start.result.1 c.run_over-start.ensures seen c.args.located.now.items so_far c.if-start-end.true

pub locate_in_contour-requires-clause-points : goal.locate_in_contour-requires-clause-points
locate_in_contour-requires-clause-points g c =
    All-mapped_range (InRange g.I.IntNumber.limit) (plain_point g.I.IntNumber.whole) c.args.points.now
    c.run_over-start.result.0 c.run_over-start.result.1 c.requires.points

pub returns-clause-joined : goal.returns-clause-joined
returns-clause-joined g c seen so_far =
    let whole = g.I.IntNumber.whole in
    let points = c.args.points.now in
    let start = c.run_over-start.result.0 in
    let end = c.run_over-start.result.1 in
    let old = c.args.located.now.items in
    let new = c.join_from.new.locations.items in
    let here = c.in_ok-here.here.items in
    let part = plain_points whole c.args.contour.now in
    contour_joined part (plain_points whole points) start end c.run_over-start.ensures seen old so_far new here
    (subst (λ qs. AnswersWhere (IsLocatedIn (part ∷ [])) qs here) (mapped_range (plain_point whole) points start end)
    c.in_ok-here.ensures.located)
    (subst (λ ls. AreJoined (joined_by Contours) start (length ls) ls old new) c.deref.ensures.value
    c.join_from.ensures)
