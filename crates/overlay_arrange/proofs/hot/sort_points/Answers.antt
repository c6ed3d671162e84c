-- The points are put in their order, and repeated points are dropped.
use Rattle.std.proofs.Common.{◌≡◌, Bool, sym, subst, ◌∙◌, rules}
use Rattle.std.specs.List.{dedup}
use Rattle.std.specs.List.Sorted.{IsSortedBy}
use Rattle.std.proofs.lemmas.Fn.{dedup_same}
use Rattle.overlay_geom.specs.Plane.{point_eq}
use Rattle.overlay_geom.specs.Points.{plain_point, plain_points}
use Rattle.overlay_geom.specs.declared.point.IntPoint.{IntPoint}
use Rattle.overlay_geom.proofs.Orders.{point_eq-is_tie}
use Rattle.overlay_arrange.specs.HotPoints.{ArePointsAscending, HaveSameMembers}
use Rattle.overlay_arrange.proofs.SortedPoints.{ascending-deduped, compared, do_tie, members-deduped}
use Rattle.overlay_arrange.proofs.hot.sort_points.Goals as goal

pub returns-clause-members : goal.returns-clause-members
returns-clause-members g c =
    let whole = g.I.IntNumber.whole in
    let sorted = c.put_in_order.new.points.items in
    let left : c.dedup_by.new.self.items ≡ dedup (do_tie whole) sorted =
    dedup_same _ (do_tie whole) _ (λ v w r f v' w' k.
    let answer : r ≡ point_eq (plain_point whole v) (plain_point whole w) = search rules in
    (answer ∙ point_eq-is_tie (plain_point whole v) (plain_point whole w), search rules, search rules, search rules))
    sorted _ c.dedup_by.ensures.filtered in
    subst (λ vs. HaveSameMembers (plain_points whole c.args.points.now.items) (plain_points whole vs)) (sym left)
    (members-deduped whole g.met.I.IntNumber.same c.args.points.now.items sorted c.put_in_order.ensures.permutation)

pub returns-clause-ascending : goal.returns-clause-ascending
returns-clause-ascending g c =
    let whole = g.I.IntNumber.whole in
    let sorted = c.put_in_order.new.points.items in
    let left : c.dedup_by.new.self.items ≡ dedup (do_tie whole) sorted =
    dedup_same _ (do_tie whole) _ (λ v w r f v' w' k.
    let answer : r ≡ point_eq (plain_point whole v) (plain_point whole w) = search rules in
    (answer ∙ point_eq-is_tie (plain_point whole v) (plain_point whole w), search rules, search rules, search rules))
    sorted _ c.dedup_by.ensures.filtered in
    subst (λ vs. ArePointsAscending (plain_points whole vs)) (sym left)
    (ascending-deduped whole sorted (subst (λ (lt : IntPoint _ → IntPoint _ → Bool). IsSortedBy lt sorted)
    (compared whole) c.in_ok-put_in_order.ensures.order))
