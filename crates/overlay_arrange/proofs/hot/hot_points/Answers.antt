-- The ends of the edges and the points of the meetings are the hot points, which the sort keeps.
use Rattle.std.proofs.Common.{◌≡◌, ◌++◌, List, map, ap, ◌∙◌, subst}
use Rattle.overlay_geom.specs.Plane.{Point}
use Rattle.overlay_geom.specs.Edges.{CountedEdge}
use Rattle.overlay_geom.specs.Points.{plain_points}
use Rattle.overlay_order.specs.Content.{plain_edges}
use Rattle.overlay_arrange.specs.HotPoints.{HaveSameMembers}
use Rattle.overlay_arrange.specs.Meetings.{plain_meetings, Meeting}
use Rattle.overlay_arrange.proofs.HotLists.{are_hot_points, ends_and_met}
use Rattle.overlay_arrange.proofs.SameMembers.{same_members-on}
use Rattle.overlay_arrange.proofs.hot.hot_points.Goals as goal

pub returns : goal.returns
returns g c = record {
  ok = let whole = g.I.IntNumber.whole in
      let es = plain_edges whole g.C.EdgeCount.counts c.args.edges.now in
      let ms = plain_meetings whole c.args.meetings.now in
      let points = plain_points whole c.push_points.new.points.items in
      let sorted = plain_points whole c.sort_points.new.points.items in
      let ends : plain_points whole c.push_ends.new.points.items
      ≡ map (λ (e : CountedEdge). e.a) es ++ map (λ (e : CountedEdge). e.b) es =
      c.in_ok-push_ends.ensures.ok
      ∙ ap (λ (vs : List Point). vs ++ map (λ (e : CountedEdge). e.b) es)
      (c.in_ok-push_starts.ensures.ok
      ∙ ap (λ vs. plain_points whole vs ++ map (λ (e : CountedEdge). e.a) es) c.in_ok-points.ensures.items) in
      let listed : HaveSameMembers (ends_and_met es ms c.requires) points =
      subst (λ (vs : List Point). HaveSameMembers (vs ++ map (λ (m : Meeting). m.point) ms) points) ends
      c.in_ok-push_points.ensures.ok in
      are_hot_points es ms c.requires sorted
      (same_members-on (ends_and_met es ms c.requires) points sorted listed c.in_ok-sort_points.ensures.members)
      c.in_ok-sort_points.ensures.ascending;
}
