-- One more edge adds its count where it is below the sector, edges of a block that is passed add none, and no sum gets
-- further from 0 than the weight.
use Rattle.std.proofs.Common.{◌≡◌, ◌<◌, ◌≤◌, length, map, refl, ap, ◌∙◌, rules}
use Rattle.std.proofs.lemmas.List.{length-map, take_all}
use Rattle.overlay_geom.specs.Edges.{ends_of, subj_of}
use Rattle.overlay_geom.specs.Plane.{in_plane}
use Rattle.overlay_geom.specs.Points.{plain_point}
use Rattle.overlay_order.specs.Content.{plain_edge, plain_edges, IsHeld}
use Rattle.overlay_relate.proofs.Forms.{all_at}
use Rattle.overlay_sectors.specs.Rays.{plain_ray}
use Rattle.overlay_sectors.specs.Sectors.{is_below_near, is_low, winding_near}
use Rattle.overlay_sectors.proofs.PlacedForms.{placed_form}
use Rattle.overlay_sectors.proofs.SkippedNear.{near_next, near_passed}
use Rattle.overlay_sectors.proofs.SummedNear.{near_first}
use Rattle.overlay_sectors.proofs.near.winding_near.Goals as goal

pub loop-at-preserved-then-at-next : goal.loop-at-preserved-then-at-next
loop-at-preserved-then-at-next g c =
    let edges = c.args.shape.now.edges.now in
    let whole = g.I.IntNumber.whole in
    let es = plain_edges whole g.C.EdgeCount.counts (map g.E.EdgeForm.meant edges) in
    near_passed c.args.flank (plain_point whole c.args.p) (is_low c.args.flank (plain_ray whole c.args.ray)) es
    c.loop-at.at c.passed_from-next.result c.loop-at.counted.sum c.if-at-next.true c.loop-at.invariant
    (c.passed_from-next.ensures es c.requires.blocked)

pub counted_with-counted-requires-clause-sum : goal.counted_with-counted-requires-clause-sum
counted_with-counted-requires-clause-sum g c =
    let edges = c.args.shape.now.edges.now in
    let whole = g.I.IntNumber.whole in
    near_first c.args.flank (in_plane (plain_point whole c.args.p)) (is_low c.args.flank (plain_ray whole c.args.ray))
    (plain_edges whole g.C.EdgeCount.counts (map g.E.EdgeForm.meant edges)) c.loop-at.at 2147483648
    c.loop-at.counted.sum c.requires.content.light c.loop-at.invariant

pub counted_with-counted-requires-clause-edge : goal.counted_with-counted-requires-clause-edge
counted_with-counted-requires-clause-edge g c =
    let edges = c.args.shape.now.edges.now in
    all_at (IsHeld g.I.IntNumber.limit) (plain_edge g.I.IntNumber.whole g.C.EdgeCount.counts) g.E.EdgeForm.meant
    edges c.loop-at.at c.index-edges-at.result c.edge-edge.result (search rules) c.index-edges-at.is
    c.edge-edge.ensures c.requires.content.held

pub loop-at-preserved : goal.loop-at-preserved
loop-at-preserved g c =
    let edges = c.args.shape.now.edges.now in
    let whole = g.I.IntNumber.whole in
    let plain = plain_edge whole g.C.EdgeCount.counts in
    let es = plain_edges whole g.C.EdgeCount.counts (map g.E.EdgeForm.meant edges) in
    let low = is_low c.args.flank (plain_ray whole c.args.ray) in
    let e = plain c.edge-edge.result in
    let lt : c.loop-at.at < length edges = search rules in
    near_next c.args.flank (plain_point whole c.args.p) low es c.loop-at.at e
    (is_below_near c.args.flank (ends_of e) (in_plane (plain_point whole c.args.p)) (low (ends_of e)))
    c.loop-at.counted.sum c.counted_with-counted.result.sum
    (placed_form plain g.E.EdgeForm.meant edges c.loop-at.at c.index-edges-at.result c.edge-edge.result lt
    c.index-edges-at.is c.edge-edge.ensures) refl
    c.loop-at.invariant c.counted_with-counted.ensures

pub returns : goal.returns
returns g c =
    let edges = c.args.shape.now.edges.now in
    let whole = g.I.IntNumber.whole in
    let es = plain_edges whole g.C.EdgeCount.counts (map g.E.EdgeForm.meant edges) in
    let past : length edges ≤ c.loop-at.at = search rules in
    let told : c.loop-at.counted.sum ≡ winding_near c.args.flank subj_of es (in_plane (plain_point whole c.args.p))
    (is_low c.args.flank (plain_ray whole c.args.ray)) =
    c.loop-at.invariant
    ∙ ap (λ fs. winding_near c.args.flank subj_of fs (in_plane (plain_point whole c.args.p))
    (is_low c.args.flank (plain_ray whole c.args.ray)))
    (take_all c.loop-at.at es (rw (length-map, length-map) past)) in
    rw (← told) (search rules)
