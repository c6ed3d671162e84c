-- The point of one box more is taken.
use Rattle.std.proofs.Common.{◌≡◌, ◌+◌, ◌<◌, ◌∷◌, [], ◌++◌, List, length, get_or, sym, ap, ◌∙◌, take}
use Rattle.std.proofs.lemmas.List.{map-append}
use Rattle.overlay_geom.specs.Plane.{Point}
use Rattle.overlay_geom.specs.Points.{plain_point, plain_points}
use Rattle.overlay_geom.proofs.Mapped.{mapped_more, mapped_whole, read_mapped}
use Rattle.overlay_pairs.specs.Extents.{Extent, plain_extent, plain_extents}
use Rattle.overlay_pairs.specs.PointStrips.{points_of}
use Rattle.overlay_pairs.specs.declared.extents.Extent.{Extent as HeldExtent}
use Rattle.overlay_pairs.proofs.StripPoints.{origin}
use Rattle.overlay_pairs.proofs.strips.points_of.Goals as goal

pub loop-k-preserved : goal.loop-k-preserved
loop-k-preserved g c =
    let whole = g.I.IntNumber.whole in
    let vs = plain_points whole c.args.points.now in
    let boxes = c.args.boxes.now in
    let k = c.loop-k.k in
    let s = c.index-boxes-k.result in
    let more : points_of vs (plain_extents whole (take (k + 1) boxes))
    ≡ points_of vs (plain_extents whole (take k boxes)) ++ get_or vs s.first origin ∷ [] =
    ap (points_of vs) (mapped_more (plain_extent whole) boxes k s c.loop-k-test.true c.index-boxes-k.is)
    ∙ map-append (λ (t : Extent). get_or vs t.first origin) (plain_extents whole (take k boxes))
    (plain_extent whole s ∷ []) in
    let v = c.index-points-boxes.result in
    let inside : (get_or boxes k s).first < length c.args.points.now = c.requires k s c.loop-k-test.true in
    let first : (get_or boxes k s).first ≡ s.first = ap (λ (t : HeldExtent _). t.first) (sym c.index-boxes-k.is) in
    let read : get_or vs s.first origin ≡ plain_point whole v =
    ap (λ n. get_or vs n origin) (sym first)
    ∙ read_mapped (plain_point whole) c.args.points.now (get_or boxes k s).first v origin inside
    c.index-points-boxes.is in
    ap (plain_points whole) c.in_ok-push.ensures.items ∙ map-append (plain_point whole) c.loop-k.taken.items (v ∷ [])
    ∙ ap (λ (us : List Point). us ++ plain_point whole v ∷ []) c.loop-k.invariant
    ∙ sym (more ∙ ap (λ (u : Point). points_of vs (plain_extents whole (take k boxes)) ++ u ∷ []) read)

pub returns : goal.returns
returns g c = record {
  ok = let whole = g.I.IntNumber.whole in
      c.loop-k.invariant ∙ ap (points_of (plain_points whole c.args.points.now))
      (mapped_whole (plain_extent whole) c.args.boxes.now c.loop-k.k c.loop-k-test.false);
}
