-- The box of a further point.
use Rattle.std.proofs.Common.{◌≡◌, List, ◌++◌, ◌∷◌, [], length, take, sym, ap, ap₂, ◌∙◌, arith}
use Rattle.std.proofs.lemmas.List.{length-map, length-take-le, map-append}
use Rattle.overlay_geom.specs.Points.{plain_point, plain_points}
use Rattle.overlay_geom.proofs.Mapped.{mapped_more, mapped_whole}
use Rattle.overlay_pairs.specs.Extents.{Extent, extent_of_point, extents_of_points, plain_extent, plain_extents}
use Rattle.overlay_pairs.proofs.PlacedExtents.{placed_more}
use Rattle.overlay_pairs.proofs.strips.extents_of_points.Goals as goal

pub loop-place-preserved : goal.loop-place-preserved
loop-place-preserved g c =
    let point = plain_point g.I.IntNumber.whole in
    let points = c.args.points.now in
    let i = c.loop-place.place in
    let v = point c.index-points-place.result in
    let vs = plain_points g.I.IntNumber.whole (take i points) in
    let counted : i ≡ length vs = let a = length-map (take i points) point in
    let b = length-take-le i points (let t = c.loop-place-test.true in omega arith) in omega arith in
    ap (plain_extents g.I.IntNumber.whole) c.in_ok-push.ensures.items
    ∙ map-append (plain_extent g.I.IntNumber.whole) c.loop-place.extents.items (_ ∷ [])
    ∙ ap₂ (λ (ss : List Extent) (s : Extent). ss ++ s ∷ []) c.loop-place.invariant
    (c.extent_of_point.ensures ∙ ap (extent_of_point v) counted)
    ∙ sym (ap extents_of_points (mapped_more point points i c.index-points-place.result c.loop-place-test.true
    c.index-points-place.is) ∙ placed_more extent_of_point vs v)

pub returns : goal.returns
returns g c = record {
  ok = c.loop-place.invariant ∙ ap extents_of_points (mapped_whole (plain_point g.I.IntNumber.whole)
      c.args.points.now c.loop-place.place c.loop-place-test.false);
}
