-- The box of a further edge.
use Rattle.std.proofs.Common.{◌≡◌, List, ◌++◌, ◌∷◌, [], length, take, sym, ap, ap₂, ◌∙◌, arith}
use Rattle.std.proofs.lemmas.List.{length-map, length-take-le, map-append}
use Rattle.overlay_geom.proofs.Mapped.{mapped_more, mapped_whole}
use Rattle.overlay_order.specs.Content.{plain_edge, plain_edges}
use Rattle.overlay_pairs.specs.Extents.{Extent, extent_of, extents_of, plain_extent, plain_extents}
use Rattle.overlay_pairs.proofs.PlacedExtents.{placed_more}
use Rattle.overlay_pairs.proofs.strips.extents_of_edges.Goals as goal

pub loop-place-preserved : goal.loop-place-preserved
loop-place-preserved g c =
    let edge = plain_edge g.I.IntNumber.whole g.C.EdgeCount.counts in
    let edges = c.args.edges.now in
    let i = c.loop-place.place in
    let e = edge c.index-edges-place.result in
    let es = plain_edges g.I.IntNumber.whole g.C.EdgeCount.counts (take i edges) in
    let counted : i ≡ length es = let a = length-map (take i edges) edge in
    let b = length-take-le i edges (let t = c.loop-place-test.true in omega arith) in omega arith in
    ap (plain_extents g.I.IntNumber.whole) c.in_ok-push.ensures.items
    ∙ map-append (plain_extent g.I.IntNumber.whole) c.loop-place.extents.items (_ ∷ [])
    ∙ ap₂ (λ (ss : List Extent) (s : Extent). ss ++ s ∷ []) c.loop-place.invariant
    (c.extent_of.ensures ∙ ap (extent_of e) counted)
    ∙ sym (ap extents_of (mapped_more edge edges i c.index-edges-place.result c.loop-place-test.true
    c.index-edges-place.is) ∙ placed_more extent_of es e)

pub returns : goal.returns
returns g c = record {
  ok = c.loop-place.invariant ∙ ap extents_of (mapped_whole (plain_edge g.I.IntNumber.whole g.C.EdgeCount.counts)
      c.args.edges.now c.loop-place.place c.loop-place-test.false);
}
