-- One edge more is counted.
use Rattle.std.proofs.Common.{◌++◌, ◌∷◌, [], map, sym, ap, ◌∙◌}
use Rattle.std.proofs.lemmas.List.{map-append}
use Rattle.overlay_geom.specs.Edges.{ends_of}
use Rattle.overlay_geom.specs.Resolved.{plain_edge as plain_ends}
use Rattle.overlay_geom.proofs.Mapped.{mapped_more, mapped_whole}
use Rattle.overlay_order.specs.Content.{plain_edge}
use Rattle.overlay_order.specs.Counts.{boolean_counts}
use Rattle.overlay_relate.specs.Resolved.{edges_once, ends_once}
use Rattle.overlay_relate.proofs.resolved.counted_once.Goals as goal

pub loop-e-preserved : goal.loop-e-preserved
loop-e-preserved g c =
    let whole = g.I.IntNumber.whole in
    let here = plain_ends whole c.e-item.result in
    ap (ends_once whole) c.in_ok-push.ensures.items
    ∙ ap (map ends_of) (map-append (plain_edge whole boolean_counts) c.loop-e.counted.items (_ ∷ []))
    ∙ map-append ends_of (edges_once whole c.loop-e.counted.items) (_ ∷ [])
    ∙ ap (λ es. es ++ here ∷ []) c.loop-e.invariant
    ∙ sym (mapped_more (plain_ends whole) c.args.edges.now c.loop-e.e-index c.e-item.result c.loop-e-test.true
    c.e-item.is)

pub returns : goal.returns
returns g c = record {
  ok = let whole = g.I.IntNumber.whole in
      c.loop-e.invariant ∙ mapped_whole (plain_ends whole) c.args.edges.now c.loop-e.e-index c.loop-e-test.false;
}
