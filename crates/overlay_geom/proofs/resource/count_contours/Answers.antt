-- One more shape adds its contours, as far as they can be counted.
use Rattle.std.proofs.Common.{◌-◌, ◌^◌, sym, ◌∙◌}
use Rattle.std.proofs.lemmas.List.{length-map}
use Rattle.overlay_geom.specs.Paths.{paths_of_shape}
use Rattle.overlay_geom.specs.Points.{plain_points}
use Rattle.overlay_geom.proofs.JoinedLists.{length-cut_more}
use Rattle.overlay_geom.proofs.resource.count_contours.Goals as goal

pub loop-shape-preserved : goal.loop-shape-preserved
loop-shape-preserved g c =
    let whole = g.I.IntNumber.whole in
    let shape = c.shape-item.result in
    length-cut_more (λ s. paths_of_shape whole s.items) c.args.shapes.now c.loop-shape.shape-index shape
    c.loop-shape-test.true c.shape-item.is
    (2 ^ 64 - 1) c.loop-shape.count c.len.result c.saturating_add-count.result
    c.loop-shape.invariant (c.len.ensures ∙ shape.ok.0 ∙ sym (length-map shape.items (λ p. plain_points whole p.items)))
    c.saturating_add-count.ensures
