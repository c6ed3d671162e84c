-- The ends that are given are those of the edges held.
use Rattle.std.proofs.Common.{map, sym, ap, ◌∙◌}
use Rattle.std.proofs.lemmas.Simd.{map-map}
use Rattle.overlay_geom.specs.Points.{plain_points}
use Rattle.overlay_order.specs.Content.{carried_edge}
use Rattle.overlay_order.specs.Counts.{boolean_counts}
use Rattle.overlay_vector.specs.HeldEdges.{ends_held, ends_of_held}
use Rattle.overlay_vector.proofs.edge_overlay.EdgeOverlay.edges.Goals as goal

pub returns : goal.returns
returns g c =
    let whole = g.I.IntNumber.whole in
    let held = c.edges.result.now in
    ap (map (plain_points whole)) c.new.ensures
    ∙ map-map (plain_points whole) ends_held held
    ∙ sym (map-map ends_of_held (carried_edge whole (λ c. boolean_counts c.count)) held)
    ∙ ap (map ends_of_held) (c.edges.ensures.edges ∙ c.content.ensures.edges ∙ ap (λ b. b.edges) c.self.view_is)
