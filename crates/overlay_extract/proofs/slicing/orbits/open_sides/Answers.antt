-- The steps in the list are the filled sides, which lead between different points in range.
use Rattle.std.proofs.Common.{All, sym, ◌∙◌, subst}
use Rattle.std.specs.List.Sorted.{IsPermutation}
use Rattle.std.proofs.lemmas.List.Sorted.{IsPermutation-map}
use Rattle.std.proofs.lemmas.Result.{IfOk-weaker}
use Rattle.overlay_graph.specs.Graphs.{graph_edges}
use Rattle.overlay_extract.proofs.SidesByBits.{sides_from_vectors, sides_are_long}
use Rattle.overlay_walk.specs.Steps.{plain_step, plain_steps, IsLong}
use Rattle.overlay_extract.proofs.slicing.orbits.open_sides.Goals as goal

pub new-requires : goal.new-requires
new-requires g c =
    let whole = g.I.IntNumber.whole in
    let graph = c.args.graph.now in
    let es = graph_edges graph in
    let are = rw c.new-steps.ensures.items at c.in_ok-push_sides.ensures.ok in
    subst (All (IsLong g.I.IntNumber.limit)) (sym (are
    ∙ sides_from_vectors graph.fill_rule es _ c.edges-edges.ensures.filled))
    (sides_are_long g.I.IntNumber.limit graph.fill_rule es c.edges-edges.ensures.arranged c.requires)

pub returns : goal.returns
returns g c = record {
  sides = let whole = g.I.IntNumber.whole in
      let graph = c.args.graph.now in
      let es = graph_edges graph in
      let are = rw c.new-steps.ensures.items at c.in_ok-push_sides.ensures.ok in
      IfOk-weaker c.new.result (λ o. IsPermutation c.push_sides.new.steps.items o) _
      (λ o moved. subst (λ ss. IsPermutation ss (plain_steps whole o)) (are
      ∙ sides_from_vectors graph.fill_rule es _ c.edges-edges.ensures.filled)
      (IsPermutation-map (plain_step whole) c.push_sides.new.steps.items o moved))
      c.new.ensures.all;
}
