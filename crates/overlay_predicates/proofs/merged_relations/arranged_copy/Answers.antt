-- The copy has the edges of the content.
use Rattle.std.proofs.Common.{sym, subst, ◌∙◌}
use Rattle.overlay_geom.specs.declared.solver.Solver.TheVariants.{Snapping}
use Rattle.overlay_plane.specs.Carried.{edges_in}
use Rattle.overlay_order.specs.Content.{IsContent}
use Rattle.overlay_graph.specs.Arranged.{IsArranged}
use Rattle.overlay_predicates.proofs.merged_relations.arranged_copy.Goals as goal

pub content_of-requires : goal.content_of-requires
content_of-requires g c =
    subst (IsContent g.I.IntNumber.limit) (sym c.edges.ensures.plain) c.edges.ensures.content

pub returns : goal.returns
returns g c = record {
  ok = subst (λ es. IsArranged Snapping es (edges_in c.arrange.new.self))
      (c.in_ok-copy.ensures.copy ∙ c.edges.ensures.plain) c.in_ok-arrange.ensures.arranged;
}
