-- Some edge has sides of both shapes where the bits of some edge do.
use Rattle.std.proofs.Common.{◌≡◌, ◌⊎◌, false, ⊎_elim, inl, inr, refl, sym, ◌∙◌}
use Rattle.std.proofs.lemmas.Bool.{false≢true}
use Rattle.std.proofs.lemmas.Result.{IfOk-weaker}
use Rattle.std.specs.Prelude.{◌↔◌, IsTrue}
use Rattle.overlay_graph.specs.Graphs.{graph_edges}
use Rattle.overlay_geom.specs.Rules.{is_filled}
use Rattle.overlay_plane.specs.EdgePredicates.{SomeEdge, HasSharedEnd, has_both}
use Rattle.overlay_given.specs.declared.sides.SideTest.TheVariants.{BothShapes}
use Rattle.overlay_contacts.proofs.EdgeSides.{told_by_vectors}
use Rattle.overlay_contacts.proofs.settled.do_meet.Goals as goal

pub returns-then-is_met : goal.returns-then-is_met
returns-then-is_met g c =
    let graph = c.args.graph.now in
    let told = told_by_vectors g.I.IntNumber.whole BothShapes graph.fill_rule (graph_edges graph) c.edges.result.now
    c.edges.ensures.filled c.some_edge_passes-is_met.result c.some_edge_passes-is_met.ensures in
    record { ok = (λ _. inl (told.0 c.if-is_met.true), λ _. refl) }

pub returns : goal.returns
returns g c =
    let graph = c.args.graph.now in
    let es = graph_edges graph in
    let filled = is_filled graph.fill_rule in
    let told = told_by_vectors g.I.IntNumber.whole BothShapes graph.fill_rule es c.edges.result.now
    c.edges.ensures.filled c.some_edge_passes-is_met.result c.some_edge_passes-is_met.ensures in
    record {
      ok = IfOk-weaker c.has_shared_end.result _
          (λ b. IsTrue b ↔ (SomeEdge (has_both filled es) es ⊎ HasSharedEnd filled es))
          (λ b law. (
            λ t. inr (law.0 t),
            λ found. ⊎_elim (λ (some : SomeEdge (has_both filled es) es).
                absurd (false≢true (sym c.if-is_met.false ∙ told.1 some))) law.1 found,
          ))
          c.has_shared_end.ensures.ok;
    }
