-- The view shows the edges that the builder holds, and ends as any query.
use Rattle.std.proofs.Common.{◌≡◌, IfSome, true, [], refl, sym, ap, subst, ◌∙◌}
use Rattle.overlay_plane.specs.Carried.{edges_in}
use Rattle.overlay_graph.specs.Graphs.{carried_vector, graph_edges}
use Rattle.overlay_graph.specs.Arranged.{IsArranged}
use Rattle.overlay_string.specs.StringBuilder.{held_by}
use Rattle.overlay_string.specs.StringViews.{IsStringView}
use Rattle.overlay_builder.proofs.BuilderCalls.{view_ended}
use Rattle.overlay_builder.proofs.ReadEdges.{some_read, none_read}
use Rattle.overlay_string.proofs.StringViews.{is_view}
use Rattle.overlay_string.proofs.string_overlay.StringOverlay.build_graph_view_with_solver.Goals.{in_default-via-in-Some+else-has_edges}
use Rattle.overlay_string.proofs.string_overlay.StringOverlay.build_graph_view_with_solver.Goals.{in_default-via-in_default}
use Rattle.overlay_string.proofs.string_overlay.StringOverlay.build_graph_view_with_solver.Goals as goal

pub returns-in-Some : goal.returns-in-Some
returns-in-Some g c =
    let limit = g.I.IntNumber.limit in
    let new = c.arranged_graph.new.self in
    let made = c.in_ok-arranged.ensures in
    let seen = c.in_ok-arranged.arranged in
    let view = is_view limit c.args.solver c.args.self.now new seen made.query made.edges c.args.fill_rule
    (some_read (carried_vector g.I.IntNumber.whole _) c.edges.result.now seen.edges
    (c.edges.ensures.carried ∙ ap (λ k. k.edges) c.graph.ensures.graph) (sym c.is_empty-has_edges.ensures
    ∙ c.if-has_edges.true))
    made.rule in
    let seen_is = subst (λ o. IfSome o (λ v. graph_edges v ≡ new.edges)) c.in-Some.is made.edges in (
      (
        refl,
        (λ _. tt),
        (
          view_ended held_by limit c.args.solver (held_by c.args.self.now) new seen made.query c.self.view_is seen_is,
          subst (λ b. b ≡ record c.args.self.now { edges = b.edges; failed = b.failed }) (sym c.self.view_is)
              made.kept,
        ),
      ),
      record {
        arranged = subst (λ o. IfSome o (λ v. IsArranged c.args.solver c.args.self.now.edges (graph_edges v)))
            c.in-Some.is view.arranged;
        view = subst (λ o. IfSome o (IsStringView c.args.solver c.args.fill_rule c.args.self.now.edges))
            c.in-Some.is view;
        after = tt;
      },
    )

pub returns-in_default : goal.returns-in_default
returns-in_default g c =
    let limit = g.I.IntNumber.limit in
    let new = c.arranged_graph.new.self in
    let made = c.in_ok-arranged.ensures in
    let seen = c.in_ok-arranged.arranged in
    let is_none : c.is_empty-has_edges.result ≡ true → edges_in seen.edges ≡ [] = λ is.
    none_read (carried_vector g.I.IntNumber.whole _) c.edges.result.now seen.edges
    (c.edges.ensures.carried ∙ ap (λ k. k.edges) c.graph.ensures.graph) (sym c.is_empty-has_edges.ensures ∙ is) in
    let none : new.edges ≡ [] = sym made.edges ∙ is_none (elim c.in_default.branch [
      | in_default-via-in-Some+else-has_edges w ↦ w.if-has_edges.false
      | in_default-via-in_default w ↦ absurd (w.in_default.not-Some seen refl)
    ]) in (
      (
        refl,
        (λ _. tt),
        (
          view_ended held_by limit c.args.solver (held_by c.args.self.now) new seen made.query c.self.view_is
              (sym none),
          subst (λ b. b ≡ record c.args.self.now { edges = b.edges; failed = b.failed }) (sym c.self.view_is)
              made.kept,
        ),
      ),
      record {
        arranged = subst (IsArranged c.args.solver c.args.self.now.edges) none made.query.arranged;
        view = tt;
        after = tt;
      },
    )
