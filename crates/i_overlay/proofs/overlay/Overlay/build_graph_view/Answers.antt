-- The view shows the edges that the builder holds, and ends as any query.
use Rattle.std.proofs.Common.{◌≡◌, IfSome, true, [], refl, sym, ap, subst, ◌∙◌}
use Rattle.overlay_plane.specs.Carried.{edges_in}
use Rattle.overlay_graph.specs.Graphs.{carried_vector}
use Rattle.overlay_graph.specs.Arranged.{IsArranged}
use Rattle.i_overlay.specs.Builder.{held_by}
use Rattle.i_overlay.specs.Views.{IsView, viewed_edges}
use Rattle.overlay_builder.proofs.BuilderCalls.{view_ended}
use Rattle.overlay_builder.proofs.ReadEdges.{some_read, none_read}
use Rattle.i_overlay.proofs.Views.{is_view}
use Rattle.i_overlay.proofs.overlay.Overlay.build_graph_view.Goals.{in_default-via-in-Some+else-has_edges}
use Rattle.i_overlay.proofs.overlay.Overlay.build_graph_view.Goals.{in_default-via-in_default}
use Rattle.i_overlay.proofs.overlay.Overlay.build_graph_view.Goals as goal

pub returns-in-Some : goal.returns-in-Some
returns-in-Some g c =
    let limit = g.I.IntNumber.limit in
    let new = c.arranged_graph.new.self in
    let made = c.in_ok-viewed.ensures in
    let seen = c.in_ok-viewed.viewed in
    let view = is_view limit c.args.self.now.solver c.args.self.now new seen made.answers.query made.edges
    c.args.fill_rule
    (some_read (carried_vector g.I.IntNumber.whole _) c.edges.result.now seen.graph.edges
    (c.edges.ensures.carried ∙ ap (λ k. k.edges) c.graph.ensures.graph) (sym c.is_empty-has_edges.ensures
    ∙ c.if-has_edges.true))
    made.rule made.options in
    let seen_is = subst (λ o. IfSome o (λ v. viewed_edges v ≡ new.edges)) c.in-Some.is made.edges in (
      (
        refl,
        (λ _. tt),
        (
          view_ended held_by limit c.args.self.now.solver (held_by c.args.self.now) new seen made.answers.query
              c.self.view_is
              seen_is,
          subst (λ b. b ≡ record c.args.self.now { edges = b.edges; failed = b.failed }) (sym c.self.view_is)
              made.answers.kept,
        ),
      ),
      record {
        arranged = subst (λ o. IfSome o (λ v. IsArranged c.args.self.now.solver c.args.self.now.edges (viewed_edges v)))
            c.in-Some.is
            view.arranged;
        view = subst (λ o. IfSome o (IsView c.args.self.now.solver c.args.fill_rule c.args.self.now.options
            c.args.self.now.edges))
            c.in-Some.is view;
        after = tt;
      },
    )

pub returns-in_default : goal.returns-in_default
returns-in_default g c =
    let limit = g.I.IntNumber.limit in
    let new = c.arranged_graph.new.self in
    let made = c.in_ok-viewed.ensures in
    let seen = c.in_ok-viewed.viewed in
    let is_none : c.is_empty-has_edges.result ≡ true → edges_in seen.graph.edges ≡ [] = λ is.
    none_read (carried_vector g.I.IntNumber.whole _) c.edges.result.now seen.graph.edges
    (c.edges.ensures.carried ∙ ap (λ k. k.edges) c.graph.ensures.graph) (sym c.is_empty-has_edges.ensures ∙ is) in
    let none : new.edges ≡ [] = sym made.edges ∙ is_none (elim c.in_default.branch [
      | in_default-via-in-Some+else-has_edges w ↦ w.if-has_edges.false
      | in_default-via-in_default w ↦ absurd (w.in_default.not-Some seen refl)
    ]) in (
      (
        refl,
        (λ _. tt),
        (
          view_ended held_by limit c.args.self.now.solver (held_by c.args.self.now) new seen made.answers.query
              c.self.view_is
              (sym none),
          subst (λ b. b ≡ record c.args.self.now { edges = b.edges; failed = b.failed }) (sym c.self.view_is)
              made.answers.kept,
        ),
      ),
      record {
        arranged = subst (IsArranged c.args.self.now.solver c.args.self.now.edges) none made.answers.query.arranged;
        view = tt;
        after = tt;
      },
    )
