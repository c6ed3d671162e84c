-- The edges of the graph, and those that are tested, are the content as contracts see it.
use Rattle.std.proofs.Common.{◌≡◌, IfOk, ap, ◌∙◌, subst}
use Rattle.overlay_order.specs.Content.{plain_edges, carried_edges}
use Rattle.overlay_order.proofs.CarriedEdges.{plain_edges-seen}
use Rattle.overlay_graph.specs.FillTests.{some_fill_passes, IsFoundUnless}
use Rattle.overlay_arrange.proofs.content.Content.graph_of_balanced_unless.Goals as goal

pub of_balanced_unless-requires-clause-ascending : goal.of_balanced_unless-requires-clause-ascending
of_balanced_unless-requires-clause-ascending g c =
    rw (
      c.deref.ensures.value,
      plain_edges-seen g.I.IntNumber.whole g.C.EdgeCount.counts c.self.inside.edges.items
          c.args.self.now c.self.view_is,
    )
    c.requires.ascending

pub of_balanced_unless-requires-clause-settled : goal.of_balanced_unless-requires-clause-settled
of_balanced_unless-requires-clause-settled g c =
    rw (
      c.deref.ensures.value,
      plain_edges-seen g.I.IntNumber.whole g.C.EdgeCount.counts c.self.inside.edges.items
          c.args.self.now c.self.view_is,
    )
    c.requires.settled

pub of_balanced_unless-requires-clause-balanced : goal.of_balanced_unless-requires-clause-balanced
of_balanced_unless-requires-clause-balanced g c =
    rw (
      c.deref.ensures.value,
      plain_edges-seen g.I.IntNumber.whole g.C.EdgeCount.counts c.self.inside.edges.items
          c.args.self.now c.self.view_is,
    )
    c.requires.balanced

pub returns : goal.returns
returns g c = record {
  ok = let whole = g.I.IntNumber.whole in
      let counts = g.C.EdgeCount.counts in
      let held = c.deref.result.now in
      let rule = c.args.fill_rule in
      let seen : carried_edges whole counts held ≡ c.args.self.now =
      ap (carried_edges whole counts) c.deref.ensures.value ∙ c.self.view_is in
      subst (λ es. IfOk c.of_balanced_unless.result
      (IsFoundUnless (some_fill_passes (g.T.FillTest.passing c.args.test) rule es)
      (λ h. h ≡ record { fill_rule = rule; edges = c.args.self.now })))
      (plain_edges-seen whole counts held c.args.self.now seen)
      (subst (λ cs. IfOk c.of_balanced_unless.result
      (IsFoundUnless (some_fill_passes (g.T.FillTest.passing c.args.test) rule (plain_edges whole counts held))
      (λ h. h ≡ record { fill_rule = rule; edges = cs }))) seen c.of_balanced_unless.ensures.ok);
}
