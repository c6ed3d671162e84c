-- The content is the core's edges as contracts see them.
use Rattle.std.proofs.Common.{◌≡◌, false, [], rules, subst, ap, ◌∙◌}
use Rattle.std.specs.Prelude.{◌↔◌, IfOk}
use Rattle.overlay_plane.specs.Arrangements.{IsReachedBy}
use Rattle.overlay_plane.specs.Carried.{edges_in}
use Rattle.overlay_parts.proofs.ReachedStores.{never_written}
use Rattle.overlay_builder.specs.Held.{AnswersQuery, plain_held}
use Rattle.overlay_builder.proofs.Queries.{answers_arranged}
use Rattle.overlay_builder.proofs.builder_core.BuilderCore.arrange.Goals as goal

pub returns-clause-cut : goal.returns-clause-cut
returns-clause-cut g c =
    subst (λ h. IfOk c.arrange-arranged.result
    (λ is_cut. (is_cut ≡ false) ↔ IsReachedBy c.args.solver [] (edges_in h.edges)
    (edges_in c.arrange-arranged.new.self)))
    c.self.view_is c.arrange-arranged.ensures.cut

pub returns-clause-query : goal.returns-clause-query
returns-clause-query g c =
    let limit = g.I.IntNumber.limit in
    let r = c.arrange-arranged.result in
    let ready : c.args.self.now.failed ≡ false = search rules in
    let new = plain_held (record { edges = c.arrange-arranged.new.self; failed = c.is_err-self-inside.result }) in
    subst (λ h. AnswersQuery limit c.args.solver (plain_held h) new r) c.self.view_is
    (answers_arranged limit c.args.solver
    (plain_held (record { edges = c.self.inside.content; failed = c.self.inside.is_failed }))
    (ap (λ h. h.failed) c.self.view_is ∙ ready) c.self.invariant new r c.arrange-arranged.ensures.arranged
    c.arrange-arranged.ensures.content c.arrange-arranged.ensures.err c.is_err-self-inside.ensures.value)

pub returns-in_err-check_usable-clause-store : goal.returns-in_err-check_usable-clause-store
returns-in_err-check_usable-clause-store g c = never_written g.C.EdgeCount.writes c.args.store.now
