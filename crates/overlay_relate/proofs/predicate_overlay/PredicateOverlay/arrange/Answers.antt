-- Where something is kept the edges are an arrangement.
use Rattle.std.proofs.Common.{sym, subst, ◌∙◌}
use Rattle.std.specs.Prelude.{Ok}
use Rattle.overlay_builder.specs.Held.{AnswersQuery, plain_held}
use Rattle.overlay_relate.specs.PredicateBuilder.{held_by}
use Rattle.overlay_relate.proofs.KeptFindings.{answers_as_it_is}
use Rattle.overlay_relate.proofs.predicate_overlay.PredicateOverlay.arrange.Goals as goal

pub returns-then-is_some-clause-query : goal.returns-then-is_some-clause-query
returns-then-is_some-clause-query g c =
    let limit = g.I.IntNumber.limit in
    subst (λ b. AnswersQuery {V = Unit {0}} limit b.solver (held_by b) (held_by b) (Ok tt)) c.self.view_is
    (answers_as_it_is limit c.self.inside.solver (plain_held c.self.inside.core) c.self.inside.kept
    (sym c.is_some.ensures ∙ c.if-is_some.true) c.self.invariant.right)
