-- The core's answer is that of adding the edge to the content, which contracts see as the core's edges.
use Rattle.std.proofs.Common.{OnOk, IsErrOf, rules, subst}
use Rattle.overlay_geom.specs.declared.error.OverlayError.TheVariants.{TooManyEdges}
use Rattle.overlay_geom.specs.Points.{plain_point}
use Rattle.overlay_builder.specs.AddedSteps.{AddsStep, StepWeighsTooMuch}
use Rattle.overlay_builder.proofs.builder_core.BuilderCore.add_step.Goals as goal

pub returns-clause-added : goal.returns-clause-added
returns-clause-added g c =
    let at = plain_point g.I.IntNumber.whole in
    let e = c.push_step.ensures in
    record {
      ok = subst (λ b. OnOk c.push_step.result (AddsStep g.C.EdgeCount.counts g.C.EdgeCount.reverses c.args.given
          (at c.args.from) (at c.args.to) b.edges c.push_step.new.content)) c.self.view_is e.ok;
      light = (e.limits c.self.invariant).light;
      kept = search rules;
      err = search rules;
      failed = search rules;
      too_many = subst (λ b. IsErrOf c.push_step.result TooManyEdges → StepWeighsTooMuch g.C.EdgeCount.counts
          c.args.given (at c.args.from) (at c.args.to) b.edges) c.self.view_is e.too_many;
      no_query = search rules;
    }
