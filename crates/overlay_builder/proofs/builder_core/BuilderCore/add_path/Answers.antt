-- The core's answer is that of adding the path to the content, which contracts see as the core's edges.
use Rattle.std.proofs.Common.{OnOk, IsErrOf, rules, subst}
use Rattle.overlay_geom.specs.declared.error.OverlayError.TheVariants.{TooManyEdges}
use Rattle.overlay_geom.specs.Points.{plain_points}
use Rattle.overlay_builder.specs.Paths.{passed_edge}
use Rattle.overlay_builder.specs.PathLists.{carried_weight, path_as, AddsOne, WouldWeighTooMuch}
use Rattle.overlay_builder.proofs.builder_core.BuilderCore.add_path.Goals as goal

pub returns-clause-added : goal.returns-clause-added
returns-clause-added g c =
    let edge = passed_edge g.C.EdgeCount.counts c.args.passing in
    let path = path_as c.args.kind edge (plain_points g.I.IntNumber.whole c.args.points.now) in
    let e = c.add_path.ensures in
    record {
      ok = subst (λ b. OnOk c.add_path.result (AddsOne path b.edges c.add_path.new.content)) c.self.view_is
          e.ok;
      light = (e.limits c.self.invariant).light;
      kept = search rules;
      err = search rules;
      failed = search rules;
      too_many = subst
          (λ b. IsErrOf c.add_path.result TooManyEdges → WouldWeighTooMuch carried_weight path b.edges)
          c.self.view_is e.too_many;
      no_query = search rules;
    }

pub returns-clause-left_out : goal.returns-clause-left_out
returns-clause-left_out g c = c.add_path.ensures.left_out
