-- One of the first edges passes, or both fail.
use Rattle.std.proofs.Common.{refl, sym, ◌∙◌}
use Rattle.std.proofs.lemmas.Bool.{false≢true}
use Rattle.std.proofs.lemmas.Result.{IfOk-weaker}
use Rattle.std.specs.Prelude.{◌↔◌, IsTrue}
use Rattle.overlay_geom.specs.Rules.{is_filled}
use Rattle.overlay_geom.specs.declared.options.ShapeType.TheVariants.{Subject}
use Rattle.overlay_order.specs.Content.{plain_edges}
use Rattle.overlay_given.specs.First.{PassesOn, SomeFirstPasses}
use Rattle.overlay_given.proofs.OneEdge.{firsts_tell}
use Rattle.overlay_given.proofs.first.some_first_passes.Goals as goal

pub returns-then-passes : goal.returns-then-passes
returns-then-passes g c = record {
  ok = (
    λ t. (Subject, c.first_of-subj.result, c.first_of-subj.ensures, c.in_ok-passes.ensures.ok.0 c.if-passes.true),
    λ some. refl,
  );
}

pub returns : goal.returns
returns g c =
    let es = plain_edges g.I.IntNumber.whole g.C.EdgeCount.counts c.args.edges.now in
    let filled = is_filled c.args.rule in
    let test = c.args.test in
    record {
      ok = IfOk-weaker c.edge_passes-2.result (λ b. IsTrue b ↔ PassesOn test filled es c.first_of-clip.result)
          (λ b. IsTrue b ↔ SomeFirstPasses test filled es)
          (firsts_tell test filled es c.first_of-subj.result c.first_of-clip.result c.first_of-subj.ensures
          c.first_of-clip.ensures
          (λ passes. false≢true (sym c.if-passes.false ∙ c.in_ok-passes.ensures.ok.1 passes)))
          c.edge_passes-2.ensures.ok;
    }
