-- A step along its edge is added as it is given, and leaves the store.
use Rattle.std.proofs.Common.{refl, sym, ◌∙◌}
use Rattle.std.proofs.lemmas.Result.{on_ok_weaker}
use Rattle.std.specs.declared.cmp.Ordering.TheVariants.{Less, Equal, Greater}
use Rattle.overlay_geom.specs.Points.{plain_point}
use Rattle.overlay_builder.proofs.SingleSteps.{adds_forward, stays, is_written}
use Rattle.overlay_builder.proofs.single_step.push_step.Goals as goal

pub returns-in-Less-clause-ok : goal.returns-in-Less-clause-ok
returns-in-Less-clause-ok g c =
    let at = plain_point g.I.IntNumber.whole in
    on_ok_weaker c.push.result
    (adds_forward g.C.EdgeCount.counts g.C.EdgeCount.reverses c.args.given (at c.args.from) (at c.args.to)
    (sym c.compare_points.ensures ∙ c.in-Less.is) c.args.content.now c.push.new.self)
    c.push.ensures.ok

pub returns-in-Equal-clause-store : goal.returns-in-Equal-clause-store
returns-in-Equal-clause-store g c =
    let at = plain_point g.I.IntNumber.whole in
    stays g.C.EdgeCount.writes (at c.args.from) (at c.args.to) Equal (sym c.compare_points.ensures ∙ c.in-Equal.is)
    c.args.store.now refl

pub returns-in-Less-clause-store : goal.returns-in-Less-clause-store
returns-in-Less-clause-store g c =
    let at = plain_point g.I.IntNumber.whole in
    on_ok_weaker c.push.result
    (λ _. stays g.C.EdgeCount.writes (at c.args.from) (at c.args.to) Less (sym c.compare_points.ensures ∙ c.in-Less.is)
    c.args.store.now refl)
    c.push.ensures.ok

pub returns-in-Greater-clause-store : goal.returns-in-Greater-clause-store
returns-in-Greater-clause-store g c =
    let at = plain_point g.I.IntNumber.whole in
    on_ok_weaker c.push_reversed.result
    (is_written g.C.EdgeCount.writes (at c.args.from) (at c.args.to) Greater
    (sym c.compare_points.ensures ∙ c.in-Greater.is) c.args.store.now refl c.push_reversed.new.store)
    c.push_reversed.ensures.writes
