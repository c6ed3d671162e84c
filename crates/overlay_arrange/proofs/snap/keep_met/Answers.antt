-- The test leaves the points whose pixels the edge meets inside.
use Rattle.std.proofs.Common.{◌≡◌, rules, of_calls, sym, subst}
use Rattle.std.proofs.lemmas.Fn.{filter_same}
use denote.Param.Always.{mut_by}
use Rattle.overlay_geom.specs.Points.{plain_point}
use Rattle.overlay_order.specs.Content.{plain_edge, IsHeld}
use Rattle.overlay_arrange.specs.HotPoints.{meets_inside}
use Rattle.overlay_arrange.proofs.KeptMet.{met_left}
use Rattle.overlay_arrange.proofs.snap.keep_met.Goals as goal

pub retain-requires : goal.retain-requires
retain-requires g c =
    mut_by _ (λ s. IsHeld g.I.IntNumber.limit (plain_edge g.I.IntNumber.whole g.C.EdgeCount.counts s.0.now))
    (λ s a i. search (rules, of_calls)) (λ s a r t i k. let same : t ≡ s = search rules in
    subst (λ f. IsHeld g.I.IntNumber.limit (plain_edge g.I.IntNumber.whole g.C.EdgeCount.counts f.0.now)) (sym same) i)
    _ c.requires

pub returns : goal.returns
returns g c =
    let whole = g.I.IntNumber.whole in
    let e = plain_edge whole g.C.EdgeCount.counts c.args.e.now in
    met_left e whole c.args.points.now.items c.retain.new.self.items
    (filter_same _ (λ v. meets_inside e (plain_point whole v)) _ (λ v b f' h. search rules) _ _
    c.retain.ensures.filtered)
