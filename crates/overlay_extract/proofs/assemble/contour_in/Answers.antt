-- The points of long steps are in range, and are kept or thinned.
use Rattle.std.proofs.Common.{◌≡◌, sym, ap, ◌∙◌, subst}
use Rattle.std.proofs.lemmas.Result.{IfOk-weaker}
use Rattle.overlay_geom.specs.Plane.{points_of}
use Rattle.overlay_geom.specs.Points.{plain_points, AllInRange}
use Rattle.overlay_geom.specs.Thinned.{IsThinned, IsKeptOrThinned}
use Rattle.overlay_walk.specs.Steps.{plain_steps}
use Rattle.overlay_walk.proofs.SelectedLong.{points_in_range}
use Rattle.overlay_extract.proofs.assemble.contour_in.Goals as goal

pub thinned-requires : goal.thinned-requires
thinned-requires g c =
    let whole = g.I.IntNumber.whole in
    let same = ap (plain_points whole) c.deref.ensures.value ∙ c.in_ok-write_points.ensures.ok in
    subst (AllInRange g.I.IntNumber.limit) (sym same)
    (points_in_range g.I.IntNumber.limit (plain_steps whole c.args.walk.now) c.requires)

pub returns-then-keeps_points : goal.returns-then-keeps_points
returns-then-keeps_points g c = record {
  ok = let whole = g.I.IntNumber.whole in
      let given = points_of (plain_steps whole c.args.walk.now) in
      IfOk-weaker c.points_of.result (λ v. plain_points whole v.items ≡ given) _
      (λ v same. subst (λ k. IsKeptOrThinned k given (plain_points whole v.items)) (sym c.if-keeps_points.true) same)
      c.points_of.ensures.ok;
}

pub returns : goal.returns
returns g c = record {
  ok = let whole = g.I.IntNumber.whole in
      let given = points_of (plain_steps whole c.args.walk.now) in
      let same = ap (plain_points whole) c.deref.ensures.value ∙ c.in_ok-write_points.ensures.ok in
      IfOk-weaker c.thinned.result (λ v. IsThinned (plain_points whole c.deref.result.now)
      (plain_points whole v.items)) _
      (λ v thin. subst (λ k. IsKeptOrThinned k given (plain_points whole v.items)) (sym c.if-keeps_points.false)
      (subst (λ ps. IsThinned ps (plain_points whole v.items)) same thin))
      c.thinned.ensures.ok;
}
