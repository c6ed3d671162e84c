-- At first nothing is summed; each point adds its cross product with the next.
use Rattle.std.proofs.Common.{◌≡◌, ◌<◌, ◌+◌, ◌-◌, length, drop, get_or, sym, ap, ap₂, ◌∙◌, arith, rules}
use Rattle.std.specs.Prelude.{◌+ℤ◌}
use Rattle.std.specs.Int.{int_wrap}
use Rattle.std.proofs.lemmas.List.{drop_all}
use Rattle.overlay_geom.specs.Plane.{points_of}
use Rattle.overlay_geom.specs.Points.{plain_point, cross_of}
use Rattle.overlay_plane.proofs.Areas.{next_in, rest_sum, next_in_more, wrapped_rest_more, wrapped_nothing}
use Rattle.overlay_walk.specs.Steps.{plain_steps}
use Rattle.overlay_walk.proofs.PointsRead.{points_counted, point_read, point_in_range}
use Rattle.overlay_walk.proofs.area.double_area.Goals as goal

pub loop-i-init : goal.loop-i-init
loop-i-init g c =
    let whole = g.I.IntNumber.whole in
    let w = g.I.Wide.WideIntNumber.width in
    let ws = c.args.walk.now in
    let ps = points_of (plain_steps whole ws) in
    let some : 0 < length ws = search rules in
    let counted = points_counted whole ws in
    let first = plain_point whole (get_or ws 0 c.index-walk-0.result).from in
    let none = drop_all (length ws) ps (omega (arith, counted)) in (
      omega arith,
      point_in_range whole ws 0 c.index-walk-0.result some g.I.IntNumber.limit c.requires,
      ap (next_in first) none,
      c.zero-sum.ensures ∙ sym (wrapped_nothing w) ∙ ap (λ r. int_wrap w (rest_sum first r)) (sym none),
    )

pub cross-requires-clause-p : goal.cross-requires-clause-p
cross-requires-clause-p g c =
    let i = c.loop-i.i in
    let most = c.loop-i.invariant.0 in
    let more = c.loop-i-test.true in
    point_in_range g.I.IntNumber.whole c.args.walk.now (i - 1) c.index-walk-i.result (omega (arith, most, more))
    g.I.IntNumber.limit c.requires

pub loop-i-preserved : goal.loop-i-preserved
loop-i-preserved g c =
    let whole = g.I.IntNumber.whole in
    let w = g.I.Wide.WideIntNumber.width in
    let ws = c.args.walk.now in
    let ps = points_of (plain_steps whole ws) in
    let i = c.loop-i.i in
    let k = i - 1 in
    let most = c.loop-i.invariant.0 in
    let more = c.loop-i-test.true in
    let counted = points_counted whole ws in
    let inside : k < length ws = omega (arith, most, more) in
    let in_points : k < length ps = omega (arith, inside, counted) in
    let first = plain_point whole (get_or ws 0 c.index-walk-0.result).from in
    let v = plain_point whole (get_or ws k c.index-walk-i.result).from in
    let is : get_or ps k v ≡ v = point_read whole ws k c.index-walk-i.result inside v in
    let after : i ≡ k + 1 = omega (arith, more) in (
      omega (arith, most),
      point_in_range whole ws k c.index-walk-i.result inside g.I.IntNumber.limit c.requires,
      next_in_more first ps k v in_points is,
      c.wrapping_add-sum.ensures
          ∙ ap₂ (λ a b. int_wrap w (a +ℤ b)) (c.cross.ensures ∙ ap (cross_of v) (sym c.loop-i.invariant.2))
          c.loop-i.invariant.3
          ∙ ap (λ n. int_wrap w (cross_of v (next_in first (drop n ps)) +ℤ int_wrap w (rest_sum first (drop n ps))))
          after
          ∙ wrapped_rest_more w first ps k v in_points is,
    )
