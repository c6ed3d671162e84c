-- The point is on the last wall that starts no later, or on none.
use Rattle.std.proofs.Common.{rules, of_calls, ◌≡◌, ◌<◌, not, sym, ap, ◌∙◌, arith}
use Rattle.std.specs.Ordering.{is_lt}
use Rattle.std.proofs.lemmas.Bool.{false≢true}
use Rattle.std.proofs.lemmas.Fn.{always_returns_same}
use Rattle.overlay_geom.specs.Plane.{point_lt}
use Rattle.overlay_geom.specs.Points.{plain_point}
use Rattle.overlay_geom.specs.Resolved.{plain_edge}
use Rattle.overlay_relate.specs.Walls.{starts_up_to}
use Rattle.overlay_relate.proofs.OnWalls.{on_last_wall, on_no_wall, walls_partitioned}
use Rattle.overlay_relate.proofs.walls.is_on_wall.Goals as goal
use Rattle.std.proofs.lemmas.Bool.{not-true}
use Rattle.overlay_geom.proofs.PointComparisons.{point_cmp-is_less}

pub returns-then-n-eq0 : goal.returns-then-n-eq0
returns-then-n-eq0 g c =
    let plain = plain_edge g.I.IntNumber.whole in
    let p = plain_point g.I.IntNumber.whole c.args.p in
    let point = c.partition_point-n.ensures.partitioned (λ w. starts_up_to p (plain w))
    (always_returns_same _ _ _ (λ a r f k. search (rules, of_calls)))
    (walls_partitioned plain c.args.walls.now c.requires p) in (
      λ t. absurd (false≢true t),
      λ on. absurd
          (on_no_wall plain c.args.walls.now c.requires p c.partition_point-n.result point c.if-n-eq0.true on),
    )

pub returns : goal.returns
returns g c =
    let plain = plain_edge g.I.IntNumber.whole in
    let p = plain_point g.I.IntNumber.whole c.args.p in
    let n = c.partition_point-n.result in
    let w = c.index-walls-n.result in
    let point = c.partition_point-n.ensures.partitioned (λ w. starts_up_to p (plain w))
    (always_returns_same _ _ _ (λ a r f k. search (rules, of_calls)))
    (walls_partitioned plain c.args.walls.now c.requires p) in
    let some : 0 < n = let not_none = c.if-n-eq0.false in omega arith in
    let both = on_last_wall plain c.args.walls.now c.requires p n point w some c.partition_point-n.ensures.bound
    c.index-walls-n.is in
    let told : c.is_lt.result ≡ point_lt (plain w).b p = c.is_lt.ensures ∙ ap is_lt c.compare_points.ensures
    ∙ point_cmp-is_less (plain w).b p in
    (λ t. both.0 (sym told ∙ not-true c.is_lt.result t), λ on. ap not (told ∙ both.1 on))
