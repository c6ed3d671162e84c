-- Steps that leave smaller points stand in the front alone.
use Rattle.std.proofs.Common.{get_or, rules}
use Rattle.std.proofs.lemmas.List.Sorted.{IsPartitionPoint-from_clause}
use Rattle.overlay_geom.specs.Plane.{point_lt}
use Rattle.overlay_walk.specs.Steps.{plain_hand, plain_step, plain_steps}
use Rattle.overlay_walk.proofs.FannedParts.{below-parted}
use Rattle.overlay_walk.proofs.fans.count_below.Goals as goal

pub returns : goal.returns
returns g c = λ hand placed.
    let whole = g.I.IntNumber.whole in
    let ss = plain_steps whole c.args.steps.now in
    let back = plain_step whole c.args.way_back in
    IsPartitionPoint-from_clause (λ k. point_lt (get_or ss k back).from back.from) _ _
    c.partition_point.ensures.partitioned (below-parted (plain_hand hand) ss c.args.fanned.now placed back back.from)
    (λ a r q k. (search rules, search rules))
