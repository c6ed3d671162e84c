-- The place that is tried parts the sorted steps, or the search finds the one that does.
use Rattle.std.proofs.Common.{arith, rules}
use Rattle.std.proofs.lemmas.List.Sorted.{IsPartitionPoint-from_clause}
use Rattle.overlay_geom.specs.Points.{plain_point}
use Rattle.overlay_walk.proofs.Runs.{leaves_below, below-parted}
use Rattle.overlay_walk.proofs.next.count_leaving_below.Goals as goal

pub returns-then-is_parted_at-clause-within : goal.returns-then-is_parted_at-clause-within
returns-then-is_parted_at-clause-within g c =
    let inside = c.is_parted_at.ensures.within c.if-is_parted_at.true in omega arith

pub returns-then-is_parted_at-clause-parted : goal.returns-then-is_parted_at-clause-parted
returns-then-is_parted_at-clause-parted g c = c.is_parted_at.ensures.parted c.if-is_parted_at.true

pub returns-else-is_parted_at-clause-parted : goal.returns-else-is_parted_at-clause-parted
returns-else-is_parted_at-clause-parted g c =
    let whole = g.I.IntNumber.whole in
    let ss = c.args.steps.now in
    let p = plain_point whole c.args.p in
    IsPartitionPoint-from_clause (leaves_below whole p) _ _ c.partition_point.ensures.partitioned
    (below-parted whole ss c.requires p) (λ a r q k.
    (search rules, search rules))
