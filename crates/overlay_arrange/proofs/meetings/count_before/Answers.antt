-- The place that is tried parts the sorted meetings, or the search finds the one that does.
use Rattle.std.proofs.Common.{◌≡◌, nat_lt, rules}
use Rattle.std.proofs.lemmas.List.Sorted.{IsPartitionPoint-from_clause}
use Rattle.overlay_arrange.proofs.MeetingRuns.{before-parted, is_before}
use Rattle.overlay_arrange.proofs.meetings.count_before.Goals as goal

pub returns-then-is_parted_at-clause-within : goal.returns-then-is_parted_at-clause-within
returns-then-is_parted_at-clause-within g c = c.is_parted_at.ensures.within c.if-is_parted_at.true

pub returns-then-is_parted_at-clause-parted : goal.returns-then-is_parted_at-clause-parted
returns-then-is_parted_at-clause-parted g c = c.is_parted_at.ensures.parted c.if-is_parted_at.true

pub returns-else-is_parted_at-clause-parted : goal.returns-else-is_parted_at-clause-parted
returns-else-is_parted_at-clause-parted g c =
    let whole = g.I.IntNumber.whole in
    IsPartitionPoint-from_clause (is_before whole c.args.i) _ _ c.partition_point.ensures.partitioned
    (before-parted whole c.args.meetings.now c.requires c.args.i) (λ a r q k.
    let answer : r ≡ nat_lt a.0.now.place c.args.i = search rules in
    (answer, search rules))
