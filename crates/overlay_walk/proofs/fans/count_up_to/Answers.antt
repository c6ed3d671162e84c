-- Steps that do not stand behind the way back stand in the front alone.
use Rattle.std.proofs.Common.{not, get_or, rules}
use Rattle.std.proofs.lemmas.List.Sorted.{IsPartitionPoint-from_clause}
use Rattle.overlay_walk.specs.Fans.{stands_before}
use Rattle.overlay_walk.specs.Steps.{plain_hand, plain_step, plain_steps}
use Rattle.overlay_walk.proofs.FannedParts.{up_to-parted, parted_by_not}
use Rattle.overlay_walk.proofs.fans.count_up_to.Goals as goal

pub returns : goal.returns
returns g c =
    let whole = g.I.IntNumber.whole in
    let ss = plain_steps whole c.args.steps.now in
    let back = plain_step whole c.args.way_back in
    let hand = plain_hand c.args.hand in
    parted_by_not (λ k. stands_before hand back (get_or ss k back)) c.args.fanned.now _
    (IsPartitionPoint-from_clause (λ k. not (stands_before hand back (get_or ss k back))) _ _
    c.partition_point.ensures.partitioned
    (up_to-parted hand ss c.args.fanned.now c.requires.placed back g.I.IntNumber.limit c.requires.long
    c.requires.way_back) (λ a r q k. (search rules, search rules)))
