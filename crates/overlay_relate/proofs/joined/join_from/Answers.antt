-- One place more is joined.
use Rattle.std.proofs.Common.{◌+◌, sym, subst}
use Rattle.std.specs.List.{slice_set}
use Rattle.std.proofs.lemmas.List.{get_or_default}
use Rattle.overlay_relate.specs.Joined.{joined_by, AreJoined}
use Rattle.overlay_relate.proofs.JoinedRuns.{none_joined, joined_more}
use Rattle.overlay_relate.proofs.joined.join_from.Goals as goal

pub loop-i-init : goal.loop-i-init
loop-i-init g c = none_joined (joined_by c.args.parts) c.args.start c.args.more.now c.args.locations.now.items

pub loop-i-preserved : goal.loop-i-preserved
loop-i-preserved g c =
    let f = joined_by c.args.parts in
    let new = c.loop-i.locations.items in
    subst (λ l. AreJoined f c.args.start (c.loop-i.i + 1) c.args.more.now c.args.locations.now.items
    (slice_set new (c.args.start + c.loop-i.i) l)) (sym c.join.ensures)
    (joined_more f c.args.start c.loop-i.i c.args.more.now c.args.locations.now.items new c.loop-i.invariant
    c.loop-i-test.true c.requires c.index.result.now _ c.index.ensures
    (get_or_default c.args.more.now c.loop-i.i _ _ c.loop-i-test.true))
