-- The place found divides the live entries, and the entry below it is live.
use Rattle.std.proofs.Common.{[], ◌∙◌}
use Rattle.overlay_scan.proofs.LiveParts.{live_parts}
use Rattle.overlay_scan.proofs.Searching.{looked_up, value_of_last_live}
use Rattle.overlay_scan.proofs.list.ScanList.look_up.Goals as goal

pub returns-clause-found : goal.returns-clause-found
returns-clause-found g c =
    let whole = g.I.IntNumber.whole in
    let x = whole c.args.x in
    let es = c.find-place.new.self in
    let n = c.find-place.result in
    let found = c.find-place.ensures.found in
    looked_up whole x es (goal.F-post g c.args.order.now) c.args.self.now.live es n [] c.value_below.result
    c.find-place.ensures.kept found (live_parts whole x es n)
    (c.value_below.ensures ∙ value_of_last_live whole x es n found.within found.live)
