-- The boxes so far are in finished strips and in the strip so far, which is not full.
use Rattle.std.proofs.Common.{◌<◌, length, take}
use Rattle.overlay_pairs.specs.Extents.{plain_extents}
use Rattle.overlay_pairs.proofs.StripOrder.{StripsSoFar}
use Rattle.overlay_pairs.proofs.strips.by_strips.Given as goal

abbrev pub invariant-loop-extent : goal.invariant-loop-extent
invariant-loop-extent g l =
    let plain = plain_extents g.I.IntNumber.whole in
    StripsSoFar l.width (plain (take l.extent-index l.extents)) (plain l.sorted.items) (plain l.strip.items)
    × (length l.strip.items < l.width)
