-- The parts are joined up to a point, and each step leaves fewer ends behind it.
use Rattle.std.proofs.Common.{ℕ, ◌+◌, ◌++◌}
use Rattle.overlay_geom.specs.Plane.{Edge}
use Rattle.overlay_geom.specs.Points.{plain_point}
use Rattle.overlay_parts.specs.LineParts.{AreToJoin}
use Rattle.overlay_parts.specs.Parts.{plain_parts}
use Rattle.overlay_parts.specs.Stores.{IsStoreReached}
use Rattle.overlay_parts.proofs.JoinedParts.{left_behind, IsJoinedUpTo}
use Rattle.overlay_parts.proofs.LineParts.{ends_left}
use Rattle.overlay_parts.proofs.parts.joined_parts.Given as goal

abbrev pub invariant-loop-i : goal.invariant-loop-i
invariant-loop-i g l =
    let whole = g.I.IntNumber.whole in
    let counts = g.C.EdgeCount.counts in
    let low = plain_parts whole counts l.low in
    let high = plain_parts whole counts l.high in
    let v = plain_point whole l.done in
    ((line : Edge) (m k : ℕ) → AreToJoin g.I.IntNumber.limit m k line low high →
    IsJoinedUpTo g.C.EdgeCount.merges g.I.IntNumber.limit m k line (low ++ high) v
    (plain_parts whole counts l.parts.items) (left_behind whole counts v l.i l.low)
    (left_behind whole counts v l.j l.high))
    × IsStoreReached g.C.EdgeCount.writes l.initial.store l.store

abbrev pub decreases-loop-i : goal.decreases-loop-i
decreases-loop-i g l =
    let whole = g.I.IntNumber.whole in
    let counts = g.C.EdgeCount.counts in
    let v = plain_point whole l.done in
    ends_left v (left_behind whole counts v l.i l.low) + ends_left v (left_behind whole counts v l.j l.high)
