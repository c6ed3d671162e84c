-- The places so far are in order, and the edge at the last of them is held.
use Rattle.std.proofs.Common.{◌≡◌, ◌+◌, ℕ, slice_index_or}
use Rattle.std.specs.List.Sorted.{IsSortedWithin}
use Rattle.overlay_geom.specs.Plane.{edge_of}
use Rattle.overlay_geom.specs.Resolved.{plain_edge, IsLongEdge}
use Rattle.overlay_walk.specs.Steps.{plain_step, plain_steps}
use Rattle.overlay_walk.proofs.StartsCompared.{place_before}
use Rattle.overlay_walk.proofs.top_first.PlacedSteps.are_in_order.Given as goal

abbrev pub invariant-loop-i : goal.invariant-loop-i
invariant-loop-i g l =
    let whole = g.I.IntNumber.whole in
    let limit = g.I.IntNumber.limit in
    let ss = plain_steps whole l.self.steps.now in
    let behind = plain_step whole l.self.behind in
    let last = plain_edge whole l.last in
    IsLongEdge limit last
    × ((k d : ℕ) → k + 1 ≡ l.i → last ≡ edge_of (slice_index_or ss (slice_index_or l.places k d) behind))
    × IsSortedWithin (place_before limit ss behind l.self.steps_are_long l.self.behind_is_long) l.places 0 l.i
