-- The places so far are those of the first edges, and they are in order unless one had to go further.
use Rattle.std.proofs.Common.{◌≡◌, ◌<◌, ◌≤◌, IsTrue, All, take, length, vec_capacity}
use Rattle.std.specs.List.Sorted.{IsPermutation, IsSortedWithin}
use Rattle.overlay_geom.specs.Numbered.{numbered}
use Rattle.overlay_order.specs.Content.{plain_edge, plain_edges}
use Rattle.overlay_graph.specs.Starts.{numbered_at, starts_before_at}
use Rattle.overlay_graph.proofs.starts.Starts.push_places.Given as goal

abbrev pub invariant-loop-place : goal.invariant-loop-place
invariant-loop-place g l =
    let es = plain_edges g.I.IntNumber.whole g.C.EdgeCount.counts l.self.edges.now in
    let behind = plain_edge g.I.IntNumber.whole g.C.EdgeCount.counts l.self.behind in
    IsPermutation (numbered 0 (take l.place es)) (numbered_at es l.places.items)
    × (length l.places.items ≡ l.place)
    × (length l.self.edges.now ≤ vec_capacity l.places)
    × All (λ k. k < l.place) l.places.items
    × (IsTrue l.is_sorted → IsSortedWithin (starts_before_at es behind) l.places.items 0 l.place)
