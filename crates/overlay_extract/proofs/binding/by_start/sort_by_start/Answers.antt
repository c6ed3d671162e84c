-- The comparison is an order, so the sort puts the edges into it.
use Rattle.std.proofs.Common.{◌≡◌, false, ℕ, rules}
use Rattle.std.specs.Ordering.{is_lt}
use Rattle.std.proofs.lemmas.List.Sorted.{answers_always}
use Rattle.overlay_geom.proofs.Mapped.{AllPairs-map}
use Rattle.overlay_plane.specs.Anchors.{is_anchored_before}
use Rattle.overlay_plane.proofs.SortedStarts.{starts_before, starts_before-order, by_start-from_sorted}
use Rattle.overlay_scan.specs.Scan.{Entry}
use Rattle.overlay_walk.specs.WalkEdges.{numbered_entry}
use Rattle.overlay_extract.proofs.binding.by_start.sort_by_start.Goals as goal

pub returns-clause-order : goal.returns-clause-order
returns-clause-order g c =
    let whole = g.I.IntNumber.whole in
    let sorted = c.sort_by.new.self.items in
    AllPairs-map (λ (e f : Entry ℕ). is_anchored_before f.edge e.edge ≡ false) (numbered_entry whole) sorted
    (by_start-from_sorted (λ s. (numbered_entry whole s).edge) (λ s. s.forward) sorted
    (c.in_ok-sort_by.ensures.sorted (starts_before (λ s. (numbered_entry whole s).edge) (λ s. s.forward))
    (starts_before-order (λ s. (numbered_entry whole s).edge) (λ s. s.forward))
    (answers_always _ _ _ (λ f a r h k.
    let answer : is_lt r ≡ is_anchored_before (numbered_entry whole a.0.now).edge
    (numbered_entry whole a.1.0.now).edge = search rules in answer))))
