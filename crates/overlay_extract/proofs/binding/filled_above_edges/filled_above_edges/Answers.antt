-- The edges gathered walk by walk, sorted.
use Rattle.std.proofs.Common.{map}
use Rattle.std.proofs.lemmas.List.Sorted.{IsPermutation-map}
use Rattle.overlay_walk.specs.GroupedContours.{walk_of}
use Rattle.overlay_walk.specs.Steps.{filled_hand}
use Rattle.overlay_walk.specs.WalkEdges.{numbered_entry, numbered_entries}
use Rattle.overlay_extract.proofs.FilledEntries.{filled_sorted}
use Rattle.overlay_extract.proofs.binding.filled_above_edges.filled_above_edges.Goals as goal

pub returns : goal.returns
returns g c = record {
  ok = let whole = g.I.IntNumber.whole in
      filled_sorted (filled_hand c.args.direction) (map (walk_of g.I.IntNumber.whole) c.args.contours.now)
      (numbered_entries whole c.in_ok-edges.edges.items)
      (numbered_entries whole c.sort_by_start.new.edges.items) c.in_ok-edges.ensures.edges c.in_ok-edges.ensures.from
      c.requires.distinct
      (IsPermutation-map (numbered_entry whole) c.in_ok-edges.edges.items c.sort_by_start.new.edges.items
      c.in_ok-sort_by_start.ensures.permutation)
      c.in_ok-sort_by_start.ensures.order;
}
