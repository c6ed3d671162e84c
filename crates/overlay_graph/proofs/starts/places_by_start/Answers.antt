-- The places pushed, or sorted, are those of the edges.
use Rattle.std.proofs.Common.{rules, of_calls}
use Rattle.std.proofs.lemmas.Fn.{always_returns_same}
use Rattle.std.proofs.lemmas.List.Sorted.{IsPermutation-map, IsPermutation-trans}
use Rattle.overlay_geom.proofs.Mapped.{All-mapped_at}
use Rattle.overlay_order.specs.Content.{plain_edge, plain_edges, IsHeld}
use Rattle.overlay_graph.specs.Starts.{edge_at}
use Rattle.overlay_graph.proofs.PlacedEdges.{numbered_within, place_before, place_before-order, by_start_from_sorted}
use Rattle.overlay_graph.proofs.starts.places_by_start.Goals as goal

pub invariant_of-starts : goal.invariant_of-starts
invariant_of-starts g c = record {
  edges_are_held = c.requires.content.held;
  behind_is_held = All-mapped_at (IsHeld g.I.IntNumber.limit) (plain_edge g.I.IntNumber.whole g.C.EdgeCount.counts)
      c.args.edges.now 0 c.first-item.result c.in-len1-up.len_at_least c.first-item.is c.requires.content.held;
}

pub returns-then-push_places : goal.returns-then-push_places
returns-then-push_places g c = record {
  ok = let plain = plain_edge g.I.IntNumber.whole g.C.EdgeCount.counts in
      let limit = g.I.IntNumber.limit in
      let es = plain_edges g.I.IntNumber.whole g.C.EdgeCount.counts c.args.edges.now in
      let behind = plain c.first-item.result in
      let held = c.requires.content.held in
      let last = All-mapped_at (IsHeld limit) plain c.args.edges.now 0 c.first-item.result
      c.in-len1-up.len_at_least c.first-item.is held in
      let places = c.push_places.new.places.items in
      let moved = c.push_places.ensures.permutation in record {
        permutation = moved;
        order = by_start_from_sorted limit es behind held last places (numbered_within es places moved)
            (c.push_places.ensures.sorted c.if-push_places.true);
      };
}

pub returns : goal.returns
returns g c = record {
  ok = let plain = plain_edge g.I.IntNumber.whole g.C.EdgeCount.counts in
      let limit = g.I.IntNumber.limit in
      let es = plain_edges g.I.IntNumber.whole g.C.EdgeCount.counts c.args.edges.now in
      let behind = plain c.first-item.result in
      let held = c.requires.content.held in
      let last = All-mapped_at (IsHeld limit) plain c.args.edges.now 0 c.first-item.result
      c.in-len1-up.len_at_least c.first-item.is held in
      let places = c.sort_by.new.self.items in
      let moved = IsPermutation-trans _ _ _ c.push_places.ensures.permutation
      (IsPermutation-map (λ k. record { item = edge_at es k; place = k }) c.push_places.new.places.items places
      c.sort_by.ensures.permutation) in record {
        permutation = moved;
        order = by_start_from_sorted limit es behind held last places (numbered_within es places moved)
            (c.in_ok-sort_by.ensures.sorted (place_before limit es behind held last)
            (place_before-order limit es behind held last)
            (always_returns_same _ _ _ (λ a r f k. search (rules, of_calls))));
      };
}
