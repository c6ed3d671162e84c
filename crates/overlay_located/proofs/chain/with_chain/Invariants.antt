-- The queries so far are open for the edges that are kept.
use Rattle.std.proofs.Common.{◌≡◌, ◌++◌, List, length}
use Rattle.std.specs.List.{All}
use Rattle.overlay_geom.specs.Edges.{CountedEdge}
use Rattle.overlay_located.specs.Slabs.{plain_slab, IsWithin}
use Rattle.overlay_located.specs.Chains.{plain_links, edges_of}
use Rattle.overlay_located.specs.Queries.{plain_query, IsOpen}
use Rattle.overlay_located.specs.Tells.{TellsWhere}
use Rattle.overlay_located.proofs.chain.with_chain.Given as goal

abbrev pub invariant-loop-q : goal.invariant-loop-q
invariant-loop-q g l =
    let whole = g.I.IntNumber.whole in record {
      counted : length l.rest.items ≡ l.q-index;
      left : (es rest kept : List CountedEdge) →
          TellsWhere (IsWithin (plain_slab whole l.slab)) rest
          (edges_of (plain_links whole g.C.EdgeCount.counts l.chain) ++ kept) →
          All (λ q. IsOpen es rest (plain_query whole g.C.EdgeCount.counts q)) l.queries →
          All (λ q. IsOpen es kept (plain_query whole g.C.EdgeCount.counts q)) l.rest.items;
    }
