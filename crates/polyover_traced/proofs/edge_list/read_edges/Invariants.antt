-- The edges that were read and those to come are all of them.
use Rattle.std.proofs.Common.{◌≡◌, ◌++◌, ◌*◌, All, drop, map}
use Rattle.overlay_traced.specs.Given.{IsGivenInRange, plain_given}
use Rattle.polyover_traced.specs.EdgeLists.{edge_list, sided_edges, sided_from}
use Rattle.polyover_traced.proofs.edge_list.read_edges.Given as goal

abbrev pub invariant-loop-i : goal.invariant-loop-i
invariant-loop-i g l =
    let whole = g.I.IntNumber.whole in
    let cs = l.edges.coordinates.now in
    (map (plain_given whole) l.given.items ++ sided_from (map whole cs) (4 * l.i) (drop l.i l.edges.sides.now)
    ≡ sided_edges whole (edge_list cs l.edges.sides.now))
    × All (IsGivenInRange whole g.I.IntNumber.limit) l.given.items
