-- The orbits are split into tours, and the tours cut into loops.
use Rattle.std.proofs.lemmas.Result.{IfOk-weaker}
use Rattle.overlay_geom.specs.Edges.{subj_of}
use Rattle.overlay_geom.specs.Rules.{is_filled}
use Rattle.overlay_graph.specs.Graphs.{graph_edges}
use Rattle.overlay_extract.specs.FilledSides.{filled_sides}
use Rattle.overlay_extract.proofs.FoundLoops.{loops_found}
use Rattle.overlay_extract.proofs.LoopsFound.{orbits_closed, tours_long}
use Rattle.overlay_extract.proofs.OrbitTours.{orbits_make_tours}
use Rattle.overlay_extract.proofs.SideOnce.{filled_sides_long}
use Rattle.overlay_extract.proofs.SidesByBits.{balanced_arrangement}
use Rattle.overlay_extract.proofs.ToursCut.{tours_make_loops}
use Rattle.overlay_walk.specs.Walks.{plain_walks}
use Rattle.overlay_extract.proofs.slicing.loops.filled_loops.Goals as goal

pub tours-requires : goal.tours-requires
tours-requires g c =
    let graph = c.args.graph.now in
    rw c.deref.ensures.value (orbits_closed (filled_sides (is_filled graph.fill_rule) subj_of (graph_edges graph))
    (plain_walks g.I.IntNumber.whole c.in_ok-orbits.orbits.items) c.in_ok-orbits.ensures.orbits)

pub loops_of-requires-clause-closed : goal.loops_of-requires-clause-closed
loops_of-requires-clause-closed g c =
    let split = rw c.deref.ensures.value at c.in_ok-tours.ensures.tours in
    rw c.deref-2.ensures.value split.closed

pub loops_of-requires-clause-long : goal.loops_of-requires-clause-long
loops_of-requires-clause-long g c =
    let whole = g.I.IntNumber.whole in
    let graph = c.args.graph.now in
    let es = graph_edges graph in
    let sides = filled_sides (is_filled graph.fill_rule) subj_of es in
    let orbits = plain_walks whole c.in_ok-orbits.orbits.items in
    let tours = plain_walks whole c.in_ok-tours.tours.items in
    let split = rw c.deref.ensures.value at c.in_ok-tours.ensures.tours in
    rw c.deref-2.ensures.value
    (tours_long sides tours (orbits_make_tours sides orbits tours c.in_ok-orbits.ensures.orbits split)
    (filled_sides_long (is_filled graph.fill_rule) subj_of es
    (balanced_arrangement g.I.IntNumber.limit es c.allocator.ensures.arranged c.requires)))

pub returns-clause-loops : goal.returns-clause-loops
returns-clause-loops g c =
    let whole = g.I.IntNumber.whole in
    let graph = c.args.graph.now in
    let es = graph_edges graph in
    let fills = is_filled graph.fill_rule in
    let sides = filled_sides fills subj_of es in
    let orbits = plain_walks whole c.in_ok-orbits.orbits.items in
    let tours = plain_walks whole c.in_ok-tours.tours.items in
    let split = rw c.deref.ensures.value at c.in_ok-tours.ensures.tours in
    IfOk-weaker c.loops_of.result _ _
    (λ ls cut. tours_make_loops fills subj_of es
    (balanced_arrangement g.I.IntNumber.limit es c.allocator.ensures.arranged c.requires) tours
    (plain_walks whole ls.items) (orbits_make_tours sides orbits tours c.in_ok-orbits.ensures.orbits split) cut)
    (rw c.deref-2.ensures.value at c.loops_of.ensures.loops)

pub returns-clause-order : goal.returns-clause-order
returns-clause-order g c =
    let whole = g.I.IntNumber.whole in
    let graph = c.args.graph.now in
    let es = graph_edges graph in
    let fills = is_filled graph.fill_rule in
    let sides = filled_sides fills subj_of es in
    let orbits = plain_walks whole c.in_ok-orbits.orbits.items in
    let tours = plain_walks whole c.in_ok-tours.tours.items in
    let split = rw c.deref.ensures.value at c.in_ok-tours.ensures.tours in
    let order = rw c.deref.ensures.value at c.in_ok-tours.ensures.order in
    IfOk-weaker c.loops_of.result _ _
    (λ ls found. loops_found fills subj_of es
    (balanced_arrangement g.I.IntNumber.limit es c.allocator.ensures.arranged c.requires) orbits tours
    (plain_walks whole ls.items) c.in_ok-orbits.ensures.orbits
    (orbits_make_tours sides orbits tours c.in_ok-orbits.ensures.orbits split).each_once order found)
    (rw c.deref-2.ensures.value at c.loops_of.ensures.order)
