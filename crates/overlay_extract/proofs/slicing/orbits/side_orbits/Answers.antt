-- The sides, in another order, are cut by the left hand.
use Rattle.overlay_geom.specs.Edges.{subj_of}
use Rattle.overlay_geom.specs.Rules.{is_filled}
use Rattle.overlay_graph.specs.Graphs.{graph_edges}
use Rattle.overlay_extract.proofs.SideOrbits.{steps_once, steps_cuttable, orbits_cut}
use Rattle.overlay_extract.proofs.SidesByBits.{balanced_arrangement}
use Rattle.overlay_walk.specs.Steps.{plain_steps}
use Rattle.overlay_walk.specs.Walks.{plain_walks}
use Rattle.overlay_extract.proofs.slicing.orbits.side_orbits.Goals as goal

pub cut_into_contours-requires-clause-cuttable : goal.cut_into_contours-requires-clause-cuttable
cut_into_contours-requires-clause-cuttable g c =
    let graph = c.args.graph.now in
    let es = graph_edges graph in
    steps_cuttable (is_filled graph.fill_rule) subj_of es
    (balanced_arrangement g.I.IntNumber.limit es c.allocator.ensures.arranged c.requires)
    (plain_steps g.I.IntNumber.whole c.in_ok-open.open) c.in_ok-open.ensures.sides

pub cut_into_contours-requires-clause-once : goal.cut_into_contours-requires-clause-once
cut_into_contours-requires-clause-once g c =
    let graph = c.args.graph.now in
    let es = graph_edges graph in
    steps_once (is_filled graph.fill_rule) subj_of es
    (balanced_arrangement g.I.IntNumber.limit es c.allocator.ensures.arranged c.requires)
    (plain_steps g.I.IntNumber.whole c.in_ok-open.open) c.in_ok-open.ensures.sides

pub returns : goal.returns
returns g c = record {
  orbits = let graph = c.args.graph.now in
      let es = graph_edges graph in
      orbits_cut (is_filled graph.fill_rule) subj_of es
      (balanced_arrangement g.I.IntNumber.limit es c.allocator.ensures.arranged c.requires)
      (plain_steps g.I.IntNumber.whole c.in_ok-open.open) c.in_ok-open.ensures.sides
      (plain_walks g.I.IntNumber.whole c.in_ok-orbits.orbits.items) c.in_ok-orbits.ensures.cut;
}
