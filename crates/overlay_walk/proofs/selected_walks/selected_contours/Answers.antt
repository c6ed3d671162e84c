-- The steps that are cut are a permutation of the selected steps, and contours inside groups visit no point twice.
use Rattle.std.proofs.Common.{Bool, List}
use Rattle.overlay_geom.specs.Plane.{Step}
use Rattle.overlay_plane.specs.MinimumArea.{reaches}
use Rattle.overlay_graph.specs.Graphs.{graph_edges}
use Rattle.overlay_walk.specs.GroupedContours.{plain_contours}
use Rattle.overlay_walk.specs.Steps.{filled_hand, plain_steps}
use Rattle.overlay_walk.proofs.SelectedGroups.{open_alternate, open_once, open_long, cut_of_selected, cut_is_simple}
use Rattle.overlay_walk.proofs.selected_walks.selected_contours.Goals as goal

pub cut_in_groups-requires-clause-alternate : goal.cut_in_groups-requires-clause-alternate
cut_in_groups-requires-clause-alternate g c = open_alternate g.I.IntNumber.limit (graph_edges (g.G.AsGraph.graph
    c.args.graph))
    c.allocator.ensures.arranged c.requires (g.G.AsGraph.graph c.args.graph).fill_rule c.args.overlay_rule
    (filled_hand c.args.direction) (plain_steps g.I.IntNumber.whole c.in_ok-open.open) c.in_ok-open.ensures.selected

pub cut_in_groups-requires-clause-once : goal.cut_in_groups-requires-clause-once
cut_in_groups-requires-clause-once g c = open_once g.I.IntNumber.limit (graph_edges (g.G.AsGraph.graph c.args.graph))
    c.allocator.ensures.arranged c.requires (g.G.AsGraph.graph c.args.graph).fill_rule c.args.overlay_rule
    (filled_hand c.args.direction) (plain_steps g.I.IntNumber.whole c.in_ok-open.open) c.in_ok-open.ensures.selected

pub cut_in_groups-requires-clause-long : goal.cut_in_groups-requires-clause-long
cut_in_groups-requires-clause-long g c = open_long g.I.IntNumber.limit (graph_edges (g.G.AsGraph.graph c.args.graph))
    c.allocator.ensures.arranged c.requires (g.G.AsGraph.graph c.args.graph).fill_rule c.args.overlay_rule
    (filled_hand c.args.direction) (plain_steps g.I.IntNumber.whole c.in_ok-open.open) c.in_ok-open.ensures.selected

pub returns-clause-cut : goal.returns-clause-cut
returns-clause-cut g c =
    let keeps : List Step → Bool = λ w. reaches g.I.Wide.WideIntNumber.width
    (g.I.WideUInt.UIntNumber.natural c.args.min_output_area) w in
    cut_of_selected g.I.IntNumber.limit (graph_edges (g.G.AsGraph.graph c.args.graph)) c.allocator.ensures.arranged
    c.requires
    (g.G.AsGraph.graph c.args.graph).fill_rule c.args.overlay_rule (filled_hand c.args.direction)
    (plain_steps g.I.IntNumber.whole c.in_ok-open.open)
    c.in_ok-open.ensures.selected keeps (plain_contours g.I.IntNumber.whole c.in_ok-contours.contours.items)
    c.in_ok-contours.ensures.cut

pub returns-clause-simple : goal.returns-clause-simple
returns-clause-simple g c =
    let keeps : List Step → Bool = λ w. reaches g.I.Wide.WideIntNumber.width
    (g.I.WideUInt.UIntNumber.natural c.args.min_output_area) w in
    let contours = plain_contours g.I.IntNumber.whole c.in_ok-contours.contours.items in
    cut_is_simple g.I.IntNumber.limit (graph_edges (g.G.AsGraph.graph c.args.graph)) c.allocator.ensures.arranged
    c.requires
    (g.G.AsGraph.graph c.args.graph).fill_rule c.args.overlay_rule (filled_hand c.args.direction) keeps contours
    (cut_of_selected g.I.IntNumber.limit (graph_edges (g.G.AsGraph.graph c.args.graph)) c.allocator.ensures.arranged
    c.requires
    (g.G.AsGraph.graph c.args.graph).fill_rule c.args.overlay_rule (filled_hand c.args.direction)
    (plain_steps g.I.IntNumber.whole c.in_ok-open.open)
    c.in_ok-open.ensures.selected keeps contours c.in_ok-contours.ensures.cut)
