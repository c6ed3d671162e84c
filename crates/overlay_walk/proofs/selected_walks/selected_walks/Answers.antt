-- The steps that are cut are a permutation of the selected steps.
use Rattle.std.proofs.Common.{All, Contains}
use Rattle.std.proofs.lemmas.List.Elements.{All-contains, All-weaker}
use Rattle.overlay_geom.specs.Edges.{all_ends, subj_of, clip_of}
use Rattle.overlay_geom.specs.Rules.{rules_hold}
use Rattle.overlay_plane.specs.Contours.{alternating}
use Rattle.overlay_plane.proofs.ShuffledCuts.{shuffled_alternate, shuffled_once, shuffled_cut}
use Rattle.overlay_order.proofs.RuledContents.{ruled_content}
use Rattle.overlay_graph.specs.Graphs.{graph_edges}
use Rattle.overlay_walk.specs.Steps.{filled_hand, plain_steps, RunsAlong}
use Rattle.overlay_walk.specs.Walks.{plain_walks}
use Rattle.overlay_walk.proofs.SelectedLong.{walks_are_long}
use Rattle.overlay_walk.proofs.selected_walks.selected_walks.Goals as goal

pub cut_into_contours-requires-clause-cuttable : goal.cut_into_contours-requires-clause-cuttable
cut_into_contours-requires-clause-cuttable g c =
    let es = graph_edges (g.G.AsGraph.graph c.args.graph) in
    let ruled = ruled_content g.I.IntNumber.limit es c.allocator.ensures.arranged.content
    c.allocator.ensures.arranged.ascending c.allocator.ensures.arranged.settled c.requires (g.G.AsGraph.graph
    c.args.graph).fill_rule
    c.args.overlay_rule in
    alternating (shuffled_alternate (rules_hold (g.G.AsGraph.graph c.args.graph).fill_rule c.args.overlay_rule)
    subj_of clip_of es
    (filled_hand c.args.direction) ruled
    (plain_steps g.I.IntNumber.whole c.in_ok-open.open) c.in_ok-open.ensures.selected)

pub cut_into_contours-requires-clause-once : goal.cut_into_contours-requires-clause-once
cut_into_contours-requires-clause-once g c =
    let es = graph_edges (g.G.AsGraph.graph c.args.graph) in
    let ruled = ruled_content g.I.IntNumber.limit es c.allocator.ensures.arranged.content
    c.allocator.ensures.arranged.ascending c.allocator.ensures.arranged.settled c.requires (g.G.AsGraph.graph
    c.args.graph).fill_rule
    c.args.overlay_rule in
    shuffled_once (rules_hold (g.G.AsGraph.graph c.args.graph).fill_rule c.args.overlay_rule) subj_of clip_of es
    (filled_hand c.args.direction) ruled
    (plain_steps g.I.IntNumber.whole c.in_ok-open.open) c.in_ok-open.ensures.selected

pub returns-clause-cut : goal.returns-clause-cut
returns-clause-cut g c =
    let es = graph_edges (g.G.AsGraph.graph c.args.graph) in
    let ruled = ruled_content g.I.IntNumber.limit es c.allocator.ensures.arranged.content
    c.allocator.ensures.arranged.ascending c.allocator.ensures.arranged.settled c.requires (g.G.AsGraph.graph
    c.args.graph).fill_rule
    c.args.overlay_rule in
    shuffled_cut (rules_hold (g.G.AsGraph.graph c.args.graph).fill_rule c.args.overlay_rule) subj_of clip_of es
    (filled_hand c.args.direction) ruled
    (plain_steps g.I.IntNumber.whole c.in_ok-open.open) c.in_ok-open.ensures.selected
    (plain_walks g.I.IntNumber.whole c.in_ok-walks.walks.items) c.in_ok-walks.ensures.cut

pub returns-clause-long : goal.returns-clause-long
returns-clause-long g c =
    let es = graph_edges (g.G.AsGraph.graph c.args.graph) in
    let holds = rules_hold (g.G.AsGraph.graph c.args.graph).fill_rule c.args.overlay_rule in
    let filled = filled_hand c.args.direction in
    let ruled = ruled_content g.I.IntNumber.limit es c.allocator.ensures.arranged.content
    c.allocator.ensures.arranged.ascending c.allocator.ensures.arranged.settled c.requires (g.G.AsGraph.graph
    c.args.graph).fill_rule
    c.args.overlay_rule in
    let walks = plain_walks g.I.IntNumber.whole c.in_ok-walks.walks.items in
    walks_are_long g.I.IntNumber.limit es c.allocator.ensures.arranged.content holds subj_of clip_of filled walks
    (shuffled_cut holds subj_of clip_of es filled ruled (plain_steps g.I.IntNumber.whole c.in_ok-open.open)
    c.in_ok-open.ensures.selected walks c.in_ok-walks.ensures.cut)

pub returns-clause-along : goal.returns-clause-along
returns-clause-along g c =
    let along = RunsAlong g.I.IntNumber.whole (all_ends (graph_edges (g.G.AsGraph.graph c.args.graph))) in
    All-weaker (λ (w : _). All (Contains c.in_ok-open.open) w.items) (λ (w : _). All along w.items)
    (λ w inside. All-weaker (Contains c.in_ok-open.open) along
    (λ s at. All-contains along c.in_ok-open.open s c.in_ok-open.ensures.along at) w.items inside)
    c.in_ok-walks.walks.items c.in_ok-walks.ensures.among
