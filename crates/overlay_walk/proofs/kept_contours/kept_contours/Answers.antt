-- The contours are kept as the options ask, so the facts of kept contours hold of them.
use Rattle.std.proofs.Common.{◌≡◌, false, All, sym, subst, ◌∙◌}
use Rattle.std.proofs.lemmas.Bool.{false≢true}
use Rattle.std.proofs.lemmas.List.Elements.{All-filter}
use Rattle.std.proofs.lemmas.Result.{IfOk-weaker}
use Rattle.overlay_geom.specs.Edges.{all_ends}
use Rattle.overlay_plane.specs.BoundContours.{walks_in}
use Rattle.overlay_order.proofs.RuledContents.{ruled_content}
use Rattle.overlay_graph.specs.Graphs.{graph_edges}
use Rattle.overlay_walk.specs.Asked.{Asked, asked}
use Rattle.overlay_walk.specs.GroupedContours.{plain_contours}
use Rattle.overlay_walk.specs.KeptResults.{AreKeptResults}
use Rattle.overlay_walk.specs.Steps.{IsLong, RunsAlong}
use Rattle.overlay_walk.specs.Walks.{plain_walks}
use Rattle.overlay_walk.proofs.KeptOnes.{kept_with_groups, kept_without, kept_results, kept_are_long, large_alike}
use Rattle.overlay_walk.proofs.KeptOnes.{of_each_walk}
use Rattle.overlay_walk.proofs.kept_contours.kept_contours.Goals as goal

pub returns-then-options-clause-kept : goal.returns-then-options-clause-kept
returns-then-options-clause-kept g c =
    let whole = g.I.IntNumber.whole in
    let q : Asked = asked g.I.Wide.WideIntNumber.width g.I.WideUInt.UIntNumber.natural (g.G.AsGraph.graph
    c.args.graph).fill_rule
    c.args.overlay_rule c.args.options in
    let es = graph_edges (g.G.AsGraph.graph c.args.graph) in
    let arranged = c.selected_contours.ensures.arranged in
    let ruled = ruled_content g.I.IntNumber.limit es arranged.content arranged.ascending arranged.settled c.requires
    (g.G.AsGraph.graph c.args.graph).fill_rule c.args.overlay_rule in
    IfOk-weaker c.selected_contours.result _ (λ cs. AreKeptResults q es (plain_contours whole cs.items))
    (λ cs cut. kept_results q es (plain_contours whole cs.items)
    (kept_with_groups q es (plain_contours whole cs.items) c.if-options.true ruled cut))
    c.selected_contours.ensures.cut

pub returns-then-options-clause-long : goal.returns-then-options-clause-long
returns-then-options-clause-long g c =
    let whole = g.I.IntNumber.whole in
    let limit = g.I.IntNumber.limit in
    let q : Asked = asked g.I.Wide.WideIntNumber.width g.I.WideUInt.UIntNumber.natural (g.G.AsGraph.graph
    c.args.graph).fill_rule
    c.args.overlay_rule c.args.options in
    let es = graph_edges (g.G.AsGraph.graph c.args.graph) in
    let arranged = c.selected_contours.ensures.arranged in
    let ruled = ruled_content limit es arranged.content arranged.ascending arranged.settled c.requires
    (g.G.AsGraph.graph c.args.graph).fill_rule c.args.overlay_rule in
    IfOk-weaker c.selected_contours.result _ (λ cs. All (All (IsLong limit)) (walks_in (plain_contours whole cs.items)))
    (λ cs cut. kept_are_long q es (plain_contours whole cs.items)
    (kept_with_groups q es (plain_contours whole cs.items) c.if-options.true ruled cut) limit arranged.content)
    c.selected_contours.ensures.cut

pub returns-then-options-clause-along : goal.returns-then-options-clause-along
returns-then-options-clause-along g c =
    let along = RunsAlong g.I.IntNumber.whole (all_ends (graph_edges (g.G.AsGraph.graph c.args.graph))) in
    IfOk-weaker c.selected_contours.result _
    (λ cs. c.args.options.ogc ≡ false → All (λ (k : _). All along k.steps.items) cs.items)
    (λ cs cut is. absurd (false≢true (sym is ∙ c.if-options.true)))
    c.selected_contours.ensures.cut

pub returns-clause-along : goal.returns-clause-along
returns-clause-along g c =
    let along = RunsAlong g.I.IntNumber.whole (all_ends (graph_edges (g.G.AsGraph.graph c.args.graph))) in
    IfOk-weaker c.roled.result _
    (λ cs. c.args.options.ogc ≡ false → All (λ (k : _). All along k.steps.items) cs.items)
    (λ cs are is. of_each_walk (λ (w : _). All along w.items) cs.items c.in_ok-large.large.items are
    (subst (All (λ (w : _). All along w.items)) (sym c.in_ok-large.ensures.ok)
    (All-filter _ (λ (w : _). All along w.items) c.in_ok-walks.walks.items c.in_ok-walks.ensures.along)))
    c.roled.ensures.steps

pub returns-clause-kept : goal.returns-clause-kept
returns-clause-kept g c =
    let whole = g.I.IntNumber.whole in
    let q : Asked = asked g.I.Wide.WideIntNumber.width g.I.WideUInt.UIntNumber.natural (g.G.AsGraph.graph
    c.args.graph).fill_rule
    c.args.overlay_rule c.args.options in
    let es = graph_edges (g.G.AsGraph.graph c.args.graph) in
    IfOk-weaker c.roled.result _ (λ cs. AreKeptResults q es (plain_contours whole cs.items))
    (λ cs are. kept_results q es (plain_contours whole cs.items)
    (kept_without q es (plain_walks whole c.in_ok-walks.walks.items) (plain_contours whole cs.items) c.if-options.false
    c.in_ok-walks.ensures.cut
    (large_alike whole q c.in_ok-walks.walks.items c.in_ok-large.large.items (plain_contours whole cs.items)
    c.in_ok-large.ensures.ok are)))
    c.roled.ensures.ok

pub returns-clause-long : goal.returns-clause-long
returns-clause-long g c =
    let whole = g.I.IntNumber.whole in
    let limit = g.I.IntNumber.limit in
    let q : Asked = asked g.I.Wide.WideIntNumber.width g.I.WideUInt.UIntNumber.natural (g.G.AsGraph.graph
    c.args.graph).fill_rule
    c.args.overlay_rule c.args.options in
    let es = graph_edges (g.G.AsGraph.graph c.args.graph) in
    IfOk-weaker c.roled.result _ (λ cs. All (All (IsLong limit)) (walks_in (plain_contours whole cs.items)))
    (λ cs are. kept_are_long q es (plain_contours whole cs.items)
    (kept_without q es (plain_walks whole c.in_ok-walks.walks.items) (plain_contours whole cs.items) c.if-options.false
    c.in_ok-walks.ensures.cut
    (large_alike whole q c.in_ok-walks.walks.items c.in_ok-large.large.items (plain_contours whole cs.items)
    c.in_ok-large.ensures.ok are)) limit c.allocator.ensures.arranged.content)
    c.roled.ensures.ok
