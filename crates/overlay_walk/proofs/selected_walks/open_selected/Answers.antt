-- The steps in the list are the selected steps, which lead between different points in range, along the edges with
-- their numbers.
use Rattle.std.proofs.Common.{◌≡◌, List, map, All, sym, ap, ◌∙◌, subst}
use Rattle.std.specs.List.Sorted.{IsPermutation}
use Rattle.std.proofs.lemmas.List.Elements.{All-nil}
use Rattle.std.proofs.lemmas.List.Sorted.{All-permutation, IsPermutation-map}
use Rattle.std.proofs.lemmas.Result.{IfOk-weaker}
use Rattle.std.proofs.lemmas.Simd.{map-map}
use Rattle.overlay_geom.specs.Edges.{all_ends, subj_of, clip_of}
use Rattle.overlay_geom.specs.Plane.{Edge}
use Rattle.overlay_geom.specs.Rules.{rules_hold}
use Rattle.overlay_order.specs.Vectors.{plain_vector, vector_of}
use Rattle.overlay_graph.specs.Graphs.{graph_edges}
use Rattle.overlay_walk.specs.Steps.{filled_hand, plain_step, plain_steps, IsLong, RunsAlong}
use Rattle.overlay_walk.proofs.SelectedLong.{selected_are_long}
use Rattle.overlay_walk.specs.Selection.{ends}
use Rattle.overlay_walk.proofs.SelectedByBits.{selected_in_room}
use Rattle.overlay_walk.proofs.selected_walks.open_selected.Goals as goal

pub new-requires : goal.new-requires
new-requires g c =
    let whole = g.I.IntNumber.whole in
    let filled = filled_hand c.args.direction in
    let vectors = c.edges-edges.ensures.filled in
    let are = selected_in_room (g.G.AsGraph.graph c.args.graph).fill_rule c.args.overlay_rule (graph_edges
    (g.G.AsGraph.graph c.args.graph)) filled _ _
    _ (ap (plain_steps whole) c.requires) vectors c.in_ok-push_selected.ensures.ok in
    subst (All (IsLong g.I.IntNumber.limit)) (sym are)
    (selected_are_long g.I.IntNumber.limit (graph_edges (g.G.AsGraph.graph c.args.graph))
    c.edges-edges.ensures.arranged.content
    (rules_hold (g.G.AsGraph.graph c.args.graph).fill_rule c.args.overlay_rule) subj_of clip_of filled)

pub returns-clause-selected : goal.returns-clause-selected
returns-clause-selected g c =
    let whole = g.I.IntNumber.whole in
    let filled = filled_hand c.args.direction in
    let vectors = c.edges-edges.ensures.filled in
    let are = selected_in_room (g.G.AsGraph.graph c.args.graph).fill_rule c.args.overlay_rule (graph_edges
    (g.G.AsGraph.graph c.args.graph)) filled _ _
    _ (ap (plain_steps whole) c.requires) vectors c.in_ok-push_selected.ensures.ok in
    IfOk-weaker c.new.result (λ o. IsPermutation c.push_selected.new.steps.items o) _
    (λ o moved. subst (λ ss. IsPermutation ss (plain_steps whole o)) are
    (IsPermutation-map (plain_step whole) c.push_selected.new.steps.items o moved))
    c.new.ensures.all

pub returns-clause-along : goal.returns-clause-along
returns-clause-along g c =
    let whole = g.I.IntNumber.whole in
    let es = graph_edges (g.G.AsGraph.graph c.args.graph) in
    let vectors = c.edges-edges.ensures.filled in
    let edges : map (λ v. ends (plain_vector whole v)) c.edges-edges.result.now ≡ all_ends es =
    sym (map-map ends (plain_vector whole) c.edges-edges.result.now) ∙ ap (map ends) vectors
    ∙ map-map ends (vector_of (g.G.AsGraph.graph c.args.graph).fill_rule es) es in
    let none = subst (All (RunsAlong whole (map (λ v. ends (plain_vector whole v)) c.edges-edges.result.now)))
    (sym c.requires) (All-nil _) in
    let pushed = subst (λ (fs : List Edge). All (RunsAlong whole fs) c.push_selected.new.steps.items) edges
    (c.in_ok-push_selected.ensures.along none) in
    IfOk-weaker c.new.result (λ o. IsPermutation c.push_selected.new.steps.items o)
    (All (RunsAlong whole (all_ends es)))
    (λ o moved. All-permutation (RunsAlong whole (all_ends es)) c.push_selected.new.steps.items o moved pushed)
    c.new.ensures.all
