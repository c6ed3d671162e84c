-- What reaches the minimum area are some of the loops.
use Rattle.std.proofs.Common.{All, List, sym, ap, ◌∙◌, subst}
use Rattle.std.proofs.lemmas.List.Elements.{All-filter}
use Rattle.overlay_geom.specs.Plane.{Step}
use Rattle.overlay_geom.proofs.Mapped.{map-filter}
use Rattle.overlay_plane.specs.Groups.{IsSimpleContour}
use Rattle.overlay_plane.specs.MinimumArea.{reaches}
use Rattle.overlay_graph.specs.Graphs.{graph_edges}
use Rattle.overlay_extract.proofs.KeptLoops.{loops_long}
use Rattle.overlay_walk.specs.Steps.{plain_steps, IsLong}
use Rattle.overlay_walk.specs.Walks.{plain_walks}
use Rattle.overlay_extract.proofs.slicing.slices.kept_loops.Goals as goal

pub large_walks-requires : goal.large_walks-requires
large_walks-requires g c =
    let graph = c.args.graph.now in
    loops_long g.I.IntNumber.limit graph.fill_rule (graph_edges graph) c.allocator.ensures.arranged c.requires
    (plain_walks g.I.IntNumber.whole c.in_ok-loops.loops.items) c.in_ok-loops.ensures.loops

pub contours_of_loops-requires-clause-simple : goal.contours_of_loops-requires-clause-simple
contours_of_loops-requires-clause-simple g c =
    let whole = g.I.IntNumber.whole in
    let keeps = λ (w : List Step). reaches g.I.Wide.WideIntNumber.width
    (g.I.WideUInt.UIntNumber.natural c.args.min_output_area) w in
    let loops = c.in_ok-loops.loops.items in
    subst (All IsSimpleContour) (sym (ap (plain_walks whole) c.in_ok-large.ensures.ok
    ∙ map-filter (λ (w : _). plain_steps whole w.items) keeps loops))
    (All-filter keeps IsSimpleContour (plain_walks whole loops) c.in_ok-loops.ensures.loops.simple)

pub contours_of_loops-requires-clause-long : goal.contours_of_loops-requires-clause-long
contours_of_loops-requires-clause-long g c =
    let whole = g.I.IntNumber.whole in
    let graph = c.args.graph.now in
    let keeps = λ (w : List Step). reaches g.I.Wide.WideIntNumber.width
    (g.I.WideUInt.UIntNumber.natural c.args.min_output_area) w in
    let loops = c.in_ok-loops.loops.items in
    subst (All (All (IsLong g.I.IntNumber.limit))) (sym (ap (plain_walks whole) c.in_ok-large.ensures.ok
    ∙ map-filter (λ (w : _). plain_steps whole w.items) keeps loops))
    (All-filter keeps (All (IsLong g.I.IntNumber.limit)) (plain_walks whole loops)
    (loops_long g.I.IntNumber.limit graph.fill_rule (graph_edges graph) c.allocator.ensures.arranged c.requires
    (plain_walks whole loops) c.in_ok-loops.ensures.loops))

pub returns-clause-contours : goal.returns-clause-contours
returns-clause-contours g c =
    let whole = g.I.IntNumber.whole in
    let keeps = λ (w : List Step). reaches g.I.Wide.WideIntNumber.width
    (g.I.WideUInt.UIntNumber.natural c.args.min_output_area) w in
    let loops = c.in_ok-loops.loops.items in record {
      loops = plain_walks whole loops;
      cut = c.in_ok-loops.ensures.loops;
      found = c.in_ok-loops.ensures.order;
      kept = c.in_ok-contours.ensures.walks ∙ ap (plain_walks whole) c.in_ok-large.ensures.ok
          ∙ map-filter (λ (w : _). plain_steps whole w.items) keeps loops;
      roles = c.in_ok-contours.ensures.roles;
    }

pub returns-clause-long : goal.returns-clause-long
returns-clause-long g c =
    let whole = g.I.IntNumber.whole in
    let graph = c.args.graph.now in
    let keeps = λ (w : List Step). reaches g.I.Wide.WideIntNumber.width
    (g.I.WideUInt.UIntNumber.natural c.args.min_output_area) w in
    let loops = c.in_ok-loops.loops.items in
    subst (All (All (IsLong g.I.IntNumber.limit))) (sym (c.in_ok-contours.ensures.walks
    ∙ ap (plain_walks whole) c.in_ok-large.ensures.ok ∙ map-filter (λ (w : _). plain_steps whole w.items) keeps loops))
    (All-filter keeps (All (IsLong g.I.IntNumber.limit)) (plain_walks whole loops)
    (loops_long g.I.IntNumber.limit graph.fill_rule (graph_edges graph) c.allocator.ensures.arranged c.requires
    (plain_walks whole loops) c.in_ok-loops.ensures.loops))
