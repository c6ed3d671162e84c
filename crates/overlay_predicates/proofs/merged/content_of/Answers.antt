-- Each edge is held and light, and the content is a beginning of the edges, which is no heavier.
use Rattle.std.proofs.Common.{Err, refl, ap, ◌∙◌, arith}
use Rattle.std.proofs.lemmas.Result.{err_from_is_err_and}
use Rattle.overlay_geom.proofs.Mapped.{All-mapped_at}
use Rattle.overlay_plane.specs.Carried.{edges_in}
use Rattle.overlay_order.specs.Content.{plain_edge, plain_edges, carried_edge, IsHeld}
use Rattle.overlay_order.specs.Counts.{boolean_counts}
use Rattle.overlay_predicates.proofs.Beginnings.{memory_alone, next_copied, entry_no_heavier}
use Rattle.overlay_predicates.proofs.merged.content_of.Goals as goal

pub push-requires-clause-held : goal.push-requires-clause-held
push-requires-clause-held g c =
    All-mapped_at (IsHeld g.I.IntNumber.limit) (plain_edge g.I.IntNumber.whole boolean_counts)
    c.args.edges.now c.loop-edge.edge-index c.edge-item.result c.loop-edge-test.true c.edge-item.is c.requires.held

pub push-requires-clause-light : goal.push-requires-clause-light
push-requires-clause-light g c =
    let bound = entry_no_heavier (plain_edge g.I.IntNumber.whole boolean_counts) c.args.edges.now
    c.loop-edge.edge-index c.edge-item.result c.loop-edge-test.true c.edge-item.is in
    let light = c.requires.light in
    omega (arith, bound, light)

pub returns-in_err-push-clause-err : goal.returns-in_err-push-clause-err
returns-in_err-push-clause-err g c =
    let e = err_from_is_err_and c.from_residual-in_err-push.result c.from_residual-in_err-push.ensures.1 in
    rw (e.1, e.2) (memory_alone (plain_edge g.I.IntNumber.whole boolean_counts) c.args.edges.now
    c.loop-edge.edge-index c.edge-item.result c.loop-edge-test.true c.edge-item.is
    (edges_in c.loop-edge.copy) (plain_edges g.I.IntNumber.whole boolean_counts c.args.edges.now)
    c.loop-edge.invariant refl c.requires.light c.in_err-push.field-0.0
    (λ same. c.in_err-push.ensures.too_many (ap Err same)) c.in_err-push.ensures.only)

pub loop-edge-preserved : goal.loop-edge-preserved
loop-edge-preserved g c =
    ap edges_in c.in_ok-push.ensures.ok
    ∙ next_copied (plain_edge g.I.IntNumber.whole boolean_counts) c.args.edges.now
    c.loop-edge.edge-index c.edge-item.result c.loop-edge-test.true c.edge-item.is (λ y. y.edge) c.loop-edge.copy
    (carried_edge g.I.IntNumber.whole boolean_counts c.edge-item.result) c.loop-edge.invariant refl
