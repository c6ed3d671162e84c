-- The shapes are added one after another; where one is refused those before it stay.
use Rattle.std.proofs.Common.{◌≡◌, ◌<◌, ◌^◌, rules, All, true, false, Err, subst}
use Rattle.std.proofs.lemmas.List.{length-map}
use Rattle.std.proofs.lemmas.Result.{err_from_is_err_and}
use Rattle.overlay_geom.specs.Edges.{weight}
use Rattle.overlay_geom.specs.Paths.{paths_of_shape}
use Rattle.overlay_geom.specs.Points.{AllInRange}
use Rattle.overlay_geom.specs.declared.error.OverlayError.TheVariants.{Failed}
use Rattle.overlay_geom.proofs.Mapped.{read_mapped}
use Rattle.overlay_relate.proofs.AddedShapes.{none_added, failed_refuses, next_shape_added, next_shape_refused}
use Rattle.overlay_relate.proofs.predicate_overlay.PredicateOverlay.add_shapes.Goals as goal

pub returns-in_err-check_usable : goal.returns-in_err-check_usable
returns-in_err-check_usable g c =
    let had : c.args.self.now.failed ≡ true = search rules in
    let is : c.from_residual.result ≡ Err Failed = search rules in
    rw is (failed_refuses c.args.self.now _ had
    (subst (λ b. weight b.edges < 2 ^ 31) c.self.view_is c.check_usable.ensures.content.light))

pub loop-shape-init : goal.loop-shape-init
loop-shape-init g c =
    let ready : c.args.self.now.failed ≡ false = search rules in
    none_added c.args.self.now ready
    (subst (λ b. weight b.edges < 2 ^ 31) c.self.view_is c.check_usable.ensures.content.light)

pub add_shape-requires : goal.add_shape-requires
add_shape-requires g c =
    let paths = paths_of_shape g.I.IntNumber.whole c.shape-item.result.items in
    let i = c.loop-shape.shape-index in
    subst (All (AllInRange g.I.IntNumber.limit))
    (read_mapped (λ s. paths_of_shape g.I.IntNumber.whole s.items) c.args.shapes.now i c.shape-item.result paths
    c.loop-shape-test.true c.shape-item.is)
    (c.requires i paths (rw length-map c.loop-shape-test.true))

pub returns-in_err-add_shape : goal.returns-in_err-add_shape
returns-in_err-add_shape g c =
    let p = err_from_is_err_and c.from_residual-in_err-add_shape.result c.from_residual-in_err-add_shape.ensures.1 in
    rw (p.1, p.2) (next_shape_refused (λ s. paths_of_shape g.I.IntNumber.whole s.items) c.args.shape_type
    c.args.shapes.now c.loop-shape.shape-index
    c.shape-item.result c.loop-shape-test.true c.shape-item.is c.args.self.now c.loop-shape.self c.add_shape.new.self
    c.loop-shape.invariant
    c.in_err-add_shape.field-0.0 c.in_err-add_shape.ensures)

pub loop-shape-preserved : goal.loop-shape-preserved
loop-shape-preserved g c =
    next_shape_added (λ s. paths_of_shape g.I.IntNumber.whole s.items) c.args.shape_type c.args.shapes.now
    c.loop-shape.shape-index
    c.shape-item.result c.loop-shape-test.true c.shape-item.is c.args.self.now c.loop-shape.self c.add_shape.new.self
    c.loop-shape.invariant
    c.in_ok-add_shape.ensures
