use Rattle.std.proofs.Common.{Err, ap, sym, subst, refl, arith, ◌∙◌}
use Rattle.std.proofs.lemmas.Bool.{false≢true}
use Rattle.std.proofs.lemmas.List.{length-map, take_all}
use Rattle.std.proofs.lemmas.Result.{err_from_is_err_and}
use Rattle.overlay_geom.specs.Edges.{AddsContour}
use Rattle.overlay_geom.specs.Points.{AllInRange}
use Rattle.overlay_geom.specs.Numbers.{greatest_of_64_bits}
use Rattle.overlay_order.specs.Content.{edge_for}
use Rattle.overlay_builder.specs.GivenPaths.{ContourWeighsTooMuch}
use Rattle.polyover_text.specs.Grammar.{contour_paths}
use Rattle.polyover_text.specs.Points.{points_at}
use Rattle.polyover_text.specs.Statements.{path_at, contour_at, contours_at}
use Rattle.polyover_engine.specs.Builders.{HasAdded}
use Rattle.polyover_engine.proofs.Builders.{nothing_added, contour_here, one_more_added, contour_refused}
use Rattle.polyover_engine.proofs.builder.with_contours.Goals as goal

pub loop-given-init : goal.loop-given-init
loop-given-init g c = nothing_added _ c.in_ok-overlay.ensures.empty c.in_ok-overlay.ensures.made

pub add_contour-requires : goal.add_contour-requires
add_contour-requires g c =
    let here = contour_here c.args.contours.now _ _ c.given-item.result refl c.loop-given-test.true c.given-item.is in
    subst (λ ps. AllInRange greatest_of_64_bits (points_at ps)) (sym c.deref.ensures.value)
    (subst (λ x. AllInRange greatest_of_64_bits x.points) (sym here.1)
    (c.requires c.loop-given.given-index (path_at c.given-item.result.contour) here.0))

pub returns-in_err-add_contour : goal.returns-in_err-add_contour
returns-in_err-add_contour g c =
    let p = err_from_is_err_and c.from_residual-in_err-add_contour.result
    c.from_residual-in_err-add_contour.ensures.1 in
    let here = contour_here c.args.contours.now _ _ c.given-item.result refl c.loop-given-test.true c.given-item.is in
    let added = c.in_err-add_contour.ensures.added in
    let b = c.loop-given.overlay in
    let held = c.loop-given.invariant in
    rw (p.1, p.2) (contour_refused _ c.loop-given.given-index (path_at c.given-item.result.contour) b.edges
    held.holds here.0 here.1 _
    (λ same. false≢true (sym held.made.ready ∙ added.failed.0 (ap Err same)))
    (λ same. subst (λ keep. ContourWeighsTooMuch keep c.given-item.result.contour.shape_type
    (points_at c.given-item.result.contour.points.items) b.edges) held.made.options.input_kept
    (subst (λ ps. ContourWeighsTooMuch b.options.preserve_input_collinear c.given-item.result.contour.shape_type
    (points_at ps) b.edges)
    c.deref.ensures.value (added.too_many (ap Err same))))
    (λ same. added.no_query (ap Err same)))

pub loop-given-preserved : goal.loop-given-preserved
loop-given-preserved g c =
    let here = contour_here c.args.contours.now _ _ c.given-item.result refl c.loop-given-test.true c.given-item.is in
    let e = c.in_ok-add_contour.ensures in
    let b = c.loop-given.overlay in
    one_more_added _ c.loop-given.given-index (path_at c.given-item.result.contour) b c.add_contour.new.self
    c.loop-given.invariant here.0 here.1
    (subst
    (λ ps. AddsContour b.options.preserve_input_collinear (edge_for c.given-item.result.contour.shape_type)
    (points_at ps) b.edges c.add_contour.new.self.edges)
    c.deref.ensures.value e.added.ok)
    e.added.light e.kept

pub returns : goal.returns
returns g c =
    let cs = contour_paths (contours_at c.args.contours.now) in
    subst (λ l. HasAdded l c.loop-given.overlay)
    (take_all c.loop-given.given-index cs
    (omega (
      arith,
      length-map c.args.contours.now contour_at,
      length-map (contours_at c.args.contours.now)
          (λ d. d.path),
    )))
    c.loop-given.invariant
