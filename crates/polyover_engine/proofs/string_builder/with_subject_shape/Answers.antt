use Rattle.std.proofs.Common.{sym, subst, refl, arith}
use Rattle.std.proofs.lemmas.List.{length-map, take_all}
use Rattle.std.proofs.lemmas.Result.{err_from_is_err_and}
use Rattle.overlay_geom.specs.Points.{AllInRange}
use Rattle.overlay_geom.specs.Numbers.{greatest_of_64_bits}
use Rattle.overlay_string.specs.StringPaths.{shape_contours}
use Rattle.polyover_text.specs.Statements.{path_at, contour_at, contours_at}
use Rattle.polyover_engine.specs.Clips.{HoldsJust}
use Rattle.polyover_engine.specs.Subjects.{subject_of}
use Rattle.polyover_engine.proofs.Builders.{given_here, contour_here}
use Rattle.polyover_engine.proofs.Clips.{nothing_held, one_more_shape, shape_refused}
use Rattle.polyover_engine.proofs.string_builder.with_subject_shape.Goals as goal

pub loop-given-init : goal.loop-given-init
loop-given-init g c = nothing_held _ c.in_ok-overlay.ensures.empty c.in_ok-overlay.ensures.made.ready

pub add-requires : goal.add-requires
add-requires g c =
    let here = contour_here c.args.contours.now _ _ c.given-item.result refl c.loop-given-test.true c.given-item.is in
    subst (λ x. AllInRange greatest_of_64_bits x.points) (sym here.1)
    (c.requires c.loop-given.given-index (path_at c.given-item.result.contour) here.0)

pub returns-in_err-add : goal.returns-in_err-add
returns-in_err-add g c =
    let p = err_from_is_err_and c.from_residual-in_err-add.result c.from_residual-in_err-add.ensures.1 in
    let here = given_here c.args.contours.now _ _ c.given-item.result refl c.loop-given-test.true c.given-item.is in
    rw (p.1, p.2) (shape_refused _ c.loop-given.given-index (contour_at c.given-item.result) here.0 here.1 _
    (c.in_err-add.ensures _ c.loop-given.invariant))

pub loop-given-preserved : goal.loop-given-preserved
loop-given-preserved g c =
    let here = given_here c.args.contours.now _ _ c.given-item.result refl c.loop-given-test.true c.given-item.is in
    one_more_shape _ c.loop-given.given-index (contour_at c.given-item.result) here.0 here.1 _
    (c.in_ok-add.ensures _ c.loop-given.invariant)

pub returns : goal.returns
returns g c =
    subst (λ l. HoldsJust (shape_contours (subject_of l)) c.loop-given.overlay)
    (take_all c.loop-given.given-index (contours_at c.args.contours.now)
    (omega (arith, length-map c.args.contours.now contour_at)))
    c.loop-given.invariant
