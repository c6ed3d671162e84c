use Rattle.std.proofs.Common.{sym, subst, refl, arith}
use Rattle.std.proofs.lemmas.List.{length-map, take_all}
use Rattle.std.proofs.lemmas.Result.{err_from_is_err_and}
use Rattle.overlay_geom.specs.Points.{AllInRange}
use Rattle.overlay_geom.specs.Paths.{paths_of_shape}
use Rattle.overlay_geom.specs.Numbers.{greatest_of_64_bits}
use Rattle.polyover_text.specs.Statements.{path_at, contour_at, contours_at}
use Rattle.polyover_engine.specs.Subjects.{IsSubject}
use Rattle.polyover_engine.proofs.Builders.{given_here, contour_here}
use Rattle.polyover_engine.proofs.Subjects.{one_more_taken, contour_not_taken}
use Rattle.polyover_engine.proofs.subject.subject.Goals as goal

pub add-requires : goal.add-requires
add-requires g c =
    let here = contour_here c.args.contours.now _ _ c.given-item.result refl c.loop-given-test.true c.given-item.is in
    subst (λ x. AllInRange greatest_of_64_bits x.points) (sym here.1)
    (c.requires c.loop-given.given-index (path_at c.given-item.result.contour) here.0)

pub returns-in_err-add : goal.returns-in_err-add
returns-in_err-add g c =
    let p = err_from_is_err_and c.from_residual.result c.from_residual.ensures.1 in
    let here = given_here c.args.contours.now _ _ c.given-item.result refl c.loop-given-test.true c.given-item.is in
    rw (p.1, p.2) (contour_not_taken _ c.loop-given.given-index (contour_at c.given-item.result) _
    c.loop-given.invariant here.0 here.1 _ c.in_err-add.ensures)

pub loop-given-preserved : goal.loop-given-preserved
loop-given-preserved g c =
    let here = given_here c.args.contours.now _ _ c.given-item.result refl c.loop-given-test.true c.given-item.is in
    one_more_taken _ c.loop-given.given-index (contour_at c.given-item.result) _ c.loop-given.invariant here.0 here.1 _
    c.in_ok-add.ensures

pub returns : goal.returns
returns g c =
    subst (λ l. IsSubject l (paths_of_shape (λ z. z) c.loop-given.shape.items))
    (take_all c.loop-given.given-index (contours_at c.args.contours.now)
    (omega (arith, length-map c.args.contours.now contour_at)))
    c.loop-given.invariant
