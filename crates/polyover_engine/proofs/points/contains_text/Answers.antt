use Rattle.std.proofs.Common.{sym, subst, ap, ◌∙◌, [], ◌∷◌}
use Rattle.std.specs.Prelude.{All}
use Rattle.std.specs.List.{flat_map}
use Rattle.std.proofs.lemmas.List.Elements.{All-nil, All-cons}
use Rattle.std.proofs.lemmas.Result.{err_from_is_err_and}
use Rattle.overlay_geom.specs.Paths.{paths_of_shape}
use Rattle.overlay_geom.specs.Points.{AllInRange}
use Rattle.overlay_geom.specs.Resolved.{IsResolved}
use Rattle.overlay_geom.specs.Numbers.{greatest_of_64_bits}
use Rattle.overlay_relate.specs.Answers.{AnswersWhether}
use Rattle.overlay_relate.specs.Locations.{is_in_shapes, shapes_edges}
use Rattle.polyover_text.specs.Points.{points_at}
use Rattle.polyover_text.specs.Printed.{truth_line}
use Rattle.polyover_text.specs.Statements.{contours_at, figures_at}
use Rattle.polyover_engine.specs.Subjects.{HasNoSubject}
use Rattle.polyover_engine.proofs.Located.{tells_inside, nothing_inside}
use Rattle.polyover_engine.proofs.points.contains_text.Goals as goal

pub contains_points-requires-clause-self_in_range : goal.contains_points-requires-clause-self_in_range
contains_points-requires-clause-self_in_range g c =
    let P = All (AllInRange greatest_of_64_bits) in
    All-cons P _ [] (subst (λ cs. P (paths_of_shape (λ z. z) cs)) (sym c.deref-2.ensures.value)
    c.in_ok-shape.ensures.in_range) (All-nil P)

pub contains_points-requires-clause-resolved : goal.contains_points-requires-clause-resolved
contains_points-requires-clause-resolved g c =
    let P = All IsResolved in
    All-cons P _ [] (subst (λ cs. P (paths_of_shape (λ z. z) cs)) (sym c.deref-2.ensures.value)
    c.in_ok-shape.ensures.resolved) (All-nil P)

pub contains_points-requires-clause-points_in_range : goal.contains_points-requires-clause-points_in_range
contains_points-requires-clause-points_in_range g c =
    subst (λ l. AllInRange greatest_of_64_bits (points_at l)) (sym c.deref-3.ensures.value) c.requires.points

pub returns-in_err-shape : goal.returns-in_err-shape
returns-in_err-shape g c =
    let p = err_from_is_err_and c.from_residual.result c.from_residual.ensures.1 in
    rw (p.1, p.2) (nothing_inside (figures_at c.args.input.now.figures) c.args.input.now.line _
    (subst (λ cs. HasNoSubject (contours_at cs) c.in_err-shape.field-0.0) c.deref.ensures.value
    c.in_err-shape.ensures))

pub returns : goal.returns
returns g c = (
  c.in_ok-truths.truths.items,
  tells_inside (figures_at c.args.input.now.figures) _ _ _ (ap contours_at c.deref.ensures.value)
      (ap points_at c.deref-3.ensures.value) c.in_ok-shape.ensures
      _ (subst (λ cs. AnswersWhether (shapes_edges (paths_of_shape (λ z. z) cs ∷ []))
      (is_in_shapes (paths_of_shape (λ z. z) cs ∷ [])) (points_at c.deref-3.result.now) c.in_ok-truths.truths.items)
      c.deref-2.ensures.value c.in_ok-truths.ensures.inside),
  c.in_ok-truths_text.ensures ∙ ap (flat_map truth_line) c.deref-4.ensures.value,
)
