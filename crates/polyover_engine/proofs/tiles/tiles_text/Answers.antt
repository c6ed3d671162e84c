use Rattle.std.proofs.Common.{inr, refl, sym, ap, subst, ◌∙◌}
use Rattle.std.proofs.lemmas.Bool.{iff_false}
use Rattle.std.proofs.lemmas.Result.{err_from_is_err_and}
use Rattle.std.specs.Int.{w128}
use Rattle.std.specs.Prelude.{All}
use Rattle.overlay_geom.specs.Paths.{plain_shapes}
use Rattle.overlay_geom.specs.Points.{AllInRange}
use Rattle.overlay_geom.specs.Numbers.{greatest_of_64_bits}
use Rattle.overlay_geom.specs.declared.solver.Solver.TheVariants.{Rounds}
use Rattle.overlay_tiles.specs.Grids.{FitsGrid}
use Rattle.overlay_tiles.specs.Spans.{points_of_paths}
use Rattle.overlay_tiles.specs.Tiles.{AreTiles, MayRefuseTiles}
use Rattle.polyover_text.specs.Printed.{lines_of_shapes}
use Rattle.polyover_text.specs.Statements.{contours_at, figures_at}
use Rattle.polyover_engine.specs.Borrowed.{points_of_each}
use Rattle.polyover_engine.specs.Subjects.{subject_of}
use Rattle.polyover_engine.proofs.Slices.{subject_in_range}
use Rattle.polyover_engine.proofs.tiles.tiles_text.Goals as goal

pub grid_fits-requires : goal.grid_fits-requires
grid_fits-requires g c =
    let fs = figures_at c.args.input.now.figures in
    subst (All (AllInRange greatest_of_64_bits))
    (sym (c.in_ok-subject.ensures.ok ∙ ap (λ l. subject_of (contours_at l)) c.deref.ensures.value))
    (subject_in_range fs.contours c.requires.contours)

pub slice_by_grid-requires-clause-in_range : goal.slice_by_grid-requires-clause-in_range
slice_by_grid-requires-clause-in_range g c =
    let fs = figures_at c.args.input.now.figures in
    subst (All (AllInRange greatest_of_64_bits))
    (sym (c.in_ok-subject.ensures.ok ∙ ap (λ l. subject_of (contours_at l)) c.deref.ensures.value))
    (subject_in_range fs.contours c.requires.contours)

pub returns-then-not-grid_fits : goal.returns-then-not-grid_fits
returns-then-not-grid_fits g c =
    let shape = c.in_ok-subject.ensures.ok ∙ ap (λ l. subject_of (contours_at l)) c.deref.ensures.value in
    inr (
      λ fits. iff_false c.grid_fits.ensures c.if-not-grid_fits.true
          (subst (λ cells. FitsGrid greatest_of_64_bits cells.width cells.height (points_of_paths
          (points_of_each c.in_ok-subject.subject.contours.items))) (sym c.grid_of-grid.ensures)
          (subst (λ paths. FitsGrid greatest_of_64_bits c.args.query.width c.args.query.height (points_of_paths paths))
          (sym shape) fits)),
      refl,
    )

pub returns-in_err-tiles : goal.returns-in_err-tiles
returns-in_err-tiles g c =
    let shape = c.in_ok-subject.ensures.ok ∙ ap (λ l. subject_of (contours_at l)) c.deref.ensures.value in
    let p = err_from_is_err_and c.from_residual-in_err-tiles.result c.from_residual-in_err-tiles.ensures.1 in
    rw (p.1, p.2)
    (inr (
      subst (λ paths. FitsGrid greatest_of_64_bits c.args.query.width c.args.query.height (points_of_paths paths))
          shape (subst (λ cells. FitsGrid greatest_of_64_bits cells.width cells.height (points_of_paths
          (points_of_each c.in_ok-subject.subject.contours.items))) c.grid_of-grid.ensures
          (c.grid_fits.ensures.0 c.if-not-grid_fits.false)),
      subst (λ paths. MayRefuseTiles Rounds c.args.query.width c.args.query.height paths c.in_err-tiles.field-0.0) shape
          (subst (λ cells. MayRefuseTiles Rounds cells.width cells.height
          (points_of_each c.in_ok-subject.subject.contours.items) c.in_err-tiles.field-0.0) c.grid_of-grid.ensures
          c.in_err-tiles.ensures.err),
    ))

pub returns : goal.returns
returns g c =
    let shape = c.in_ok-subject.ensures.ok ∙ ap (λ l. subject_of (contours_at l)) c.deref.ensures.value in
    let tiles = plain_shapes (λ z. z) c.in_ok-tiles.tiles.items in (
      tiles,
      subst (λ paths. FitsGrid greatest_of_64_bits c.args.query.width c.args.query.height (points_of_paths paths)) shape
          (subst (λ cells. FitsGrid greatest_of_64_bits cells.width cells.height (points_of_paths
          (points_of_each c.in_ok-subject.subject.contours.items))) c.grid_of-grid.ensures
          (c.grid_fits.ensures.0 c.if-not-grid_fits.false)),
      subst (λ paths. AreTiles Rounds w128 c.args.query.fill_rule c.args.query.width c.args.query.height paths tiles)
          shape
          (subst (λ cells. AreTiles Rounds w128 c.args.query.fill_rule cells.width cells.height
          (points_of_each c.in_ok-subject.subject.contours.items) tiles) c.grid_of-grid.ensures
          c.in_ok-tiles.ensures.sliced),
      c.in_ok-shapes_text.ensures ∙ ap (λ l. lines_of_shapes (plain_shapes (λ z. z) l)) c.deref-2.ensures.value,
    )
