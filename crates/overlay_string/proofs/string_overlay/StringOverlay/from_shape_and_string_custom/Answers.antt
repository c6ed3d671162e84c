-- The strings are added after the shape.
use Rattle.std.proofs.Common.{ap}
use Rattle.std.proofs.lemmas.Result.{err_from_is_err_and}
use Rattle.overlay_string.specs.StringPaths.{shape_contours, open_strings}
use Rattle.overlay_string.proofs.TwoSources.{first_paths_refused, second_paths_refused, both_held}
use Rattle.overlay_string.proofs.string_overlay.StringOverlay.from_shape_and_string_custom.Goals as goal

pub returns-in_err-overlay-clause-err : goal.returns-in_err-overlay-clause-err
returns-in_err-overlay-clause-err g c =
    let shape = shape_contours (g.R0.IntShapeResource.paths c.args.shape.now) in
    let string = open_strings (g.R1.IntShapeResource.paths c.args.string.now) in
    let p = err_from_is_err_and c.from_residual.result c.from_residual.ensures.1 in
    rw (p.1, p.2) (first_paths_refused shape string c.in_err-overlay.field-0.0 c.in_err-overlay.ensures.err)

pub returns-in_err-add_string_source-clause-err : goal.returns-in_err-add_string_source-clause-err
returns-in_err-add_string_source-clause-err g c =
    let shape = shape_contours (g.R0.IntShapeResource.paths c.args.shape.now) in
    let string = open_strings (g.R1.IntShapeResource.paths c.args.string.now) in
    let made = c.in_ok-overlay.ensures.made in
    let p = err_from_is_err_and c.from_residual-in_err-add_string_source.result
    c.from_residual-in_err-add_string_source.ensures.1 in
    rw (p.1, p.2) (second_paths_refused shape string c.in_ok-overlay.overlay c.add_string_source.new.self
    c.in_ok-overlay.ensures.ok.added (ap (λ b. b.failed) made) c.in_err-add_string_source.field-0.0
    c.in_err-add_string_source.ensures)

pub returns-clause-ok : goal.returns-clause-ok
returns-clause-ok g c =
    let shape = shape_contours (g.R0.IntShapeResource.paths c.args.shape.now) in
    let string = open_strings (g.R1.IntShapeResource.paths c.args.string.now) in
    both_held shape string c.in_ok-overlay.overlay c.add_string_source.new.self c.in_ok-overlay.ensures.ok.added
    c.in_ok-add_string_source.ensures
