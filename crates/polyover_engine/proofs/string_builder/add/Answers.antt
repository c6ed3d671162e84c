use Rattle.std.proofs.Common.{[], ◌∷◌, subst}
use Rattle.overlay_string.specs.StringPaths.{shape_contours}
use Rattle.polyover_text.specs.Points.{points_at}
use Rattle.polyover_engine.specs.Clips.{AddsToHeld}
use Rattle.polyover_engine.proofs.Clips.{adds_path, adds_no_path}
use Rattle.polyover_engine.proofs.string_builder.add.Goals as goal

pub add_shape_contour-requires : goal.add_shape_contour-requires
add_shape_contour-requires g c = rw c.deref.ensures.value c.requires

pub returns-in-Subject : goal.returns-in-Subject
returns-in-Subject g c =
    rw c.in-Subject.is
    (subst (λ ps. AddsToHeld (shape_contours (points_at ps ∷ [])) c.args.overlay.now c.add_shape_contour.new.self
    c.add_shape_contour.result) c.deref.ensures.value
    (adds_path _ _ _ _ c.add_shape_contour.ensures))

pub returns-in-Clip : goal.returns-in-Clip
returns-in-Clip g c = rw c.in-Clip.is (adds_no_path {V = Unit {0}} c.args.overlay.now tt)
