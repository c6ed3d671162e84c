-- Tests of the filled sides of pieces.
use Rattle.std.specs.Prelude.{Bool, ℤ, List}
use Rattle.overlay_geom.specs.Edges.{CountedEdge, subj_of, clip_of}
use Rattle.overlay_geom.specs.Plane.{PlanePoint}
use Rattle.overlay_plane.specs.Predicates.{fills_at}
use Rattle.overlay_scaled.specs.PlainContacts.{fills_over, fill_both, fill_one, border_subject, border_clip}
use Rattle.overlay_scaled.specs.PlainRelations.{subject_fills, clip_fills, subject_pokes_out, clip_pokes_out}
use Rattle.overlay_given.specs.declared.sides.FilledSides.{FilledSides}
use Rattle.overlay_given.specs.declared.sides.SideTest.{SideTest}
use Rattle.overlay_given.specs.declared.sides.SideTest.TheVariants.{BothShapes, CommonSide, SubjectSide, SubjectOutside}
use Rattle.overlay_given.specs.declared.sides.SideTest.TheVariants.{ClipSide, ClipOutside, SubjectBorder, ClipBorder}

-- the four fillings of a test: subject above and below, clip above and below
abbrev pub passing : SideTest → Bool → Bool → Bool → Bool → Bool
passing BothShapes = fill_both
passing CommonSide = fill_one
passing SubjectSide = subject_fills
passing SubjectOutside = subject_pokes_out
passing ClipSide = clip_fills
passing ClipOutside = clip_pokes_out
passing SubjectBorder = border_subject
passing ClipBorder = border_clip

-- filled sides pass the test
abbrev pub sides_pass : SideTest → FilledSides → Bool
sides_pass test s = passing test s.subj_above s.subj_below s.clip_above s.clip_below

-- the sides that the shapes fill beside the edges through p
abbrev pub sides_at : (ℤ → Bool) → List CountedEdge → PlanePoint → FilledSides
sides_at filled es p = record {
  subj_above = fills_over filled es subj_of p;
  subj_below = fills_at filled es subj_of p;
  clip_above = fills_over filled es clip_of p;
  clip_below = fills_at filled es clip_of p;
}
