-- Windings of two shapes below the edges through a plain point and above them, and the sides that they fill.
use Rattle.std.specs.Prelude.{◌≡◌, ℕ, ℤ, Bool, List}
use Rattle.overlay_geom.specs.Edges.{CountedEdge, subj_of, clip_of, winding_by}
use Rattle.overlay_geom.specs.Numbers.{Within}
use Rattle.overlay_geom.specs.Plane.{PlanePoint}
use Rattle.overlay_scaled.specs.Through.{winding_over}
use Rattle.overlay_given.specs.declared.beside.Beside.{Beside}
use Rattle.overlay_given.specs.declared.sides.FilledSides.{FilledSides}

-- each of the numbers is at most m away from 0
pub record IsNear (m : ℕ) (b : Beside) : Type 0 where
  pub subj_below : Within m b.subj_below
  pub subj_above : Within m b.subj_above
  pub clip_below : Within m b.clip_below
  pub clip_above : Within m b.clip_above

-- the sides that windings fill
abbrev pub filled_beside : (ℤ → Bool) → Beside → FilledSides
filled_beside filled b = record {
  subj_above = filled b.subj_above;
  subj_below = filled b.subj_below;
  clip_above = filled b.clip_above;
  clip_below = filled b.clip_below;
}

-- these are the windings below and above the edges through p
pub record WindBeside (es : List CountedEdge) (p : PlanePoint) (b : Beside) : Type 0 where
  pub subj_below : b.subj_below ≡ winding_by subj_of es p
  pub subj_above : b.subj_above ≡ winding_over subj_of es p
  pub clip_below : b.clip_below ≡ winding_by clip_of es p
  pub clip_above : b.clip_above ≡ winding_over clip_of es p
