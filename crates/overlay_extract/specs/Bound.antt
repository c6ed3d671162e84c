-- Loops of filled sides as contours: outlines and holes, and what is true of them where they are bound to shapes.
use Rattle.std.specs.Prelude.{ℕ, suc, Bool, true, false, ℤ, List, [], ◌∷◌, Contains, filter}
use Rattle.overlay_geom.specs.Plane.{Step, Edge}
use Rattle.overlay_geom.specs.Edges.{CountedEdge}
use Rattle.overlay_plane.specs.Anchors.{IsAnchor}
use Rattle.overlay_plane.specs.KeptContours.{CanBeBound}
use Rattle.overlay_plane.specs.Nodes.{IsBalancedArrangement}
use Rattle.overlay_plane.specs.RoledContours.{Contour, outline_of, hole_to_bind}
use Rattle.overlay_plane.specs.SelectedSteps.{step_with_left}
use Rattle.overlay_plane.specs.Turn.Hand.{left}
use Rattle.overlay_extract.specs.FilledSides.{filled_sides}
use Rattle.overlay_extract.specs.Loops.{AreLoops}

-- the loop, of steps with the filled side on the left, passes the edge of its anchor with the filled side above, or
-- below
pub record PassesAnchor (above : Bool) (loop : List Step) : Type 0 where
  pub anchor : Edge
  pub is_anchor : IsAnchor loop anchor
  pub passes : Contains loop (step_with_left above anchor)

-- the contours have their roles, the outlines numbered from n on: a hole passes the edge of its anchor with the filled
-- side below, and an outline with it above
pub data HaveRoles : ℕ → List Contour → Type 0 where
  none : {n : ℕ} → HaveRoles n []
  an_outline : {n : ℕ} {loop : List Step} {rest : List Contour} → PassesAnchor true loop → HaveRoles (suc n) rest →
      HaveRoles n (outline_of n loop ∷ rest)
  a_hole : {n : ℕ} {loop : List Step} {rest : List Contour} → PassesAnchor false loop → HaveRoles n rest →
      HaveRoles n (hole_to_bind loop ∷ rest)

-- ---- laws

-- loops of filled sides, as far as they pass a test, can be bound
abbrev pub LoopsCanBeBound : Type 0
LoopsCanBeBound = (fills : ℤ → Bool) (count : CountedEdge → ℤ) (es : List CountedEdge) →
    IsBalancedArrangement count es → (loops : List (List Step)) → AreLoops (filled_sides fills count es) loops →
    (keeps : List Step → Bool) → CanBeBound left (filter keeps loops)
