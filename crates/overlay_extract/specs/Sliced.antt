-- What slicing answers: the loops of filled sides that reach the minimum area, in the shapes to which the holes among
-- them are bound, by the points at which their steps begin.
use Rattle.std.specs.Prelude.{◌≡◌, ◌↔◌, ℕ, true, false, List, [], ◌∷◌, All, Contains, map, reverse, Option}
use Rattle.std.specs.Int.{Width}
use Rattle.std.specs.List.{flat_map}
use Rattle.overlay_geom.specs.Plane.{Point, PlanePoint, Step, IsOff, reversed_step, backward, steps_of, winding}
use Rattle.overlay_geom.specs.Edges.{CountedEdge, ends_of, subj_of, clip_of}
use Rattle.overlay_geom.specs.Rules.{is_filled, rules_hold}
use Rattle.overlay_geom.specs.declared.fill_rule.FillRule.{FillRule}
use Rattle.overlay_geom.specs.declared.options.ContourDirection.{ContourDirection}
use Rattle.overlay_geom.specs.declared.options.ContourDirection.TheVariants.{CounterClockwise, Clockwise}
use Rattle.overlay_geom.specs.declared.overlay_rule.OverlayRule.TheVariants.{Subject}
use Rattle.overlay_plane.specs.BesideOrbits.{HasEachOnce}
use Rattle.overlay_plane.specs.BoundContours.{NoHoleIsLost}
use Rattle.overlay_plane.specs.ContourWindings.{wanted_winding}
use Rattle.overlay_plane.specs.Groups.{HasEachPointOnce}
use Rattle.overlay_plane.specs.Nodes.{IsBalancedArrangement}
use Rattle.overlay_plane.specs.RoledContours.{Contour}
use Rattle.overlay_plane.specs.ShapesAlone.{EachWindsOnceOrNot}
use Rattle.overlay_plane.specs.ShapeWindings.{steps_of_shapes}
use Rattle.overlay_walk.specs.Steps.{filled_hand}
use Rattle.overlay_extract.specs.Laws.{NoTwoWindRound}
use Rattle.overlay_extract.specs.Results.{shapes_found}
use Rattle.overlay_extract.specs.Bound.{PassesAnchor}
use Rattle.overlay_extract.specs.FilledSides.{filled_sides, IsInOneOrbit}
use Rattle.overlay_extract.specs.Slices.{AreSlices}
use Rattle.overlay_extract.specs.Tours.{LiesInOneOrbit}

-- the points of a contour that has its filled side on the left, as it is walked in the output direction: in the
-- opposite order where that is clockwise
abbrev pub in_direction : ContourDirection → List Point → List Point
in_direction CounterClockwise ps = ps
in_direction Clockwise ps = reverse ps

-- the shapes to which contours are bound, by the points of the contours in the output direction
abbrev pub slices_shown : ContourDirection → List Contour → List (Option ℕ) → List (List (List Point))
slices_shown direction contours shapes = map (map (in_direction direction)) (shapes_found contours shapes)

-- the steps of a contour of the output that have its filled side on the left: they are walked back where the output is
-- clockwise
abbrev pub left_steps : ContourDirection → List Point → List Step
left_steps CounterClockwise ps = steps_of ps
left_steps Clockwise ps = backward (steps_of ps)

-- those of all contours of shapes
abbrev pub left_steps_of_shapes : ContourDirection → List (List (List Point)) → List Step
left_steps_of_shapes direction shapes = flat_map (flat_map (left_steps direction)) shapes

-- the steps along the edges that have, on their left, a side that the subject fills under the rule
abbrev pub sides_under : FillRule → List CountedEdge → List Step
sides_under fill es = filled_sides (is_filled fill) subj_of es

-- the first contour is an outline, which passes the edge of its anchor with the filled side above; the others are
-- holes, and pass theirs with the filled side below
abbrev pub IsOutlineWithHoles : ContourDirection → List (List Point) → Type 0
IsOutlineWithHoles direction [] = ⊥
IsOutlineWithHoles direction (outline ∷ holes) = PassesAnchor true (left_steps direction outline)
    × All (λ h. PassesAnchor false (left_steps direction h)) holes

-- round each point off the edges the steps wind once, in the output direction, where the subject is filled, and zero
-- times elsewhere
abbrev pub WindsRoundFilled : FillRule → ContourDirection → List CountedEdge → List Step → Type 0
WindsRoundFilled fill direction es steps = (p : PlanePoint) → IsOff (map ends_of es) p →
    winding steps p ≡ wanted_winding (rules_hold fill Subject) subj_of clip_of (filled_hand direction) es p

-- the shapes into which what the subject fills is sliced along the edges, where contours below the minimum area, in a
-- type of this width, are left out
pub record IsSliced (width : Width) (min : ℕ) (fill : FillRule) (direction : ContourDirection) (es : List CountedEdge)
    (result : List (List (List Point))) : Type 0 where
  -- ---- the promise: the region, with the minimum area zero
  -- round each point off the edges the result winds as what is filled asks
  pub winds : min ≡ 0 → WindsRoundFilled fill direction es (steps_of_shapes result)
  -- and each shape by itself winds once, in the output direction, round a point, or zero times
  pub each_alone : min ≡ 0 → EachWindsOnceOrNot (filled_hand direction) result
  -- ---- the promise: which contours there are, and where each stands
  -- the loops into which the filled sides are cut, as far as they reach the minimum area; of those that are holes, the
  -- shape: the parent, or the one shape that there is
  pub contours : List Contour
  pub shapes : List (Option ℕ)
  pub slices : AreSlices width min fill es contours shapes
  -- the result shows them, in their shapes and their order, with all of their points
  pub shown : result ≡ slices_shown direction contours shapes
  -- ---- what follows
  -- the steps of the result, with the filled side on the left, are filled sides, none of them twice
  pub are_sides : All (Contains (sides_under fill es)) (left_steps_of_shapes direction result)
  pub at_most_once : HasEachOnce (left_steps_of_shapes direction result)
  -- those of a contour lie in one orbit
  pub one_orbit : All (All (λ c. LiesInOneOrbit (sides_under fill es) (left_steps direction c))) result
  -- no contour visits a point twice
  pub points_once : All (All HasEachPointOnce) result
  -- each shape is an outline and its holes
  pub roles : All (IsOutlineWithHoles direction) result
  -- ---- what follows, with the minimum area zero
  -- no hole is lost
  pub none_lost : min ≡ 0 → NoHoleIsLost contours shapes
  -- a filled side is missing exactly where its reverse is a filled side too, and lies in the same orbit
  pub missing : min ≡ 0 → (s : Step) → Contains (sides_under fill es) s →
      ¬ (Contains (left_steps_of_shapes direction result) s) ↔ IsInOneOrbit (sides_under fill es) s (reversed_step s)
  -- ---- what laws of filled sides ask of the edges
  -- they lead forward and meet in ends alone, and the subject's counts are balanced
  pub balanced : IsBalancedArrangement subj_of es

-- ---- laws

-- with the minimum area zero no two different shapes of a result both wind round a point off the edges
abbrev pub NoTwoSlicesWindRoundOnePoint : Type 0
NoTwoSlicesWindRoundOnePoint = (width : Width) (min : ℕ) (fill : FillRule) (direction : ContourDirection)
    (es : List CountedEdge) (result : List (List (List Point))) → min ≡ 0 →
    IsSliced width min fill direction es result → (p : PlanePoint) → IsOff (map ends_of es) p → NoTwoWindRound result p
