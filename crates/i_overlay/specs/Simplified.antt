-- What is left of paths where they are simplified.
use Rattle.std.specs.Prelude.{◌≡◌, ◌≢◌, ◌⊎◌, Bool, List, [], ◌∷◌, Option, Some, None}
use Rattle.std.specs.List.{flat_map}
use Rattle.overlay_geom.specs.Plane.{Point, steps_of}
use Rattle.overlay_geom.specs.Edges.{CountedEdge}
use Rattle.overlay_geom.specs.declared.solver.Solver.{Solver}
use Rattle.overlay_geom.specs.declared.fill_rule.FillRule.{FillRule}
use Rattle.overlay_geom.specs.declared.options.ContourDirection.{ContourDirection}
use Rattle.overlay_geom.specs.declared.options.ShapeType.TheVariants.{Subject}
use Rattle.overlay_plane.specs.ShapesAlone.{EachWindsOnceOrNot}
use Rattle.overlay_plane.specs.ShapeWindings.{steps_of_shapes}
use Rattle.overlay_builder.specs.GivenPaths.{paths_for}
use Rattle.overlay_extract.specs.Results.{Asked, filled_asked, IsResult, IsContoursResult, WindsRoundRegion}
use Rattle.i_overlay.specs.Alone.{IsArrangedAlone}
use Rattle.i_overlay.specs.OneShot.{WindsRoundFarPaths}
use Rattle.i_overlay.specs.Outcome.{IsSimpleAsAdded, IsOutcome, HasOutcome, shapes_left, contours_left}
use Rattle.i_overlay.specs.declared.simplifying.outcome.Outcome.{Outcome}
use Rattle.i_overlay.specs.declared.simplifying.outcome.Outcome.TheVariants.{NotSimple, Empty, AsGiven, Reversed}

-- ---- of a contour, where these edges are left of its own

-- what is left of one that becomes this: where it is not simple, the result of an overlay over the edges
abbrev pub IsLeft : Outcome → Asked → List Point → List CountedEdge → List (List (List Point)) → Type 0
IsLeft NotSimple q ps es shapes = IsResult q es shapes
IsLeft Empty q ps es shapes = shapes ≡ shapes_left Empty ps
IsLeft AsGiven q ps es shapes = shapes ≡ shapes_left AsGiven ps
IsLeft Reversed q ps es shapes = shapes ≡ shapes_left Reversed ps

-- the shapes that it is simplified to
pub record IsSimplifiedContour (q : Asked) (keep : Bool) (ps : List Point) (es : List CountedEdge)
    (shapes : List (List (List Point))) : Type 0 where
  pub outcome : Outcome
  pub becomes : IsOutcome keep q.fill q.output_direction ps es outcome
  pub left : IsLeft outcome q ps es shapes
  -- with the minimum area zero they wind as asked round each point off the edges, whatever becomes of it
  pub winds : q.min_output_area ≡ 0 → WindsRoundRegion q es (steps_of_shapes shapes)
  -- and each shape by itself once, in the output direction, or zero times
  pub each_alone : q.min_output_area ≡ 0 → EachWindsOnceOrNot (filled_asked q) shapes

-- ---- of paths, where these edges are left of theirs

-- the shapes that they are simplified to: of one path it is asked whether it is simple, and of several the shapes are
-- the result of an overlay over the edges
abbrev pub IsSimplified : Asked → Bool → List (List Point) → List CountedEdge → List (List (List Point)) → Type 0
IsSimplified q keep [] es shapes = IsResult q es shapes
IsSimplified q keep (ps ∷ []) es shapes = IsSimplifiedContour q keep ps es shapes
IsSimplified q keep (ps ∷ qs ∷ paths) es shapes = IsResult q es shapes

-- they stay as they are given: one path that is simple, filled, and runs in the output direction
abbrev pub StayAsGiven : Asked → Bool → List (List Point) → List CountedEdge → Type 0
StayAsGiven q keep [] es = ⊥
StayAsGiven q keep (ps ∷ []) es = HasOutcome keep q.fill q.output_direction ps es AsGiven
StayAsGiven q keep (ps ∷ qs ∷ paths) es = ⊥

-- the shapes that an answer stands for: without any, that of the paths as they are given
abbrev pub shapes_answered : List (List Point) → Option (List (List (List Point))) → List (List (List Point))
shapes_answered paths None = paths ∷ []
shapes_answered paths (Some shapes) = shapes

-- ---- of a source, where these edges are left of its paths

-- the shapes that it is simplified to: with the minimum area zero as its paths are, and with a positive one the result
-- of an overlay over the edges, of one path too
pub record IsSimplifiedSource (q : Asked) (keep : Bool) (paths : List (List Point)) (es : List CountedEdge)
    (shapes : List (List (List Point))) : Type 0 where
  pub without_minimum : q.min_output_area ≡ 0 → IsSimplified q keep paths es shapes
  pub with_minimum : q.min_output_area ≢ 0 → IsResult q es shapes

-- the same over some arrangement, by the solver, of its paths alone
pub record IsSimplifiedAlone (solver : Solver) (q : Asked) (keep : Bool) (paths : List (List Point))
    (shapes : List (List (List Point))) : Type 0 where
  pub edges : List CountedEdge
  pub arranged : IsArrangedAlone keep solver (paths_for Subject paths) edges
  pub simplified : IsSimplifiedSource q keep paths edges shapes
  -- with the minimum area zero it winds as asked of the paths, far from them: k rounds moved some point
  pub winds : q.min_output_area ≡ 0 →
      WindsRoundFarPaths arranged.arranged.moving q (paths_for Subject paths) (steps_of_shapes shapes)

-- ---- of contours in one list, where these edges are left of theirs

-- what is left of a contour that becomes this
abbrev pub AreLeft : Outcome → Asked → List Point → List CountedEdge → List (List Point) → Type 0
AreLeft NotSimple q ps es contours = IsContoursResult q es contours
AreLeft Empty q ps es contours = contours ≡ contours_left Empty ps
AreLeft AsGiven q ps es contours = contours ≡ contours_left AsGiven ps
AreLeft Reversed q ps es contours = contours ≡ contours_left Reversed ps

-- the contours that one is simplified to
pub record AreOfContour (q : Asked) (keep : Bool) (ps : List Point) (es : List CountedEdge)
    (contours : List (List Point)) : Type 0 where
  pub outcome : Outcome
  pub becomes : IsOutcome keep q.fill q.output_direction ps es outcome
  pub left : AreLeft outcome q ps es contours
  -- with the minimum area zero they wind as asked round each point off the edges, whatever becomes of it
  pub winds : q.min_output_area ≡ 0 → WindsRoundRegion q es (flat_map steps_of contours)

-- the contours that several are simplified to: of one it is asked whether it is simple, whatever the minimum area is,
-- and of several they are the result of an overlay over the edges
abbrev pub AreSimplified : Asked → Bool → List (List Point) → List CountedEdge → List (List Point) → Type 0
AreSimplified q keep [] es contours = IsContoursResult q es contours
AreSimplified q keep (ps ∷ []) es contours = AreOfContour q keep ps es contours
AreSimplified q keep (ps ∷ qs ∷ paths) es contours = IsContoursResult q es contours

-- what becomes of them all: of one that or this, and several have to be cut
abbrev pub IsOutcomeOfAll : Bool → FillRule → ContourDirection → List (List Point) → List CountedEdge → Outcome → Type 0
IsOutcomeOfAll keep fill output [] es outcome = outcome ≡ NotSimple
IsOutcomeOfAll keep fill output (ps ∷ []) es outcome = IsOutcome keep fill output ps es outcome
IsOutcomeOfAll keep fill output (ps ∷ qs ∷ paths) es outcome = outcome ≡ NotSimple

-- they are cut: they are not one contour that is simple
abbrev pub AreCut : Bool → List (List Point) → List CountedEdge → Type 0
AreCut keep [] es = Unit {0}
AreCut keep (ps ∷ []) es = ¬ (IsSimpleAsAdded keep ps es)
AreCut keep (ps ∷ qs ∷ paths) es = Unit {0}

-- points and ranges stay as they were, or there are none
abbrev pub StayOrAreGone : {X Y : Type 0} → (old_points points : List X) → (old_ranges ranges : List Y) → Type 0
StayOrAreGone old_points points old_ranges ranges =
    ((points ≡ old_points) × (ranges ≡ old_ranges)) ⊎ ((points ≡ []) × (ranges ≡ []))
