-- By snap rounding what holds of points more than k/2 away, k rounds having moved some point, holds of those more than
-- 1/2 away.
use Rattle.std.proofs.Common.{ℕ, ◌≤◌, List, All, refl}
use Rattle.std.proofs.lemmas.List.Elements.{All-weaker}
use Rattle.overlay_geom.specs.Plane.{Point, PlanePoint, Step, path_steps, steps_of}
use Rattle.overlay_geom.specs.declared.fill_rule.FillRule.{FillRule}
use Rattle.overlay_geom.specs.declared.options.ShapeType.TheVariants.{Subject}
use Rattle.overlay_plane.specs.FarPoints.{AreWithinHalves}
use Rattle.overlay_plane.specs.ShapeWindings.{steps_of_shapes}
use Rattle.overlay_plane.specs.Snaps.{IsOnStep}
use Rattle.overlay_plane.proofs.FarPoints.{far_weaker}
use Rattle.overlay_plane.proofs.Halves.{halves_weaker}
use Rattle.overlay_builder.specs.GivenPaths.{GivenPath, paths_for}
use Rattle.overlay_builder.specs.PathWindings.{IsFarFromPath, IsFarFromPaths}
use Rattle.overlay_extract.specs.Results.{Asked}
use Rattle.overlay_string.specs.FarSlices.{IsFarFromString, AreStringsFar, WindsRoundFarShape}
use Rattle.i_overlay.specs.OneShot.{WindsRoundFarPaths}
use Rattle.i_overlay.specs.SnappedFar.{SnappedWindsRoundGiven, SnappedResultWinds, SnappedHierarchyWinds}
use Rattle.i_overlay.specs.SnappedFar.{SnappedSimplifiedWinds, SnappedSlicesWind, SnappedTilesWind}

module _ (j k : ℕ) (le : j ≤ k) (p : PlanePoint) where
  -- steps far by many halves are far by fewer
  steps_weaker : (ss : List Step) → All (λ s. (q : PlanePoint) → IsOnStep s q → ¬ (AreWithinHalves k q p)) ss →
      All (λ s. (q : PlanePoint) → IsOnStep s q → ¬ (AreWithinHalves j q p)) ss
  steps_weaker ss far = All-weaker (λ s. (q : PlanePoint) → IsOnStep s q → ¬ (AreWithinHalves k q p))
      (λ s. (q : PlanePoint) → IsOnStep s q → ¬ (AreWithinHalves j q p))
      (λ s misses q on within. misses q on (halves_weaker j k le q p within)) ss far

  -- so are closed paths
  paths_weaker : (paths : List GivenPath) → IsFarFromPaths k paths p → IsFarFromPaths j paths p
  paths_weaker paths far = All-weaker (IsFarFromPath k p) (IsFarFromPath j p)
      (λ path misses. steps_weaker (steps_of path.points) misses) paths far

  -- and strings
  strings_weaker : (strings : List (List Point)) → AreStringsFar k strings p → AreStringsFar j strings p
  strings_weaker strings far = All-weaker (IsFarFromString k p) (IsFarFromString j p)
      (λ ps misses. steps_weaker (path_steps ps) misses) strings far

module _ (j k : ℕ) (le : j ≤ k) where
  winds_farther : (q : Asked) (paths : List GivenPath) (steps : List Step) → WindsRoundFarPaths j q paths steps →
      WindsRoundFarPaths k q paths steps
  winds_farther q paths steps winds p far = winds p (paths_weaker j k le p paths far)

  slices_farther : (fill : FillRule) (shape strings : List (List Point)) (steps : List Step) →
      WindsRoundFarShape j fill shape strings steps → WindsRoundFarShape k fill shape strings steps
  slices_farther fill shape strings steps winds p far strings_away = winds p
      (paths_weaker j k le p (paths_for Subject shape) far) (strings_weaker j k le p strings strings_away)

-- ---- the laws

pub winds_round_given : SnappedWindsRoundGiven
winds_round_given q given es steps is zero p far = is.winds zero p
    (far_weaker is.arranged.moving 1 is.arranged.few_moving given p far)

pub result_winds : SnappedResultWinds
result_winds q paths result is zero = winds_farther is.arranged.moving 1 is.arranged.few_moving q paths
    (steps_of_shapes result) (is.winds zero)

pub hierarchy_winds : SnappedHierarchyWinds
hierarchy_winds q paths shapes links is zero = winds_farther is.arranged.moving 1 is.arranged.few_moving q paths
    (steps_of_shapes shapes) (is.winds zero)

pub simplified_winds : SnappedSimplifiedWinds
simplified_winds q keep paths shapes is zero =
    let arranged = is.arranged.arranged in
    winds_farther arranged.moving 1 arranged.few_moving q (paths_for Subject paths) (steps_of_shapes shapes)
    (is.winds zero)

pub slices_wind : SnappedSlicesWind
slices_wind width fill shape strings result are =
    let arranged = are.sliced.arranged in
    slices_farther arranged.moving 1 arranged.few_moving fill shape strings (steps_of_shapes result)
    (are.winds shape strings refl)

pub tiles_wind : SnappedTilesWind
tiles_wind width fill wide high paths result tiles =
    let arranged = tiles.sliced.sliced.arranged in
    slices_farther arranged.moving 1 arranged.few_moving fill paths tiles.lines (steps_of_shapes result)
    tiles.far
