-- What a builder that began empty holds winds as the paths that were added, and is far from a point where these are.
use Rattle.std.proofs.Common.{◌≡◌, ℕ, Bool, ℤ, pos, ◌+ℤ◌, List, [], ◌∷◌, ◌++◌, map, refl, sym, ap, ◌∙◌, subst}
use Rattle.std.specs.List.{All}
use Rattle.std.proofs.lemmas.List.Elements.{All-nil, All-append, All-map, All-weaker, All-head, All-tail}
use Rattle.overlay_geom.specs.Edges.{CountedEdge, subj_of, clip_of, subject_edge, clip_edge, winding_by, AddsContour}
use Rattle.overlay_geom.specs.Plane.{Point, PlanePoint, Step, edge_of, steps_of, total, winding}
use Rattle.overlay_geom.specs.declared.options.ShapeType.{ShapeType}
use Rattle.overlay_geom.specs.declared.options.ShapeType.TheVariants.{Subject, Clip}
use Rattle.overlay_geom.proofs.Signs.{linear}
use Rattle.overlay_plane.specs.Adding.{AddsWinding}
use Rattle.overlay_plane.specs.FarPoints.{AreWithinHalves, IsFarFrom, IsFarFromEdge}
use Rattle.overlay_plane.specs.Snaps.{IsOnStep}
use Rattle.overlay_plane.proofs.AddedWindings.{adding_adds_windings}
use Rattle.overlay_plane.proofs.FarPoints.{on_step}
use Rattle.overlay_order.specs.Content.{edge_for}
use Rattle.overlay_builder.specs.GivenPaths.{GivenPath, added_path, added_paths}
use Rattle.overlay_builder.specs.PathLists.{AddsOne, AddsPaths, HoldsPaths}
use Rattle.overlay_builder.specs.PathLists.AddsPaths.{no_path, path_and_others}
use Rattle.overlay_builder.specs.PathWindings.{counted_for, winding_of_paths, IsFarFromPath, IsFarFromPaths}
use Rattle.overlay_builder.specs.PathWindings.{HeldPathsWind, ContentsWindAsPaths, FarFromPathsIsFar}
use Rattle.overlay_builder.proofs.AddedContours.{as_contour}
use Rattle.overlay_builder.proofs.Balanced.{as_subject, as_clip, same_edges}
use Rattle.overlay_builder.proofs.ThinnedSteps.{misses_taken}

-- ---- one path

-- the windings have risen by those of the path
record Rises (path : GivenPath) (old new : List CountedEdge) (p : PlanePoint) : Type 0 where
  subj : winding_by subj_of new p ≡ winding_by subj_of old p +ℤ counted_for Subject path.shape_type
      (winding (steps_of path.points) p)
  clip : winding_by clip_of new p ≡ winding_by clip_of old p +ℤ counted_for Clip path.shape_type
      (winding (steps_of path.points) p)

-- nothing added is as much as nothing
none_added : (z w : ℤ) → z ≡ w → z ≡ w +ℤ pos 0
none_added z w e = omega linear

contour_rises : (keep : Bool) (t : ShapeType) (ps : List Point) (old new : List CountedEdge) (p : PlanePoint) →
    AddsContour keep (edge_for t) ps old new → Rises (record { shape_type = t; points = ps }) old new p
contour_rises keep Subject ps old new p adds =
    let winds : AddsWinding subj_of clip_of ps old new = adding_adds_windings.subject keep ps old new (record {
      taken = adds.taken;
      thinned = adds.thinned;
      content = adds.content
          ∙ ap (λ es. old ++ es) (sym (same_edges subject_edge (edge_for Subject) as_subject (steps_of adds.taken)));
    }) in
    record {
      subj = winds.rises p;
      clip = none_added (winding_by clip_of new p) (winding_by clip_of old p) (winds.stays p);
    }
contour_rises keep Clip ps old new p adds =
    let winds : AddsWinding clip_of subj_of ps old new = adding_adds_windings.clip keep ps old new (record {
      taken = adds.taken;
      thinned = adds.thinned;
      content = adds.content
          ∙ ap (λ es. old ++ es) (sym (same_edges clip_edge (edge_for Clip) as_clip (steps_of adds.taken)));
    }) in
    record {
      subj = none_added (winding_by subj_of new p) (winding_by subj_of old p) (winds.stays p);
      clip = winds.rises p;
    }

-- an added contour is as far from a point as the given one
contour_far : (keep : Bool) (t : ShapeType) (ps : List Point) (old new : List CountedEdge) (k : ℕ) (p : PlanePoint) →
    AddsContour keep (edge_for t) ps old new →
    All (λ s. (q : PlanePoint) → IsOnStep s q → ¬ (AreWithinHalves k q p)) (steps_of ps) → IsFarFrom k old p →
    IsFarFrom k new p
contour_far keep t ps old new k p adds far before = subst (λ es. IsFarFrom k es p) (sym adds.content)
    (All-append (IsFarFromEdge k p) old (map (edge_for t) (steps_of adds.taken)) before
    (All-map (IsFarFromEdge k p) (edge_for t) (steps_of adds.taken)
    (All-weaker (λ s. (q : PlanePoint) → IsOnStep s q → ¬ (AreWithinHalves k q p))
    (λ s. IsFarFromEdge k p (edge_for t s)) (λ s misses q on. misses q (on_step s q on)) (steps_of adds.taken)
    (misses_taken (λ q. AreWithinHalves k q p) keep ps adds.taken adds.thinned far))))

-- ---- all paths

paths_rise : (keep : Bool) (paths : List GivenPath) (old new : List CountedEdge) →
    AddsPaths (added_paths keep paths) old new → (p : PlanePoint) →
    (winding_by subj_of new p ≡ winding_by subj_of old p +ℤ winding_of_paths Subject paths p)
    × (winding_by clip_of new p ≡ winding_by clip_of old p +ℤ winding_of_paths Clip paths p)
paths_rise keep [] old new no_path p = (
  none_added (winding_by subj_of new p) (winding_by subj_of old p) refl,
  none_added (winding_by clip_of new p) (winding_by clip_of old p) refl,
)
paths_rise keep (path ∷ paths) old new (path_and_others {mid} first others) p =
    let here = contour_rises keep path.shape_type path.points old mid p
    (as_contour keep (edge_for path.shape_type) path.points old mid first) in
    let there = paths_rise keep paths mid new others p in
    let subj_here = here.subj in
    let clip_here = here.clip in
    let subj_there = there.0 in
    let clip_there = there.1 in
    (omega linear, omega linear)

paths_far : (keep : Bool) (paths : List GivenPath) (old new : List CountedEdge) →
    AddsPaths (added_paths keep paths) old new → (k : ℕ) (p : PlanePoint) → IsFarFromPaths k paths p →
    IsFarFrom k old p → IsFarFrom k new p
paths_far keep [] old new no_path k p far before = before
paths_far keep (path ∷ paths) old new (path_and_others {mid} first others) k p far before =
    paths_far keep paths mid new others k p (All-tail (IsFarFromPath k p) path paths far)
    (contour_far keep path.shape_type path.points old mid k p
    (as_contour keep (edge_for path.shape_type) path.points old mid first) (All-head (IsFarFromPath k p) path paths far)
    before)

-- the laws
pub contents_wind_as_paths : ContentsWindAsPaths
contents_wind_as_paths keep paths es holds p =
    let rise = paths_rise keep paths [] es holds.added p in
    let subj = rise.0 in
    let clip = rise.1 in
    record { subj = omega linear; clip = omega linear }

pub far_from_paths_is_far : FarFromPathsIsFar
far_from_paths_is_far keep paths es holds k p far = paths_far keep paths [] es holds.added k p far
    (All-nil (IsFarFromEdge k p))
