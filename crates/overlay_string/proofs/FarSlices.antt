-- What a builder holds of a shape and strings winds as the shape's contours, and is far from a point where all of them
-- are. So slices wind as these contours ask.
use Rattle.std.proofs.Common.{◌≡◌, ℕ, ℤ, false, cond, pos, ◌+ℤ◌, List, [], ◌∷◌, map, refl, sym, ap, ap₂, ◌∙◌, subst}
use Rattle.std.specs.Int.{Width}
use Rattle.std.specs.List.{All}
use Rattle.std.proofs.lemmas.List.Elements.{All-nil, All-append, All-map, All-weaker, All-head, All-tail}
use Rattle.overlay_geom.specs.Edges.{CountedEdge, ends_of, subj_of, subject_edge, winding_by}
use Rattle.overlay_geom.specs.Plane.{Point, PlanePoint, Step, path_steps, steps_of, total, winding, is_strictly_below}
use Rattle.overlay_geom.specs.declared.solver.Solver.{Solver}
use Rattle.overlay_geom.specs.Rules.{is_filled, rules_hold}
use Rattle.overlay_geom.specs.declared.fill_rule.FillRule.{FillRule}
use Rattle.overlay_geom.specs.declared.options.ShapeType.TheVariants.{Subject}
use Rattle.overlay_geom.specs.declared.overlay_rule.OverlayRule.TheVariants as rule
use Rattle.overlay_geom.proofs.Signs.{linear}
use Rattle.overlay_plane.specs.FarPoints.{AreWithinHalves, IsFarFrom, IsFarFromEdge}
use Rattle.overlay_plane.specs.ShapeWindings.{steps_of_shapes}
use Rattle.overlay_plane.specs.Snaps.{IsOnStep}
use Rattle.overlay_plane.specs.Turn.Hand.{left}
use Rattle.overlay_plane.proofs.AddedWindings.{adding_adds_windings}
use Rattle.overlay_plane.proofs.FarPoints.{on_step, far_points_wind_as_wanted}
use Rattle.overlay_plane.proofs.JoinedLists.{nothing_taken, total-append}
use Rattle.overlay_builder.specs.GivenPaths.{GivenPath, paths_for}
use Rattle.overlay_builder.specs.PathLists.{AddedPath, AddsOne, AddsPaths, HoldsPaths}
use Rattle.overlay_builder.specs.PathLists.AddsPaths.{no_path, path_and_others}
use Rattle.overlay_builder.specs.PathWindings.{winding_of_paths, IsFarFromPath, IsFarFromPaths}
use Rattle.overlay_builder.proofs.ThinnedSteps.{misses_taken}
use Rattle.overlay_string.specs.FarSlices.{IsFarFromString, AreStringsFar, WindsRoundFarShape}
use Rattle.overlay_string.specs.OneShot.{shape_and_strings}
use Rattle.overlay_string.specs.StringPaths.{string_edge, shape_contour, open_string, open_strings}
use Rattle.overlay_string.specs.StringSlices.{AreSliced, AreSlicedOfPaths}

-- ---- sums

-- nothing added is as much as nothing
none_added : (z w : ℤ) → z ≡ w → z ≡ w +ℤ pos 0
none_added z w e = omega linear

none_more : (z w n : ℤ) → z ≡ w +ℤ n → n ≡ pos 0 → z ≡ w
none_more z w n e none = omega linear

from_nothing : (z a : ℤ) → z ≡ pos 0 +ℤ a → z ≡ a
from_nothing z a e = omega linear

-- a summand, and then others
one_and_more : (z m w a b : ℤ) → m ≡ w +ℤ a → z ≡ m +ℤ b → z ≡ w +ℤ (a +ℤ b)
one_and_more z m w a b first later = omega linear

-- ---- steps

-- no point of a step is within k/2 of p
abbrev MissesStep : ℕ → PlanePoint → Step → Type 0
MissesStep k p s = (q : PlanePoint) → IsOnStep s q → ¬ (AreWithinHalves k q p)

-- ---- strings

-- their edges have no counts of a shape
nothing_below : (ss : List Step) (p : PlanePoint) → winding_by subj_of (map string_edge ss) p ≡ pos 0
nothing_below [] p = refl
nothing_below (s ∷ ss) p = ap₂ (λ a b. a +ℤ b) (nothing_taken (is_strictly_below (ends_of (string_edge s)) p))
    (nothing_below ss p)

string_stays : (ps : List Point) (old new : List CountedEdge) (p : PlanePoint) → AddsOne (open_string ps) old new →
    winding_by subj_of new p ≡ winding_by subj_of old p
string_stays ps old new p adds =
    none_more (winding_by subj_of new p) (winding_by subj_of old p)
    (winding_by subj_of (map string_edge (path_steps adds.taken)) p)
    (ap (λ es. winding_by subj_of es p) adds.content
    ∙ total-append (λ e. cond (is_strictly_below (ends_of e) p) (subj_of e) (pos 0)) old
    (map string_edge (path_steps adds.taken)))
    (nothing_below (path_steps adds.taken) p)

string_far : (ps : List Point) (old new : List CountedEdge) (k : ℕ) (p : PlanePoint) →
    AddsOne (open_string ps) old new → IsFarFromString k p ps → IsFarFrom k old p → IsFarFrom k new p
string_far ps old new k p adds far before = subst (λ es. IsFarFrom k es p) (sym adds.content)
    (All-append (IsFarFromEdge k p) old (map string_edge (path_steps adds.taken)) before
    (All-map (IsFarFromEdge k p) string_edge (path_steps adds.taken)
    (All-weaker (MissesStep k p) (λ s. IsFarFromEdge k p (string_edge s)) (λ s misses q on. misses q (on_step s q on))
    (path_steps adds.taken) (subst (IsFarFromString k p) (sym adds.is_taken) far))))

strings_stay : (strings : List (List Point)) (old new : List CountedEdge) (p : PlanePoint) →
    AddsPaths (open_strings strings) old new → winding_by subj_of new p ≡ winding_by subj_of old p
strings_stay [] old new p no_path = refl
strings_stay (ps ∷ strings) old new p (path_and_others {mid} first others) =
    strings_stay strings mid new p others ∙ string_stays ps old mid p first

strings_far : (strings : List (List Point)) (old new : List CountedEdge) (k : ℕ) (p : PlanePoint) →
    AddsPaths (open_strings strings) old new → AreStringsFar k strings p → IsFarFrom k old p → IsFarFrom k new p
strings_far [] old new k p no_path far before = before
strings_far (ps ∷ strings) old new k p (path_and_others {mid} first others) far before =
    strings_far strings mid new k p others (All-tail (IsFarFromString k p) ps strings far)
    (string_far ps old mid k p first (All-head (IsFarFromString k p) ps strings far) before)

-- ---- contours of the shape

contour_rises : (ps : List Point) (old new : List CountedEdge) (p : PlanePoint) → AddsOne (shape_contour ps) old new →
    winding_by subj_of new p ≡ winding_by subj_of old p +ℤ winding (steps_of ps) p
contour_rises ps old new p adds = (adding_adds_windings.subject false ps old new
    (record { taken = adds.taken; thinned = adds.is_taken; content = adds.content })).rises p

contour_far : (ps : List Point) (old new : List CountedEdge) (k : ℕ) (p : PlanePoint) →
    AddsOne (shape_contour ps) old new → All (MissesStep k p) (steps_of ps) → IsFarFrom k old p → IsFarFrom k new p
contour_far ps old new k p adds far before = subst (λ es. IsFarFrom k es p) (sym adds.content)
    (All-append (IsFarFromEdge k p) old (map subject_edge (steps_of adds.taken)) before
    (All-map (IsFarFromEdge k p) subject_edge (steps_of adds.taken)
    (All-weaker (MissesStep k p) (λ s. IsFarFromEdge k p (subject_edge s)) (λ s misses q on. misses q (on_step s q on))
    (steps_of adds.taken) (misses_taken (λ q. AreWithinHalves k q p) false ps adds.taken adds.is_taken far))))

-- ---- both

-- the path of a contour of the shape
abbrev contour_path : List Point → GivenPath
contour_path ps = record { shape_type = Subject; points = ps }

all_rise : (shape strings : List (List Point)) (old new : List CountedEdge) (p : PlanePoint) →
    AddsPaths (shape_and_strings shape strings) old new →
    winding_by subj_of new p ≡ winding_by subj_of old p +ℤ winding_of_paths Subject (paths_for Subject shape) p
all_rise [] strings old new p adds = none_added (winding_by subj_of new p) (winding_by subj_of old p)
    (strings_stay strings old new p adds)
all_rise (ps ∷ shape) strings old new p (path_and_others {mid} first others) =
    one_and_more (winding_by subj_of new p) (winding_by subj_of mid p) (winding_by subj_of old p)
    (winding (steps_of ps) p) (winding_of_paths Subject (paths_for Subject shape) p)
    (contour_rises ps old mid p first) (all_rise shape strings mid new p others)

all_far : (shape strings : List (List Point)) (old new : List CountedEdge) (k : ℕ) (p : PlanePoint) →
    AddsPaths (shape_and_strings shape strings) old new → IsFarFromPaths k (paths_for Subject shape) p →
    AreStringsFar k strings p → IsFarFrom k old p → IsFarFrom k new p
all_far [] strings old new k p adds far strings_away before = strings_far strings old new k p adds strings_away before
all_far (ps ∷ shape) strings old new k p (path_and_others {mid} first others) far strings_away before =
    all_far shape strings mid new k p others
    (All-tail (IsFarFromPath k p) (contour_path ps) (paths_for Subject shape) far) strings_away
    (contour_far ps old mid k p first (All-head (IsFarFromPath k p) (contour_path ps) (paths_for Subject shape) far)
    before)

-- ---- slices

module _ (solver : Solver) (width : Width) (fill : FillRule) (content : List CountedEdge)
    (result : List (List (List Point))) (are : AreSliced width solver fill content result) where
  -- they wind as the contours ask, far from these and from the strings
  slices_wind : (shape strings : List (List Point)) → HoldsPaths (shape_and_strings shape strings) content →
      WindsRoundFarShape are.arranged.moving fill shape strings (steps_of_shapes result)
  slices_wind shape strings holds p far strings_away =
      far_points_wind_as_wanted (rules_hold fill rule.Subject) left are.arranged.moving content are.arrangement
      (steps_of_shapes result) are.arranged.far (are.sliced.winds refl) p
      (all_far shape strings [] content are.arranged.moving p holds.added far strings_away
      (All-nil (IsFarFromEdge are.arranged.moving p)))
      ∙ ap (λ w. cond (is_filled fill w) (pos 1) (pos 0)) (from_nothing (winding_by subj_of content p)
      (winding_of_paths Subject (paths_for Subject shape) p) (all_rise shape strings [] content p holds.added))

  -- so they are slices of the paths
  pub slices_of_paths : (paths : List (AddedPath CountedEdge)) → HoldsPaths paths content →
      AreSlicedOfPaths solver width fill paths result
  slices_of_paths paths holds = record {
    content = content;
    holds = holds;
    sliced = are;
    winds = λ shape strings is. slices_wind shape strings (subst (λ ps. HoldsPaths ps content) is holds);
  }
