-- Where contours follow a rule, a shape is found for each hole that has its empty side above its anchor: some edge is
-- below the anchor.
use Rattle.std.proofs.Common.{◌≡◌, ℕ, Bool, true, false, ℤ, List, Option, Some, None, sym, ap, ◌∙◌}
use Rattle.std.proofs.Common.{subst}
use Rattle.std.specs.Prelude.{slice_index_or, MatchBool}
use Rattle.std.specs.List.{slice_get}
use Rattle.std.proofs.lemmas.Bool.{both_ways}
use Rattle.std.proofs.lemmas.Option.{none-some, same_Some}
use Rattle.overlay_geom.specs.Plane.{Edge}
use Rattle.overlay_geom.specs.Edges.{CountedEdge}
use Rattle.overlay_plane.specs.Anchors.{IsAnchor, is_below_anchor}
use Rattle.overlay_plane.specs.Binding.IsFoundBelow.{nothing, through}
use Rattle.overlay_plane.specs.BoundContours.{IsParent, walks_in, has_one_shape, AreShapesFound, NoHoleIsLost}
use Rattle.overlay_plane.specs.RoledContours.{Contour, free_hole}
use Rattle.overlay_plane.specs.Turn.{Hand}
use Rattle.overlay_plane.proofs.BelowHoles.{some_below}
use Rattle.overlay_plane.proofs.Entries.{Contains-map}
use Rattle.overlay_plane.proofs.HoleWindings.{HasEmptyAbove}
use Rattle.overlay_plane.proofs.PlacesOfContours.{Contains-place, contour_at, known_at, free_from_none}
use Rattle.overlay_plane.proofs.RuledWalks.{FollowRule}

-- each hole whose shape is to be found has its empty side above its anchor
abbrev pub HaveEmptyAbove : Hand → List Contour → Type 0
HaveEmptyAbove filled contours = (i : ℕ) (c : Contour) → slice_get contours i ≡ Some c → c.role ≡ free_hole →
    (e : Edge) → IsAnchor c.steps e → HasEmptyAbove filled c.steps e

module _ (holds : ℤ → ℤ → Bool) (subj clip : CountedEdge → ℤ) (es : List CountedEdge) (filled : Hand)
    (contours : List Contour) (follow : FollowRule holds subj clip es filled (walks_in contours))
    (empty : HaveEmptyAbove filled contours) where
  -- a shape is found for each such hole
  pub never_lost : (i : ℕ) → IsParent filled contours i None → (c : Contour) →
      slice_get contours i ≡ Some c → ¬ (c.role ≡ free_hole)
  never_lost i (nothing walk at_walk below) c at free =
      let own = contour_at contours i walk at_walk in
      let same : c.steps ≡ walk = ap (λ (d : Contour). d.steps) (same_Some c own.0 (sym at ∙ own.1)) ∙ own.2 in
      let anchored = subst (λ w. IsAnchor w below.anchor) (sym same) below.anchored in
      let some = some_below holds subj clip es filled (walks_in contours) follow c.steps
      (Contains-map (λ (d : Contour). d.steps) contours c (Contains-place contours i c at)) below.anchor anchored
      (empty i c at free below.anchor anchored) in
      both_ways (is_below_anchor below.anchor some.0) (below.none some.0 some.1) some.2
  never_lost i (through {j} has_next unknown rest) c at free =
      let next = contour_at contours j has_next.next has_next.next_at in
      never_lost j rest next.0 next.1
      (free_from_none next.0.role (sym (known_at contours j next.0 next.1) ∙ unknown))

  never_none : (one : Bool) (i : ℕ) (shape : Option ℕ) → shape ≡ None →
      MatchBool one (shape ≡ Some 0) (IsParent filled contours i shape) →
      (c : Contour) → slice_get contours i ≡ Some c → ¬ (c.role ≡ free_hole)
  never_none true i shape is found c at free = none-some 0 (sym is ∙ found)
  never_none false i shape is found c at free = never_lost i (subst (IsParent filled contours i) is found) c at free

  -- so no hole is lost
  pub no_hole_lost : (shapes : List (Option ℕ)) → AreShapesFound filled contours shapes → NoHoleIsLost contours shapes
  no_hole_lost shapes found i c at free is = never_none (has_one_shape contours) i (slice_index_or shapes i None) is
      (found.found i c at free) c at free
