-- The contours of a shape from the start, and the holes found for it. If the winding of some steps is once on the
-- filled sides of the former, so it is on those of the holes: it carries over from the next filled-above edge below a
-- hole.
use Rattle.std.proofs.Common.{◌≡◌, ℕ, Bool, true, ℤ, List, Contains, Some, sym, ap, ◌∙◌, subst}
use Rattle.std.specs.List.{filter, slice_get}
use Rattle.overlay_geom.specs.Plane.{Step, edge_of}
use Rattle.overlay_geom.specs.Edges.{CountedEdge}
use Rattle.overlay_plane.specs.BesideOrbits.{winding_under, winding_over, winding_beside, IsBalancedPart}
use Rattle.overlay_plane.specs.Contours.{all_steps, is_filled_above}
use Rattle.overlay_plane.specs.ContourWindings.{once_round}
use Rattle.overlay_plane.specs.Anchors.{IsAnchor}
use Rattle.overlay_plane.specs.RoledContours.{Contour, free_hole, stands_in}
use Rattle.overlay_plane.specs.Binding.{HasNextAt}
use Rattle.overlay_plane.specs.Binding.IsFoundBelow.{direct, through}
use Rattle.overlay_plane.specs.BoundContours.{IsParent, walks_in}
use Rattle.overlay_plane.specs.ShapesAlone.{HasOneWinding}
use Rattle.overlay_plane.specs.Turn.{Hand}
use Rattle.overlay_plane.proofs.AboveNext.{alike_above_next}
use Rattle.overlay_plane.proofs.Entries.{Contains-from_map, Contains-from_filter}
use Rattle.overlay_plane.proofs.HoleWindings.{HasEmptyAbove, filled_over}
use Rattle.overlay_plane.proofs.LostHoles.{HaveEmptyAbove}
use Rattle.overlay_plane.proofs.PlacesOfContours.{Contains-place, contour_at, known_at, free_from_none}
use Rattle.overlay_plane.proofs.RuledWalks.{FollowRule}
use Rattle.std.proofs.lemmas.Option.{same_Some}
use Rattle.overlay_plane.proofs.StartWindings.{filled_under}

module _ (holds : ℤ → ℤ → Bool) (subj clip : CountedEdge → ℤ) (es : List CountedEdge) (filled : Hand)
    (contours : List Contour) (follow : FollowRule holds subj clip es filled (walks_in contours))
    (steps taken : List Step) (inside : (s : Step) → Contains taken s → Contains (all_steps (walks_in contours)) s)
    (part : IsBalancedPart es steps taken)
    (alike : (w : List Step) → Contains (walks_in contours) w → HasOneWinding filled es taken w)
    (empty : HaveEmptyAbove filled contours) where
  -- the winding is once on the filled sides of a walk
  abbrev pub IsOnceAlong : List Step → Type 0
  IsOnceAlong w = (s : Step) → Contains w s → winding_beside filled es taken s ≡ once_round filled

  -- it goes over from the next walk
  from_next : (i j : ℕ) (has : HasNextAt filled (walks_in contours) i j) (c : Contour) →
      slice_get contours i ≡ Some c →
      c.role ≡ free_hole → IsOnceAlong has.next → IsOnceAlong has.walk
  from_next i j has c at free once s in_walk =
      alike has.walk in_walks s own.step in_walk own.among
      ∙ filled_under filled es taken own.step own.empty
      ∙ ap (λ e. winding_under es taken e) own.along
      ∙ alike_above_next holds subj clip es filled (walks_in contours) follow has.walk has.next in_walks has.is_next
      own steps taken inside part
      ∙ sym (ap (λ e. winding_over es taken e) found.2)
      ∙ sym (filled_over filled es taken found.0 found_parts.1)
      ∙ once found.0 found_parts.0
    where
      in_walks : Contains (walks_in contours) has.walk
      in_walks = Contains-place (walks_in contours) i has.walk has.at

      -- the step along the next edge
      found : (u : Step) × Contains (filter (is_filled_above filled) has.next) u × (edge_of u ≡ has.is_next.edge)
      found = Contains-from_map edge_of (filter (is_filled_above filled) has.next) has.is_next.edge has.is_next.has

      found_parts : Contains has.next found.0 × (is_filled_above filled found.0 ≡ true)
      found_parts = Contains-from_filter (is_filled_above filled) has.next found.0 found.1

      -- the step along the anchor
      own : HasEmptyAbove filled has.walk has.is_next.anchor
      own = let there = contour_at contours i has.walk has.at in
          let same : c.steps ≡ has.walk = ap (λ (d : Contour). d.steps) (same_Some c there.0 (sym at ∙ there.1))
          ∙ there.2 in
          subst (λ w. HasEmptyAbove filled w has.is_next.anchor) same (empty i c at free has.is_next.anchor
          (subst (λ w. IsAnchor w has.is_next.anchor) (sym same) has.is_next.anchored))

  module _ (n : ℕ) (own_once : (c : Contour) → Contains contours c → stands_in c.role ≡ Some n → IsOnceAlong c.steps)
    where
      -- the winding carries over along the chain
      pub found_once : (i : ℕ) → IsParent filled contours i (Some n) → (c : Contour) →
          slice_get contours i ≡ Some c → c.role ≡ free_hole → IsOnceAlong c.steps
      found_once i (direct {j} has known) c at free =
          let there = contour_at contours i has.walk has.at in
          let next = contour_at contours j has.next has.next_at in
          subst IsOnceAlong (sym (ap (λ (d : Contour). d.steps) (same_Some c there.0 (sym at ∙ there.1)) ∙ there.2))
          (from_next i j has c at free (subst IsOnceAlong next.2
          (own_once next.0 (Contains-place contours j next.0 next.1)
          (sym (known_at contours j next.0 next.1) ∙ known))))
      found_once i (through {j} has unknown rest) c at free =
          let there = contour_at contours i has.walk has.at in
          let next = contour_at contours j has.next has.next_at in
          subst IsOnceAlong (sym (ap (λ (d : Contour). d.steps) (same_Some c there.0 (sym at ∙ there.1)) ∙ there.2))
          (from_next i j has c at free (subst IsOnceAlong next.2
          (found_once j rest next.0 next.1
          (free_from_none next.0.role (sym (known_at contours j next.0 next.1) ∙ unknown)))))
