-- The lowest edge at the leftmost lowest point of a shape does not belong to a hole found for it. A contour of the
-- shape from the start is anchored before each such hole.
use Rattle.std.proofs.Common.{◌≡◌, ⊎_elim, ℕ, true, false, ◌&&◌, List, Contains, Some, sym, ap}
use Rattle.std.proofs.Common.{◌∙◌, subst}
use Rattle.std.specs.List.{slice_get}
use Rattle.std.proofs.lemmas.Bool.{both_ways, and_parts, or_cases, false_from_ne_true}
use Rattle.std.proofs.lemmas.List.Elements.{All-contains}
use Rattle.overlay_geom.specs.Plane.{Point, Step, Edge, point_lt, point_eq, edge_of}
use Rattle.overlay_geom.proofs.Orders.{point_eq-same}
use Rattle.overlay_plane.specs.Nodes.{turns_left}
use Rattle.overlay_plane.specs.LeftmostSteps.{HasLeftmost}
use Rattle.overlay_plane.specs.Contours.{IsContour}
use Rattle.overlay_plane.specs.Anchors.{IsAnchor, is_anchored_before}
use Rattle.overlay_plane.specs.RoledContours.{Contour, stands_in}
use Rattle.overlay_plane.specs.Binding.IsFoundBelow.{direct, through}
use Rattle.overlay_plane.specs.BoundContours.{IsParent, walks_in}
use Rattle.overlay_plane.specs.KeptContours.{CanBeBound}
use Rattle.overlay_plane.specs.Turn.{Hand}
use Rattle.overlay_plane.proofs.Anchors.{anchors_exist, anchor_forward}
use Rattle.overlay_plane.proofs.AnchorOrder.{anchored_before-transitive}
use Rattle.overlay_plane.proofs.ContourSteps.{contour_long}
use Rattle.overlay_plane.proofs.EdgeTurns.{left_of_not_left}
use Rattle.overlay_plane.proofs.Entries.{Contains-from_map}
use Rattle.overlay_plane.proofs.LongSteps.{long_leads_forward}
use Rattle.overlay_plane.proofs.NextAnchors.{next_is_anchored_before, end_before}
use Rattle.overlay_plane.proofs.PlacesOfContours.{Contains-place, contour_at, known_at}
use Rattle.std.proofs.lemmas.Option.{same_Some}
use Rattle.overlay_geom.proofs.Orders.{neither_smaller}

module _ (filled : Hand) (contours : List Contour) (bindable : CanBeBound filled (walks_in contours)) (n : ℕ) where
  -- a contour that stands in the shape from the start is anchored before the anchor
  pub record IsAfterOwn (anchor : Edge) : Type 0 where
    pub own : Contour
    pub among : Contains contours own
    pub stands : stands_in own.role ≡ Some n
    pub contour : IsContour own.steps
    pub first : Edge
    pub anchored : IsAnchor own.steps first
    pub before : is_anchored_before first anchor ≡ true

  -- a walk at a place is a contour
  contour_there : (i : ℕ) (w : List Step) → slice_get (walks_in contours) i ≡ Some w → IsContour w
  contour_there i w at = All-contains IsContour (walks_in contours) w bindable.contours
      (Contains-place (walks_in contours) i w at)

  -- it is before an anchor of each hole found for the shape
  pub after_own : (i : ℕ) → IsParent filled contours i (Some n) → (w : List Step) →
      slice_get (walks_in contours) i ≡ Some w → (a : Edge) × IsAnchor w a × IsAfterOwn a
  after_own i (direct {j} has known) w at =
      let own = contour_at contours j has.next has.next_at in
      let own_contour = contour_there j has.next has.next_at in
      let first = anchors_exist has.next own_contour in (
        has.is_next.anchor,
        subst (λ v. IsAnchor v has.is_next.anchor) (same_Some has.walk w (sym has.at ∙ at)) has.is_next.anchored,
        record {
          own = own.0;
          among = Contains-place contours j own.0 own.1;
          stands = sym (known_at contours j own.0 own.1) ∙ known;
          contour = subst IsContour (sym own.2) own_contour;
          first = first.0;
          anchored = subst (λ v. IsAnchor v first.0) (sym own.2) first.1;
          before = next_is_anchored_before filled (walks_in contours) bindable.contours has.walk has.next
              (Contains-place (walks_in contours) i has.walk has.at) has.is_next first.0 first.1;
        },
      )
  after_own i (through {j} has unknown rest) w at =
      let earlier = after_own j rest has.next has.next_at in
      let after = earlier.2 in (
        has.is_next.anchor,
        subst (λ v. IsAnchor v has.is_next.anchor) (same_Some has.walk w (sym has.at ∙ at)) has.is_next.anchored,
        record {
          own = after.own;
          among = after.among;
          stands = after.stands;
          contour = after.contour;
          first = after.first;
          anchored = after.anchored;
          before = anchored_before-transitive after.first earlier.0 has.is_next.anchor
              (anchor_forward after.own.steps after.contour after.first after.anchored)
              (anchor_forward has.next (contour_there j has.next has.next_at) earlier.0 earlier.1)
              (anchor_forward has.walk (contour_there i has.walk has.at) has.is_next.anchor has.is_next.anchored)
              after.before
              (next_is_anchored_before filled (walks_in contours) bindable.contours has.walk has.next
              (Contains-place (walks_in contours) i has.walk has.at) has.is_next earlier.0 earlier.1);
        },
      )

  -- where both are among steps, the lowest of these is not in the hole
  pub lowest_not_found : (taken : List Step) (h : HasLeftmost taken) (w : List Step) → IsContour w →
      ((s : Step) → Contains w s → Contains taken s) → (a : Edge) → IsAnchor w a → (after : IsAfterOwn a) →
      ((s : Step) → Contains after.own.steps s → Contains taken s) → ¬ (Contains w h.lowest)
  lowest_not_found taken h w contour inside a anchored after own_inside c = ⊎_elim earlier beside
      (or_cases (point_lt after.first.a a.a) (point_eq after.first.a a.a && turns_left after.first a) after.before)
    where
      -- the steps along the two anchors
      u : (s : Step) × Contains w s × (edge_of s ≡ a)
      u = Contains-from_map edge_of w a anchored.among

      k : (s : Step) × Contains after.own.steps s × (edge_of s ≡ after.first)
      k = Contains-from_map edge_of after.own.steps after.first after.anchored.among

      -- the hole's anchor is at the leftmost point
      at_point : a.a ≡ h.point
      at_point = neither_smaller a.a h.point
          (false_from_ne_true (point_lt a.a h.point) (λ less. h.none_before u.0 (inside u.0 u.1)
          (end_before u.0 h.point (ap (λ (e : Edge). point_lt e.a h.point) u.2 ∙ less))))
          (false_from_ne_true (point_lt h.point a.a) (λ less. anchored.leftmost h.lowest c
          (end_before h.lowest a.a (ap (λ (p : Point). point_lt p a.a) h.lowest_starts ∙ less))))

      -- the other cannot come before it by points
      earlier : point_lt after.first.a a.a ≡ true → ⊥
      earlier less = h.none_before k.0 (own_inside k.0 k.1) (end_before k.0 h.point
          (ap (λ (e : Edge). point_lt e.a h.point) k.2
          ∙ subst (λ (p : Point). point_lt after.first.a p ≡ true) at_point less))

      -- nor by slopes
      beside : (point_eq after.first.a a.a && turns_left after.first a) ≡ true → ⊥
      beside both =
          let parts = and_parts (point_eq after.first.a a.a) (turns_left after.first a) both in
          let starts = point_eq-same after.first.a a.a parts.0 ∙ at_point in
          both_ways (turns_left (edge_of h.lowest) a)
          (anchored.lowest h.lowest c (h.lowest_starts ∙ sym at_point))
          (left_of_not_left (edge_of h.lowest) after.first a
          (long_leads_forward h.lowest (contour_long w contour h.lowest c))
          (anchor_forward after.own.steps after.contour after.first after.anchored)
          (anchor_forward w contour a anchored)
          (subst (λ (e : Edge). turns_left e (edge_of h.lowest) ≡ false) k.2
          (h.none_below k.0 (own_inside k.0 k.1) (ap (λ (e : Edge). e.a) k.2 ∙ starts)))
          parts.1)
