-- The walk that has the next edge below a hole is anchored before the hole: its anchor comes no later than that edge,
-- which is strictly below the hole's anchor, or starts with it and leads below it.
use Rattle.std.proofs.Common.{◌≡◌, ⊎_elim, inl, inr, Bool, true, false, ◌&&◌, List, Contains, filter, refl, sym, ◌∙◌}
use Rattle.std.proofs.Common.{subst}
use Rattle.std.proofs.lemmas.Bool.{both_ways, and_from, and_parts, or_cases, or_left, or_right, false_from_ne_true}
use Rattle.std.proofs.lemmas.List.Elements.{All-contains}
use Rattle.overlay_geom.specs.Plane.{Point, Step, Edge, point_lt, point_eq, is_forward, edge_of, is_strictly_below}
use Rattle.overlay_geom.specs.Plane.{in_plane}
use Rattle.overlay_geom.proofs.Orders.{point_eq-same, point_lt-back}
use Rattle.overlay_geom.proofs.PointOrder.{point_lt-after_up_to}
use Rattle.overlay_plane.specs.Nodes.{turns_left}
use Rattle.overlay_plane.specs.LeftmostSteps.{StepHasEndBefore}
use Rattle.overlay_plane.specs.Contours.{is_filled_above, IsContour}
use Rattle.overlay_plane.specs.Anchors.{IsAnchor, is_below_anchor, is_anchored_before}
use Rattle.overlay_plane.specs.Binding.{NextIsAnchoredBefore}
use Rattle.overlay_plane.proofs.Entries.{Contains-from_map, Contains-from_filter}
use Rattle.overlay_plane.proofs.EdgesOfSteps.{edge_by}
use Rattle.overlay_plane.proofs.EdgeTurns.{IsForward, left_of_not_left}
use Rattle.overlay_plane.proofs.LeftmostPoints.{below_starts_before}
use Rattle.overlay_plane.proofs.LongSteps.{long_leads_forward}
use Rattle.overlay_plane.proofs.ContourSteps.{contour_long}
use Rattle.overlay_plane.proofs.Anchors.{anchor_forward}

-- where the edge of a step starts before a point, so does an end of the step lie
pub end_before : (s : Step) (q : Point) → point_lt (edge_of s).a q ≡ true → StepHasEndBefore q s
end_before s q before = by (is_forward s) before
  where
    by : (t : Bool) → point_lt (edge_by t s).a q ≡ true → StepHasEndBefore q s
    by true from = inl from
    by false to = inr to

-- the anchor of a contour comes before each anchor below which one of the contour's edges is
pub anchored_before : (walk : List Step) → IsContour walk → (e : Edge) → IsAnchor walk e →
    (s : Step) → Contains walk s → (g : Edge) →
    IsForward g → is_below_anchor g (edge_of s) ≡ true → is_anchored_before e g ≡ true
anchored_before walk contour e anchor s c g forward_g below = ⊎_elim
    (λ low. or_left (point_lt e.a g.a) (point_eq e.a g.a && turns_left e g)
    (point_lt-after_up_to e.a f.a g.a not_before (below_starts_before f g.a low)))
    (λ with_it. let both = and_parts (point_eq f.a g.a) (turns_left f g) with_it in
    beside (point_eq-same f.a g.a both.0) both.1 (point_eq e.a g.a) refl)
    (or_cases (is_strictly_below f (in_plane g.a)) (point_eq f.a g.a && turns_left f g) below)
  where
    f : Edge
    f = edge_of s

    not_before : point_lt f.a e.a ≡ false
    not_before = false_from_ne_true (point_lt f.a e.a) (λ before. anchor.leftmost s c (end_before s e.a before))

    beside : f.a ≡ g.a → turns_left f g ≡ true → (t : Bool) → point_eq e.a g.a ≡ t → is_anchored_before e g ≡ true
    beside starts left true same = or_right (point_lt e.a g.a) (point_eq e.a g.a && turns_left e g)
        (and_from (point_eq e.a g.a) (turns_left e g) same
        (left_of_not_left e f g (anchor_forward walk contour e anchor)
        (long_leads_forward s (contour_long walk contour s c)) forward_g
        (anchor.lowest s c (starts ∙ sym (point_eq-same e.a g.a same))) left))
    beside starts left false apart = or_left (point_lt e.a g.a) (point_eq e.a g.a && turns_left e g)
        (by (point_lt e.a g.a) refl)
      where
        by : (t : Bool) → point_lt e.a g.a ≡ t → point_lt e.a g.a ≡ true
        by true less = less
        by false not_less = absurd (both_ways (point_lt f.a e.a) not_before
            (subst (λ (p : Point). point_lt p e.a ≡ true) (sym starts) (point_lt-back e.a g.a apart not_less)))

-- the next walk of a hole is anchored before it
pub next_is_anchored_before : NextIsAnchoredBefore
next_is_anchored_before filled walks contours hole next c n e anchor =
    let found = Contains-from_map edge_of (filter (is_filled_above filled) next) n.edge n.has in
    let contour = All-contains IsContour walks next contours n.kept in
    anchored_before next contour e anchor found.0
    (Contains-from_filter (is_filled_above filled) next found.0 found.1).0 n.anchor
    (anchor_forward hole (All-contains IsContour walks hole contours c) n.anchor n.anchored)
    (subst (λ (f : Edge). is_below_anchor n.anchor f ≡ true) (sym found.2) n.next_below.below)
