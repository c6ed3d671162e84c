-- The order of anchors is strict, and any two forward edges compare in it.
use Rattle.std.proofs.Common.{◌≡◌, ⊎_elim, Bool, true, false, ◌&&◌, pos, int_lt, refl, sym, ap, ◌∙◌, subst}
use Rattle.std.proofs.lemmas.Bool.{both_ways, and_from, and_parts, or_cases, or_left, or_right, false_from_ne_true}
use Rattle.overlay_geom.specs.Plane.{Point, Edge, point_lt, point_eq}
use Rattle.overlay_geom.proofs.Orders.{point_eq-same, point_eq-of_same, point_lt-itself, point_lt-back}
use Rattle.overlay_geom.proofs.PointOrder.{point_lt-transitive, point_lt-after_up_to}
use Rattle.overlay_plane.specs.Nodes.{edge_turn, turns_left}
use Rattle.overlay_plane.specs.Anchors.{is_anchored_before}
use Rattle.overlay_plane.proofs.EdgeTurns.{edge_turn_same, left_after_left, IsForward, left_of_not_left}
use Rattle.overlay_plane.proofs.Tests.{lt_from_test, test_from_lt}

-- the edge leads forward
abbrev pub leads_forward : Edge → Bool
leads_forward e = point_lt e.a e.b

-- both edges lead forward, and the first is anchored before the second
abbrev pub comes_before : Edge → Edge → Bool
comes_before e f = is_anchored_before e f && (leads_forward e && leads_forward f)

-- no edge turns left of itself
turns_left-itself : (e : Edge) → turns_left e e ≡ false
turns_left-itself e = ap (λ z. int_lt (pos 0) z) (edge_turn_same e)

-- no edge comes before itself
pub comes_before-itself : (e : Edge) → comes_before e e ≡ false
comes_before-itself e = false_from_ne_true (comes_before e e) (λ before. ⊎_elim
    (λ less. both_ways (point_lt e.a e.a) (point_lt-itself e.a) less)
    (λ turns. both_ways (turns_left e e) (turns_left-itself e) (and_parts (point_eq e.a e.a) (turns_left e e) turns).1)
    (or_cases (point_lt e.a e.a) (point_eq e.a e.a && turns_left e e)
    (and_parts (is_anchored_before e e) (leads_forward e && leads_forward e) before).0))

-- by its point an edge comes before another
before_by_points : (e f : Edge) → point_lt e.a f.a ≡ true → is_anchored_before e f ≡ true
before_by_points e f less = or_left (point_lt e.a f.a) (point_eq e.a f.a && turns_left e f) less

-- from an equal point the slope decides
before_by_slopes : (e f : Edge) → e.a ≡ f.a → turns_left e f ≡ true → is_anchored_before e f ≡ true
before_by_slopes e f same left = or_right (point_lt e.a f.a) (point_eq e.a f.a && turns_left e f)
    (and_from (point_eq e.a f.a) (turns_left e f) (point_eq-of_same e.a f.a same) left)

-- the order of anchors is asymmetric
pub comes_before-transitive : (e f g : Edge) → comes_before e f ≡ true → comes_before f g ≡ true →
    comes_before e g ≡ true
comes_before-transitive e f g ef fg =
    and_from (is_anchored_before e g) (leads_forward e && leads_forward g) anchored
    (and_from (leads_forward e) (leads_forward g) early.0 late.1)
  where
    first : (is_anchored_before e f ≡ true) × ((leads_forward e && leads_forward f) ≡ true)
    first = and_parts (is_anchored_before e f) (leads_forward e && leads_forward f) ef

    second : (is_anchored_before f g ≡ true) × ((leads_forward f && leads_forward g) ≡ true)
    second = and_parts (is_anchored_before f g) (leads_forward f && leads_forward g) fg

    early : (leads_forward e ≡ true) × (leads_forward f ≡ true)
    early = and_parts (leads_forward e) (leads_forward f) first.1

    late : (leads_forward f ≡ true) × (leads_forward g ≡ true)
    late = and_parts (leads_forward f) (leads_forward g) second.1

    same : (h k : Edge) → (point_eq h.a k.a && turns_left h k) ≡ true → h.a ≡ k.a
    same h k both = point_eq-same h.a k.a (and_parts (point_eq h.a k.a) (turns_left h k) both).0

    turns : (h k : Edge) → (point_eq h.a k.a && turns_left h k) ≡ true → turns_left h k ≡ true
    turns h k both = (and_parts (point_eq h.a k.a) (turns_left h k) both).1

    slopes : turns_left e f ≡ true → turns_left f g ≡ true → turns_left e g ≡ true
    slopes h k = test_from_lt (pos 0) (edge_turn e g)
        (left_after_left e f g early.0 early.1 late.1 (lt_from_test (pos 0) (edge_turn e f) h)
        (lt_from_test (pos 0) (edge_turn f g) k))

    anchored : is_anchored_before e g ≡ true
    anchored = ⊎_elim
        (λ less. before_by_points e g (⊎_elim
        (λ more. point_lt-transitive e.a f.a g.a less more)
        (λ tie. subst (λ (p : Point). point_lt e.a p ≡ true) (same f g tie) less)
        (or_cases (point_lt f.a g.a) (point_eq f.a g.a && turns_left f g) second.0)))
        (λ tie. ⊎_elim
        (λ more. before_by_points e g (subst (λ (p : Point). point_lt p g.a ≡ true) (sym (same e f tie)) more))
        (λ level. before_by_slopes e g (same e f tie ∙ same f g level) (slopes (turns e f tie) (turns f g level)))
        (or_cases (point_lt f.a g.a) (point_eq f.a g.a && turns_left f g) second.0))
        (or_cases (point_lt e.a f.a) (point_eq e.a f.a && turns_left e f) first.0)

-- ---- of edges that lead forward

-- both edges lead forward
both_forward : (e f : Edge) → IsForward e → IsForward f → (leads_forward e && leads_forward f) ≡ true
both_forward e f h k = and_from (leads_forward e) (leads_forward f) h k

-- the order of anchors is transitive
pub anchored_before-transitive : (e f g : Edge) → IsForward e → IsForward f → IsForward g →
    is_anchored_before e f ≡ true → is_anchored_before f g ≡ true →
    is_anchored_before e g ≡ true
anchored_before-transitive e f g he hf hg ef fg =
    (and_parts (is_anchored_before e g) (leads_forward e && leads_forward g)
    (comes_before-transitive e f g (and_from (is_anchored_before e f) (leads_forward e && leads_forward f) ef
    (both_forward e f he hf))
    (and_from (is_anchored_before f g) (leads_forward f && leads_forward g) fg (both_forward f g hf hg)))).0

-- no edge is before itself
pub anchored_before-itself : (e : Edge) → IsForward e → is_anchored_before e e ≡ false
anchored_before-itself e he = false_from_ne_true (is_anchored_before e e)
    (λ before. both_ways (comes_before e e) (comes_before-itself e)
    (and_from (is_anchored_before e e) (leads_forward e && leads_forward e) before (both_forward e e he he)))

-- of two edges one at most is before the other
pub anchored_before-one_way : (e f : Edge) → IsForward e → IsForward f → is_anchored_before e f ≡ true →
    is_anchored_before f e ≡ false
anchored_before-one_way e f he hf ef = false_from_ne_true (is_anchored_before f e)
    (λ fe. both_ways (is_anchored_before e e) (anchored_before-itself e he)
    (anchored_before-transitive e f e he hf he ef fe))

-- an edge that is not before another does not start before it
not_by_points : (e f : Edge) → is_anchored_before e f ≡ false → point_lt e.a f.a ≡ false
not_by_points e f not_before = false_from_ne_true (point_lt e.a f.a)
    (λ less. both_ways (is_anchored_before e f) not_before (before_by_points e f less))

-- nor is it lower from the same point
not_by_slopes : (e f : Edge) → is_anchored_before e f ≡ false → e.a ≡ f.a → turns_left e f ≡ false
not_by_slopes e f not_before same = false_from_ne_true (turns_left e f)
    (λ left. both_ways (is_anchored_before e f) not_before (before_by_slopes e f same left))

-- edges that are not before each other chain
pub anchored_before-chain : (e f g : Edge) → IsForward e → IsForward f → IsForward g → is_anchored_before e f ≡ false →
    is_anchored_before f g ≡ false →
    is_anchored_before e g ≡ false
anchored_before-chain e f g he hf hg ef fg = false_from_ne_true (is_anchored_before e g)
    (λ eg. ⊎_elim by_points by_slopes (or_cases (point_lt e.a g.a) (point_eq e.a g.a && turns_left e g) eg))
  where
    by_points : point_lt e.a g.a ≡ true → ⊥
    by_points less = both_ways (point_lt f.a g.a) (not_by_points f g fg)
        (point_lt-after_up_to f.a e.a g.a (not_by_points e f ef) less)

    by_slopes : (point_eq e.a g.a && turns_left e g) ≡ true → ⊥
    by_slopes both = at (point_eq e.a f.a) refl
      where
        together : e.a ≡ g.a
        together = point_eq-same e.a g.a (and_parts (point_eq e.a g.a) (turns_left e g) both).0

        at : (t : Bool) → point_eq e.a f.a ≡ t → ⊥
        at true same = both_ways (turns_left f g) (not_by_slopes f g fg (sym (point_eq-same e.a f.a same) ∙ together))
            (left_of_not_left f e g hf he hg (not_by_slopes e f ef (point_eq-same e.a f.a same))
            (and_parts (point_eq e.a g.a) (turns_left e g) both).1)
        at false apart = both_ways (point_lt f.a g.a) (not_by_points f g fg)
            (subst (λ (p : Point). point_lt f.a p ≡ true) together (point_lt-back e.a f.a apart (not_by_points e f ef)))
