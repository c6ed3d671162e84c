-- The order of edges by their starts is strict, and any two forward edges compare in it.
use Rattle.std.proofs.Common.{◌≡◌, ◌⊎◌, ⊎_elim, Bool, true, false, ◌&&◌, ◌||◌, ℤ, pos, int_lt, sym, ap, ◌∙◌, subst}
use Rattle.std.proofs.Common.{refl}
use Rattle.std.specs.Ordering.{is_lt, is_eq, int_cmp}
use Rattle.std.specs.declared.cmp.Ordering.{Ordering}
use Rattle.std.specs.declared.cmp.Ordering.TheVariants.{Less, Equal, Greater}
use Rattle.std.proofs.lemmas.Bool.{both_ways, false_from_ne_true, or_cases, or_left, or_right, and_parts, and_from}
use Rattle.overlay_geom.specs.Plane.{Point, Edge, point_lt, point_eq, cross_at}
use Rattle.overlay_geom.proofs.Orders.{point_eq-same, point_eq-of_same, point_lt-itself, point_lt-back}
use Rattle.overlay_geom.proofs.PointComparisons.{point_cmp-is_tie}
use Rattle.overlay_geom.proofs.PointOrder.{point_lt-transitive, point_lt-after_up_to}
use Rattle.overlay_plane.specs.Nodes.{edge_turn, turns_left}
use Rattle.overlay_plane.proofs.EdgeTurns.{edge_turn_same, left_after_left, IsForward, left_of_not_left}
use Rattle.overlay_plane.proofs.Tests.{lt_from_test, test_from_lt}
use Rattle.overlay_order.specs.Content.{point_cmp}
use Rattle.overlay_walk.specs.Places.{comes_top_first}
use Rattle.overlay_plane.proofs.TiedStarts.{tied_before}

-- the edges start in one point, and the first leads to the left of the second
abbrev pub is_left_at_start : Edge → Edge → Bool
is_left_at_start e f = point_eq e.a f.a && turns_left f e

-- by its point an edge starts before another, and by its slope
pub starts_by_points : (e f : Edge) → point_lt e.a f.a ≡ true → comes_top_first e f ≡ true
starts_by_points e f less = or_left (point_lt e.a f.a) (is_left_at_start e f) less

pub starts_by_slopes : (e f : Edge) → e.a ≡ f.a → turns_left f e ≡ true → comes_top_first e f ≡ true
starts_by_slopes e f same left = or_right (point_lt e.a f.a) (is_left_at_start e f)
    (and_from (point_eq e.a f.a) (turns_left f e) (point_eq-of_same e.a f.a same) left)

-- an edge that does not start before another has no smaller point, and from an equal point no higher slope
pub not_by_points : (e f : Edge) → comes_top_first e f ≡ false → point_lt e.a f.a ≡ false
not_by_points e f later = false_from_ne_true (point_lt e.a f.a)
    (λ less. both_ways (comes_top_first e f) later (starts_by_points e f less))

pub not_by_slopes : (e f : Edge) → comes_top_first e f ≡ false → e.a ≡ f.a → turns_left f e ≡ false
not_by_slopes e f later same = false_from_ne_true (turns_left f e)
    (λ left. both_ways (comes_top_first e f) later (starts_by_slopes e f same left))

-- no edge starts before itself
pub comes_top_first-itself : (e : Edge) → comes_top_first e e ≡ false
comes_top_first-itself e = false_from_ne_true (comes_top_first e e) (λ before. ⊎_elim
    (λ less. both_ways (point_lt e.a e.a) (point_lt-itself e.a) less)
    (λ left. both_ways (turns_left e e) (ap (int_lt (pos 0)) (edge_turn_same e))
    (and_parts (point_eq e.a e.a) (turns_left e e) left).1)
    (or_cases (point_lt e.a e.a) (is_left_at_start e e) before))

-- the point and the slope of edges that start in one point
same_start : (e f : Edge) → is_left_at_start e f ≡ true → e.a ≡ f.a
same_start e f both = point_eq-same e.a f.a (and_parts (point_eq e.a f.a) (turns_left f e) both).0

turned : (e f : Edge) → is_left_at_start e f ≡ true → turns_left f e ≡ true
turned e f both = (and_parts (point_eq e.a f.a) (turns_left f e) both).1

module _ (e f g : Edge) (he : IsForward e) (hf : IsForward f) (hg : IsForward g) where
  -- left of the rest
  left_of_left : turns_left f e ≡ true → turns_left g f ≡ true → turns_left g e ≡ true
  left_of_left ef fg = test_from_lt (pos 0) (edge_turn g e)
      (left_after_left g f e hg hf he (lt_from_test (pos 0) (edge_turn g f) fg)
      (lt_from_test (pos 0) (edge_turn f e) ef))

  -- the order of starts is transitive
  comes_top_first-transitive : comes_top_first e f ≡ true → comes_top_first f g ≡ true → comes_top_first e g ≡ true
  comes_top_first-transitive ef fg = ⊎_elim
      (λ less. starts_by_points e g (⊎_elim
      (λ more. point_lt-transitive e.a f.a g.a less more)
      (λ tie. subst (λ (p : Point). point_lt e.a p ≡ true) (same_start f g tie) less) second))
      (λ tie. ⊎_elim
      (λ more. starts_by_points e g (subst (λ (p : Point). point_lt p g.a ≡ true) (sym (same_start e f tie)) more))
      (λ level. starts_by_slopes e g (same_start e f tie ∙ same_start f g level)
      (left_of_left (turned e f tie) (turned f g level))) second)
      (or_cases (point_lt e.a f.a) (is_left_at_start e f) ef)
    where
      second : (point_lt f.a g.a ≡ true) ⊎ (is_left_at_start f g ≡ true)
      second = or_cases (point_lt f.a g.a) (is_left_at_start f g) fg

  -- edges that do not start before each other chain
  pub comes_top_first-chain : comes_top_first e f ≡ false → comes_top_first f g ≡ false → comes_top_first e g ≡ false
  comes_top_first-chain ef fg = false_from_ne_true (comes_top_first e g)
      (λ eg. ⊎_elim by_points by_slopes (or_cases (point_lt e.a g.a) (is_left_at_start e g) eg))
    where
      by_points : point_lt e.a g.a ≡ true → ⊥
      by_points less = both_ways (point_lt f.a g.a) (not_by_points f g fg)
          (point_lt-after_up_to f.a e.a g.a (not_by_points e f ef) less)

      by_slopes : is_left_at_start e g ≡ true → ⊥
      by_slopes both = at (point_eq e.a f.a) refl
        where
          at : (t : Bool) → point_eq e.a f.a ≡ t → ⊥
          at true is = let same = point_eq-same e.a f.a is in both_ways (turns_left f e) (not_by_slopes e f ef same)
              (left_of_not_left f g e hf hg he (not_by_slopes f g fg (sym same ∙ same_start e g both))
              (turned e g both))
          at false apart = both_ways (point_lt f.a g.a) (not_by_points f g fg)
              (subst (λ (p : Point). point_lt f.a p ≡ true) (same_start e g both)
              (point_lt-back e.a f.a apart (not_by_points e f ef)))

-- of two edges one at most starts before the other
pub comes_top_first-one_way : (e f : Edge) → IsForward e → IsForward f → comes_top_first e f ≡ true →
    comes_top_first f e ≡ false
comes_top_first-one_way e f he hf ef = false_from_ne_true (comes_top_first f e)
    (λ fe. both_ways (comes_top_first e e) (comes_top_first-itself e) (comes_top_first-transitive e f e he hf he ef fe))

-- from one point the cross product tells which edge starts before the other
tied_start : (e f : Edge) (z : ℤ) → point_cmp e.a f.a ≡ Equal → z ≡ cross_at e.a e.b f.b →
    is_lt (int_cmp z (pos 0)) ≡ comes_top_first e f
tied_start e f z tied crossed =
    tied_before f e z ((λ i. point_cmp (sym same i) (same i)) ∙ tied) (crossed ∙ (λ i. cross_at (same i) e.b f.b))
    ∙ (λ i. point_lt (sym same i) (same i) || (point_eq (sym same i) (same i) && turns_left f e))
  where
    same : e.a ≡ f.a
    same = point_eq-same e.a f.a (sym (point_cmp-is_tie e.a f.a) ∙ ap is_eq tied)

-- and an order of equal points is a tie
tie_of : (o : Ordering) → is_eq o ≡ true → o ≡ Equal
tie_of Less is = absurd (both_ways false refl is)
tie_of Equal is = refl
tie_of Greater is = absurd (both_ways false refl is)

-- the same, where the starts are told to be equal
pub one_start : (e f : Edge) (z : ℤ) → point_eq e.a f.a ≡ true → z ≡ cross_at e.a e.b f.b →
    is_lt (int_cmp z (pos 0)) ≡ comes_top_first e f
one_start e f z same crossed =
    tied_start e f z (tie_of (point_cmp e.a f.a) (point_cmp-is_tie e.a f.a ∙ same)) crossed

-- a further test that fails adds nothing
pub or_no : (b : Bool) → b ≡ (b || false)
or_no true = refl
or_no false = refl

-- from different points the points tell it
pub other_start : (e f : Edge) → point_eq e.a f.a ≡ false → point_lt e.a f.a ≡ comes_top_first e f
other_start e f apart = or_no (point_lt e.a f.a)
    ∙ ap (λ b. point_lt e.a f.a || (b && turns_left f e)) (sym apart)
