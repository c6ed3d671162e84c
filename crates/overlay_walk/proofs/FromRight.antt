-- The part of a turn from the right in which a ray meets a point, by the coordinates.
use Rattle.std.proofs.Common.{◌≡◌, Bool, true, false, cond, ℤ, pos, ◌-ℤ◌, ◌<ℤ◌, int_lt, refl}
use Rattle.std.proofs.Common.{sym, ap, ap₂, ◌∙◌, subst}
use Rattle.std.specs.Cmp.{int_ranks}
use Rattle.std.specs.Ordering.{MatchOrdering, int_cmp}
use Rattle.std.specs.declared.cmp.Ordering.{Ordering}
use Rattle.std.specs.declared.cmp.Ordering.TheVariants.{Less, Equal, Greater}
use Rattle.overlay_geom.specs.Plane.{Point}
use Rattle.overlay_geom.proofs.Cross.{crossE}
use Rattle.overlay_geom.proofs.Identities.{solve, number, ◌⊕◌, ◌⊖◌, ◌≗◌}
use Rattle.overlay_geom.proofs.Signs.{linear}
use Rattle.overlay_plane.specs.Turn.{Hand, turn, dot_at, part_of_turn}
use Rattle.overlay_plane.specs.Turn.Hand.{left, right}
use Rattle.overlay_plane.proofs.Tests.{lt_from_test, ge_from_test, test_from_lt, same_tests}
use Rattle.overlay_plane.proofs.TurnOrder.{part_at, part_early, part_late, part_opposite, part_again}
use Rattle.overlay_plane.proofs.Turning.{dotE}
use Rattle.overlay_walk.specs.Fans.{right_of}

-- numbers with one difference compare alike
tests_by_difference : (a b c d : ℤ) → b -ℤ a ≡ d -ℤ c → int_lt a b ≡ int_lt c d
tests_by_difference a b c d same = same_tests (int_lt a b) (int_lt c d)
    (λ e. let h = lt_from_test a b e in test_from_lt c d (omega linear))
    (λ e. let h = lt_from_test c d e in test_from_lt a b (omega linear))

compared_by_difference : (a b c d : ℤ) → b -ℤ a ≡ d -ℤ c → int_cmp a b ≡ int_cmp c d
compared_by_difference a b c d same = ap₂ (λ s t. cond s Less (cond t Greater Equal)) (tests_by_difference a b c d same)
    (tests_by_difference b a d c (omega linear))

-- the turn from the right is the way down by the left hand, and up by the right hand
pub turn_down : (v p : Point) → turn left v (right_of v) p ≡ v.y -ℤ p.y
turn_down v p = solve 4 (λ vx vy px py. crossE vx vy px py (vx ⊕ number (pos 1)) vy ≗ vy ⊖ py) tt v.x v.y p.x p.y

pub turn_up : (v p : Point) → turn right v (right_of v) p ≡ p.y -ℤ v.y
turn_up v p = solve 4 (λ vx vy px py. crossE vx vy (vx ⊕ number (pos 1)) vy px py ≗ py ⊖ vy) tt v.x v.y p.x p.y

-- so the heights tell it
pub half_by_left : (v p : Point) → int_cmp p.y v.y ≡ int_cmp (pos 0) (turn left v (right_of v) p)
half_by_left v p = compared_by_difference p.y v.y (pos 0) (turn left v (right_of v) p)
    (let t = turn_down v p in omega linear)

pub half_by_right : (v p : Point) → int_cmp v.y p.y ≡ int_cmp (pos 0) (turn right v (right_of v) p)
half_by_right v p = compared_by_difference v.y p.y (pos 0) (turn right v (right_of v) p)
    (let t = turn_up v p in omega linear)

-- the inner product with the right is the way to the right
dot_along : (v p : Point) → dot_at v (right_of v) p ≡ p.x -ℤ v.x
dot_along v p = solve 4 (λ vx vy px py. dotE vx vy (vx ⊕ number (pos 1)) vy px py ≗ px ⊖ vx) tt v.x v.y p.x p.y

-- the part, by that comparison
pub part_by : (hand : Hand) (v p : Point) (o : Ordering) → o ≡ int_cmp (pos 0) (turn hand v (right_of v) p) →
    MatchOrdering o (0 ≡ part_of_turn hand v (right_of v) p)
    (cond (int_lt p.x v.x) 1 3 ≡ part_of_turn hand v (right_of v) p) (2 ≡ part_of_turn hand v (right_of v) p)
part_by hand v p o is = by o (subst (λ q. MatchOrdering q (pos 0 <ℤ t) (pos 0 ≡ t) (t <ℤ pos 0)) (sym is)
    (int_ranks (pos 0) t))
  where
    t : ℤ
    t = turn hand v (right_of v) p

    d : ℤ
    d = dot_at v (right_of v) p

    by : (q : Ordering) → MatchOrdering q (pos 0 <ℤ t) (pos 0 ≡ t) (t <ℤ pos 0) →
        MatchOrdering q (0 ≡ part_of_turn hand v (right_of v) p)
        (cond (int_lt p.x v.x) 1 3 ≡ part_of_turn hand v (right_of v) p) (2 ≡ part_of_turn hand v (right_of v) p)
    by Less h = sym (part_early t d h)
    by Equal e = ap (λ b. cond b 1 3)
        (tests_by_difference p.x v.x d (pos 0) (let a = dot_along v p in omega linear))
        ∙ on_line (int_lt d (pos 0)) refl
      where
        on_line : (b : Bool) → int_lt d (pos 0) ≡ b → cond b 1 3 ≡ part_at t d
        on_line true low = sym (part_opposite t d (sym e) (lt_from_test d (pos 0) low))
        on_line false high = sym (part_again t d (sym e) (ge_from_test d (pos 0) high))
    by Greater h = sym (part_late t d h)
