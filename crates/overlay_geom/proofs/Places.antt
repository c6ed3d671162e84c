-- The position of an edge relative to another edge's line, read off the sides of its two ends.
use Rattle.std.proofs.Common.{◌≡◌, ◌≢◌, ◌⊎◌, inl, inr, Bool, true, false, not, ◌==◌, ℤ, pos, ◌<ℤ◌, ◌≤ℤ◌, int_cmp, refl}
use Rattle.std.specs.Ordering.{MatchOrdering, is_eq, ordering_index}
use Rattle.std.specs.declared.cmp.Ordering.{Ordering}
use Rattle.std.specs.declared.cmp.Ordering.TheVariants.{Less, Equal, Greater}
use Rattle.std.proofs.lemmas.Cmp.{int_ranked}
use Rattle.overlay_geom.specs.Plane.{Edge, cross_at}
use Rattle.overlay_geom.specs.Placed.{IsAlong, IsBeside, IsAcross}
use Rattle.overlay_geom.proofs.Signs.{linear}
use Rattle.overlay_geom.proofs.PointOrder.{IsBefore}
use Rattle.overlay_geom.proofs.Meeting.{across_not_along}
use Rattle.overlay_geom.specs.Resolved.{IsPlaced}
use Rattle.overlay_geom.specs.declared.edge_pair.Place.{Place}
use Rattle.overlay_geom.specs.declared.edge_pair.Place.TheVariants.{Along, Beside, Across}

-- the ordering is on which side of e's line the point lies
abbrev TellsSide : Ordering → ℤ → Type 0
TellsSide o z = MatchOrdering o (z <ℤ pos 0) (z ≡ pos 0) (pos 0 <ℤ z)

-- the two are on one side, as the code tests it
abbrev are_same : Ordering → Ordering → Bool
are_same a b = ordering_index a == ordering_index b

-- the sides, as numbers, of two ends of an edge that goes across
abbrev AreAcross : ℤ → ℤ → Type 0
AreAcross x y = ((x ≤ℤ pos 0) × (pos 0 ≤ℤ y) × (x <ℤ y)) ⊎ ((y ≤ℤ pos 0) × (pos 0 ≤ℤ x) × (y <ℤ x))

-- ends on different sides are such
across_where_different : (x y : ℤ) (a b : Ordering) → TellsSide a x → TellsSide b y → not (are_same a b) ≡ true →
    AreAcross x y
across_where_different x y Less Less s t differ = absurd (cc)
across_where_different x y Less Equal s t differ = inl (omega linear, omega linear, omega linear)
across_where_different x y Less Greater s t differ = inl (omega linear, omega linear, omega linear)
across_where_different x y Equal Less s t differ = inr (omega linear, omega linear, omega linear)
across_where_different x y Equal Equal s t differ = absurd (cc)
across_where_different x y Equal Greater s t differ = inl (omega linear, omega linear, omega linear)
across_where_different x y Greater Less s t differ = inr (omega linear, omega linear, omega linear)
across_where_different x y Greater Equal s t differ = inr (omega linear, omega linear, omega linear)
across_where_different x y Greater Greater s t differ = absurd (cc)

-- an edge whose ends lie on different sides goes across
pub across_from_sides : (e f : Edge) (a b : Ordering) → a ≡ int_cmp (cross_at e.a e.b f.a) (pos 0) →
    b ≡ int_cmp (cross_at e.a e.b f.b) (pos 0) → not (are_same a b) ≡ true → IsAcross e f
across_from_sides e f a b at_a at_b differ =
    across_where_different _ _ a b (int_ranked _ _ a at_a) (int_ranked _ _ b at_b) differ

-- an edge both of whose ends lie on the line is along it
pub along_from_sides : (e f : Edge) (a b : Ordering) → a ≡ int_cmp (cross_at e.a e.b f.a) (pos 0) →
    b ≡ int_cmp (cross_at e.a e.b f.b) (pos 0) → not (are_same a b) ≡ false → is_eq a ≡ true → IsAlong e f
along_from_sides e f a b at_a at_b same straight = by a b (int_ranked _ _ a at_a) (int_ranked _ _ b at_b) same straight
  where
    by : (a b : Ordering) → TellsSide a (cross_at e.a e.b f.a) → TellsSide b (cross_at e.a e.b f.b) →
        not (are_same a b) ≡ false → is_eq a ≡ true → IsAlong e f
    by Less b s t same straight = absurd (cc)
    by Equal Less s t same straight = absurd (cc)
    by Equal Equal s t same straight = (s, t)
    by Equal Greater s t same straight = absurd (cc)
    by Greater b s t same straight = absurd (cc)

-- an edge whose ends lie on the same side, off the line, is beside it
pub beside_from_sides : (e f : Edge) (a b : Ordering) → a ≡ int_cmp (cross_at e.a e.b f.a) (pos 0) →
    b ≡ int_cmp (cross_at e.a e.b f.b) (pos 0) → not (are_same a b) ≡ false → is_eq a ≡ false → IsBeside e f
beside_from_sides e f a b at_a at_b same aside = by a b (int_ranked _ _ a at_a) (int_ranked _ _ b at_b) same aside
  where
    by : (a b : Ordering) → TellsSide a (cross_at e.a e.b f.a) → TellsSide b (cross_at e.a e.b f.b) →
        not (are_same a b) ≡ false → is_eq a ≡ false → IsBeside e f
    by Less Less s t same aside = inr (s, t)
    by Less Equal s t same aside = absurd (cc)
    by Less Greater s t same aside = absurd (cc)
    by Equal b s t same aside = absurd (cc)
    by Greater Less s t same aside = absurd (cc)
    by Greater Equal s t same aside = absurd (cc)
    by Greater Greater s t same aside = inl (s, t)

-- where f goes across e's line, and e is not beside f's, e goes across that one too
pub across_where_not_beside : (e f : Edge) (place : Place) → IsBefore f.a f.b → IsAcross e f → IsPlaced place f e →
    place ≢ Beside → IsAcross f e
across_where_not_beside e f Along forward across placed other = absurd (across_not_along e f forward across placed)
across_where_not_beside e f Beside forward across placed other = absurd (other refl)
across_where_not_beside e f Across forward across placed other = placed
