-- Meetings without those that repeat: the same meetings.
use Rattle.std.proofs.Common.{◌≡◌, ◌&&◌, Bool, true, ℕ, ℤ, List, nat_eq, refl, ap, ap₂, subst}
use Rattle.std.specs.Cmp.{IsEquivalence}
use Rattle.std.specs.List.{Contains, dedup}
use Rattle.std.specs.List.Sorted.{IsPermutation}
use Rattle.std.proofs.lemmas.Bool.{and_parts, and_from, eq-eqb, eqb-true}
use Rattle.std.proofs.lemmas.List.Kept.{Contains-dedup, Contains-from_dedup}
use Rattle.std.proofs.lemmas.List.Sorted.{Contains-permutation, IsPermutation-sym}
use Rattle.overlay_geom.specs.Plane.{Point, point_eq}
use Rattle.overlay_geom.specs.Points.{plain_point}
use Rattle.overlay_geom.specs.declared.point.IntPoint.{IntPoint}
use Rattle.overlay_geom.proofs.Orders.{point_eq-same, point_eq-of_same}
use Rattle.overlay_plane.proofs.Entries.{Contains-from_map, Contains-map}
use Rattle.overlay_plane.proofs.Tests.{same_tests}
use Rattle.overlay_arrange.specs.HotPoints.{HaveSameMembers}
use Rattle.overlay_arrange.specs.Meetings.{plain_meeting, plain_meetings}
use Rattle.overlay_arrange.specs.declared.meetings.Meeting.{Meeting}

module _ {I : Type 0} (whole : I → ℤ) where
  -- the two meetings are of one edge, at one point
  abbrev pub is_repeated : Meeting I → Meeting I → Bool
  is_repeated m n = nat_eq m.place n.place && point_eq (plain_point whole m.point) (plain_point whole n.point)

  module _ (same : (a b : I) → whole a ≡ whole b → a ≡ b) where
    -- such meetings are equal
    one : (m n : Meeting I) → is_repeated m n ≡ true → m ≡ n
    one m n told =
        let parts = and_parts (nat_eq m.place n.place)
        (point_eq (plain_point whole m.point) (plain_point whole n.point)) told in
        let plain = point_eq-same (plain_point whole m.point) (plain_point whole n.point) parts.1 in
        ap₂ at (eqb-true m.place n.place parts.0)
        (ap₂ point_at (same m.point.x n.point.x (ap (λ (p : Point). p.x) plain))
        (same m.point.y n.point.y (ap (λ (p : Point). p.y) plain)))
      where
        at : ℕ → IntPoint I → Meeting I
        at k v = record { place = k; point = v }

        point_at : I → I → IntPoint I
        point_at x y = record { x = x; y = y }

    itself : (m : Meeting I) → is_repeated m m ≡ true
    itself m = and_from (nat_eq m.place m.place) (point_eq (plain_point whole m.point) (plain_point whole m.point))
        (eq-eqb m.place m.place refl) (point_eq-of_same (plain_point whole m.point) (plain_point whole m.point) refl)

    turned : (m n : Meeting I) → is_repeated m n ≡ true → is_repeated n m ≡ true
    turned m n told = subst (λ k. is_repeated k m ≡ true) (one m n told) (itself m)

    equal : IsEquivalence is_repeated
    equal = record {
      refl = itself;
      symm = λ m n. same_tests (is_repeated m n) (is_repeated n m) (turned m n) (turned n m);
      congr = λ m n k told. ap (λ h. is_repeated h k) (one m n told);
    }

    -- so without them a list that was moved has the same members
    pub members-without_repeats : (old ms : List (Meeting I)) → IsPermutation old ms →
        HaveSameMembers (plain_meetings whole old) (plain_meetings whole (dedup is_repeated ms))
    members-without_repeats old ms moved = record {
      forth = λ p at. let m = Contains-from_map (plain_meeting whole) old p at in
          subst (Contains (plain_meetings whole (dedup is_repeated ms))) m.2
          (Contains-map (plain_meeting whole) (dedup is_repeated ms) m.0
          (Contains-dedup equal one ms m.0 (Contains-permutation old ms m.0 moved m.1)));
      back = λ p at. let m = Contains-from_map (plain_meeting whole) (dedup is_repeated ms) p at in
          subst (Contains (plain_meetings whole old)) m.2
          (Contains-map (plain_meeting whole) old m.0
          (Contains-permutation ms old m.0 (IsPermutation-sym old ms moved)
          (Contains-from_dedup is_repeated ms m.0 m.1)));
    }
