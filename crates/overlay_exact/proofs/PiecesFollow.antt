-- The pieces of an edge follow each other, and each has a point between its ends.
use Rattle.std.proofs.Common.{◌≡◌, ◌⊎◌, inl, inr, ⊎_elim, true, ℤ, pos, ◌+ℤ◌, ◌*ℤ◌, ◌<ℤ◌, List, Contains}
use Rattle.std.proofs.lemmas.List.Elements.{All-contains}
use Rattle.overlay_geom.specs.Edges.{CountedEdge, ends_of}
use Rattle.overlay_geom.specs.Plane.{PlanePoint, Edge, SamePlace, IsOn, IsEnd, in_plane, point_lt, side}
use Rattle.overlay_geom.proofs.AlongEdge.{sideE}
use Rattle.overlay_geom.proofs.Identities.{solve, ◌⊕◌, ◌⊗◌, ◌≗◌}
use Rattle.overlay_geom.proofs.PointOrder.{IsBefore}
use Rattle.overlay_geom.proofs.Signs.{linear}
use Rattle.overlay_plane.specs.EdgeLists.{IsForwardBy}
use Rattle.overlay_plane.specs.Meetings.{IsMeetingPoint, MeetsAnother}
use Rattle.overlay_plane.specs.Rounds.{IsSmaller}
use Rattle.overlay_plane.proofs.PlaceOrder.{on_between, on_same_place, place_of_smaller, start_up_to_place}
use Rattle.overlay_plane.proofs.PlaceOrder.{place_up_to_end}
use Rattle.overlay_plane.proofs.SmallerPoints.{same_place-trans}
use Rattle.overlay_plane.proofs.WholeOnEdges.{forward_from_test}
use Rattle.overlay_plane.proofs.WholePlaces.{at_moved}
use Rattle.overlay_scaled.specs.Pieces.{IsPlaceOn, IsPiece, IsWithinPiece}
use Rattle.overlay_scaled.specs.PlainPoints.{IsPlain}
use Rattle.overlay_scaled.proofs.CrossedLines.{by_smaller}
use Rattle.overlay_exact.specs.PieceOrder.{IsUpTo, PiecesFollow}
use Rattle.overlay_exact.proofs.PlaneOrder.{flipped, smaller_from_same, smaller_or_up_to}
use Rattle.overlay_exact.proofs.PlaneOrder.{up_to_of_place}

-- ---- a point between two others

module _ (l m : PlanePoint) where
  positive : pos 0 <ℤ (l.d +ℤ m.d)
  positive = let one = l.positive in let other = m.positive in omega linear

  -- the numbers of both added
  abbrev between : PlanePoint
  between = record { x = l.x +ℤ m.x; y = l.y +ℤ m.y; d = l.d +ℤ m.d; positive = positive }

  -- the products that order it
  low : (x d y c : ℤ) → x *ℤ (d +ℤ c) ≡ x *ℤ d +ℤ x *ℤ c
  low = solve 4 (λ x d y c. x ⊗ (d ⊕ c) ≗ x ⊗ d ⊕ x ⊗ c) tt

  high : (x d y c : ℤ) → (x +ℤ y) *ℤ d ≡ x *ℤ d +ℤ y *ℤ d
  high = solve 4 (λ x d y c. (x ⊕ y) ⊗ d ≗ x ⊗ d ⊕ y ⊗ d) tt

  between_after : IsSmaller l m → IsSmaller l between
  between_after less =
      let x_low = low l.x l.d m.x m.d in
      let x_high = high l.x l.d m.x m.d in
      let y_low = low l.y l.d m.y m.d in
      let y_high = high l.y l.d m.y m.d in
      ⊎_elim (λ lt. inl (omega linear))
      (λ (both : (l.x *ℤ m.d ≡ m.x *ℤ l.d) × ((l.y *ℤ m.d) <ℤ (m.y *ℤ l.d))).
      let level = both.0 in let lt = both.1 in inr (omega linear, omega linear)) less

  between_before : IsSmaller l m → IsSmaller between m
  between_before less =
      let x_high = high l.x m.d m.x l.d in
      let x_low = low m.x l.d l.x m.d in
      let y_high = high l.y m.d m.y l.d in
      let y_low = low m.y l.d l.y m.d in
      ⊎_elim (λ lt. inl (omega linear))
      (λ (both : (l.x *ℤ m.d ≡ m.x *ℤ l.d) × ((l.y *ℤ m.d) <ℤ (m.y *ℤ l.d))).
      let level = both.0 in let lt = both.1 in inr (omega linear, omega linear)) less

  between_level : (e : Edge) → side e l ≡ pos 0 → side e m ≡ pos 0 → side e between ≡ pos 0
  between_level e at_l at_m =
      let sum = solve 10 (λ ax ay bx by x y d u v c. sideE ax ay bx by (x ⊕ u) (y ⊕ v) (d ⊕ c) ≗
      sideE ax ay bx by x y d ⊕ sideE ax ay bx by u v c) tt e.a.x e.a.y e.b.x e.b.y l.x l.y l.d m.x m.y m.d in
      omega linear

-- ---- points at one place

-- what meets at a point meets at its place
pub meeting_moved : (e f : Edge) (p q : PlanePoint) → IsBefore e.a e.b → IsBefore f.a f.b → SamePlace p q →
    IsMeetingPoint e f p → IsMeetingPoint e f q
meeting_moved e f p q e_before f_before same meeting = record {
  common = (
    on_same_place e e_before p q same meeting.common.0,
    on_same_place f f_before p q same meeting.common.1,
  );
  only_or_end = ⊎_elim (λ only. inl (λ r also. same_place-trans r p q (only r also) same))
      (λ end. inr (⊎_elim (λ one. inl (end_moved e one)) (λ other. inr (end_moved f other)) end))
      meeting.only_or_end;
}
  where
    end_moved : (g : Edge) → IsEnd g p → IsEnd g q
    end_moved g (inl at) = inl (at_moved g.a p q same at)
    end_moved g (inr at) = inr (at_moved g.b p q same at)

-- ---- pieces

-- an edge of a list that leads forward does so
pub before_in : (es : List CountedEdge) → IsForwardBy ends_of es → (g : CountedEdge) → Contains es g → IsBefore g.a g.b
before_in es forward g c = forward_from_test (ends_of g)
    (All-contains (λ h. point_lt h.a h.b ≡ true) es g forward c)

module _ (es : List CountedEdge) (forward : IsForwardBy ends_of es) (e : CountedEdge) where
  before_of : (g : CountedEdge) → Contains es g → IsBefore g.a g.b
  before_of = before_in es forward

  -- of two pieces from different places one ends before the other begins
  later_apart : (l m k n : PlanePoint) → IsPiece es e l m → IsPiece es e k n → IsSmaller l k → IsUpTo m k
  later_apart l m k n one other later = ⊎_elim (λ before. absurd (one.clear k other.from later before)) (λ up. up)
      (smaller_or_up_to k m)

  -- those from one place lead to one place
  same_end : (l m k n : PlanePoint) → IsPiece es e l m → IsPiece es e k n → SamePlace l k → SamePlace m n
  same_end l m k n one other same = by_smaller m n
      (λ less. absurd (other.clear m one.to (smaller_from_same k l m (flipped l k same) one.before) less))
      (λ tied. tied)
      (λ more. absurd (one.clear n other.to (smaller_from_same l k n same other.before) more))

  pieces_apart : (l m k n : PlanePoint) → IsPiece es e l m → IsPiece es e k n →
      (IsUpTo m k ⊎ IsUpTo n l) ⊎ (SamePlace l k × SamePlace m n)
  pieces_apart l m k n one other = by_smaller l k
      (λ less. inl (inl (later_apart l m k n one other less)))
      (λ same. inr (same, same_end l m k n one other same))
      (λ more. inl (inr (later_apart k n l m other one more)))

  pieces_inside : (l m : PlanePoint) → IsPiece es e l m → IsUpTo (in_plane e.a) l × IsUpTo m (in_plane e.b)
  pieces_inside l m piece =
      let before = before_of e piece.entry in (
        up_to_of_place (in_plane e.a) l (start_up_to_place (ends_of e) before l piece.from.on),
        up_to_of_place m (in_plane e.b) (place_up_to_end (ends_of e) before m piece.to.on),
      )

  point_inside : (l m : PlanePoint) → IsPiece es e l m → (p : PlanePoint) × IsWithinPiece e l m p
  point_inside l m piece = (
    between l m,
    record {
      on = on_between (ends_of e) (before_of e piece.entry) l m (between l m) piece.from.on piece.to.on
          (between_level l m (ends_of e) piece.from.on.on_line piece.to.on.on_line)
          (place_of_smaller l (between l m) (between_after l m piece.before))
          (place_of_smaller (between l m) m (between_before l m piece.before));
      after = between_after l m piece.before;
      before = between_before l m piece.before;
    },
  )

  -- a plain point at the place of a place would be one
  not_plain : (p l : PlanePoint) → IsPlain es e p → IsPlaceOn es e l → SamePlace l p → ⊥
  not_plain p l plain place same = ⊎_elim
      (λ end. plain.no_end (end_moved end))
      (λ (met : MeetsAnother es e l). plain.alone (
        met.0,
        met.1,
        met.2,
        meeting_moved (ends_of e) (ends_of met.0) l p
            (before_of e plain.entry) (before_of met.0 met.1) same met.3,
      ))
      place.stop
    where
      end_moved : IsEnd (ends_of e) l → IsEnd (ends_of e) p
      end_moved (inl at) = inl (at_moved e.a l p same at)
      end_moved (inr at) = inr (at_moved e.b l p same at)

  plain_apart : (p l : PlanePoint) → IsPlain es e p → IsPlaceOn es e l → IsSmaller p l ⊎ IsSmaller l p
  plain_apart p l plain place = by_smaller p l (λ less. inl less)
      (λ same. absurd (not_plain p l plain place (flipped p l same))) (λ more. inr more)

  pub pieces_follow : PiecesFollow es e
  pieces_follow = record {
    apart = pieces_apart;
    inside = pieces_inside;
    some = point_inside;
    plain = plain_apart;
  }
