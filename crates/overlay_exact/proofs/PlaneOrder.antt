-- Points of the plane in order, by x and then by y, and points at one place.
use Rattle.std.proofs.Common.{◌⊎◌, inl, inr, sym}
use Rattle.overlay_geom.specs.Plane.{PlanePoint, SamePlace}
use Rattle.overlay_geom.proofs.Signs.{linear}
use Rattle.overlay_plane.specs.Rounds.{IsSmaller}
use Rattle.overlay_plane.proofs.PlaceOrder.{IsUpToPlace}
use Rattle.overlay_plane.proofs.SmallerPoints.{Decides-is_smaller, smaller-transitive, same_place-trans}
use Rattle.overlay_scaled.proofs.CrossedLines.{by_smaller}
use Rattle.overlay_exact.specs.PieceOrder.{IsUpTo}

-- one place, the other way round
pub flipped : (p q : PlanePoint) → SamePlace p q → SamePlace q p
flipped p q (x, y) = (sym x, sym y)

-- `smaller` is transitive
pub smaller_through : (p q r : PlanePoint) → IsSmaller p q → IsSmaller q r → IsSmaller p r
smaller_through p q r first second = (Decides-is_smaller p r).0 (smaller-transitive p q r
    ((Decides-is_smaller p q).1 first) ((Decides-is_smaller q r).1 second))

-- no point is smaller than one at its place
pub smaller_elsewhere : (p q : PlanePoint) → IsSmaller p q → SamePlace p q → ⊥
smaller_elsewhere p q (inl lt) (x, y) = omega linear
smaller_elsewhere p q (inr (level, lt)) (x, y) = omega linear

-- of two points one alone is smaller
pub smaller_one_way : (p q : PlanePoint) → IsSmaller p q → IsSmaller q p → ⊥
smaller_one_way p q (inl lt) (inl more) = omega linear
smaller_one_way p q (inl lt) (inr (level, more)) = omega linear
smaller_one_way p q (inr (level, lt)) (inl more) = omega linear
smaller_one_way p q (inr (level, lt)) (inr (tied, more)) = omega linear

-- a point at the place of a smaller one is smaller
pub smaller_from_same : (p q r : PlanePoint) → SamePlace p q → IsSmaller q r → IsSmaller p r
smaller_from_same p q r same less = by_smaller p r (λ is. is)
    (λ tied. absurd (smaller_elsewhere q r less (same_place-trans q p r (flipped p q same) tied)))
    (λ more. absurd (smaller_elsewhere q p (smaller_through q r p less more) (flipped p q same)))

-- and what is smaller than a point is smaller than one at its place
pub smaller_to_same : (p q r : PlanePoint) → IsSmaller p q → SamePlace q r → IsSmaller p r
smaller_to_same p q r less same = by_smaller p r (λ is. is)
    (λ tied. absurd (smaller_elsewhere p q less (same_place-trans p r q tied (flipped q r same))))
    (λ more. absurd (smaller_elsewhere r q (smaller_through r p q more less) (flipped q r same)))

-- ---- up to a point

-- no point is smaller than one that is up to it
pub smaller_not_back : (p q : PlanePoint) → IsSmaller p q → IsUpTo q p → ⊥
smaller_not_back p q less (inl more) = smaller_one_way p q less more
smaller_not_back p q less (inr same) = smaller_elsewhere p q less (flipped q p same)

-- what is smaller than a point up to another is smaller than that
pub smaller_up_to : (p q r : PlanePoint) → IsSmaller p q → IsUpTo q r → IsSmaller p r
smaller_up_to p q r less (inl more) = smaller_through p q r less more
smaller_up_to p q r less (inr same) = smaller_to_same p q r less same

-- a point up to a smaller one is smaller
pub up_to_smaller : (p q r : PlanePoint) → IsUpTo p q → IsSmaller q r → IsSmaller p r
up_to_smaller p q r (inl less) more = smaller_through p q r less more
up_to_smaller p q r (inr same) more = smaller_from_same p q r same more

-- points in order, in either form
pub up_to_of_place : (p q : PlanePoint) → IsUpToPlace p q → IsUpTo p q
up_to_of_place p q up = by_smaller p q (λ less. inl less) (λ same. inr same) (λ more. absurd (against more))
  where
    against : IsSmaller q p → ⊥
    against (inl lt) = let le = up.x in omega linear
    against (inr (level, lt)) = let le = up.y (omega linear) in omega linear

-- of two points one is smaller, or the other is up to it
pub smaller_or_up_to : (p q : PlanePoint) → IsSmaller p q ⊎ IsUpTo q p
smaller_or_up_to p q = by_smaller p q (λ less. inl less) (λ same. inr (inr (flipped p q same))) (λ more. inr (inl more))
