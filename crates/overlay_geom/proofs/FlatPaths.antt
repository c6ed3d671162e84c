-- The paths of a list of points that grows: the ranges that were inside keep their points, and a range of the new
-- points has these.
use Rattle.std.proofs.Common.{◌≡◌, ℕ, ℤ, ◌+◌, ◌-◌, ◌≤◌, List, [], ◌∷◌, ◌++◌, length, get_or, take, drop, slice_range}
use Rattle.std.proofs.Common.{cond, ◌&&◌, refl, sym, ◌∙◌, ap, ap₂, arith}
use Rattle.std.specs.declared.ops.Range.{Range}
use Rattle.std.proofs.lemmas.Bool.{le-leb}
use Rattle.std.proofs.lemmas.List.{map-append, length-append, length-drop, take_all, take-append-le, drop-append-le}
use Rattle.std.proofs.lemmas.List.{drop_all}
use Rattle.std.proofs.lemmas.List.Elements.{All-head, All-tail, All-push}
use Rattle.overlay_geom.specs.declared.point.IntPoint.{IntPoint}
use Rattle.overlay_geom.specs.Points.{plain_points}
use Rattle.overlay_geom.specs.Flat.{no_range, range_within, part_in, range_behind, paths_in, IsInside, AreInside}

-- a range inside is itself
pub within_inside : (n : ℕ) (r : Range ℕ) → IsInside n r → range_within n r ≡ r
within_inside n r inside = ap₂ (λ a b. cond (a && b) r no_range) (le-leb r.start r.end inside.rises)
    (le-leb r.end n inside.ends)

-- the items of a range inside are those from its start up to its end
pub part_inside : {X : Type 0} (xs : List X) (r : Range ℕ) → IsInside (length xs) r →
    part_in xs r ≡ slice_range xs r.start r.end
part_inside xs r inside = ap (λ s. slice_range xs s.start s.end) (within_inside (length xs) r inside)

module _ {X : Type 0} (xs ys : List X) where
  -- it is inside the longer list too
  pub inside_longer : (r : Range ℕ) → IsInside (length xs) r → IsInside (length (xs ++ ys)) r
  inside_longer r inside =
      let long = length-append xs ys in
      let ends = inside.ends in
      record { rises = inside.rises; ends = omega (arith, long, ends) }

  -- where it has the same items
  pub part_longer : (r : Range ℕ) → IsInside (length xs) r → part_in (xs ++ ys) r ≡ part_in xs r
  part_longer r inside =
      let rises = inside.rises in
      let ends = inside.ends in
      let begins : r.start ≤ length xs = omega (arith, rises, ends) in
      let left = length-drop r.start xs in
      let fits : r.end - r.start ≤ length (drop r.start xs) = omega (arith, rises, ends, left) in
      part_inside (xs ++ ys) r (inside_longer r inside)
      ∙ ap (take (r.end - r.start)) (drop-append-le r.start xs ys begins)
      ∙ take-append-le (r.end - r.start) (drop r.start xs) ys fits
      ∙ sym (part_inside xs r inside)

  -- the range of the items behind a list is inside both together
  pub inside_behind : IsInside (length (xs ++ ys)) (range_behind xs ys)
  inside_behind = let long = length-append xs ys in record { rises = omega arith; ends = omega (arith, long) }

  -- that range has these items
  pub part_behind : part_in (xs ++ ys) (range_behind xs ys) ≡ ys
  part_behind =
      let n = length xs + length ys - length xs in
      part_inside (xs ++ ys) (range_behind xs ys) inside_behind
      ∙ ap (take n) (drop-append-le (length xs) xs ys (omega arith)
      ∙ ap (λ zs. zs ++ ys) (drop_all (length xs) xs (omega arith)))
      ∙ take_all n ys (omega arith)

module _ {I : Type 0} (whole : I → ℤ) (ps c : List (IntPoint I)) where
  -- more points leave the paths of ranges inside as they are
  pub paths_longer : (rs : List (Range ℕ)) → AreInside (length ps) rs →
      paths_in whole (ps ++ c) rs ≡ paths_in whole ps rs
  paths_longer [] all = refl
  paths_longer (r ∷ rs) all =
      ap₂ (λ p qs. plain_points whole p ∷ qs) (part_longer ps c r (All-head (IsInside (length ps)) r rs all))
      (paths_longer rs (All-tail (IsInside (length ps)) r rs all))

  -- a contour that is added is one path more
  pub paths_added : (rs : List (Range ℕ)) → AreInside (length ps) rs
      → paths_in whole (ps ++ c) (rs ++ range_behind ps c ∷ []) ≡ paths_in whole ps rs ++ plain_points whole c ∷ []
  paths_added rs all =
      map-append (λ r. plain_points whole (part_in (ps ++ c) r)) rs (range_behind ps c ∷ [])
      ∙ ap₂ (λ qs p. qs ++ plain_points whole p ∷ []) (paths_longer rs all) (part_behind ps c)

  -- all ranges are inside again
  pub inside_added : (rs : List (Range ℕ)) → AreInside (length ps) rs →
      AreInside (length (ps ++ c)) (rs ++ range_behind ps c ∷ [])
  inside_added rs all = All-push (IsInside (length (ps ++ c))) rs (range_behind ps c)
      (λ i d lt. inside_longer ps c (get_or rs i d) (all i d lt)) (inside_behind ps c)
