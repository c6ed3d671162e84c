-- Paths whose coordinates are taken at 32 bits, and back.
use Rattle.std.proofs.Common.{◌≡◌, ℕ, ℤ, List, [], ◌∷◌, map, length, refl, sym, ap, ap₂, ◌∙◌}
use Rattle.std.proofs.lemmas.List.{length-map}
use Rattle.std.specs.List.{slice_range}
use Rattle.std.specs.declared.ops.Range.{Range}
use Rattle.overlay_geom.specs.Flat.{part_in, paths_in, range_within, shapes_in}
use Rattle.overlay_geom.specs.Plane.{Point}
use Rattle.overlay_geom.specs.Points.{plain_point, plain_points}
use Rattle.overlay_geom.specs.declared.point.IntPoint.{IntPoint}
use Rattle.overlay_geom.proofs.Mapped.{mapped_range}
use Rattle.polyover_calls.specs.Arrays.{coordinates_of, points_of, ranges_from}
use Rattle.polyover_calls.specs.Reading.{contours_at}

-- ---- paths by their whole points

part_mapped : {X Y : Type 0} (f : X → Y) (xs : List X) (r : Range ℕ) → map f (part_in xs r) ≡ part_in (map f xs) r
part_mapped f xs r = mapped_range f xs (range_within (length xs) r).start (range_within (length xs) r).end
    ∙ ap (λ n. slice_range (map f xs) (range_within n r).start (range_within n r).end) (sym (length-map xs f))

parts_of : List Point → List (Range ℕ) → List (List Point)
parts_of ps rs = map (λ r. part_in ps r) rs

paths_by_points : {I : Type 0} (whole : I → ℤ) (ps : List (IntPoint I)) (rs : List (Range ℕ)) →
    paths_in whole ps rs ≡ map (λ r. part_in (plain_points whole ps) r) rs
paths_by_points whole ps [] = refl
paths_by_points whole ps (r ∷ rs) = ap₂ (λ x xs. x ∷ xs) (part_mapped (plain_point whole) ps r)
    (paths_by_points whole ps rs)

-- equal points give equal paths, and equal shapes
module _ {I J : Type 0} (whole : I → ℤ) (other : J → ℤ) (ps : List (IntPoint I)) (qs : List (IntPoint J))
    (same : plain_points whole ps ≡ plain_points other qs) where
  pub paths_same : (rs : List (Range ℕ)) → paths_in whole ps rs ≡ paths_in other qs rs
  paths_same rs = paths_by_points whole ps rs ∙ ap (λ xs. map (λ r. part_in xs r) rs) same
      ∙ sym (paths_by_points other qs rs)

  pub shapes_same : (paths shapes : List (Range ℕ)) → shapes_in whole ps paths shapes ≡ shapes_in other qs paths shapes
  shapes_same paths [] = refl
  shapes_same paths (s ∷ ss) = ap₂ (λ x xs. x ∷ xs) (paths_same (part_in paths s)) (shapes_same paths ss)

-- ---- points by their coordinates

points_by_wholes : {I : Type 0} (whole : I → ℤ) (cs : List I) →
    plain_points whole (points_of cs) ≡ plain_points (λ z. z) (points_of (map whole cs))
points_by_wholes whole [] = refl
points_by_wholes whole (x ∷ []) = refl
points_by_wholes whole (x ∷ y ∷ cs) = ap (λ ps. record { x = whole x; y = whole y } ∷ ps) (points_by_wholes whole cs)

-- coordinates that stand for the same numbers have the same contours
pub contours_same : {I : Type 0} (whole : I → ℤ) (cs : List I) (zs : List ℤ) (ends : List ℕ) → map whole cs ≡ zs →
    contours_at (λ z. z) zs ends ≡ contours_at whole cs ends
contours_same whole cs zs ends same = paths_same (λ z. z) whole (points_of zs) (points_of cs)
    (ap (λ xs. plain_points (λ z. z) (points_of xs)) (sym same) ∙ sym (points_by_wholes whole cs)) (ranges_from 0 ends)

-- ---- points in arrays, taken back

-- the points that coordinates have where others that stand for the same numbers have these
pub record TakenBack {I : Type 0} (whole : I → ℤ) (cs : List I) (qs : List (IntPoint ℤ)) : Type 0 where
  pub points : List (IntPoint I)
  pub coordinates : cs ≡ coordinates_of points
  pub same : plain_points whole points ≡ plain_points (λ z. z) qs

abbrev point_at : ℤ → ℤ → Point
point_at u v = record { x = u; y = v }

same_rest : (a b c d : ℤ) (xs ys : List ℤ) → a ∷ b ∷ xs ≡ c ∷ d ∷ ys → xs ≡ ys
same_rest a b c d xs ys e = cc

same_first : (a b c d : ℤ) (xs ys : List ℤ) → a ∷ b ∷ xs ≡ c ∷ d ∷ ys → a ≡ c
same_first a b c d xs ys e = cc

same_second : (a b c d : ℤ) (xs ys : List ℤ) → a ∷ b ∷ xs ≡ c ∷ d ∷ ys → b ≡ d
same_second a b c d xs ys e = cc

one_more : {I : Type 0} (whole : I → ℤ) (x y : I) (cs : List I) (q : IntPoint ℤ) (qs : List (IntPoint ℤ)) →
    whole x ∷ whole y ∷ map whole cs ≡ q.x ∷ q.y ∷ coordinates_of qs → TakenBack whole cs qs →
    TakenBack whole (x ∷ y ∷ cs) (q ∷ qs)
one_more whole x y cs q qs same rest = record {
  points = record { x = x; y = y } ∷ rest.points;
  coordinates = ap (λ zs. x ∷ y ∷ zs) rest.coordinates;
  same = ap₂ (λ p ps. p ∷ ps) (ap₂ point_at
      (same_first (whole x) (whole y) q.x q.y (map whole cs) (coordinates_of qs) same)
      (same_second (whole x) (whole y) q.x q.y (map whole cs) (coordinates_of qs) same)) rest.same;
}

pub taken_back : {I : Type 0} (whole : I → ℤ) (cs : List I) (qs : List (IntPoint ℤ)) →
    map whole cs ≡ coordinates_of qs → TakenBack whole cs qs
taken_back whole [] [] same = record { points = []; coordinates = refl; same = refl }
taken_back whole [] (q ∷ qs) same = absurd (none same)
  where
    none : [] ≡ q.x ∷ q.y ∷ coordinates_of qs → ⊥
    none e = cc
taken_back whole (x ∷ cs) [] same = absurd (none same)
  where
    none : whole x ∷ map whole cs ≡ [] → ⊥
    none e = cc
taken_back whole (x ∷ []) (q ∷ qs) same = absurd (none same)
  where
    none : whole x ∷ [] ≡ q.x ∷ q.y ∷ coordinates_of qs → ⊥
    none e = cc
taken_back whole (x ∷ y ∷ cs) (q ∷ qs) same = one_more whole x y cs q qs same
    (taken_back whole cs qs (same_rest (whole x) (whole y) q.x q.y (map whole cs) (coordinates_of qs) same))
