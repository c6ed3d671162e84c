-- Answers in arrays at 32 bits, whose coordinates are taken back.
use Rattle.std.proofs.Common.{◌≡◌, ℤ, List, map, sym, ap, ◌∙◌, subst, length}
use Rattle.std.proofs.lemmas.List.{length-map}
use Rattle.overlay_geom.specs.Packed.{AreBehind}
use Rattle.overlay_geom.specs.Plane.{Point}
use Rattle.overlay_geom.specs.Points.{plain_point}
use Rattle.overlay_geom.specs.declared.point.IntPoint.{IntPoint}
use Rattle.polyover_calls.specs.Written.{Flat, AreFlattened}
use Rattle.polyover_calls.specs.WrittenPaths.{FlatPaths, ArePathsFlattened}
use Rattle.polyover_calls.proofs.NarrowedPaths.{TakenBack, taken_back, paths_same, shapes_same}

module _ {I : Type 0} (whole : I → ℤ) where
  as_many : (cs : List I) (qs : List (IntPoint ℤ)) (back : TakenBack whole cs qs) → length qs ≡ length back.points
  as_many cs qs back = sym (length-map qs (plain_point (λ z. z))) ∙ ap length (sym back.same)
      ∙ length-map back.points (plain_point whole)

  -- arrays that stand for the same numbers have the same shapes
  pub shapes_back : (shapes : List (List (List Point))) (narrow : Flat ℤ) (flat : Flat I) →
      map whole flat.coordinates ≡ narrow.coordinates → flat.contour_ends ≡ narrow.contour_ends →
      flat.shape_ends ≡ narrow.shape_ends → AreFlattened (λ z. z) shapes narrow → AreFlattened whole shapes flat
  shapes_back shapes narrow flat same same_contours same_shapes f = record {
    points = back.points;
    contours = f.contours;
    ranges = f.ranges;
    these = shapes_same whole (λ z. z) back.points f.points back.same f.contours f.ranges ∙ f.these;
    packed = record {
      paths_packed = subst (λ n. AreBehind 0 f.contours n) (as_many flat.coordinates f.points back)
          f.packed.paths_packed;
      shapes_packed = f.packed.shapes_packed;
    };
    coordinates = back.coordinates;
    contour_ends = same_contours ∙ f.contour_ends;
    shape_ends = same_shapes ∙ f.shape_ends;
  }
    where
      back : TakenBack whole flat.coordinates f.points
      back = taken_back whole flat.coordinates f.points (same ∙ f.coordinates)

  -- and the same paths
  pub paths_back : (paths : List (List Point)) (narrow : FlatPaths ℤ) (flat : FlatPaths I) →
      map whole flat.coordinates ≡ narrow.coordinates → flat.ends ≡ narrow.ends →
      ArePathsFlattened (λ z. z) paths narrow → ArePathsFlattened whole paths flat
  paths_back paths narrow flat same same_ends f = record {
    points = back.points;
    ranges = f.ranges;
    these = paths_same whole (λ z. z) back.points f.points back.same f.ranges ∙ f.these;
    packed = subst (λ n. AreBehind 0 f.ranges n) (as_many flat.coordinates f.points back) f.packed;
    coordinates = back.coordinates;
    ends = same_ends ∙ f.ends;
  }
    where
      back : TakenBack whole flat.coordinates f.points
      back = taken_back whole flat.coordinates f.points (same ∙ f.coordinates)
