-- The points of boxes in strips are strips of the points.
use Rattle.std.proofs.Common.{◌≡◌, ◌⊎◌, ⊎_elim, ℕ, ◌/◌, ◌<◌, ◌≤◌, pos, ◌≤ℤ◌, List, Contains, length, get_or, map}
use Rattle.std.proofs.Common.{sym, ap, ◌∙◌, subst, arith}
use Rattle.std.specs.List.Sorted.{IsPermutation}
use Rattle.std.proofs.lemmas.List.{get_or-map, get_or_default, length-map}
use Rattle.std.proofs.lemmas.List.Sorted.{length_permutation}
use Rattle.overlay_geom.specs.Plane.{Point}
use Rattle.overlay_geom.proofs.Entries.{some_entry}
use Rattle.overlay_geom.proofs.Signs.{linear}
use Rattle.overlay_pairs.specs.Extents.{extent_of_point, extents_of_points, Extent, AreByHeights, AreInStrips}
use Rattle.overlay_pairs.specs.PointStrips.{points_of, AreStripsOf}
use Rattle.overlay_pairs.specs.Places.{IsAt}
use Rattle.overlay_pairs.proofs.Entries.{one_entry}
use Rattle.overlay_pairs.proofs.PlacedExtents.{as_many_placed, extent_there, item_there}

-- the point that stands for none
abbrev pub origin : Point
origin = record { x = pos 0; y = pos 0 }

module _ (vs : List Point) (width : ℕ) (ss : List Extent) (moved : IsPermutation (extents_of_points vs) ss) where
  -- the point of a box
  pub point_there : (k : ℕ) (s : Extent) → IsAt ss k s → (v : Point) × IsAt vs s.first v × (s.low ≡ v.y)
  point_there k s at_s =
      let found = item_there extent_of_point vs ss moved k s at_s in
      let place : found.0 ≡ s.first = ap (λ (t : Extent). t.first) found.3 in (
        found.1,
        subst (λ n. IsAt vs n found.1) place found.2,
        sym (ap (λ (t : Extent). t.low) found.3),
      )

  -- each box has a point
  pub boxes_within : (k : ℕ) (s : Extent) → IsAt ss k s → s.first < length vs
  boxes_within k s at_s = (point_there k s at_s).1.0

  -- the box at the place of a point
  box_at : (k : ℕ) (v : Point) → IsAt (points_of vs ss) k v → (s : Extent) × IsAt ss k s × IsAt vs s.first v
  box_at k v at_v =
      let inside : k < length ss = (let l = length-map ss (λ (s : Extent). get_or vs s.first origin) in
      let lt = at_v.0 in omega (arith, l, lt)) in
      let d = some_entry ss k inside in
      let s = get_or ss k d in
      let at_s : IsAt ss k s = (inside, get_or_default ss k s d inside) in
      let within = boxes_within k s at_s in
      let is : get_or vs s.first origin ≡ v =
      sym (get_or-map (λ (t : Extent). get_or vs t.first origin) ss k d v inside) ∙ at_v.1 in
      (s, at_s, (within, get_or_default vs s.first v origin within ∙ is))

  -- the point at the place of a box
  point_at : (k : ℕ) (s : Extent) (v : Point) → IsAt ss k s → IsAt vs s.first v → IsAt (points_of vs ss) k v
  point_at k s v at_s at_v = (
    (let l = length-map ss (λ (t : Extent). get_or vs t.first origin) in let lt = at_s.0 in omega (arith, l, lt)),
    get_or-map (λ (t : Extent). get_or vs t.first origin) ss k s v at_s.0
        ∙ ap (λ (t : Extent). get_or vs t.first origin) at_s.1
        ∙ get_or_default vs s.first origin v at_v.0 ∙ at_v.1,
  )

  module _ (some : 0 < width) (strips : AreInStrips width ss) (heights : AreByHeights width ss) where
    pub are_strips : AreStripsOf vs width (points_of vs ss)
    are_strips = record {
      some = some;
      count = length-map ss (λ (s : Extent). get_or vs s.first origin)
          ∙ length_permutation (extents_of_points vs) ss moved ∙ as_many_placed extent_of_point vs;
      given = λ k v at_v. let box = box_at k v at_v in
          (box.0.first, box.2, (strips k box.0 box.1).0);
      all = λ k v at_v.
          let has = extent_there extent_of_point vs ss moved k v at_v in
          let at_s : IsAt ss has.0 (extent_of_point v k) = (has.1, has.2) in
          (has.0, point_at has.0 (extent_of_point v k) v at_s at_v, sym (strips has.0 (extent_of_point v k) at_s).0);
      heights = λ j k v w le same at_v at_w.
          let one = box_at j v at_v in
          let two = box_at k w at_w in
          let low = heights j k one.0 two.0 le same one.1 two.1 in
          let of_one = height_of j one.0 v one.1 one.2 in
          let of_two = height_of k two.0 w two.1 two.2 in
          omega (linear, low, of_one, of_two);
    }
      where
        height_of : (k : ℕ) (s : Extent) (v : Point) → IsAt ss k s → IsAt vs s.first v → s.low ≡ v.y
        height_of k s v at_s at_v =
            let point = point_there k s at_s in
            point.2 ∙ ap (λ (u : Point). u.y) (one_entry vs s.first point.0 v point.1 at_v)
