-- Packed parts are all of a list, one behind the other, and the lengths of parts tell their ranges.
use Rattle.std.proofs.Common.{◌≡◌, ◌-◌, ◌≤◌, ℕ, ℤ, List, [], ◌∷◌, ◌++◌, map, length, drop, flat_map}
use Rattle.std.proofs.Common.{refl, sym, ap, ap₂, subst, ◌∙◌, arith}
use Rattle.std.specs.declared.ops.Range.{Range}
use Rattle.std.proofs.Math.Seq.{drop-length}
use Rattle.std.proofs.lemmas.List.{length-drop, length-map, length-take-le, map-append}
use Rattle.std.proofs.lemmas.List.Elements.{All-head}
use Rattle.std.proofs.lemmas.List.Folds.{drop_split, flat_map-map}
use Rattle.overlay_geom.specs.Flat.{part_in, paths_in, shapes_in, IsInside}
use Rattle.overlay_geom.specs.Packed.{AreBehind, IsPacked}
use Rattle.overlay_geom.specs.Packed.AreBehind.{no_range, next}
use Rattle.overlay_geom.specs.Plane.{Point}
use Rattle.overlay_geom.specs.Points.{plain_point, plain_points}
use Rattle.overlay_geom.specs.declared.point.IntPoint.{IntPoint}
use Rattle.overlay_geom.proofs.Entries.{same_head, same_tail}
use Rattle.overlay_geom.proofs.FlatPaths.{part_inside}
use Rattle.overlay_geom.proofs.PackedPaths.{behind_inside}
use Rattle.polyover_calls.specs.ArrayLaws.{OnePacking, OnePackingOfShapes}

-- ---- parts

module _ {X : Type 0} (xs : List X) where
  -- the first range is inside the list
  inside : (r : Range ℕ) (rs : List (Range ℕ)) (end : ℕ) → r.start ≤ r.end → AreBehind r.end rs end →
      end ≡ length xs → IsInside (length xs) r
  inside r rs end rises h is =
      All-head (IsInside (length xs)) r rs
      (behind_inside r.start (r ∷ rs) (length xs) (next rises (subst (AreBehind r.end rs) is h)))

  -- the parts are all of the list, from where the first one begins
  joined : (n : ℕ) (rs : List (Range ℕ)) (end : ℕ) → AreBehind n rs end → end ≡ length xs →
      drop n xs ≡ flat_map (part_in xs) rs
  joined n [] end no_range is = ap (λ k. drop k xs) is ∙ drop-length xs
  joined n (r ∷ rs) end (next rises h) is = drop_split xs r.start r.end rises
      ∙ ap₂ (λ a b. a ++ b) (sym (part_inside xs r (inside r rs end rises h is))) (joined r.end rs end h is)

  -- how long a part is
  abbrev pub long : Range ℕ → ℕ
  long r = length (part_in xs r)

  long_is : (r : Range ℕ) → IsInside (length xs) r → long r ≡ r.end - r.start
  long_is r h = ap length (part_inside xs r h)
      ∙ length-take-le (r.end - r.start) (drop r.start xs)
      (let rest = length-drop r.start xs in let up = h.rises in let to = h.ends in omega (arith, rest))

-- packed ranges whose parts are as long as those of others are these
same_ranges : {X : Type 0} (xs ys : List X) (m n : ℕ) → m ≡ n → (rs ss : List (Range ℕ)) (e e' : ℕ) →
    AreBehind m rs e → AreBehind n ss e' → e ≡ length xs → e' ≡ length ys → map (long xs) rs ≡ map (long ys) ss →
    rs ≡ ss
same_ranges xs ys m n from [] [] e e' h k is is' same = refl
same_ranges xs ys m n from [] (s ∷ ss) e e' h k is is' same = let none = ap length same in absurd (omega (arith, none))
same_ranges xs ys m n from (r ∷ rs) [] e e' h k is is' same = let none = ap length same in absurd (omega (arith, none))
same_ranges xs ys m n from (r ∷ rs) (s ∷ ss) e e' (next rises h) (next rises' k) is is' same =
    ap₂ (λ t ts. t ∷ ts) (ap₂ {C = Range ℕ} (λ a b. record { start = a; end = b }) from ends)
    (same_ranges xs ys r.end s.end ends rs ss e e' h k is is'
    (same_tail (long xs r) (long ys s) (map (long xs) rs) (map (long ys) ss) same))
  where
    ends : r.end ≡ s.end
    ends =
        let first = long_is xs r (inside xs r rs e rises h is) in
        let second = long_is ys s (inside ys s ss e' rises' k is') in
        let alike = same_head (long xs r) (long ys s) (map (long xs) rs) (map (long ys) ss) same in
        omega (arith, first, second, alike, from)

-- ---- paths

-- maps of parts are parts of maps
mapped_parts : {A B C : Type 0} (v : B → C) (f : A → List B) (xs : List A) →
    flat_map (λ x. map v (f x)) xs ≡ map v (flat_map f xs)
mapped_parts v f [] = refl
mapped_parts v f (x ∷ rest) = ap (λ ys. map v (f x) ++ ys) (mapped_parts v f rest)
    ∙ sym (map-append v (f x) (flat_map f rest))

-- the points of all packed paths, one path after another, are all points
pub all_points : {I : Type 0} (whole : I → ℤ) (ps : List (IntPoint I)) (rs : List (Range ℕ)) → IsPacked ps rs →
    flat_map (λ path. path) (paths_in whole ps rs) ≡ plain_points whole ps
all_points whole ps rs packed = flat_map-map (λ path. path) (λ r. plain_points whole (part_in ps r)) rs
    ∙ mapped_parts (plain_point whole) (part_in ps) rs
    ∙ ap (plain_points whole) (sym (joined ps 0 rs (length ps) packed refl))

module _ {I : Type 0} (whole : I → ℤ) (one : (a b : I) → whole a ≡ whole b → a ≡ b) where
  -- points at the same whole points are one list
  same_points : (ps qs : List (IntPoint I)) → plain_points whole ps ≡ plain_points whole qs → ps ≡ qs
  same_points [] [] same = refl
  same_points [] (q ∷ qs) same = let none = ap length same in absurd (omega (arith, none))
  same_points (p ∷ ps) [] same = let none = ap length same in absurd (omega (arith, none))
  same_points (p ∷ ps) (q ∷ qs) same =
      let at = same_head (plain_point whole p) (plain_point whole q) (plain_points whole ps) (plain_points whole qs)
      same in
      ap₂ (λ r rs. r ∷ rs)
      (ap₂ {C = IntPoint I} (λ x y. record { x = x; y = y }) (one p.x q.x (ap (λ (v : Point). v.x) at))
      (one p.y q.y (ap (λ (v : Point). v.y) at)))
      (same_points ps qs (same_tail (plain_point whole p) (plain_point whole q) (plain_points whole ps)
      (plain_points whole qs) same))

  -- each path is as long as its part
  lengths : (ps : List (IntPoint I)) (rs : List (Range ℕ)) → map length (paths_in whole ps rs) ≡ map (long ps) rs
  lengths ps [] = refl
  lengths ps (r ∷ rs) = ap₂ (λ n ns. n ∷ ns) (length-map (part_in ps r) (plain_point whole)) (lengths ps rs)

  pub one_packing : OnePacking whole
  one_packing points others ranges more packed packed' same = (
    same_points points others (sym (all_points whole points ranges packed) ∙ ap (flat_map (λ path. path)) same
        ∙ all_points whole others more packed'),
    same_ranges points others 0 0 refl ranges more (length points) (length others) packed packed' refl refl
        (sym (lengths points ranges) ∙ ap (map length) same ∙ lengths others more),
  )

  -- ---- shapes

  -- the paths of all packed shapes are all paths
  all_paths : (ps : List (IntPoint I)) (cs hs : List (Range ℕ)) → IsPacked cs hs →
      flat_map (λ shape. shape) (shapes_in whole ps cs hs) ≡ paths_in whole ps cs
  all_paths ps cs hs packed = flat_map-map (λ shape. shape) (λ s. paths_in whole ps (part_in cs s)) hs
      ∙ mapped_parts (λ r. plain_points whole (part_in ps r)) (part_in cs) hs
      ∙ ap (paths_in whole ps) (sym (joined cs 0 hs (length cs) packed refl))

  -- each shape has as many paths as its part
  counts : (ps : List (IntPoint I)) (cs hs : List (Range ℕ)) →
      map length (shapes_in whole ps cs hs) ≡ map (long cs) hs
  counts ps cs [] = refl
  counts ps cs (s ∷ hs) = ap₂ (λ n ns. n ∷ ns) (length-map (part_in cs s) (λ r. plain_points whole (part_in ps r)))
      (counts ps cs hs)

  pub one_packing_of_shapes : OnePackingOfShapes whole
  one_packing_of_shapes points others contours more shapes rest packed packed' same =
      let paths = one_packing points others contours more packed.paths_packed packed'.paths_packed
      (sym (all_paths points contours shapes packed.shapes_packed) ∙ ap (flat_map (λ shape. shape)) same
      ∙ all_paths others more rest packed'.shapes_packed) in (
        paths.0,
        paths.1,
        same_ranges contours more 0 0 refl shapes rest (length contours) (length more) packed.shapes_packed
            packed'.shapes_packed refl refl
            (sym (counts points contours shapes) ∙ ap (map length) same ∙ counts others more rest),
      )
