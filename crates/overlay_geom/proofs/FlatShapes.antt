-- Shapes in growing flat lists. Paths are added one by one, shapes of packed lists keep their paths, and the range of
-- added paths is a new shape.
use Rattle.std.proofs.Common.{◌≡◌, ℕ, ℤ, ◌+◌, ◌-◌, ◌<◌, ◌≤◌, List, [], ◌∷◌, ◌++◌, length, get_or, take, refl, Vec}
use Rattle.std.proofs.Common.{sym, ◌∙◌, ap, ap₂, subst, subst₂, arith}
use Rattle.std.specs.declared.ops.Range.{Range}
use Rattle.std.proofs.lemmas.List.{map-append, length-append}
use Rattle.std.proofs.lemmas.List.{append-nil, append_assoc}
use Rattle.std.proofs.lemmas.List.Elements.{All-head, All-tail, All-take, All-drop}
use Rattle.overlay_geom.specs.declared.point.IntPoint.{IntPoint}
use Rattle.overlay_geom.specs.Flat.{range_within, part_in, range_behind, paths_in, shapes_in, IsInside, AreInside}
use Rattle.overlay_geom.specs.FlatShapes.{ArePathsAdded, AreShapesPacked}
use Rattle.overlay_geom.specs.Packed.{AreBehind, IsPacked}
use Rattle.overlay_geom.specs.Packed.AreBehind.{no_range}
use Rattle.overlay_geom.specs.Paths.{paths_of_shape, plain_shapes}
use Rattle.overlay_geom.specs.Plane.{Point}
use Rattle.overlay_geom.specs.Points.{plain_points}
use Rattle.overlay_geom.proofs.FlatPaths.{inside_longer, part_longer, part_behind, paths_longer}
use Rattle.overlay_geom.proofs.FlatPaths.{paths_added}
use Rattle.overlay_geom.proofs.Mapped.{mapped_more}
use Rattle.overlay_geom.proofs.PackedPaths.{behind_inside, behind_more, behind_joined, packed_none}
use Rattle.overlay_geom.proofs.PackedPaths.{packed_inside, packed_more}

module _ {I : Type 0} (whole : I → ℤ) (ps : List (IntPoint I)) (rs : List (Range ℕ)) where
  -- no path is added
  pub none_added : ArePathsAdded whole ps rs [] ps rs
  none_added = record {
    points = [];
    longer = sym (append-nil ps);
    ranges = [];
    more = sym (append-nil rs);
    behind = no_range;
    paths = refl;
  }

  -- one more path is added
  pub one_added : (added : List (List Point)) (qs c : List (IntPoint I)) (ss : List (Range ℕ)) →
      ArePathsAdded whole ps rs added qs ss →
      ArePathsAdded whole ps rs (added ++ plain_points whole c ∷ []) (qs ++ c) (ss ++ range_behind qs c ∷ [])
  one_added added qs c ss h =
      let rises : length qs ≤ length qs + length c = omega arith in
      record {
        points = h.points ++ c;
        longer = ap (λ xs. xs ++ c) h.longer ∙ append_assoc ps h.points c;
        ranges = h.ranges ++ range_behind qs c ∷ [];
        more = ap (λ xs. xs ++ range_behind qs c ∷ []) h.more ∙ append_assoc rs h.ranges (range_behind qs c ∷ []);
        behind = subst (λ n. AreBehind (length ps) (h.ranges ++ range_behind qs c ∷ []) n)
            (sym (length-append qs c)) (behind_more (length ps) h.ranges (length qs) (range_behind qs c) refl rises
            h.behind);
        paths = paths_added whole qs c h.ranges (behind_inside (length ps) h.ranges (length qs) h.behind)
            ∙ ap (λ xs. xs ++ plain_points whole c ∷ []) h.paths;
      }

  -- one more contour of a list, in a loop over it
  pub contour_added : {A : Type 0} (cs : List (Vec (IntPoint I) A)) (i : ℕ) (item : Vec (IntPoint I) A) →
      i < length cs → item ≡ get_or cs i item → (c : List (IntPoint I)) → c ≡ item.items →
      (qs new : List (IntPoint I)) (ss new_ranges : List (Range ℕ)) → new ≡ qs ++ c →
      new_ranges ≡ ss ++ range_behind qs c ∷ [] →
      ArePathsAdded whole ps rs (paths_of_shape whole (take i cs)) qs ss →
      ArePathsAdded whole ps rs (paths_of_shape whole (take (i + 1) cs)) new new_ranges
  contour_added cs i item lt is c same qs new ss new_ranges longer more h =
      let front = paths_of_shape whole (take i cs) in
      let paths : front ++ plain_points whole c ∷ [] ≡ paths_of_shape whole (take (i + 1) cs)
      = ap (λ ys. front ++ plain_points whole ys ∷ []) same
      ∙ sym (mapped_more (λ v. plain_points whole v.items) cs i item lt is) in
      subst (λ added. ArePathsAdded whole ps rs added new new_ranges) paths
      (subst₂ (λ xs ys. ArePathsAdded whole ps rs (front ++ plain_points whole c ∷ []) xs ys) (sym longer) (sym more)
      (one_added front qs c ss h))

-- ranges inside a list are inside the longer one
all_inside_longer : {X : Type 0} (xs ys : List X) (rs : List (Range ℕ)) → AreInside (length xs) rs →
    AreInside (length (xs ++ ys)) rs
all_inside_longer xs ys rs all = λ i d lt. inside_longer xs ys (get_or rs i d) (all i d lt)

module _ {I : Type 0} (whole : I → ℤ) (ps points : List (IntPoint I)) (rs ranges : List (Range ℕ)) where
  -- a shape that was inside keeps its paths
  shape_stays : AreInside (length ps) rs → (s : Range ℕ) → IsInside (length rs) s →
      paths_in whole (ps ++ points) (part_in (rs ++ ranges) s) ≡ paths_in whole ps (part_in rs s)
  shape_stays all s inside =
      let within = range_within (length rs) s in
      ap (paths_in whole (ps ++ points)) (part_longer rs ranges s inside)
      ∙ paths_longer whole ps points (part_in rs s) (All-take (IsInside (length ps)) (within.end - within.start) _
      (All-drop (IsInside (length ps)) within.start rs all))

  shapes_stay : AreInside (length ps) rs → (hs : List (Range ℕ)) → AreInside (length rs) hs →
      shapes_in whole (ps ++ points) (rs ++ ranges) hs ≡ shapes_in whole ps rs hs
  shapes_stay all [] inside = refl
  shapes_stay all (s ∷ hs) inside =
      ap₂ (λ a b. a ∷ b) (shape_stays all s (All-head (IsInside (length rs)) s hs inside))
      (shapes_stay all hs (All-tail (IsInside (length rs)) s hs inside))

  -- the range of the new is one shape more
  shapes_joined : (hs : List (Range ℕ)) → AreShapesPacked ps rs hs →
      shapes_in whole (ps ++ points) (rs ++ ranges) (hs ++ range_behind rs ranges ∷ [])
      ≡ shapes_in whole ps rs hs ++ paths_in whole (ps ++ points) ranges ∷ []
  shapes_joined hs packed =
      map-append (λ s. paths_in whole (ps ++ points) (part_in (rs ++ ranges) s)) hs (range_behind rs ranges ∷ [])
      ∙ ap₂ (λ a b. a ++ b ∷ []) (shapes_stay (packed_inside ps rs packed.paths_packed) hs
      (packed_inside rs hs packed.shapes_packed))
      (ap (paths_in whole (ps ++ points)) (part_behind rs ranges))

module _ {I : Type 0} (whole : I → ℤ) (ps qs : List (IntPoint I)) (rs ss hs : List (Range ℕ))
    (added : List (List Point)) (h : ArePathsAdded whole ps rs added qs ss) where
  -- the range of the paths that were added
  abbrev new_range : Range ℕ
  new_range = record { start = length rs; end = length ss }

  range_is : new_range ≡ range_behind rs h.ranges
  range_is = ap (λ n. record { start = length rs; end = n }) (ap length h.more ∙ length-append rs h.ranges)

  -- with the paths that were added as a shape there is one shape more
  pub shapes_added : AreShapesPacked ps rs hs →
      shapes_in whole qs ss (hs ++ new_range ∷ []) ≡ shapes_in whole ps rs hs ++ added ∷ []
  shapes_added packed =
      ap₂ (λ xs r. shapes_in whole qs xs (hs ++ r ∷ [])) h.more range_is
      ∙ ap (λ xs. shapes_in whole xs (rs ++ h.ranges) (hs ++ range_behind rs h.ranges ∷ [])) h.longer
      ∙ shapes_joined whole ps h.points rs h.ranges hs packed
      ∙ ap (λ p. shapes_in whole ps rs hs ++ p ∷ []) (ap (λ xs. paths_in whole xs h.ranges) (sym h.longer) ∙ h.paths)

  -- the longer lists are packed
  pub packed_added : AreShapesPacked ps rs hs → AreShapesPacked qs ss (hs ++ new_range ∷ [])
  packed_added packed = record {
    paths_packed = subst (λ xs. AreBehind 0 xs (length qs)) (sym h.more) (behind_joined 0 rs (length ps) h.ranges
        (length qs) packed.paths_packed h.behind);
    shapes_packed = subst₂ (λ xs r. IsPacked xs (hs ++ r ∷ [])) (sym h.more) (sym range_is)
        (packed_more rs h.ranges hs packed.shapes_packed);
  }

-- ---- packed shapes

-- nothing is packed
pub no_shapes_packed : {I : Type 0} (ps : List (IntPoint I)) (rs hs : List (Range ℕ)) → ps ≡ [] → rs ≡ [] → hs ≡ [] →
    AreShapesPacked ps rs hs
no_shapes_packed ps rs hs no_points no_paths no_shapes = record {
  paths_packed = packed_none ps rs no_points no_paths;
  shapes_packed = packed_none rs hs no_paths no_shapes;
}

-- one more shape of a list, as a loop over it finds it
pub shape_more : {I A : Type 0} (whole : I → ℤ) (shapes : List (Vec (Vec (IntPoint I) A) A)) (i : ℕ)
    (item : Vec (Vec (IntPoint I) A) A) → i < length shapes → item ≡ get_or shapes i item →
    (contours : List (Vec (IntPoint I) A)) → contours ≡ item.items → (front : List (List (List Point))) →
    front ≡ plain_shapes whole (take i shapes) →
    front ++ paths_of_shape whole contours ∷ [] ≡ plain_shapes whole (take (i + 1) shapes)
shape_more whole shapes i item lt is contours same front before =
    ap₂ (λ ps cs. ps ++ paths_of_shape whole cs ∷ []) before same
    ∙ sym (mapped_more (λ s. paths_of_shape whole s.items) shapes i item lt is)
