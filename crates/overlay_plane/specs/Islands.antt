-- The hole round an island, and the links from shapes to the islands in their holes. An island is an outline. The hole
-- round it has the next filled-below edge below the island's anchor, or is round the outline with that edge.
use Rattle.std.specs.Prelude.{◌≡◌, ℕ, suc, ◌==◌, nat_lt, Bool, true, cond, ◌&&◌, ◌||◌, List, [], ◌∷◌, All}
use Rattle.std.specs.Prelude.{AllPairs, length, take, filter}
use Rattle.std.specs.Prelude.{Contains, slice_get, Option, Some, None}
use Rattle.std.specs.List.{AllZip}
use Rattle.overlay_plane.specs.Turn.{Hand, other_hand}
use Rattle.overlay_plane.specs.Binding.{IsFoundBelow}
use Rattle.overlay_plane.specs.RoledContours.{outline, own_hole, free_hole, Contour, is_outline}
use Rattle.overlay_plane.specs.BoundContours.{walks_in}
use Rattle.overlay_plane.specs.KeptContours.{CanBeBound}

-- for each contour its place if it is a hole, or none, where the first contour has place n
abbrev pub place_if : Bool → ℕ → Option ℕ
place_if begins n = cond begins None (Some n)

abbrev pub hole_places : ℕ → List Contour → List (Option ℕ)
hole_places n [] = []
hole_places n (c ∷ cs) = place_if (is_outline c.role) n ∷ hole_places (suc n) cs

-- the hole round the contour at place i, by its place, or none. It is the hole with the next filled-below edge, or the
-- hole round the outline with that edge. An edge filled below by one hand is filled above by the other
abbrev pub IsHoleRound : Hand → List Contour → ℕ → Option ℕ → Type 0
IsHoleRound filled contours i hole =
    IsFoundBelow (other_hand filled) (walks_in contours) (hole_places 0 contours) i hole

-- the places of the outlines among contours, where the first contour has place n
abbrev pub outlines_from : ℕ → List Contour → List ℕ
outlines_from n [] = []
outlines_from n (c ∷ cs) = cond (is_outline c.role) (n ∷ outlines_from (suc n) cs) (outlines_from (suc n) cs)

-- for each outline, in order, the place of the hole round it, or none
abbrev pub AreHolesRound : Hand → List Contour → List (Option ℕ) → Type 0
AreHolesRound filled contours holes = AllZip (IsHoleRound filled contours) (outlines_from 0 contours) holes

-- ---- links

-- a shape in a hole of another shape: the number of the other shape, the hole's place among all contours, and the
-- number of the shape
pub record ChildLink : Type 0 where
  pub parent_shape : ℕ
  pub parent_contour : ℕ
  pub child_shape : ℕ

-- the order of links: by their fields, in order
abbrev pub link_lt : ChildLink → ChildLink → Bool
link_lt k l = nat_lt k.parent_shape l.parent_shape || (k.parent_shape == l.parent_shape &&
    (nat_lt k.parent_contour l.parent_contour ||
    (k.parent_contour == l.parent_contour && nat_lt k.child_shape l.child_shape)))

-- each contour has its shape from the start: the number of an outline is the number of outlines before it, and no
-- hole's shape is still to be found
pub record AreInShapes (contours : List Contour) : Type 0 where
  pub numbered : (i n : ℕ) (c : Contour) → slice_get contours i ≡ Some c → c.role ≡ outline n →
      n ≡ length (filter (λ d. is_outline d.role) (take i contours))
  pub none_free : (i : ℕ) (c : Contour) → slice_get contours i ≡ Some c → ¬ (c.role ≡ free_hole)

-- among contours that all have shapes, the link connects an outline and the hole round it
pub record IsLink (filled : Hand) (contours : List Contour) (l : ChildLink) : Type 0 where
  pub place : ℕ
  pub island : Contour
  pub at : slice_get contours place ≡ Some island
  pub child : island.role ≡ outline l.child_shape
  pub hole : Contour
  pub hole_at : slice_get contours l.parent_contour ≡ Some hole
  pub parent : hole.role ≡ own_hole l.parent_shape
  pub round : IsHoleRound filled contours place (Some l.parent_contour)

-- the list has exactly the links of the contours, in order
pub record AreLinks (filled : Hand) (contours : List Contour) (links : List ChildLink) : Type 0 where
  pub ascending : AllPairs (λ k l. link_lt k l ≡ true) links
  pub are : All (IsLink filled contours) links
  pub every : (l : ChildLink) → IsLink filled contours l → Contains links l

-- ---- laws

-- among contours that can be bound, at most one hole is round each
abbrev pub OneHoleIsRound : Type 0
OneHoleIsRound = (filled : Hand) (contours : List Contour) → CanBeBound filled (walks_in contours) → (i j k : ℕ) →
    IsHoleRound filled contours i (Some j) → IsHoleRound filled contours i (Some k) → j ≡ k

-- no contour both has a hole round it and has none
abbrev pub NoHoleIsNone : Type 0
NoHoleIsNone = (filled : Hand) (contours : List Contour) → CanBeBound filled (walks_in contours) → (i k : ℕ) →
    IsHoleRound filled contours i (Some k) → ¬ (IsHoleRound filled contours i None)

-- among contours with shapes, each shape is the child of at most one link
abbrev pub EachShapeIsChildOnce : Type 0
EachShapeIsChildOnce = (filled : Hand) (contours : List Contour) → CanBeBound filled (walks_in contours) →
    AreInShapes contours → (k l : ChildLink) → IsLink filled contours k → IsLink filled contours l →
    k.child_shape ≡ l.child_shape → k ≡ l
