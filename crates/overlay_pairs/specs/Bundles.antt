-- Bundles of edges. The edges of a bundle lie between two parallel lines.
use Rattle.std.specs.Prelude.{◌≡◌, ◌⊎◌, Bool, true, ℕ, ◌/◌, ◌%◌, ◌<◌, ◌≤◌, ℤ, pos, ◌-ℤ◌, ◌<ℤ◌, ◌≤ℤ◌, int_lt}
use Rattle.std.specs.Prelude.{List, All, IfSome, length, map, slice_index_or}
use Rattle.std.specs.List.Sorted.{IsPermutation}
use Rattle.overlay_geom.specs.Edges.{CountedEdge, ends_of}
use Rattle.overlay_geom.specs.Plane.{Edge, Point, cross_at, point_lt}
use Rattle.overlay_geom.specs.Points.{plain_point, cross_of, InRange}
use Rattle.overlay_geom.specs.Resolved.{plain_edge, IsLongEdge}
use Rattle.overlay_order.specs.Content.{IsHeld}
use Rattle.overlay_pairs.specs.Extents.{Extent, extents_of, plain_extent, plain_extents, Encloses, IsApart}
use Rattle.overlay_pairs.specs.Places.{IsAt}
use Rattle.overlay_pairs.specs.Settle.{AreSettled}
use Rattle.overlay_pairs.specs.declared.bundles.Bundle.{Bundle as HeldBundle}
use Rattle.overlay_pairs.specs.declared.bundles.Bundles.{Bundles}
use Rattle.overlay_pairs.specs.declared.fans.Fan.{Fan as HeldFan}
use Rattle.overlay_pairs.specs.declared.fans.Fans.{Fans}

-- a box and its range of x-coordinates, the direction of two lines, and a point of the left line and of the right line
pub record Bundle : Type 0 where
  pub extent : Extent
  pub west : ℤ
  pub east : ℤ
  pub along : Edge
  pub left : Point
  pub right : Point

-- the way from p to q
abbrev pub way_to : Point → Point → Point
way_to p q = record { x = q.x -ℤ p.x; y = q.y -ℤ p.y }

-- positive where q lies to the left of the line through p in the direction of the edge
abbrev pub across : Edge → Point → Point → ℤ
across along p q = cross_of (way_to along.a along.b) (way_to p q)

abbrev pub is_left_of_parallel : Edge → Point → Point → Bool
is_left_of_parallel along p q = int_lt (pos 0) (across along p q)

abbrev pub IsLeftOfParallel : Edge → Point → Point → Type 0
IsLeftOfParallel along p q = pos 0 <ℤ across along p q

-- the point lies between the two lines, or on one of them
pub record IsBetweenLines (bundle : Bundle) (v : Point) : Type 0 where
  pub left : across bundle.along bundle.left v ≤ℤ pos 0
  pub right : across bundle.along v bundle.right ≤ℤ pos 0

-- the point lies in the bundle's box
pub record IsInBox (bundle : Bundle) (v : Point) : Type 0 where
  pub west : bundle.west ≤ℤ v.x
  pub east : v.x ≤ℤ bundle.east
  pub low : bundle.extent.low ≤ℤ v.y
  pub high : v.y ≤ℤ bundle.extent.high

-- the bundle holds the edge, whose box is s
pub record HoldsEdge (bundle : Bundle) (s : Extent) (e : CountedEdge) : Type 0 where
  pub box : Encloses bundle.extent s
  pub a : IsBetweenLines bundle e.a
  pub b : IsBetweenLines bundle e.b
  pub a_in : IsInBox bundle e.a
  pub b_in : IsInBox bundle e.b

-- its lines are moved apart, so that the point v lies between them too
pub record IsReached (old : Bundle) (v : Point) (new : Bundle) : Type 0 where
  pub extent : new.extent ≡ old.extent
  pub west : new.west ≡ old.west
  pub east : new.east ≡ old.east
  pub along : new.along ≡ old.along
  pub keeps : (u : Point) → IsBetweenLines old u → IsBetweenLines new u
  pub reaches : IsBetweenLines new v

-- each edge that the old bundle holds is held by the new bundle
abbrev pub IsWidened : Bundle → Bundle → Type 0
IsWidened old new = (s : Extent) (e : CountedEdge) → HoldsEdge old s e → HoldsEdge new s e

-- both ends of the edge lie beyond one of the bundle's lines
abbrev pub IsBeyondLine : Bundle → CountedEdge → Type 0
IsBeyondLine bundle e =
    (IsLeftOfParallel bundle.along bundle.left e.a × IsLeftOfParallel bundle.along bundle.left e.b)
    ⊎ (IsLeftOfParallel bundle.along e.a bundle.right × IsLeftOfParallel bundle.along e.b bundle.right)

-- the bundle's box lies to the left of the edge's line, to the right of it, or on one side of it
abbrev pub IsBoxLeft : Bundle → CountedEdge → Type 0
IsBoxLeft bundle e = (v : Point) → IsInBox bundle v → pos 0 <ℤ cross_at e.a e.b v

abbrev pub IsBoxRight : Bundle → CountedEdge → Type 0
IsBoxRight bundle e = (v : Point) → IsInBox bundle v → cross_at e.a e.b v <ℤ pos 0

abbrev pub IsBoxBeside : Bundle → CountedEdge → Type 0
IsBoxBeside bundle e = IsBoxLeft bundle e ⊎ IsBoxRight bundle e

-- the bundle lies apart from the box s, the edge lies beyond one of its lines, or its box lies beside the edge's line
abbrev pub LiesBeside : Bundle → CountedEdge → Extent → Type 0
LiesBeside bundle e s =
    IsApart s bundle.extent ⊎ (IsBeyondLine bundle e ⊎ IsBoxBeside bundle e)

-- the corners and points of the bundle are in range
pub record IsHeldBundle (limit : ℕ) (bundle : Bundle) : Type 0 where
  pub lowest : InRange limit (record { x = bundle.west; y = bundle.extent.low })
  pub highest : InRange limit (record { x = bundle.east; y = bundle.extent.high })
  pub a : InRange limit bundle.along.a
  pub b : InRange limit bundle.along.b
  pub left : InRange limit bundle.left
  pub right : InRange limit bundle.right

-- the bundle of each `size` boxes holds their edges
abbrev pub AreBundles : ℕ → List CountedEdge → List Extent → List Bundle → Type 0
AreBundles size es ss bundles = (k : ℕ) (s : Extent) (e : CountedEdge) (d : Bundle) → IsAt ss k s → IsAt es s.first e →
    (k / size < length bundles) × HoldsEdge (slice_index_or bundles (k / size) d) s e

-- they are in range, and hold the edges
pub record AreHeldBundles (limit size : ℕ) (es : List CountedEdge) (ss : List Extent) (bundles : List Bundle) : Type 0
  where
    pub held : All (IsHeldBundle limit) bundles
    pub all : AreBundles size es ss bundles

-- the bundle of whole numbers for a bundle of the program, and those of a list
abbrev pub plain_bundle : {I : Type 0} → (I → ℤ) → HeldBundle I → Bundle
plain_bundle whole bundle = record {
  extent = plain_extent whole bundle.extent;
  west = whole bundle.west;
  east = whole bundle.east;
  along = plain_edge whole bundle.along;
  left = plain_point whole bundle.left;
  right = plain_point whole bundle.right;
}

abbrev pub plain_bundles : {I : Type 0} → (I → ℤ) → List (HeldBundle I) → List Bundle
plain_bundles whole bundles = map (plain_bundle whole) bundles

-- ---- fans

-- whether edges share the start of the first of them, or its end, those whose directions are farthest to the right and
-- to the left, and the first
pub record Fan : Type 0 where
  pub is_at_a : Bool
  pub is_at_b : Bool
  pub lowest : Edge
  pub highest : Edge
  pub along : Edge

-- the point is an end of the edge
abbrev pub EndsIn : CountedEdge → Point → Type 0
EndsIn e v = (v ≡ e.a) ⊎ (v ≡ e.b)

-- the edges of the fan share the point as an end
abbrev pub IsFanRound : Fan → Point → Type 0
IsFanRound fan c = ((fan.is_at_a ≡ true) × (c ≡ fan.along.a)) ⊎ ((fan.is_at_b ≡ true) × (c ≡ fan.along.b))

-- the direction of the edge, from its smaller end, lies in the range of the fan's
pub record IsInFan (fan : Fan) (e : CountedEdge) : Type 0 where
  pub forward : point_lt e.a e.b ≡ true
  pub low : across (ends_of e) fan.lowest.a fan.lowest.b ≤ℤ pos 0
  pub high : across fan.highest e.a e.b ≤ℤ pos 0

-- where the edges of the fan share an end, the edge ends there too, and its direction lies in their range
abbrev pub HoldsRound : Fan → CountedEdge → Type 0
HoldsRound fan e = (c : Point) → IsFanRound fan c → EndsIn e c × IsInFan fan e

-- the fan holds the edge, whose box is s
abbrev pub HoldsBoxRound : Fan → Extent → CountedEdge → Type 0
HoldsBoxRound fan s e = HoldsRound fan e

-- each edge that the old fan holds is held by the new fan
abbrev pub IsFanWidened : Fan → Fan → Type 0
IsFanWidened old new = (e : CountedEdge) → HoldsRound old e → HoldsRound new e

-- the direction of the edge lies out of the range
abbrev pub IsTurnedAside : Fan → CountedEdge → Type 0
IsTurnedAside fan e =
    IsLeftOfParallel (ends_of e) fan.lowest.a fan.lowest.b ⊎ IsLeftOfParallel fan.highest e.a e.b

-- the edge shares an end with all edges of the fan, and its direction lies out of their range
pub record IsBesideFan (fan : Fan) (e : CountedEdge) : Type 0 where
  pub corner : Point
  pub round : IsFanRound fan corner
  pub ends : EndsIn e corner
  pub aside : IsTurnedAside fan e

-- the extreme edges of the fan run from their smaller to their larger ends, in range
pub record IsHeldFan (limit : ℕ) (fan : Fan) : Type 0 where
  pub lowest : IsLongEdge limit fan.lowest
  pub highest : IsLongEdge limit fan.highest

-- the fan of each `size` boxes holds their edges
abbrev pub AreFans : ℕ → List CountedEdge → List Extent → List Fan → Type 0
AreFans size es ss fans = (k : ℕ) (s : Extent) (e : CountedEdge) (d : Fan) → IsAt ss k s → IsAt es s.first e →
    (k / size < length fans) × HoldsRound (slice_index_or fans (k / size) d) e

-- their extreme edges are in range, and they hold the edges
pub record AreHeldFans (limit size : ℕ) (es : List CountedEdge) (ss : List Extent) (fans : List Fan) : Type 0 where
  pub held : All (IsHeldFan limit) fans
  pub all : AreFans size es ss fans

-- a fan of `size` boxes begins at the place, and lies beside the edge
pub record BeginsFan (fans : List Fan) (size : ℕ) (e : CountedEdge) (at : ℕ) : Type 0 where
  pub begins : at % size ≡ 0
  pub beside : (d : Fan) → IsBesideFan (slice_index_or fans (at / size) d) e

-- the fan of whole numbers for a fan of the program, and those of a list
abbrev pub plain_fan : {I : Type 0} → (I → ℤ) → HeldFan I → Fan
plain_fan whole fan = record {
  is_at_a = fan.is_at_a;
  is_at_b = fan.is_at_b;
  lowest = plain_edge whole fan.lowest;
  highest = plain_edge whole fan.highest;
  along = plain_edge whole fan.along;
}

abbrev pub plain_fans : {I : Type 0} → (I → ℤ) → List (HeldFan I) → List Fan
plain_fans whole fans = map (plain_fan whole) fans

-- the program's fans hold the edges
pub record AreFansOf {I A : Type 0} (whole : I → ℤ) (limit : ℕ) (es : List CountedEdge) (ss : List Extent)
    (fans : Fans I A) : Type 0 where
  pub es_held : All (IsHeld limit) es
  pub permutation : IsPermutation (extents_of es) ss
  pub by_8 : AreHeldFans limit 8 es ss (plain_fans whole fans.of_8.items)
  pub by_64 : AreHeldFans limit 64 es ss (plain_fans whole fans.of_64.items)
  pub by_512 : AreHeldFans limit 512 es ss (plain_fans whole fans.of_512.items)
  pub by_4096 : AreHeldFans limit 4096 es ss (plain_fans whole fans.of_4096.items)
  pub by_32768 : AreHeldFans limit 32768 es ss (plain_fans whole fans.of_32768.items)

-- ---- the bundles and fans of a list

-- the program's bundles hold the edges, and so do its fans, if there are some
pub record AreBundlesOf {I A : Type 0} (whole : I → ℤ) (limit : ℕ) (es : List CountedEdge) (bundles : Bundles I A) :
    Type 0 where
  pub es_held : All (IsHeld limit) es
  pub permutation : IsPermutation (extents_of es) (plain_extents whole bundles.edges.items)
  pub by_8 : AreHeldBundles limit 8 es (plain_extents whole bundles.edges.items)
      (plain_bundles whole bundles.of_8.items)
  pub by_64 : AreHeldBundles limit 64 es (plain_extents whole bundles.edges.items)
      (plain_bundles whole bundles.of_64.items)
  pub by_512 : AreHeldBundles limit 512 es (plain_extents whole bundles.edges.items)
      (plain_bundles whole bundles.of_512.items)
  pub by_4096 : AreHeldBundles limit 4096 es (plain_extents whole bundles.edges.items)
      (plain_bundles whole bundles.of_4096.items)
  pub by_32768 : AreHeldBundles limit 32768 es (plain_extents whole bundles.edges.items)
      (plain_bundles whole bundles.of_32768.items)
  pub fans : IfSome bundles.fans (AreFansOf whole limit es (plain_extents whole bundles.edges.items))

-- a bundle of `size` boxes begins at the place, and lies beside the edge
pub record BeginsBeside (bundles : List Bundle) (size : ℕ) (e : CountedEdge) (s : Extent) (at : ℕ) : Type 0 where
  pub begins : at % size ≡ 0
  pub beside : (d : Bundle) → LiesBeside (slice_index_or bundles (at / size) d) e s

-- the box t lies apart from s, or e meets the edge at its place in ends alone
abbrev pub IsPassed : List CountedEdge → CountedEdge → Extent → Extent → Type 0
IsPassed es e s t = IsApart s t ⊎ ((f : CountedEdge) → IsAt es t.first f → AreSettled e f)

-- the boxes from `from` up to `to` are such
abbrev pub ArePassed : List CountedEdge → CountedEdge → List Extent → Extent → ℕ → ℕ → Type 0
ArePassed es e ss s from to = (k : ℕ) (t : Extent) → from ≤ k → k < to → IsAt ss k t → IsPassed es e s t
