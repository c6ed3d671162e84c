-- The hot points whose pixels an edge meets, computed by one cross product each.
use Rattle.std.specs.Prelude.{◌≡◌, ◌↔◌, Bool, true, cond, ◌&&◌, ◌||◌, ℤ, pos, ◌+ℤ◌, ◌-ℤ◌, ◌*ℤ◌, int_lt, int_le, List}
use Rattle.std.specs.Prelude.{◌∷◌, filter, flat_map, nat_abs}
use Rattle.overlay_geom.specs.Plane.{Point, PlanePoint, Edge, IsOn, point_eq, point_lt, cross_at}
use Rattle.overlay_geom.specs.Edges.{CountedEdge, ends_of}
use Rattle.overlay_geom.specs.Merged.{IsMerged}
use Rattle.overlay_geom.specs.Rounding.{nearest_point}
use Rattle.overlay_geom.specs.Settled.{IsSettled}
use Rattle.overlay_plane.specs.CutPoints.{comes_first, cut_points}
use Rattle.overlay_plane.specs.Cutting.{pieces_through}
use Rattle.overlay_plane.specs.EdgeLists.{IsForwardBy}
use Rattle.overlay_plane.specs.InOrder.{in_order}
use Rattle.overlay_plane.specs.Rounds.{Round, pieces_of}
use Rattle.overlay_plane.specs.Snaps.{IsSnap}

-- z lies between u and v, in whichever order, or is equal to one of them
abbrev pub is_amid : ℤ → ℤ → ℤ → Bool
is_amid z u v = (int_le u z && int_le z v) || (int_le v z && int_le z u)

-- v lies in the bounding box of e
abbrev pub is_in_box : Edge → Point → Bool
is_in_box e v = is_amid v.x e.a.x e.b.x && is_amid v.y e.a.y e.b.y

-- the width plus the height of the bounding box of e
abbrev pub half_girth : Edge → ℤ
half_girth e = (e.b.x -ℤ e.a.x) +ℤ pos (nat_abs (e.b.y -ℤ e.a.y))

-- the line of e, which leads from its smaller end to its larger one, passes through the pixel of v
abbrev pub line_meets : Edge → Point → Bool
line_meets e v =
    cond (int_lt e.a.x e.b.x)
    (int_lt (pos 0 -ℤ half_girth e) (pos 2 *ℤ cross_at e.a e.b v)
    && cond (int_lt e.a.y e.b.y) (int_lt (pos 2 *ℤ cross_at e.a e.b v) (half_girth e))
    (int_le (pos 2 *ℤ cross_at e.a e.b v) (half_girth e)))
    (int_le (pos 0 -ℤ half_girth e) (pos 2 *ℤ cross_at e.a e.b v)
    && int_lt (pos 2 *ℤ cross_at e.a e.b v) (half_girth e))

-- some point of e rounds to v
abbrev pub meets_pixel : Edge → Point → Bool
meets_pixel e v = point_eq v e.a || point_eq v e.b || (is_in_box e v && line_meets e v)

-- the test tells whether some point of a forward edge rounds to v
abbrev pub PixelsMetByTest : Type 0
PixelsMetByTest = (e : Edge) (v : Point) → point_lt e.a e.b ≡ true →
    (meets_pixel e v ≡ true) ↔ ((p : PlanePoint) × IsOn e p × (nearest_point p ≡ v))

-- the ends of the edges of a list, and the whole points nearest to those where they meet
abbrev pub hot_points : List CountedEdge → List Point
hot_points es = flat_map (λ e. e.a ∷ e.b ∷ cut_points es e) es

-- the hot points whose pixels e meets, in their order along e
abbrev pub snap_points : List CountedEdge → CountedEdge → List Point
snap_points es e = in_order (comes_first (ends_of e)) (filter (meets_pixel (ends_of e)) (hot_points es))

-- the edges of the list, each cut into the pieces of its snapped chain
abbrev pub snapped_edges : List CountedEdge → List CountedEdge
snapped_edges es = flat_map (pieces_through (snap_points es)) es

-- a merged list of forward edges that is not settled, cut through the computed points, is the result of a snap
abbrev pub SnappingIsASnap : Type 0
SnappingIsASnap = (old es : List CountedEdge) → IsForwardBy ends_of es → IsMerged old es → ¬ (IsSettled es) →
    (r : Round) × IsSnap old r × (pieces_of r ≡ snapped_edges es)
