-- The whole points through which a cutting round leads an edge, computed pair by pair: crossings with other edges, and
-- ends of other edges on it.
use Rattle.std.specs.Prelude.{Bool, cond, not, ◌&&◌, ◌||◌, ℤ, pos, nat_abs, ◌+ℤ◌, ◌-ℤ◌, ◌*ℤ◌, int_lt, int_le, List, []}
use Rattle.std.specs.Prelude.{◌∷◌, filter, flat_map}
use Rattle.std.specs.Ordering.{int_eq}
use Rattle.overlay_geom.specs.Plane.{Point, Edge, point_lt, cross_at}
use Rattle.overlay_geom.specs.Edges.{CountedEdge, ends_of}
use Rattle.overlay_geom.specs.Rounding.{nearest}
use Rattle.overlay_plane.specs.Cutting.{pieces_through}
use Rattle.overlay_plane.specs.InOrder.{in_order}
use Rattle.overlay_plane.specs.Nodes.{edge_turn}

-- the coordinate nearest to the point t / d of the way from u to v
abbrev pub part_way : ℤ → ℤ → ℤ → ℤ → ℤ
part_way u v t d = nearest (u *ℤ d +ℤ (v -ℤ u) *ℤ t) d

-- the distance of e's start from f's line, in units in which e goes `across`
abbrev pub to_line : Edge → Edge → ℤ
to_line e f = pos (nat_abs (cross_at f.a f.b e.a))

-- the distance that e goes across f's direction, in the units of `to_line`
abbrev pub across : Edge → Edge → ℤ
across e f = pos (nat_abs (edge_turn f e))

-- the whole point nearest to the point where e crosses f's line
abbrev pub crossing : Edge → Edge → Point
crossing e f = record {
  x = part_way e.a.x e.b.x (to_line e f) (across e f);
  y = part_way e.a.y e.b.y (to_line e f) (across e f);
}

-- both ends of f lie on e's line
abbrev pub are_along : Edge → Edge → Bool
are_along e f = int_eq (cross_at e.a e.b f.a) (pos 0) && int_eq (cross_at e.a e.b f.b) (pos 0)

-- both ends of f lie strictly on one side of e's line
abbrev pub are_beside : Edge → Edge → Bool
are_beside e f =
    (int_lt (pos 0) (cross_at e.a e.b f.a) && int_lt (pos 0) (cross_at e.a e.b f.b))
    || (int_lt (cross_at e.a e.b f.a) (pos 0) && int_lt (cross_at e.a e.b f.b) (pos 0))

-- v is at least e's smaller end, and at most its larger end
abbrev pub is_between : Edge → Point → Bool
is_between e v = not (point_lt v e.a) && not (point_lt e.b v)

-- the whole points through which f leads e: f's ends on e where the two are collinear, and the point nearest to the
-- crossing where they cross
abbrev pub met_at : Edge → Edge → List Point
met_at e f = cond (are_along e f) (filter (is_between e) (f.a ∷ f.b ∷ []))
    (cond (are_beside e f || are_beside f e) [] (crossing e f ∷ []))

-- v comes before w along e
abbrev pub comes_first : Edge → Point → Point → Bool
comes_first e v w = int_lt v.x w.x || (int_eq v.x w.x && cond (int_le e.a.y e.b.y) (int_lt v.y w.y) (int_lt w.y v.y))

-- the whole points through which the edges of the list lead e, in their order along e
abbrev pub cut_points : List CountedEdge → CountedEdge → List Point
cut_points es e = in_order (comes_first (ends_of e)) (flat_map (λ f. met_at (ends_of e) (ends_of f)) es)

-- the edges of the list, each cut into the pieces of its chain through these points
abbrev pub cut_edges : List CountedEdge → List CountedEdge
cut_edges es = flat_map (pieces_through (cut_points es)) es
