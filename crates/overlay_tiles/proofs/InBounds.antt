-- The points of paths, and lines across their box, lie in the box, and so do the edges that they give.
use Rattle.std.proofs.Common.{ℤ, ◌≤ℤ◌, List, [], ◌∷◌, map, sym, subst}
use Rattle.std.specs.List.{All}
use Rattle.std.proofs.lemmas.List.Elements.{All-nil, All-cons, All-head, All-tail, All-append, All-map, All-weaker}
use Rattle.overlay_geom.specs.Plane.{Point}
use Rattle.overlay_geom.specs.Edges.{CountedEdge, ends_of}
use Rattle.overlay_geom.proofs.Signs.{linear}
use Rattle.overlay_plane.specs.HalfPlanes.{IsEdgeInHalf}
use Rattle.overlay_plane.specs.HalfPlanes.HalfPlane.{left_of, right_of, below, above}
use Rattle.overlay_plane.proofs.Entries.{All-first, All-rest}
use Rattle.overlay_tiles.specs.Grids.{IsGridMultiple, AreLinesAcross, upright, level}
use Rattle.overlay_tiles.specs.Spans.{Bounds, IsIn, points_of_paths}
use Rattle.overlay_tiles.proofs.CoveredByGrid.{AreInBox}
use Rattle.overlay_tiles.proofs.PointsOnSteps.{IsGoodEdge}

-- what holds of the points of all paths holds of those of each
pub of_each_path : (P : Point → Type 0) (paths : List (List Point)) → All P (points_of_paths paths) → All (All P) paths
of_each_path P [] all = All-nil (All P)
of_each_path P (path ∷ paths) all = All-cons (All P) path paths (All-first P path (points_of_paths paths) all)
    (of_each_path P paths (All-rest P path (points_of_paths paths) all))

-- what holds of all numbers of points holds of the points
pub unmapped : (P : ℤ → Type 0) (f : Point → ℤ) (ps : List Point) → All P (map f ps) → All (λ p. P (f p)) ps
unmapped P f [] all = All-nil (λ p. P (f p))
unmapped P f (p ∷ ps) all = All-cons (λ p. P (f p)) p ps (All-head P (f p) (map f ps) all)
    (unmapped P f ps (All-tail P (f p) (map f ps) all))

-- the point lies in the box
pub record IsInBounds (b : Bounds) (p : Point) : Type 0 where
  pub x : IsIn b.x p.x
  pub y : IsIn b.y p.y

-- lines across a box lie in it
module _ (wide high : ℤ) (b : Bounds) (lines : List (List Point)) (across : AreLinesAcross wide high b lines)
    (x_order : b.x.least ≤ℤ b.x.greatest) (y_order : b.y.least ≤ℤ b.y.greatest) where
  upright_in_bounds : (x : ℤ) → IsGridMultiple wide b.x x → All (IsInBounds b) (upright b x)
  upright_in_bounds x at =
      let low = at.above in
      let high = at.below in
      All-cons (IsInBounds b) (record { x = x; y = b.y.least }) (record { x = x; y = b.y.greatest } ∷ [])
      (record {
        x = record { low = omega linear; high = omega linear };
        y =
            record { low = omega linear; high = y_order };
      })
      (All-cons (IsInBounds b) (record { x = x; y = b.y.greatest }) []
      (record {
        x = record { low = omega linear; high = omega linear };
        y =
            record { low = y_order; high = omega linear };
      })
      (All-nil (IsInBounds b)))

  level_in_bounds : (y : ℤ) → IsGridMultiple high b.y y → All (IsInBounds b) (level b y)
  level_in_bounds y at =
      let low = at.above in
      let high = at.below in
      All-cons (IsInBounds b) (record { x = b.x.least; y = y }) (record { x = b.x.greatest; y = y } ∷ [])
      (record {
        x = record { low = omega linear; high = x_order };
        y =
            record { low = omega linear; high = omega linear };
      })
      (All-cons (IsInBounds b) (record { x = b.x.greatest; y = y }) []
      (record {
        x = record { low = x_order; high = omega linear };
        y =
            record { low = omega linear; high = omega linear };
      })
      (All-nil (IsInBounds b)))

  pub lines_in_bounds : All (All (IsInBounds b)) lines
  lines_in_bounds = subst (All (All (IsInBounds b))) (sym across.are)
      (All-append (All (IsInBounds b)) (map (upright b) across.xs) (map (level b) across.ys)
      (All-map (All (IsInBounds b)) (upright b) across.xs
      (All-weaker (IsGridMultiple wide b.x) (λ x. All (IsInBounds b) (upright b x)) upright_in_bounds across.xs
      across.at_xs.each))
      (All-map (All (IsInBounds b)) (level b) across.ys
      (All-weaker (IsGridMultiple high b.y) (λ y. All (IsInBounds b) (level b y)) level_in_bounds across.ys
      across.at_ys.each)))

-- edges whose ends lie in the box
pub good_in_box : (b : Bounds) (es : List CountedEdge) → All (λ e. IsGoodEdge (IsInBounds b) (ends_of e)) es →
    AreInBox b es
good_in_box b es good = record {
  low_x = All-weaker (λ e. IsGoodEdge (IsInBounds b) (ends_of e)) (IsEdgeInHalf (right_of b.x.least))
      (λ e h. (h.start.x.low, h.end.x.low)) es good;
  high_x = All-weaker (λ e. IsGoodEdge (IsInBounds b) (ends_of e)) (IsEdgeInHalf (left_of b.x.greatest))
      (λ e h. (h.start.x.high, h.end.x.high)) es good;
  low_y = All-weaker (λ e. IsGoodEdge (IsInBounds b) (ends_of e)) (IsEdgeInHalf (above b.y.least))
      (λ e h. (h.start.y.low, h.end.y.low)) es good;
  high_y = All-weaker (λ e. IsGoodEdge (IsInBounds b) (ends_of e)) (IsEdgeInHalf (below b.y.greatest))
      (λ e h. (h.start.y.high, h.end.y.high)) es good;
}
