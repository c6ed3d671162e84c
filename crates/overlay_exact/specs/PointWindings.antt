-- Windings of the subject and of the clip at whole points, and the edges of a list that tell them from some
-- x-coordinate on.
use Rattle.std.specs.Prelude.{◌≡◌, ℕ, ◌≤◌, ℤ, ◌≤ℤ◌, List, All, AllPairs, take}
use Rattle.overlay_geom.specs.Edges.{CountedEdge, subj_of, clip_of, winding_by, weight}
use Rattle.overlay_geom.specs.Plane.{Point, in_plane}
use Rattle.overlay_order.specs.Content.{IsHeld}
use Rattle.overlay_exact.specs.declared.point_windings.PointWindings.{PointWindings}

-- the windings at v
abbrev pub point_windings : List CountedEdge → Point → PointWindings
point_windings es v = record { subj = winding_by subj_of es (in_plane v); clip = winding_by clip_of es (in_plane v) }

-- these edges may be held, and wind at v as those of the list
pub record TellWindings (limit : ℕ) (es : List CountedEdge) (v : Point) (live : List CountedEdge) : Type 0 where
  pub held : All (IsHeld limit) live
  pub alike : (count : CountedEdge → ℤ) → winding_by count live (in_plane v) ≡ winding_by count es (in_plane v)

-- no point lies left of one before it
abbrev pub AreRightward : List Point → Type 0
AreRightward vs = AllPairs (λ v w. v.x ≤ℤ w.x) vs

-- at whole points that do not lie left of x, the live edges wind as the first n edges of the list
pub record AreLive (limit : ℕ) (es : List CountedEdge) (n : ℕ) (x : ℤ) (live : List CountedEdge) : Type 0 where
  pub held : All (IsHeld limit) live
  pub lighter : weight live ≤ weight (take n es)
  pub alike : (count : CountedEdge → ℤ) (v : Point) → x ≤ℤ v.x →
      winding_by count live (in_plane v) ≡ winding_by count (take n es) (in_plane v)
