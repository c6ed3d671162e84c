-- Points that are asked for together, and what edges tell of them.
use Rattle.std.specs.Prelude.{◌≡◌, Bool, true, false, Some, Contains, ℤ, ◌+ℤ◌, List, ◌++◌}
use Rattle.overlay_geom.specs.Counts.{Counts}
use Rattle.overlay_geom.specs.Edges.{CountedEdge, ends_of}
use Rattle.overlay_geom.specs.Plane.{Point, PlanePoint}
use Rattle.overlay_geom.specs.Points.{plain_point}
use Rattle.overlay_order.specs.Content.{plain_edges}
use Rattle.overlay_located.specs.Few.{few_edges}
use Rattle.overlay_sectors.specs.Sectors.{fills_sector, leads_from}
use Rattle.overlay_sectors.specs.Seen.{has_seen, IsSeenOf, AddsFilling}
use Rattle.overlay_located.specs.Tells.{Tells}
use Rattle.overlay_sectors.specs.declared.flank.Flank.{Flank}
use Rattle.overlay_sectors.specs.declared.flank.Flank.TheVariants.{Left, Right}
use Rattle.overlay_located.specs.declared.query.Query.{Query}
use Rattle.overlay_sectors.specs.declared.seen.Seen.{Seen}

-- a point that is asked for: the windings left and right of it so far, and the edges that lead from it, unless it is
-- asked for alone
pub record Asked : Type 0 where
  pub point : Point
  pub left : ℤ
  pub right : ℤ
  pub through : List CountedEdge
  pub alone : Bool

abbrev pub plain_query : {I C : Type 0} → (I → ℤ) → (C → Counts) → Query I C → Asked
plain_query whole counts q = record {
  point = plain_point whole q.point;
  left = q.left;
  right = q.right;
  through = plain_edges whole counts (few_edges q.through);
  alone = q.alone;
}

-- the winding so far on a flank
abbrev pub sum_on : Asked → Flank → ℤ
sum_on q Left = q.left
sum_on q Right = q.right

-- all edges tell what the query tells together with the edges left
abbrev pub IsOpen : (es left : List CountedEdge) → Asked → Type 0
IsOpen es left q = q.alone ≡ false → Tells q.point es (q.through ++ left) (sum_on q)

-- no edges are left
abbrev pub IsTold : List CountedEdge → Asked → Type 0
IsTold es q = q.alone ≡ false → Tells q.point es q.through (sum_on q)

-- what the edges tell is added, unless the point is asked for alone
pub record Adds (es : List CountedEdge) (old new : Asked) : Type 0 where
  pub point : new.point ≡ old.point
  pub alone : new.alone ≡ false → old.alone ≡ false
  pub told : new.alone ≡ false → (more : Flank → ℤ) × ((h : Flank) → sum_on new h ≡ sum_on old h +ℤ more h)
      × Tells old.point (old.through ++ es) new.through more

-- the numbers are added, unless the point is asked for alone
pub record AddsSums (y z : ℤ) (old new : Asked) : Type 0 where
  pub point : new.point ≡ old.point
  pub alone : new.alone ≡ false → old.alone ≡ false
  pub through : new.alone ≡ false → new.through ≡ old.through
  pub left : new.alone ≡ false → new.left ≡ old.left +ℤ y
  pub right : new.alone ≡ false → new.right ≡ old.right +ℤ z

-- the sector next above the edge is found too, if it leads into the flank
pub record SeesRay (filled : ℤ → Bool) (es : List CountedEdge) (p : PlanePoint) (h : Flank) (e : CountedEdge)
    (old new : Seen) : Type 0 where
  pub ray : leads_from h (ends_of e) p ≡ true → AddsFilling (fills_sector filled h es p (Some (ends_of e))) old new
  pub other : leads_from h (ends_of e) p ≡ false → new ≡ old

-- the sectors next above these edges, where they lead from p, are found too
pub record SeesRays (filled : ℤ → Bool) (es : List CountedEdge) (p : PlanePoint) (rays : List CountedEdge)
    (old new : Seen) : Type 0 where
  pub right : IsSeenOf filled es p old → IsSeenOf filled es p new
  pub still : (t : Bool) → has_seen old t ≡ true → has_seen new t ≡ true
  pub found : (e : CountedEdge) → Contains rays e → (h : Flank) → leads_from h (ends_of e) p ≡ true →
      has_seen new (fills_sector filled h es p (Some (ends_of e))) ≡ true
