-- What lists of edges tell of a point: the windings beside it, and the edges that lead from it.
use Rattle.std.specs.Prelude.{◌≡◌, Bool, true, false, ℤ, pos, ◌+ℤ◌, List, Contains}
use Rattle.overlay_geom.specs.Edges.{CountedEdge, ends_of, subj_of}
use Rattle.overlay_geom.specs.Plane.{Point, Edge, in_plane}
use Rattle.overlay_sectors.specs.Sectors.{winding_near, leads_from}
use Rattle.overlay_sectors.specs.declared.flank.Flank.{Flank}

-- the edge leads from v into some flank
abbrev pub LeadsFrom : Point → CountedEdge → Type 0
LeadsFrom v e = (h : Flank) × (leads_from h (ends_of e) (in_plane v) ≡ true)

-- the edge leads from v into neither flank
abbrev pub PassesBy : Point → CountedEdge → Type 0
PassesBy v e = (h : Flank) → leads_from h (ends_of e) (in_plane v) ≡ false

-- the winding of a sector of v, by which edges that lead from v are below it
abbrev pub near_sum : Flank → List CountedEdge → Point → (Edge → Bool) → ℤ
near_sum h es v low = winding_near h subj_of es (in_plane v) low

-- the first list tells of v what the second does, with these numbers added to the windings left and right of it; and
-- the same edges lead from v
pub record Tells (v : Point) (es fs : List CountedEdge) (more : Flank → ℤ) : Type 0 where
  pub sums : (h : Flank) (low : Edge → Bool) → near_sum h es v low ≡ more h +ℤ near_sum h fs v low
  pub to : (e : CountedEdge) → Contains es e → LeadsFrom v e → Contains fs e
  pub back : (e : CountedEdge) → Contains fs e → LeadsFrom v e → Contains es e

-- nothing is added
abbrev pub nothing : Flank → ℤ
nothing h = pos 0

-- the first list tells what the second does, of each of these points
abbrev pub TellsWhere : (Point → Type 0) → (es fs : List CountedEdge) → Type 0
TellsWhere Is es fs = (v : Point) → Is v → Tells v es fs nothing
