-- Snap rounding: each merged edge of a list that is not settled is led, once, through all hot points whose pixels it
-- meets. The pixel of a whole point holds the points of the plane that round to it.
use Rattle.std.specs.Prelude.{◌≡◌, ◌⊎◌, pos, ◌-ℤ◌, ◌*ℤ◌, ◌<ℤ◌, ◌≤ℤ◌, List, All, AllPairs, Any, Contains}
use Rattle.overlay_geom.specs.Plane.{Point, PlanePoint, Step, Edge, IsOn}
use Rattle.overlay_geom.specs.Edges.{CountedEdge, ends_of, subj_of, clip_of, winding_by}
use Rattle.overlay_geom.specs.Merged.{IsMerged}
use Rattle.overlay_geom.specs.Rounding.{nearest_point}
use Rattle.overlay_geom.specs.Settled.{IsSettled}
use Rattle.overlay_plane.specs.EdgeLists.{IsForwardBy}
use Rattle.overlay_plane.specs.Meetings.{MeetsAnother}
use Rattle.overlay_plane.specs.Rounds.{Round, IsSmaller, chain_of, pieces_of}

-- v is an end of an edge of the list, or the whole point nearest to a meeting point of two of them
abbrev pub IsHot : List CountedEdge → Point → Type 0
IsHot es v = Any (λ e. (v ≡ e.a) ⊎ (v ≡ e.b)) es
    ⊎ ((e : CountedEdge) × (p : PlanePoint) × Contains es e × MeetsAnother es e p × (nearest_point p ≡ v))

-- the points lie on e in their order along it: one in the pixel of each hot point whose pixel e meets
pub record IsSnappedAt (es : List CountedEdge) (e : CountedEdge) (ps : List PlanePoint) : Type 0 where
  pub ascending : AllPairs IsSmaller ps
  pub on : All (IsOn (ends_of e)) ps
  pub hot : All (λ p. IsHot es (nearest_point p)) ps
  pub apart : AllPairs (λ p q. ¬ (nearest_point p ≡ nearest_point q)) ps
  pub every : (p : PlanePoint) → IsOn (ends_of e) p → IsHot es (nearest_point p) →
      Any (λ q. nearest_point q ≡ nearest_point p) ps

-- the round is a snap: it merges the edges, which are not settled, and leads each through the hot points whose pixels
-- it meets
pub record IsSnap (old : List CountedEdge) (r : Round) : Type 0 where
  pub merged : IsMerged old r.edges
  pub unsettled : ¬ (IsSettled r.edges)
  pub cut : All (λ e. IsSnappedAt r.edges e (r.cuts e)) r.edges
  pub rounding : (p : PlanePoint) → r.whole_at p ≡ nearest_point p

-- ---- laws

-- the merged edges of a snap are settled
abbrev pub SnapsSettle : Type 0
SnapsSettle = (old new : List CountedEdge) (r : Round) → IsForwardBy ends_of old → IsSnap old r →
    IsMerged (pieces_of r) new → IsSettled new

-- the two points are at most 1/2 apart in x and in y
pub record AreWithinHalf (p q : PlanePoint) : Type 0 where
  pub right : (pos 2 *ℤ (p.x *ℤ q.d -ℤ q.x *ℤ p.d)) ≤ℤ (p.d *ℤ q.d)
  pub left : (pos 2 *ℤ (q.x *ℤ p.d -ℤ p.x *ℤ q.d)) ≤ℤ (p.d *ℤ q.d)
  pub up : (pos 2 *ℤ (p.y *ℤ q.d -ℤ q.y *ℤ p.d)) ≤ℤ (p.d *ℤ q.d)
  pub down : (pos 2 *ℤ (q.y *ℤ p.d -ℤ p.y *ℤ q.d)) ≤ℤ (p.d *ℤ q.d)

-- q lies on the step
abbrev pub IsOnStep : Step → PlanePoint → Type 0
IsOnStep s q = IsOn (record { a = s.from; b = s.to }) q

-- each point of an edge's chain is within half a unit of a point of the edge, and each point of the edge within half a
-- unit of a point of the chain
pub record StaysWithinHalf (r : Round) (e : CountedEdge) : Type 0 where
  pub chain_near : (s : Step) → Contains (chain_of r e) s → (q : PlanePoint) → IsOnStep s q →
      (p : PlanePoint) × IsOn (ends_of e) p × AreWithinHalf p q
  pub edge_near : (p : PlanePoint) → IsOn (ends_of e) p →
      (s : Step) × Contains (chain_of r e) s × (q : PlanePoint) × IsOnStep s q × AreWithinHalf p q

-- a snap keeps each chain within half a unit of its edge
abbrev pub SnapsStayNear : Type 0
SnapsStayNear = (old : List CountedEdge) (r : Round) → IsForwardBy ends_of old → IsSnap old r →
    All (StaysWithinHalf r) r.edges

-- the edge has a point in the unit square round p, which includes its left and lower sides
pub record MeetsSquareRound (e : Edge) (p : PlanePoint) : Type 0 where
  pub q : PlanePoint
  pub on : IsOn e q
  pub from_left : (pos 2 *ℤ (p.x *ℤ q.d -ℤ q.x *ℤ p.d)) ≤ℤ (p.d *ℤ q.d)
  pub to_right : (pos 2 *ℤ (q.x *ℤ p.d -ℤ p.x *ℤ q.d)) <ℤ (p.d *ℤ q.d)
  pub from_below : (pos 2 *ℤ (p.y *ℤ q.d -ℤ q.y *ℤ p.d)) ≤ℤ (p.d *ℤ q.d)
  pub to_above : (pos 2 *ℤ (q.y *ℤ p.d -ℤ p.y *ℤ q.d)) <ℤ (p.d *ℤ q.d)

-- a snap keeps the windings at each point whose unit square no edge meets
abbrev pub SnapsKeepWindings : Type 0
SnapsKeepWindings = (old new : List CountedEdge) (r : Round) → IsForwardBy ends_of old → IsSnap old r →
    IsMerged (pieces_of r) new →
    (p : PlanePoint) → All (λ e. ¬ (MeetsSquareRound (ends_of e) p)) old →
    (winding_by subj_of new p ≡ winding_by subj_of old p) × (winding_by clip_of new p ≡ winding_by clip_of old p)
