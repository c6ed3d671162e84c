-- The order of the edges of a settled list over an x-coordinate, along common spans, and beside their ends.
use Rattle.std.specs.Prelude.{◌≡◌, ◌⊎◌, true, false, ℤ, pos, ◌<ℤ◌, int_lt, List, Contains}
use Rattle.overlay_geom.specs.Plane.{Point, Edge, edge_eq, side, in_plane}
use Rattle.overlay_geom.specs.Edges.{CountedEdge, ends_of}
use Rattle.overlay_geom.specs.Settled.{IsSettled}
use Rattle.overlay_plane.specs.Heights.{covers, is_under, IsInner}

-- the edge is in the list and covers the x-coordinate
pub record CoversIn (es : List CountedEdge) (x d : ℤ) (e : CountedEdge) : Type 0 where
  pub entry : Contains es e
  pub over : covers (ends_of e) x d ≡ true

-- `is_under` is a strict order on the edges of the list that cover the x-coordinate; of two different edges, one is
-- under the other
pub record UnderIsOrder (es : List CountedEdge) (x d : ℤ) : Type 0 where
  pub irreflexive : (e : CountedEdge) → is_under (ends_of e) (ends_of e) x d ≡ false
  pub asymmetric : (e f : CountedEdge) → is_under (ends_of e) (ends_of f) x d ≡ true →
      is_under (ends_of f) (ends_of e) x d ≡ false
  pub transitive : (e f g : CountedEdge) → CoversIn es x d e → CoversIn es x d f → CoversIn es x d g →
      is_under (ends_of e) (ends_of f) x d ≡ true → is_under (ends_of f) (ends_of g) x d ≡ true →
      is_under (ends_of e) (ends_of g) x d ≡ true
  pub total : (e f : CountedEdge) → CoversIn es x d e → CoversIn es x d f → edge_eq (ends_of e) (ends_of f) ≡ false →
      (is_under (ends_of e) (ends_of f) x d ≡ true) ⊎ (is_under (ends_of f) (ends_of e) x d ≡ true)

-- the edges of a settled list that cover an x-coordinate are in order there
abbrev pub OrderOverAnAbscissa : Type 0
OrderOverAnAbscissa = (es : List CountedEdge) → IsSettled es → (x d : ℤ) → pos 0 <ℤ d → UnderIsOrder es x d

-- two edges of a settled list are in one order at all x-coordinates that both cover
abbrev pub OrderAlongCommonSpans : Type 0
OrderAlongCommonSpans = (es : List CountedEdge) → IsSettled es → (e f : CountedEdge) (x d x' d' : ℤ) → pos 0 <ℤ d →
    pos 0 <ℤ d' →
    CoversIn es x d e → CoversIn es x d f → CoversIn es x' d' e → CoversIn es x' d' f →
    is_under (ends_of e) (ends_of f) x d ≡ is_under (ends_of e) (ends_of f) x' d'

-- both points are strictly below the line of e, or both strictly above it
abbrev pub AreOnOneSide : Edge → Point → Point → Type 0
AreOnOneSide e p q = ((side e (in_plane p) <ℤ pos 0) × (side e (in_plane q) <ℤ pos 0))
    ⊎ ((pos 0 <ℤ side e (in_plane p)) × (pos 0 <ℤ side e (in_plane q)))

-- an edge of a settled list over the inside of another edge, vertical or not, has both ends on one side of that edge
abbrev pub EndsOnOneSide : Type 0
EndsOnOneSide = (es : List CountedEdge) → IsSettled es → (e f : CountedEdge) → Contains es e → Contains es f →
    IsInner (ends_of e) f.a.x (pos 1) → IsInner (ends_of e) f.b.x (pos 1) → AreOnOneSide (ends_of e) f.a f.b

-- an end of an edge over the inside of another edge is below that edge exactly where the first edge is under it
pub record EndsAsUnder (e f : Edge) (x d : ℤ) : Type 0 where
  pub start : IsInner e f.a.x (pos 1) → int_lt (side e (in_plane f.a)) (pos 0) ≡ is_under f e x d
  pub end : IsInner e f.b.x (pos 1) → int_lt (side e (in_plane f.b)) (pos 0) ≡ is_under f e x d

-- this holds for any two edges of a settled list, at each x-coordinate that both cover
abbrev pub EndsBelowWhereUnder : Type 0
EndsBelowWhereUnder = (es : List CountedEdge) → IsSettled es → (e f : CountedEdge) (x d : ℤ) → pos 0 <ℤ d →
    CoversIn es x d e →
    CoversIn es x d f → EndsAsUnder (ends_of e) (ends_of f) x d
