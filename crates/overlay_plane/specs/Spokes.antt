-- The spokes of a node: the edges that start or end there, and the windings beside them, counterclockwise.
use Rattle.std.specs.Prelude.{◌≡◌, ◌⊎◌, cond, ℤ, pos, ◌+ℤ◌, neg_ℤ, List, Contains}
use Rattle.overlay_geom.specs.Plane.{Point, point_eq, total}
use Rattle.overlay_geom.specs.Edges.{CountedEdge, winding_below, winding_above}
use Rattle.overlay_plane.specs.Turn.{is_met_before}
use Rattle.overlay_plane.specs.Turn.Hand.{right}
use Rattle.overlay_plane.specs.Alternates.{IsMetBetween}
use Rattle.overlay_plane.specs.Nodes.{IsBalancedArrangement}

-- the edge is one of the list, and v is one of its ends
pub record IsSpoke (es : List CountedEdge) (v : Point) (e : CountedEdge) : Type 0 where
  pub entry : Contains es e
  pub at : (e.a ≡ v) ⊎ (e.b ≡ v)

-- the end of a spoke that is not v
abbrev pub far_end : Point → CountedEdge → Point
far_end v e = cond (point_eq e.a v) e.b e.a

-- the winding on the clockwise side of a spoke, met before it
abbrev pub winding_before : (CountedEdge → ℤ) → List CountedEdge → Point → CountedEdge → ℤ
winding_before count es v e = cond (point_eq e.a v) (winding_below count es e) (winding_above count es e)

-- the winding on the counterclockwise side of a spoke, met after it
abbrev pub winding_after : (CountedEdge → ℤ) → List CountedEdge → Point → CountedEdge → ℤ
winding_after count es v e = cond (point_eq e.a v) (winding_above count es e) (winding_below count es e)

-- the rise of the winding across a spoke: its count where it starts in v, minus its count where it ends there; 0 for
-- other edges
abbrev pub spoke_count : (CountedEdge → ℤ) → Point → CountedEdge → ℤ
spoke_count count v e = cond (point_eq e.a v) (count e) (cond (point_eq e.b v) (neg_ℤ (count e)) (pos 0))

-- the sum of a function over the spokes strictly between two spokes, counterclockwise
abbrev pub total_between : (CountedEdge → ℤ) → List CountedEdge → Point → CountedEdge → CountedEdge → ℤ
total_between f es v e g = total (λ m. cond (is_met_before right v (far_end v e) (far_end v m) (far_end v g))
    (f m) (pos 0)) es

-- from one spoke to another, or once round to itself, the winding rises by the counts of the spokes between
abbrev pub WindingRoundANode : Type 0
WindingRoundANode = (count : CountedEdge → ℤ) (es : List CountedEdge) → IsBalancedArrangement count es → (v : Point) →
    (e g : CountedEdge) → IsSpoke es v e → IsSpoke es v g →
    winding_after count es v e +ℤ total_between (spoke_count count v) es v e g ≡ winding_before count es v g

-- across spokes with count 0 the winding round a node does not change
abbrev pub OneWindingBetweenSpokes : Type 0
OneWindingBetweenSpokes = (count : CountedEdge → ℤ) (es : List CountedEdge) → IsBalancedArrangement count es →
    (v : Point) →
    (e g : CountedEdge) → IsSpoke es v e → IsSpoke es v g →
    ((m : CountedEdge) → IsSpoke es v m → IsMetBetween v (far_end v e) (far_end v m) (far_end v g) → count m ≡ pos 0) →
    winding_after count es v e ≡ winding_before count es v g

-- the side met after one spoke is the side met before the next spoke
abbrev pub OneWindingBesideNeighbours : Type 0
OneWindingBesideNeighbours = (count : CountedEdge → ℤ) (es : List CountedEdge) → IsBalancedArrangement count es →
    (v : Point) →
    (e g : CountedEdge) → IsSpoke es v e → IsSpoke es v g →
    ((m : CountedEdge) → IsSpoke es v m → ¬ (IsMetBetween v (far_end v e) (far_end v m) (far_end v g))) →
    winding_after count es v e ≡ winding_before count es v g

-- a spoke without others at its node has one winding on both sides, and its count is 0
pub record ChangesNoWinding (count : CountedEdge → ℤ) (es : List CountedEdge) (v : Point)
    (e : CountedEdge) : Type 0 where
  pub one_winding : winding_after count es v e ≡ winding_before count es v e
  pub none : count e ≡ pos 0

abbrev pub LoneSpokesCountNothing : Type 0
LoneSpokesCountNothing = (count : CountedEdge → ℤ) (es : List CountedEdge) → IsBalancedArrangement count es →
    (v : Point) →
    (e : CountedEdge) → IsSpoke es v e → ((m : CountedEdge) → IsSpoke es v m → m ≡ e) → ChangesNoWinding count es v e
