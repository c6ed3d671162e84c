-- Settled lists: two different edges share a point of the plane only where it is an end of both.
use Rattle.std.specs.Prelude.{◌≡◌, false, List, Contains}
use Rattle.overlay_geom.specs.Plane.{PlanePoint, Edge, edge_eq, IsOn, IsEnd}
use Rattle.overlay_geom.specs.Edges.{CountedEdge, ends_of}

-- p lies on both edges
abbrev pub IsCommon : Edge → Edge → PlanePoint → Type 0
IsCommon e f p = IsOn e p × IsOn f p

-- every point that the two edges share is an end of both
abbrev pub MeetInEnds : Edge → Edge → Type 0
MeetInEnds e f = (p : PlanePoint) → IsCommon e f p → IsEnd e p × IsEnd f p

-- any two entries of the list with different edges meet in ends alone
abbrev pub IsSettledBy : {X : Type 0} → (X → Edge) → List X → Type 0
IsSettledBy {X} ends xs = (x y : X) → Contains xs x → Contains xs y → edge_eq (ends x) (ends y) ≡ false →
    MeetInEnds (ends x) (ends y)

-- any two different edges of the list meet in ends alone
abbrev pub IsSettled : List CountedEdge → Type 0
IsSettled es = IsSettledBy ends_of es
