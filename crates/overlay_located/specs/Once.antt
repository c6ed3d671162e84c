-- Edges that count once each, and the upright ones among them with x and y exchanged.
use Rattle.std.specs.Prelude.{◌≡◌, Bool, true, false, cond, pos, List, [], ◌∷◌, ℤ, Contains, map, flat_map, All}
use Rattle.std.specs.Ordering.{int_eq}
use Rattle.overlay_geom.specs.Edges.{CountedEdge}
use Rattle.overlay_geom.specs.Plane.{Point, Edge}
use Rattle.overlay_order.specs.Counts.{boolean_counts}
use Rattle.overlay_order.specs.declared.count.ShapeCountBoolean.{ShapeCountBoolean}
use Rattle.overlay_located.specs.Queries.{Asked, plain_query, sum_on, IsTold}
use Rattle.overlay_located.specs.Tells.{LeadsFrom, Tells}
use Rattle.overlay_located.specs.declared.query.Query.{Query}

-- an edge that counts once
abbrev pub counted_once : Edge → CountedEdge
counted_once e = record {
  a = e.a;
  b = e.b;
  counts = record { subj = pos 1; clip = pos 0; along = false; against = false };
}

-- ---- upright edges

-- x and y exchanged
abbrev pub turned_point : Point → Point
turned_point v = record { x = v.y; y = v.x }

abbrev pub turned : Edge → Edge
turned e = record { a = turned_point e.a; b = turned_point e.b }

-- the edge, turned, if it is upright
abbrev pub turned_if_upright : Edge → List Edge
turned_if_upright e = cond (int_eq e.a.x e.b.x) (turned e ∷ []) []

-- the upright ones of the edges, turned
abbrev pub turned_uprights : List Edge → List Edge
turned_uprights es = flat_map turned_if_upright es

-- ---- what is told of them

-- some edge of the list leads from v, or there is none in it
abbrev pub Lead : Point → List CountedEdge → Bool → Type 0
Lead v fs true = (e : CountedEdge) × Contains fs e × LeadsFrom v e
Lead v fs false = fs ≡ []

-- some edge of the list leads from v, or it is told that there is none
abbrev pub LeadFirst : Point → List CountedEdge → Bool → Bool → Type 0
LeadFirst v fs none true = Lead v fs true
LeadFirst v fs none false = none ≡ true

-- all edges tell of v what these do, with the numbers on its flanks
abbrev pub TellsOf : List CountedEdge → Point → Asked → Type 0
TellsOf es v q = (q.point ≡ v) × Tells v es q.through (sum_on q)

-- the edges, which count once, tell all that is told of some points, and so do the upright ones of others
pub record AreToldOnce {I : Type 0} (whole : I → ℤ) (es : List Edge) (told upright : List (Query I ShapeCountBoolean)) :
    Type 0 where
  pub all : All (λ q. IsTold (map counted_once es) (plain_query whole boolean_counts q)) told
  pub uprights : All (λ q. IsTold (map counted_once (turned_uprights es)) (plain_query whole boolean_counts q)) upright
