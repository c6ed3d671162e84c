-- Pieces of strings, as steps between whole points, and which of them are open.
use Rattle.std.specs.Prelude.{◌≡◌, ◌≢◌, cond, ℤ, List, [], ◌∷◌, ◌++◌, map, Option, Some, None, All}
use Rattle.overlay_geom.specs.Plane.{Point, Step, is_forward, reversed_step}
use Rattle.overlay_geom.specs.Points.{plain_point}
use Rattle.overlay_string.specs.declared.piece.Piece.{Piece}
use Rattle.overlay_string.specs.declared.piece.Way.{Way}
use Rattle.overlay_string.specs.declared.piece.Way.TheVariants.{Onward, Back}
use Rattle.overlay_order.specs.Counts.{has_bit, string_counts}
use Rattle.overlay_order.specs.declared.string_count.ShapeCountString.{ShapeCountString}
use Rattle.overlay_order.specs.declared.vector.DataVectorEdge.{DataVectorEdge}
use Rattle.overlay_graph.specs.Graphs.{carried_vector}
use Rattle.overlay_string.specs.ClipPaths.{TakesFirst, IsWalkFrom, IsPathOf, points_along}
use Rattle.overlay_string.specs.ClipPieces.{keeps_sides, string_steps}
use Rattle.overlay_string.specs.declared.clip_rule.ClipRule.{ClipRule}

-- the step at a piece's numbers, and those of a list
abbrev pub plain_piece : {I : Type 0} → (I → ℤ) → Piece I → Step
plain_piece whole p = record { from = plain_point whole p.from; to = plain_point whole p.to }

abbrev pub plain_pieces : {I : Type 0} → (I → ℤ) → List (Piece I) → List Step
plain_pieces whole ps = map (plain_piece whole) ps

-- the step, seen on the way
abbrev pub turned : Way → Step → Step
turned Onward s = s
turned Back s = reversed_step s

-- the way in which the path is walked of which the step is the first open piece
abbrev pub way_of : Step → Way
way_of s = cond (is_forward s) Onward Back

-- none of the open pieces is taken, since none leaves v
pub record TakesNone (v : Point) (old new : List Step) : Type 0 where
  pub none : All (λ t. t.from ≢ v) old
  pub left : new ≡ old

-- what is taken at v, seen on a way
abbrev pub IsTakenAt : Way → Point → List Step → List Step → Option Step → Type 0
IsTakenAt way v old new None = TakesNone v (map (turned way) old) (map (turned way) new)
IsTakenAt way v old new (Some s) = TakesFirst v (map (turned way) old) (turned way s) (map (turned way) new)

-- what is taken first of all
abbrev pub IsTakenFirst : List Step → List Step → Option Step → Type 0
IsTakenFirst old new None = (old ≡ []) × (new ≡ [])
IsTakenFirst old new (Some s) = old ≡ s ∷ new

-- the points were added at which the steps of a walk from v arrive, seen on a way
pub record GoesOn (way : Way) (v : Point) (old new : List Step) (path longer : List Point) : Type 0 where
  pub walk : List Step
  pub walks : IsWalkFrom v (map (turned way) old) walk (map (turned way) new)
  pub arrives : longer ≡ path ++ map (λ t. t.to) walk

-- the pieces along a graph's edge, if the bits of its filled sides are those of an edge that the rule keeps
abbrev pub pieces_by_bits : {I : Type 0} → (I → ℤ) → ClipRule → DataVectorEdge I ShapeCountString → List Step
pieces_by_bits whole rule v =
    cond (keeps_sides rule (has_bit v.fill 0) (has_bit v.fill 1))
    (string_steps (carried_vector whole string_counts v).edge)
    []

-- the points are those of the path of the first open piece; what was open behind it before, and what is afterwards
pub record IsShownPath (s : Step) (old new : List Step) (points : List Point) : Type 0 where
  pub path : List Step
  pub is : IsPathOf s old path new
  pub shown : points ≡ points_along path
