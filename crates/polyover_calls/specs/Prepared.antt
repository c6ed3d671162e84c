-- Prepared shapes in arrays, what they are made of, and where points lie in them.
use Rattle.std.specs.Prelude.{◌≡◌, ◌≤◌, ◌⊎◌, ℕ, ℤ, List, [], length, map}
use Rattle.overlay_geom.specs.declared.options.ShapeType.TheVariants.{Subject}
use Rattle.overlay_geom.specs.Plane.{Point, Edge}
use Rattle.overlay_geom.specs.Points.{plain_points}
use Rattle.overlay_geom.specs.Resolved.{plain_edges}
use Rattle.overlay_geom.specs.declared.edge.IntEdge.{IntEdge}
use Rattle.overlay_builder.specs.GivenPaths.{paths_for}
use Rattle.overlay_relate.specs.Answers.{AnswersWhere}
use Rattle.overlay_relate.specs.Blocks.{Block, AreBlocked, plain_blocks}
use Rattle.overlay_relate.specs.Bounded.{LiesSo}
use Rattle.overlay_relate.specs.Locations.{IsLocatedBy}
use Rattle.overlay_relate.specs.Prepared.{IsPreparedOf, MayRefusePreparing}
use Rattle.overlay_relate.specs.declared.blocks.Block.{Block as HeldBlock}
use Rattle.overlay_relate.specs.declared.location.PointLocation.{PointLocation}
use Rattle.polyover_calls.specs.Arrays.{points_of, written_over}
use Rattle.polyover_calls.specs.Asked.{fill_of, solver_of}
use Rattle.polyover_calls.specs.Given.{Contours, paths_of, AreGiven, IsFaulty}
use Rattle.polyover_calls.specs.Located.{number_of}
use Rattle.polyover_calls.specs.Reading.{ArePoints, PointsHaveOwnFault}
use Rattle.polyover_calls.specs.Refusals.{AreQueryNumbers, IsUnknownQuery}
use Rattle.polyover_calls.specs.Statuses.{IsRefused, code_of}
use Rattle.polyover_calls.specs.declared.fault.Fault.TheVariants as fault
use Rattle.polyover_calls.specs.declared.prepare.HeldParts.{HeldParts}
use Rattle.polyover_calls.specs.declared.prepared.Block32.{Block32}
use Rattle.polyover_calls.specs.declared.prepared.Block64.{Block64}
use Rattle.polyover_calls.specs.declared.prepared.Edge32.{Edge32}
use Rattle.polyover_calls.specs.declared.prepared.Edge64.{Edge64}
use Rattle.polyover_calls.specs.declared.prepared.Prepared32.{Prepared32}
use Rattle.polyover_calls.specs.declared.prepared.Prepared64.{Prepared64}
use Rattle.polyover_calls.specs.declared.status.Status.{Status}
use Rattle.polyover_calls.specs.declared.status.Status.TheVariants.{Done, BadEnds, OutOfRange, TooSmall}

-- ---- as C has them

-- the edges and blocks of what C has
abbrev pub edge_of_64 : Edge64 → IntEdge ℤ
edge_of_64 e = record { a = record { x = e.a_x; y = e.a_y }; b = record { x = e.b_x; y = e.b_y } }

abbrev pub edge_of_32 : Edge32 → IntEdge ℤ
edge_of_32 e = record { a = record { x = e.a_x; y = e.a_y }; b = record { x = e.b_x; y = e.b_y } }

abbrev pub block_of_64 : Block64 → HeldBlock ℤ
block_of_64 b = record { start = b.start; end = b.end; left = b.left; right = b.right; bottom = b.bottom }

abbrev pub block_of_32 : Block32 → HeldBlock ℤ
block_of_32 b = record { start = b.start; end = b.end; left = b.left; right = b.right; bottom = b.bottom }

-- ---- their parts

-- the edges of a boundary, and two lists of blocks of them
pub record Parts : Type 0 where
  pub edges : List Edge
  pub blocks : List Block
  pub groups : List Block

-- those between whole points
abbrev pub plain_parts : {I : Type 0} → (I → ℤ) → List (IntEdge I) → List (HeldBlock I) → List (HeldBlock I) → Parts
plain_parts whole edges blocks groups = record {
  edges = plain_edges whole edges;
  blocks = plain_blocks whole blocks;
  groups = plain_blocks whole groups;
}

-- those in some form
abbrev pub parts_of : {I E B : Type 0} → (I → ℤ) → (E → IntEdge I) → (B → HeldBlock I) → HeldParts E B → Parts
parts_of whole edge block p =
    plain_parts whole (map edge p.edges.now) (map block p.blocks.now) (map block p.groups.now)

-- those of a prepared shape as C has it, at 64 and at 32 bits
abbrev pub parts_at_64 : Prepared64 → Parts
parts_at_64 p = plain_parts (λ z. z) (map edge_of_64 p.edges.now) (map block_of_64 p.blocks.now)
    (map block_of_64 p.groups.now)

abbrev pub parts_at_32 : Prepared32 → Parts
parts_at_32 p = plain_parts (λ z. z) (map edge_of_32 p.edges.now) (map block_of_32 p.blocks.now)
    (map block_of_32 p.groups.now)

-- without an item each
abbrev pub no_parts : Parts
no_parts = record { edges = []; blocks = []; groups = [] }

-- the edges are in range, and the blocks are blocks of them, as of each shape that is handed out, and of one without
-- parts
abbrev pub CanBeAsked : ℕ → Parts → Type 0
CanBeAsked limit p = AreBlocked limit p.edges p.blocks p.groups

-- ---- preparing

-- the numbers are known, the contours are given, and the edges bound, under the fill rule, the shape of some
-- arrangement, by the solver, of the contours
pub record ArePartsOf {I : Type 0} (whole : I → ℤ) (limit fill solver : ℕ) (given : Contours I) (p : Parts) : Type 0
  where
    pub known : AreQueryNumbers fill solver
    pub are_given : AreGiven whole limit given
    pub prepared : IsPreparedOf (solver_of solver) (fill_of fill) (paths_for Subject (paths_of whole given)) p.edges
    pub can_be_asked : CanBeAsked limit p

-- preparing is refused so: a number stands for nothing, the fill rule's first; else the contours have a fault; else the
-- query is refused
abbrev pub IsPreparingRefused : {I : Type 0} → (I → ℤ) → ℕ → ℕ → ℕ → Contours I → Status → Type 0
IsPreparingRefused whole limit fill solver given = IsRefused (IsUnknownQuery fill solver)
    (λ f. AreQueryNumbers fill solver × IsFaulty whole limit given f)
    (λ e. AreQueryNumbers fill solver × (AreGiven whole limit given
    × MayRefusePreparing (solver_of solver) (paths_for Subject (paths_of whole given)) e))

-- how it ends: with parts of the shape, or it is refused, and there are none
abbrev pub PreparingEnds : {I : Type 0} → (I → ℤ) → ℕ → ℕ → ℕ → Contours I → Parts → Status → Type 0
PreparingEnds whole limit fill solver given p s = ((s ≡ Done) × ArePartsOf whole limit fill solver given p)
    ⊎ ((p ≡ no_parts) × IsPreparingRefused whole limit fill solver given s)

-- what C is given: parts of a shape that can be asked, and the code of the status with which preparing ends so
pub record IsPreparedSo {I : Type 0} (whole : I → ℤ) (limit fill solver : ℕ) (given : Contours I) (p : Parts)
    (code : ℕ) : Type 0 where
  pub status : Status
  pub ends : PreparingEnds whole limit fill solver given p status
  pub told : code ≡ code_of status
  pub can_be_asked : CanBeAsked limit p

-- ---- asking

-- the numbers tell where each point lies in each shape that these edges bound
pub record AreToldIn (edges : List Edge) (points : List Point) (told : List ℕ) : Type 0 where
  pub locations : List PointLocation
  pub lie : AnswersWhere (LiesSo edges) points locations
  pub by_edges : AnswersWhere (IsLocatedBy edges) points locations
  pub numbers : told ≡ map number_of locations

-- the first places get such numbers
pub record AreLocatedIn {I : Type 0} (whole : I → ℤ) (edges : List Edge) (points : List I)
    (old new : List ℕ) : Type 0 where
  pub numbers : List ℕ
  pub tell : AreToldIn edges (plain_points whole (points_of points)) numbers
  pub written : new ≡ written_over numbers old

-- there is a place for each point
abbrev pub HaveRoom : {I : Type 0} → List I → List ℕ → Type 0
HaveRoom points room = length (points_of points) ≤ length room

-- asking is refused so: the points have a fault, or else there are fewer places than points; never for want of memory
abbrev pub IsAskingRefused : {I : Type 0} → (I → ℤ) → ℕ → List I → List ℕ → Status → Type 0
IsAskingRefused whole limit points room s = ((s ≡ BadEnds) × PointsHaveOwnFault whole limit points fault.Ends)
    ⊎ (((s ≡ OutOfRange) × PointsHaveOwnFault whole limit points fault.Range)
    ⊎ ((s ≡ TooSmall) × (ArePoints whole limit points × ¬ (HaveRoom points room))))

-- how it ends: the locations are written, or it is refused, and nothing is
abbrev pub AskingEnds : {I : Type 0} → (I → ℤ) → ℕ → Parts → List I → (old new : List ℕ) → Status → Type 0
AskingEnds whole limit p points old new s =
    ((s ≡ Done) × (ArePoints whole limit points × (HaveRoom points old × AreLocatedIn whole p.edges points old new)))
    ⊎ ((new ≡ old) × IsAskingRefused whole limit points old s)
