-- Paths added one after another to a builder's edges, and refusals of them.
use Rattle.std.specs.Prelude.{◌≡◌, ◌↔◌, ◌⊎◌, ◌^◌, ◌<◌, ◌≤◌, ◌++◌, ℕ, true, List, [], ◌∷◌, map, Result, IfErr, IsErrOf}
use Rattle.std.specs.Prelude.{OnOk}
use Rattle.overlay_geom.specs.Plane.{Point, Step}
use Rattle.overlay_geom.specs.Edges.{CountedEdge, weight}
use Rattle.overlay_geom.specs.declared.error.OverlayError.{OverlayError}
use Rattle.overlay_geom.specs.declared.error.OverlayError.TheVariants.{Memory, NotSettled, TooManyEdges, Failed}
use Rattle.overlay_plane.specs.Carried.{Carried, edges_in}
use Rattle.overlay_builder.specs.Held.{Held}
use Rattle.overlay_builder.specs.Paths.{AddsPath}
use Rattle.overlay_builder.specs.declared.path.PathKind.{PathKind}

-- a path to be added: the way in which its points are taken, the edge of each of its steps, and its points
pub record AddedPath (E : Type 0) : Type 0 where
  pub kind : PathKind
  pub edge_for : Step → E
  pub points : List Point

-- a path to be added in this way, and several
abbrev pub path_as : {E : Type 0} → PathKind → (Step → E) → List Point → AddedPath E
path_as kind edge_for points = record { kind = kind; edge_for = edge_for; points = points }

abbrev pub paths_as : {E : Type 0} → PathKind → (Step → E) → List (List Point) → List (AddedPath E)
paths_as kind edge_for paths = map (path_as kind edge_for) paths

-- the weight of edges, whatever they carry
abbrev pub carried_weight : {C : Type 0} → List (Carried C) → ℕ
carried_weight es = weight (edges_in es)

-- the second list extends the first by the edges of the path
abbrev pub AddsOne : {E : Type 0} → AddedPath E → List E → List E → Type 0
AddsOne p old new = AddsPath p.kind p.edge_for p.points old new

-- the second list extends the first by the edges of each path, path by path
pub data AddsPaths {E : Type 0} : List (AddedPath E) → List E → List E → Type 0 where
  no_path : {es : List E} → AddsPaths [] es es
  path_and_others : {p : AddedPath E} {ps : List (AddedPath E)} {old mid new : List E} →
      AddsOne p old mid → AddsPaths ps mid new → AddsPaths (p ∷ ps) old new

-- the second list extends the first by the edges of the paths before this path
pub record AddsPathsBefore {E : Type 0} (path : AddedPath E) (paths : List (AddedPath E))
    (old new : List E) : Type 0 where
  pub before : List (AddedPath E)
  pub after : List (AddedPath E)
  pub parts : paths ≡ before ++ path ∷ after
  pub added : AddsPaths before old new

-- adding the path would bring the weight to 2^31
pub record WouldWeighTooMuch {E : Type 0} (weigh : List E → ℕ) (path : AddedPath E) (old : List E) : Type 0 where
  pub content : List E
  pub adds : AddsOne path old content
  pub heavy : 2 ^ 31 ≤ weigh content

-- possible refusals of a path added to these edges: TooManyEdges only where it would bring the weight to 2^31, and
-- never NotSettled or Failed
abbrev pub MayRefusePath : {E : Type 0} → (List E → ℕ) → AddedPath E → List E → OverlayError → Type 0
MayRefusePath weigh path es Memory = Unit {0}
MayRefusePath weigh path es TooManyEdges = WouldWeighTooMuch weigh path es
MayRefusePath weigh path es NotSettled = ⊥
MayRefusePath weigh path es Failed = ⊥

-- a path is refused, and exactly the paths before it are added, which lead from the first list to the second
pub record StopsAtPath {E : Type 0} (weigh : List E → ℕ) (paths : List (AddedPath E)) (old new : List E)
    (e : OverlayError) : Type 0 where
  pub path : AddedPath E
  pub added : AddsPathsBefore path paths old new
  pub refused : MayRefusePath weigh path new e

-- the answer of a call that adds the paths; `old` and `new` are the builder before and after
pub record AddsAsAsked {E V : Type 0} (weigh : List E → ℕ) (paths : List (AddedPath E)) (old new : Held E)
    (result : Result V OverlayError) : Type 0 where
  pub ok : OnOk result (AddsPaths paths old.edges new.edges)
  -- the weight stays below 2^31, and nothing but the edges changes, whatever is answered
  pub light : weigh new.edges < 2 ^ 31
  pub kept : new.failed ≡ old.failed
  -- Failed exactly where the builder had failed, and then nothing changes
  pub failed : IsErrOf result Failed ↔ (old.failed ≡ true)
  pub untouched : IsErrOf result Failed → new ≡ old
  -- any other refusal refuses a path, and exactly the paths before it stay added
  pub err : IfErr result (λ e. (e ≡ Failed) ⊎ StopsAtPath weigh paths old.edges new.edges e)

-- ---- new builders

-- the edges are those of the paths, and a builder may hold them
pub record HoldsPaths (paths : List (AddedPath CountedEdge)) (es : List CountedEdge) : Type 0 where
  pub added : AddsPaths paths [] es
  pub light : weight es < 2 ^ 31

-- a path would bring the weight to 2^31, after the paths before it
abbrev pub SomePathWeighsTooMuch : List (AddedPath CountedEdge) → Type 0
SomePathWeighsTooMuch paths = (reached : List CountedEdge) × StopsAtPath weight paths [] reached TooManyEdges

-- possible refusals of a builder with the paths
abbrev pub MayRefuseBuilder : List (AddedPath CountedEdge) → OverlayError → Type 0
MayRefuseBuilder paths Memory = Unit {0}
MayRefuseBuilder paths TooManyEdges = SomePathWeighsTooMuch paths
MayRefuseBuilder paths NotSettled = ⊥
MayRefuseBuilder paths Failed = ⊥
