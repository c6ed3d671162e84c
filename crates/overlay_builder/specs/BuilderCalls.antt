-- Answers of calls that add something to a builder, or give a view of it, for all kinds of builders.
use Rattle.std.specs.Prelude.{◌≡◌, ◌≢◌, ◌↔◌, ◌^◌, ◌<◌, ℕ, Bool, true, List, Option, Result, Err, IfOk, OnOk, OnErr}
use Rattle.std.specs.Prelude.{IsErrOf}
use Rattle.std.specs.Iterator.{Drains}
use Rattle.overlay_geom.specs.Edges.{CountedEdge, AddsContour, weight}
use Rattle.overlay_geom.specs.Plane.{Point}
use Rattle.overlay_geom.specs.declared.error.OverlayError.{OverlayError}
use Rattle.overlay_geom.specs.declared.error.OverlayError.TheVariants.{NotSettled, TooManyEdges, Failed}
use Rattle.overlay_geom.specs.declared.solver.Solver.{Solver}
use Rattle.overlay_geom.specs.declared.options.ShapeType.{ShapeType}
use Rattle.overlay_order.specs.Content.{edge_for}
use Rattle.overlay_builder.specs.GivenPaths.{ContourWeighsTooMuch}
use Rattle.overlay_builder.specs.Held.{Held, AnswersQuery, shown_edges}
use Rattle.overlay_builder.specs.PathLists.{AddedPath, AddsOne, WouldWeighTooMuch}

-- ---- adding

-- the answer of a call that adds a single thing, such as a contour or an edge. `old` and `new` are the builder before
-- and after, `Adds` the effect on edges, and `WeighsTooMuch` tells edges that it would bring to the weight 2^31
pub record AddsOneAsAsked {E V : Type 0} (weigh : List E → ℕ) (Adds : List E → List E → Type 0)
    (WeighsTooMuch : List E → Type 0) (old new : Held E) (result : Result V OverlayError) : Type 0 where
  pub ok : OnOk result (Adds old.edges new.edges)
  -- the weight stays below 2^31, and nothing but the edges changes, whatever is answered
  pub light : weigh new.edges < 2 ^ 31
  pub kept : new.failed ≡ old.failed
  -- a refusal changes nothing
  pub err : OnErr result (new ≡ old)
  -- Failed exactly where the builder had failed, TooManyEdges only where the weight would come to 2^31
  pub failed : IsErrOf result Failed ↔ (old.failed ≡ true)
  pub too_many : IsErrOf result TooManyEdges → WeighsTooMuch old.edges
  pub no_query : result ≢ Err NotSettled

-- the answer of a call that adds a path
abbrev pub AddsPathAsAsked : {E V : Type 0} → (List E → ℕ) → AddedPath E → Held E → Held E → Result V OverlayError →
    Type 0
AddsPathAsAsked weigh path old new result =
    AddsOneAsAsked weigh (AddsOne path) (WouldWeighTooMuch weigh path) old new result

-- the answer of a call that adds the contour of these points; collinear points stay where they are kept
abbrev pub AddsContourAsAsked : {V : Type 0} → Bool → ShapeType → List Point → Held CountedEdge → Held CountedEdge →
    Result V OverlayError → Type 0
AddsContourAsAsked keep_points shape_type points old new result =
    AddsOneAsAsked weight (AddsContour keep_points (edge_for shape_type) points)
    (ContourWeighsTooMuch keep_points shape_type points) old new result

-- the answer of a call that adds the items that an iterator gives
abbrev pub AddsGivenAsAsked : {X S E V : Type 0} → (List E → ℕ) → (S → Option X → S → Type 0) → S →
    (List X → List E → List E → Type 0) → (List X → List E → Type 0) → Held E → Held E → Result V OverlayError → Type 0
AddsGivenAsAsked {X = X} weigh steps iter Adds WeighsTooMuch old new result =
    AddsOneAsAsked weigh (λ from to. (xs : List X) × Drains steps iter xs × Adds xs from to)
    (λ es. (xs : List X) × Drains steps iter xs × WeighsTooMuch xs es) old new result

-- ---- viewing

-- a builder after a view of it has ended: its state is that after any other query, and it holds the edges that the view
-- showed
pub record EndsView {V : Type 0} (limit : ℕ) (solver : Solver) (edges_of : V → List CountedEdge)
    (old new : Held CountedEdge)
    (result : Result (Option V) OverlayError) : Type 0 where
  pub query : AnswersQuery limit solver old new result
  pub shown : IfOk result (λ o. shown_edges edges_of o ≡ new.edges)
