-- Edges with data that are added to a builder, one after another, and when that is refused.
use Rattle.std.specs.Prelude.{ℕ, ℤ, pos, List, [], ◌∷◌, Option, Some}
use Rattle.std.specs.Iterator.{Drains, YieldsThen}
use Rattle.overlay_geom.specs.Points.{plain_point, InRange}
use Rattle.overlay_geom.specs.declared.error.OverlayError.{OverlayError}
use Rattle.overlay_geom.specs.declared.error.OverlayError.TheVariants.{Memory, NotSettled, TooManyEdges, Failed}
use Rattle.overlay_geom.specs.declared.options.ShapeType.{ShapeType}
use Rattle.overlay_plane.specs.Carried.{Carried}
use Rattle.overlay_order.specs.Content.{count_for}
use Rattle.overlay_order.specs.Counts.{boolean_counts}
use Rattle.overlay_order.specs.EdgeData.{IsReversed}
use Rattle.overlay_order.specs.declared.data.CountWithData.{CountWithData}
use Rattle.overlay_builder.specs.AddedSteps.{AddsStep, StepWeighsTooMuch}
use Rattle.overlay_vector.specs.declared.input_edge.InputEdge.{InputEdge}

-- what a step of the subject, or of the clip, with this data makes its edge carry where it runs along it: it passes the
-- edge once
abbrev pub passed_once : {D : Type 0} → ShapeType → D → CountWithData D
passed_once shape_type d = record { count = count_for shape_type (pos 1); edge_data = d }

-- both ends are in the coordinate range
pub record IsEdgeInRange {I D : Type 0} (whole : I → ℤ) (limit : ℕ) (e : InputEdge I D) : Type 0 where
  pub a : InRange limit (plain_point whole e.a)
  pub b : InRange limit (plain_point whole e.b)

module _ {I D : Type 0} (whole : I → ℤ) (shape_type : ShapeType) where
  -- the edge would bring the weight to 2^31
  abbrev pub EdgeWeighsTooMuch : InputEdge I D → List (Carried (CountWithData D)) → Type 0
  EdgeWeighsTooMuch e es =
      StepWeighsTooMuch (λ c. boolean_counts c.count) (passed_once shape_type e.edge_data) (plain_point whole e.a)
      (plain_point whole e.b) es

  -- the edge, added to this content, may be refused so
  abbrev pub MayRefuseEdge : InputEdge I D → List (Carried (CountWithData D)) → OverlayError → Type 0
  MayRefuseEdge e es Memory = Unit {0}
  MayRefuseEdge e es TooManyEdges = EdgeWeighsTooMuch e es
  MayRefuseEdge e es NotSettled = ⊥
  MayRefuseEdge e es Failed = ⊥

  module _ (reverses : D → D → Type 0) where
    -- the second list is the first one, followed by the edge from its smaller to its larger end: the subject, or the
    -- clip, passes it once from a to b, and it carries the data, or, where a is the larger end, a reversed of it; where
    -- the ends are equal there is none
    abbrev pub AddsEdge : InputEdge I D → List (Carried (CountWithData D)) → List (Carried (CountWithData D)) → Type 0
    AddsEdge e old new =
        AddsStep (λ c. boolean_counts c.count) (IsReversed reverses) (passed_once shape_type e.edge_data)
        (plain_point whole e.a) (plain_point whole e.b) old new

    -- the second list is the first one, followed by these edges, in order
    pub data AddsEdges : List (InputEdge I D) → List (Carried (CountWithData D)) →
        List (Carried (CountWithData D)) → Type 0 where
      no_edge : {es : List (Carried (CountWithData D))} → AddsEdges [] es es
      edge_and_others : {e : InputEdge I D} {es : List (InputEdge I D)}
          {old mid new : List (Carried (CountWithData D))} → AddsEdge e old mid → AddsEdges es mid new →
          AddsEdges (e ∷ es) old new

    -- all edges that an iterator gives are added
    pub record AddsAllGiven {S : Type 0} (steps : S → Option (InputEdge I D) → S → Type 0) (iter : S)
        (old new : List (Carried (CountWithData D))) : Type 0 where
      pub given : List (InputEdge I D)
      pub drains : Drains steps iter given
      pub added : AddsEdges given old new

    -- one of the edges that an iterator gives is refused so, and exactly those before it are added
    pub record StopsAtEdge {S : Type 0} (steps : S → Option (InputEdge I D) → S → Type 0) (iter : S)
        (old new : List (Carried (CountWithData D))) (error : OverlayError) : Type 0 where
      pub before : List (InputEdge I D)
      pub edge : InputEdge I D
      pub rest : S
      pub yields : YieldsThen steps iter before (Some edge) rest
      pub added : AddsEdges before old new
      pub refused : MayRefuseEdge edge new error
