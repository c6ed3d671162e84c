-- What contracts see of a builder of edges with data, and what its queries do to it.
use Rattle.std.specs.Prelude.{◌≡◌, ℕ, Bool, true, false, List, [], Option, None}
use Rattle.overlay_geom.specs.Edges.{CountedEdge}
use Rattle.overlay_geom.specs.declared.solver.Solver.{Solver}
use Rattle.overlay_geom.specs.declared.solver.Solver.TheVariants.{Rounds}
use Rattle.overlay_geom.specs.Options.{AreOptions}
use Rattle.overlay_geom.specs.declared.options.IntOverlayOptions.{IntOverlayOptions}
use Rattle.overlay_plane.specs.Carried.{Carried, edges_in}
use Rattle.overlay_order.specs.EdgeData.{AreMerged, IsPiece, IsReversed}
use Rattle.overlay_order.specs.declared.count.ShapeCountBoolean.{ShapeCountBoolean}
use Rattle.overlay_order.specs.declared.data.CountWithData.{CountWithData}
use Rattle.overlay_graph.specs.Arranged.{IsArrangedCarrying}
use Rattle.overlay_builder.specs.Held.{Held}

-- a builder of edges with data: its settings, whether it holds a buffer for extractions (of which nothing is seen), the
-- counted edges that it holds, each with its data, the store of the data, and whether a query was refused
pub record EdgeBuilder (U D S : Type 0) : Type 0 where
  pub solver : Solver
  pub options : IntOverlayOptions U
  pub boolean_buffer : Option (Unit {0})
  pub edges : List (Carried (CountWithData D))
  pub store : S
  pub failed : Bool

-- a new builder: it splits by rounds, keeps points on one line in the output alone, has no buffer and no edges, and has
-- not failed
pub record IsNewEdgeBuilder {U D S : Type 0} (natural : U → ℕ) (b : EdgeBuilder U D S) : Type 0 where
  pub by : b.solver ≡ Rounds
  pub options : AreOptions natural false true false b.options
  pub buffer : b.boolean_buffer ≡ None
  pub edges : b.edges ≡ []
  pub ready : b.failed ≡ false

-- the part of it that all builders have, with the data
abbrev pub held_with_data : {U D S : Type 0} → EdgeBuilder U D S → Held (Carried (CountWithData D))
held_with_data b = record { edges = b.edges; failed = b.failed }

-- and without
abbrev pub held_by : {U D S : Type 0} → EdgeBuilder U D S → Held CountedEdge
held_by b = record { edges = edges_in b.edges; failed = b.failed }

-- ---- queries

-- the second list is an arrangement of the first one, reached by the solver's rounds, and its data is derived along the
-- rounds that led there, by what the three operations on data may answer
abbrev pub IsArrangedWithData : {D : Type 0} →
    (ShapeCountBoolean → D → ShapeCountBoolean → D → D → Type 0) → (D → D → Type 0) → (D → D → Type 0) → Solver →
    List (Carried (CountWithData D)) → List (Carried (CountWithData D)) → Type 0
IsArrangedWithData merges splits reverses solver old new =
    IsArrangedCarrying (AreMerged merges) (IsPiece splits) (IsReversed reverses) solver old new
