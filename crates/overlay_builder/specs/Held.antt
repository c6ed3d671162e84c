-- The model of the core of a builder.
use Rattle.std.specs.Prelude.{◌≡◌, ◌↔◌, ◌⊎◌, ℕ, Bool, true, false, List, [], Option, Some, None}
use Rattle.std.specs.Prelude.{Result, IfErr, IsErrOf, OnOk}
use Rattle.overlay_geom.specs.Edges.{CountedEdge}
use Rattle.overlay_geom.specs.declared.error.OverlayError.{OverlayError}
use Rattle.overlay_geom.specs.declared.error.OverlayError.TheVariants.{Failed}
use Rattle.overlay_geom.specs.declared.solver.Solver.{Solver}
use Rattle.overlay_order.specs.Content.{IsContent}
use Rattle.overlay_plane.specs.Carried.{Carried, edges_in}
use Rattle.overlay_graph.specs.Arranged.{IsArranged, MayRefuseSplitting}

-- the edges that a builder holds, and a mark that a query was refused since they were last dropped
pub record Held (E : Type 0) : Type 0 where
  pub edges : List E
  pub failed : Bool

-- a builder without edges, which has not failed
abbrev pub nothing_held : {E : Type 0} → Held E
nothing_held = record { edges = []; failed = false }

-- the builder with only the counts of each edge
abbrev pub plain_held : {C : Type 0} → Held (Carried C) → Held CountedEdge
plain_held h = record { edges = edges_in h.edges; failed = h.failed }

-- the answer of a query by the solver; `old` and `new` are the builder before and after
pub record AnswersQuery {V : Type 0} (limit : ℕ) (solver : Solver) (old new : Held CountedEdge)
    (result : Result V OverlayError) : Type 0 where
  -- only a builder that has not failed answers, and it stays so; it then holds the arrangement of its edges
  pub usable : OnOk result (old.failed ≡ false)
  pub stays_usable : OnOk result (new.failed ≡ false)
  pub before : OnOk result (IsContent limit old.edges)
  pub arranged : OnOk result (IsArranged solver old.edges new.edges)
  pub content : OnOk result (IsContent limit new.edges)
  -- any refusal leaves the builder failed; it is Failed exactly where the builder had failed before
  pub fails : IfErr result (λ e. new.failed ≡ true)
  pub failed : IsErrOf result Failed ↔ (old.failed ≡ true)
  pub untouched : IsErrOf result Failed → new ≡ old
  -- any other refusal is a refusal to bring the edges into an arrangement
  pub err : IfErr result (λ e. (e ≡ Failed) ⊎ MayRefuseSplitting solver old.edges e)

-- the edges that an answer shows: those of the view, or none if there is no view
abbrev pub shown_edges : {V : Type 0} → (V → List CountedEdge) → Option V → List CountedEdge
shown_edges edges_of None = []
shown_edges edges_of (Some v) = edges_of v
