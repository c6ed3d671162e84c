-- Edges with data, added one after another: one passed once is light, one more is added last, and a refused one stops
-- there.
use Rattle.std.proofs.Common.{◌≡◌, ◌^◌, ◌<◌, false, List, [], ◌∷◌, ◌++◌, refl, sym, ap, lit<, ◌∙◌}
use Rattle.std.proofs.lemmas.Bool.{false≢true}
use Rattle.std.specs.Iterator.{YieldsThen}
use Rattle.std.specs.Prelude.{ℤ, true, Option, Some}
use Rattle.overlay_geom.specs.Counts.{weight_of_counts}
use Rattle.overlay_geom.specs.Edges.{weight}
use Rattle.overlay_geom.specs.declared.error.OverlayError.{OverlayError}
use Rattle.overlay_geom.specs.declared.error.OverlayError.TheVariants.{Memory, NotSettled, TooManyEdges, Failed}
use Rattle.overlay_geom.specs.declared.options.ShapeType.{ShapeType}
use Rattle.overlay_geom.specs.declared.options.ShapeType.TheVariants.{Subject, Clip}
use Rattle.overlay_plane.specs.Carried.{Carried, edges_in}
use Rattle.overlay_order.specs.Counts.{boolean_counts}
use Rattle.overlay_order.specs.declared.data.CountWithData.{CountWithData}
use Rattle.overlay_vector.specs.AddedEdges.{passed_once, AddsEdge, AddsEdges, EdgeWeighsTooMuch, MayRefuseEdge}
use Rattle.overlay_vector.specs.AddedEdges.{StopsAtEdge}
use Rattle.overlay_vector.specs.AddedEdges.AddsEdges.{no_edge, edge_and_others}
use Rattle.overlay_vector.specs.EdgeBuilder.{EdgeBuilder}
use Rattle.overlay_vector.specs.declared.input_edge.InputEdge.{InputEdge}

-- an edge that is passed once weighs 1
pub light_once : {D : Type 0} (t : ShapeType) (d : D) →
    weight_of_counts (boolean_counts (passed_once t d).count) < 2 ^ 31
light_once Subject d = lit< tt
light_once Clip d = lit< tt

module _ {I D : Type 0} (whole : I → ℤ) (t : ShapeType) (reverses : D → D → Type 0) where
  -- one more edge is added last
  adds_last : (es : List (InputEdge I D)) (e : InputEdge I D) (old mid new : List (Carried (CountWithData D))) →
      AddsEdges whole t reverses es old mid → AddsEdge whole t reverses e mid new →
      AddsEdges whole t reverses (es ++ e ∷ []) old new
  adds_last es e old mid new no_edge last = edge_and_others last no_edge
  adds_last es e old mid new (edge_and_others first h) last =
      edge_and_others first (adds_last _ e _ mid new h last)

module _ {I D U S : Type 0} (whole : I → ℤ) (t : ShapeType) (reverses : D → D → Type 0) where
  -- to a builder that has not failed exactly these edges are added
  pub record HasAddedEdges (es : List (InputEdge I D)) (old new : EdgeBuilder U D S) : Type 0 where
    pub ready : old.failed ≡ false
    pub added : AddsEdges whole t reverses es old.edges new.edges
    pub light : weight (edges_in new.edges) < 2 ^ 31
    pub kept : new ≡ record old { edges = new.edges; store = new.store }

  -- at first none
  pub none_added : (b : EdgeBuilder U D S) → b.failed ≡ false → weight (edges_in b.edges) < 2 ^ 31 →
      HasAddedEdges [] b b
  none_added b ready light = record { ready = ready; added = no_edge; light = light; kept = refl }

  module _ (es : List (InputEdge I D)) (e : InputEdge I D) (old now : EdgeBuilder U D S)
      (h : HasAddedEdges es old now) where
    still_ready : now.failed ≡ false
    still_ready = ap (λ (b : EdgeBuilder U D S). b.failed) h.kept ∙ h.ready

    pub one_more_added : (new : EdgeBuilder U D S) → AddsEdge whole t reverses e now.edges new.edges →
        weight (edges_in new.edges) < 2 ^ 31 → new ≡ record now { edges = new.edges; store = new.store } →
        HasAddedEdges (es ++ e ∷ []) old new
    one_more_added new adds light kept = record {
      ready = h.ready;
      added = adds_last whole t reverses es e old.edges now.edges new.edges h.added adds;
      light = light;
      kept = kept ∙ ap (λ (b : EdgeBuilder U D S). record b { edges = new.edges; store = new.store }) h.kept;
    }

    -- what refuses the next edge is no earlier failure
    pub not_failed : (error : OverlayError) → (error ≡ Failed → now.failed ≡ true) → ¬ (error ≡ Failed)
    not_failed error failed same = false≢true (sym still_ready ∙ failed same)

    -- the next edge is refused, and those before it are added
    pub stops_here : {Q : Type 0} (steps : Q → Option (InputEdge I D) → Q → Type 0) (iter rest : Q) →
        YieldsThen steps iter es (Some e) rest → (error : OverlayError) → (error ≡ Failed → now.failed ≡ true) →
        (error ≡ TooManyEdges → EdgeWeighsTooMuch whole t e now.edges) → ¬ (error ≡ NotSettled) →
        StopsAtEdge whole t reverses steps iter old.edges now.edges error
    stops_here steps iter rest yields error failed heavy unsettled = record {
      before = es;
      edge = e;
      rest = rest;
      yields = yields;
      added = h.added;
      refused = refused_so error (not_failed error failed) heavy unsettled;
    }
      where
        refused_so : (error : OverlayError) → ¬ (error ≡ Failed) →
            (error ≡ TooManyEdges → EdgeWeighsTooMuch whole t e now.edges) → ¬ (error ≡ NotSettled) →
            MayRefuseEdge whole t e now.edges error
        refused_so Memory failed heavy unsettled = tt
        refused_so TooManyEdges failed heavy unsettled = heavy refl
        refused_so NotSettled failed heavy unsettled = unsettled refl
        refused_so Failed failed heavy unsettled = failed refl
