-- Edges of an arrangement of given edges, each with the given edges from which it is derived.
use Rattle.std.specs.Prelude.{◌≡◌, ◌⊎◌, ◌^◌, ◌≤◌, ℤ, List, Option, None, Some}
use Rattle.overlay_geom.specs.Edges.{CountedEdge, weight}
use Rattle.overlay_geom.specs.declared.error.OverlayError.{OverlayError}
use Rattle.overlay_geom.specs.declared.error.OverlayError.TheVariants.{Memory, NotSettled, TooManyEdges, Failed}
use Rattle.overlay_geom.specs.declared.fill_rule.FillRule.{FillRule}
use Rattle.overlay_geom.specs.declared.overlay_rule.OverlayRule.{OverlayRule}
use Rattle.overlay_geom.specs.declared.solver.Solver.{Solver}
use Rattle.overlay_graph.specs.Arranged.{MayRefuseSplitting}
use Rattle.overlay_order.specs.declared.count.ShapeCountBoolean.{ShapeCountBoolean}
use Rattle.overlay_order.specs.declared.data.CountWithData.{CountWithData}
use Rattle.overlay_plane.specs.Carried.{Carried, edges_in}
use Rattle.overlay_vector.specs.DataVectors.{DataVector, graph_vectors, selected_vectors}
use Rattle.overlay_vector.specs.EdgeBuilder.{IsArrangedWithData}
use Rattle.overlay_traced.specs.Given.{SidedEdge, given_mark, held_edges}
use Rattle.overlay_traced.specs.Marks.{IsJoined, cut_mark, lost_mark, turned_mark}
use Rattle.overlay_traced.specs.Told.{TracedArrays, AreTold}
use Rattle.overlay_traced.specs.declared.mark.Mark.{Mark}

-- the edges that are wanted of an arrangement: those that a rule selects, or all
abbrev pub wanted_vectors : {D : Type 0} → FillRule → Option OverlayRule → List (Carried (CountWithData D)) →
    List (DataVector D)
wanted_vectors fill None xs = graph_vectors fill xs
wanted_vectors fill (Some rule) xs = selected_vectors fill rule xs

-- these are the wanted edges of some arrangement of the held ones, whose data is derived along the rounds that led
-- there
pub record AreWanted {D : Type 0} (merges : ShapeCountBoolean → D → ShapeCountBoolean → D → D → Type 0)
    (splits reverses : D → D → Type 0) (solver : Solver) (fill : FillRule) (wanted : Option OverlayRule)
    (held : List (Carried (CountWithData D))) (vectors : List (DataVector D)) : Type 0 where
  pub all : List (Carried (CountWithData D))
  pub arranged : IsArrangedWithData merges splits reverses solver held all
  pub are_those : vectors ≡ wanted_vectors fill wanted all

-- merging gives a mark that names the given edges of both, or one that is lost
abbrev pub Merges : ShapeCountBoolean → Mark → ShapeCountBoolean → Mark → Mark → Type 0
Merges c d k e m = (m ≡ lost_mark) ⊎ IsJoined d e m

abbrev pub Splits : Mark → Mark → Type 0
Splits d p = p ≡ cut_mark d

abbrev pub Reverses : Mark → Mark → Type 0
Reverses d t = t ≡ turned_mark d

-- in the arrays stand the wanted edges of some arrangement of the given ones, each with the given edges of its mark
pub record AreTraced {I : Type 0} (whole : I → ℤ) (solver : Solver) (fill : FillRule) (wanted : Option OverlayRule)
    (given : List SidedEdge) (arrays : TracedArrays I) : Type 0 where
  pub vectors : List (DataVector Mark)
  pub are_wanted : AreWanted Merges Splits Reverses solver fill wanted (held_edges given_mark given) vectors
  pub told : AreTold whole vectors arrays

-- why there are none: the edges weigh too much, or cannot be split, or memory is wanting
abbrev pub MayRefuseWanted : Solver → List CountedEdge → OverlayError → Type 0
MayRefuseWanted solver es Memory = Unit {0}
MayRefuseWanted solver es NotSettled = MayRefuseSplitting solver es NotSettled
MayRefuseWanted solver es TooManyEdges = (2 ^ 31 ≤ weight es) ⊎ MayRefuseSplitting solver es TooManyEdges
MayRefuseWanted solver es Failed = ⊥

abbrev pub MayRefuseTracing : Solver → List SidedEdge → OverlayError → Type 0
MayRefuseTracing solver given = MayRefuseWanted solver (edges_in (held_edges given_mark given))
