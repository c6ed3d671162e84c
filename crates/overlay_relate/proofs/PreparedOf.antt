-- A shape that is prepared of paths: what the builder holds on the way, and when that is refused.
use Rattle.std.proofs.Common.{◌≡◌, ◌⊎◌, inl, inr, ℕ, true, false, sym, ap, subst, ◌∙◌, List, []}
use Rattle.std.proofs.lemmas.Bool.{false≢true}
use Rattle.std.specs.Prelude.{Result, Ok, Err}
use Rattle.overlay_geom.specs.Plane.{Edge}
use Rattle.overlay_geom.specs.Edges.{CountedEdge, weight}
use Rattle.overlay_geom.specs.declared.error.OverlayError.{OverlayError}
use Rattle.overlay_geom.specs.declared.error.OverlayError.TheVariants.{Memory, NotSettled, TooManyEdges, Failed}
use Rattle.overlay_geom.specs.declared.solver.Solver.{Solver}
use Rattle.overlay_geom.specs.Rules.{is_filled}
use Rattle.overlay_geom.specs.declared.fill_rule.FillRule.{FillRule}
use Rattle.overlay_graph.specs.Arranged.{IsArranged, MayRefuseSplitting}
use Rattle.overlay_builder.specs.GivenPaths.{GivenPath, added_paths}
use Rattle.overlay_builder.specs.Held.{AnswersQuery}
use Rattle.overlay_builder.specs.PathLists.{AddsPaths, HoldsPaths, StopsAtPath}
use Rattle.overlay_relate.specs.Bounded.{Bounds}
use Rattle.overlay_relate.specs.Exchanged.{IsArrangementOf}
use Rattle.overlay_relate.specs.PredicateBuilder.{PredicateBuilder, empty_builder, held_by, PredicateBuilderAdds}
use Rattle.overlay_relate.specs.Prepared.{IsPreparedOf, MayRefusePreparing}

module _ (solver : Solver) (fill : FillRule) (paths : List GivenPath) (empty added : PredicateBuilder)
    (is : empty ≡ empty_builder fill solver) where
  -- one of the paths is refused
  adding_refused : (es : List CountedEdge) (e : OverlayError) → StopsAtPath weight (added_paths false paths) [] es e →
      MayRefusePreparing solver paths e
  adding_refused es Memory stops = tt
  adding_refused es NotSettled stops = absurd stops.refused
  adding_refused es TooManyEdges stops = inl (es, stops)
  adding_refused es Failed stops = stops.refused

  pub paths_refused : (e : OverlayError) → PredicateBuilderAdds {V = Unit {0}} paths empty added (Err e) →
      MayRefusePreparing solver paths e
  paths_refused e h = by (subst (λ b. (e ≡ Failed) ⊎ StopsAtPath weight (added_paths false paths) b.edges added.edges e)
      is h.added.err)
    where
      by : ((e ≡ Failed) ⊎ StopsAtPath weight (added_paths false paths) [] added.edges e) →
          MayRefusePreparing solver paths e
      by (inl same) = absurd (false≢true (sym (ap (λ b. b.failed) is) ∙ h.added.failed.0
          (ap {B = Result (Unit {0}) OverlayError} (λ x. Err x) same)))
      by (inr stops) = adding_refused added.edges e stops

  -- all are added
  module _ {U : Type 0} (u : U) (adds : PredicateBuilderAdds paths empty added (Ok u)) where
    by_solver : added.solver ≡ solver
    by_solver = ap (λ b. b.solver) adds.kept ∙ ap (λ b. b.solver) is

    by_rule : added.fill_rule ≡ fill
    by_rule = ap (λ b. b.fill_rule) adds.kept ∙ ap (λ b. b.fill_rule) is

    ready : added.failed ≡ false
    ready = ap (λ b. b.failed) adds.kept ∙ ap (λ b. b.failed) is

    held : HoldsPaths (added_paths false paths) added.edges
    held = record {
      added = subst (λ b. AddsPaths (added_paths false paths) b.edges added.edges) is adds.added.ok;
      light = adds.added.light;
    }

    splitting_refused : (e : OverlayError) → MayRefuseSplitting solver added.edges e → MayRefusePreparing solver paths e
    splitting_refused Memory may = tt
    splitting_refused NotSettled may = record { content = added.edges; holds = held; refused = may }
    splitting_refused TooManyEdges may = inr (record { content = added.edges; holds = held; refused = may })
    splitting_refused Failed may = may

    -- their edges are not brought into an arrangement
    pub arranging_refused : {V : Type 0} (limit : ℕ) (e : OverlayError) (arranged : PredicateBuilder) →
        AnswersQuery {V = V} limit added.solver (held_by added) (held_by arranged) (Err e) →
        MayRefusePreparing solver paths e
    arranging_refused {V} limit e arranged h = by h.err
      where
        by : ((e ≡ Failed) ⊎ MayRefuseSplitting added.solver added.edges e) → MayRefusePreparing solver paths e
        by (inl same) = absurd (false≢true (sym ready ∙ h.failed.0
            (ap {B = Result V OverlayError} (λ x. Err x) same)))
        by (inr may) = splitting_refused e (subst (λ s. MayRefuseSplitting s added.edges e) by_solver may)

    -- or they are, and bounded
    module _ {V : Type 0} (v : V) (limit : ℕ) (arranged : PredicateBuilder)
        (query : AnswersQuery limit added.solver (held_by added) (held_by arranged) (Ok v))
        (kept : arranged ≡ record added { edges = arranged.edges; failed = arranged.failed }) where
      pub same_rule : arranged.fill_rule ≡ fill
      same_rule = ap (λ b. b.fill_rule) kept ∙ by_rule

      arrangement : IsArrangementOf false solver paths arranged.edges
      arrangement = record {
        content = added.edges;
        holds = held;
        arranged = subst (λ s. IsArranged s added.edges arranged.edges) by_solver query.arranged;
      }

      pub prepared : (boundary : List Edge) → Bounds (is_filled arranged.fill_rule) arranged.edges boundary →
          IsPreparedOf solver fill paths boundary
      prepared boundary bounds = record {
        edges = arranged.edges;
        arranged = arrangement;
        bounds = subst (λ r. Bounds (is_filled r) arranged.edges boundary) same_rule bounds;
      }
