-- A contour that was added to nothing and arranged is simple exactly where the tests say so.
use Rattle.std.proofs.Common.{◌≡◌, ◌≢◌, ◌≤◌, Bool, true, false, cond, not, ◌&&◌, List, [], ◌∷◌, length, refl}
use Rattle.std.proofs.Common.{sym, ap}
use Rattle.std.proofs.Common.{subst, ◌∙◌, arith}
use Rattle.std.proofs.lemmas.Bool.{false≢true, and_parts}
use Rattle.std.specs.Prelude.{◌↔◌}
use Rattle.overlay_geom.specs.Plane.{Point}
use Rattle.overlay_geom.specs.Edges.{CountedEdge}
use Rattle.overlay_geom.specs.declared.solver.Solver.{Solver}
use Rattle.overlay_geom.specs.declared.solver.Solver.TheVariants.{Rounds}
use Rattle.overlay_geom.specs.declared.fill_rule.FillRule.{FillRule}
use Rattle.overlay_geom.specs.declared.options.ContourDirection.{ContourDirection}
use Rattle.overlay_geom.specs.declared.options.ShapeType.TheVariants.{Subject}
use Rattle.overlay_plane.specs.Arrangements.{IsReachedBy}
use Rattle.overlay_plane.specs.Carried.{Carried, edges_in}
use Rattle.overlay_plane.specs.Groups.{HasEachPointOnce}
use Rattle.overlay_order.specs.Content.{edge_for}
use Rattle.overlay_builder.specs.Paths.{AddsPath, IsTakenAs, contour_kind}
use Rattle.overlay_builder.specs.declared.path.PathKind.{PathKind}
use Rattle.i_overlay.specs.Outcome.{IsSimpleAsAdded, HasOutcome, IsOutcome, fills_simple, is_same_direction}
use Rattle.i_overlay.specs.Outcome.{outcome_of}
use Rattle.i_overlay.specs.Simple.{RunsIn}
use Rattle.i_overlay.specs.declared.simplifying.outcome.Outcome.{Outcome}
use Rattle.i_overlay.specs.declared.simplifying.outcome.Outcome.TheVariants.{NotSimple, Empty, AsGiven, Reversed}
use Rattle.i_overlay.proofs.AddedAlone.{whole_content}
use Rattle.i_overlay.proofs.SimpleEdges.{three_points}
use Rattle.std.proofs.lemmas.Bool.{not-true}

-- a list of edges that is not empty has an edge
pub some_held : {C : Type 0} (es : List (Carried C)) → length es ≢ 0 → edges_in es ≢ []
some_held [] other same = other refl
some_held (e ∷ es) other same = let long = ap length same in omega (arith, long)

-- what one solver reaches without a round, each does: it is merged and settled
by_each_solver : (first second : Solver) (old new : List CountedEdge) → IsReachedBy first [] old new →
    IsReachedBy second [] old new
by_each_solver first second old new h = record { cut = tt; merged = h.merged; settled = h.settled }

module _ (solver : Solver) (keep : Bool) (kind : PathKind) (kind_is : kind ≡ contour_kind keep) (ps : List Point)
    (held es : List CountedEdge) (adds : AddsPath (contour_kind keep) (edge_for Subject) ps [] held)
    (leaves_out is_cut : Bool) (left_out : (leaves_out ≡ false) ↔ IsTakenAs kind ps ps)
    (cut : (is_cut ≡ false) ↔ IsReachedBy solver [] held es) where
  -- where all tests pass
  pub simple_where_whole : (not leaves_out && not is_cut) ≡ true → es ≢ [] → HasEachPointOnce ps →
      IsSimpleAsAdded keep ps es
  simple_where_whole whole some once =
      let parts = and_parts (not leaves_out) (not is_cut) whole in
      let taken : IsTakenAs (contour_kind keep) ps ps =
      subst (λ k. IsTakenAs k ps ps) kind_is (left_out.0 (not-true leaves_out parts.0)) in
      record {
        none_left_out = taken;
        simple = record {
          points_once = once;
          none_cut = subst (λ fs. IsReachedBy Rounds [] fs es) (whole_content keep ps held adds taken)
              (by_each_solver solver Rounds held es (cut.0 (not-true is_cut parts.1)));
          some_edge = some;
        };
      }

  -- and where it is simple, they do
  pub whole_where_simple : IsSimpleAsAdded keep ps es → (not leaves_out && not is_cut) ≡ true
  whole_where_simple simple =
      let out : leaves_out ≡ false = left_out.1 (subst (λ k. IsTakenAs k ps ps) (sym kind_is) simple.none_left_out) in
      let none_cut : IsReachedBy Rounds [] held es = subst (λ fs. IsReachedBy Rounds [] fs es)
      (sym (whole_content keep ps held adds simple.none_left_out)) simple.simple.none_cut in
      let uncut : is_cut ≡ false = cut.1 (by_each_solver Rounds solver held es none_cut) in
      ap (λ t. not t && not is_cut) out ∙ ap (λ t. not false && not t) uncut

-- it has two points or more then
pub two_or_more : (keep : Bool) (ps : List Point) (es : List CountedEdge) → IsSimpleAsAdded keep ps es → 2 ≤ length ps
two_or_more keep ps es simple =
    let three = three_points ps simple.simple.points_once es simple.simple.none_cut.merged simple.simple.some_edge in
    omega (arith, three)

-- the contour is not simple
abbrev tests : Outcome → Bool
tests NotSimple = true
tests Empty = false
tests AsGiven = false
tests Reversed = false

other : (s t : Bool) → ¬ (true ≡ tests (cond s (cond t AsGiven Reversed) Empty))
other true true same = false≢true (sym same)
other true false same = false≢true (sym same)
other false t same = false≢true (sym same)

-- what becomes of it
pub has_outcome : (keep : Bool) (fill : FillRule) (output direction : ContourDirection) (ps : List Point)
    (es : List CountedEdge) → IsSimpleAsAdded keep ps es → RunsIn direction ps →
    IsOutcome keep fill output ps es (outcome_of fill output direction)
has_outcome keep fill output direction ps es simple runs = by (outcome_of fill output direction) refl
  where
    of : (o : Outcome) → o ≡ outcome_of fill output direction → HasOutcome keep fill output ps es o
    of o is = record { added = simple; direction = direction; runs = runs; is = is }

    by : (o : Outcome) → o ≡ outcome_of fill output direction → IsOutcome keep fill output ps es o
    by NotSimple is = absurd (other (fills_simple fill direction) (is_same_direction output direction) (ap tests is))
    by Empty is = of Empty is
    by AsGiven is = of AsGiven is
    by Reversed is = of Reversed is
