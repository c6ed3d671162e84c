-- A single step along its edge, added as it is given, and the store afterwards.
use Rattle.std.proofs.Common.{◌≡◌, true, false, cond, is_eq, is_lt, MatchBool, List, [], ◌∷◌, ◌++◌, map, refl, sym, ap}
use Rattle.std.proofs.Common.{subst}
use Rattle.std.proofs.Common.{◌∙◌}
use Rattle.std.specs.List.{All}
use Rattle.std.specs.Ordering.{is_le}
use Rattle.std.specs.declared.cmp.Ordering.{Ordering}
use Rattle.std.specs.declared.cmp.Ordering.TheVariants.{Less}
use Rattle.std.proofs.lemmas.List.Elements.{All-nil, All-cons}
use Rattle.overlay_geom.specs.Counts.{Counts}
use Rattle.overlay_geom.specs.Plane.{Point, Step, Edge, point_lt, is_forward, steps_between}
use Rattle.overlay_geom.specs.Resolved.{point_cmp}
use Rattle.overlay_geom.proofs.PointComparisons.{point_cmp-is_tie, point_cmp-is_less}
use Rattle.overlay_plane.specs.Carried.{Carried}
use Rattle.overlay_order.specs.Content.{edge_with}
use Rattle.overlay_order.specs.EdgeData.{IsReversedBy}
use Rattle.overlay_builder.specs.AddedSteps.{AddsStep, LeavesStore, edge_carrying}

module _ {C : Type 0} (counts : C → Counts) (reverses : C → C → Type 0) (given : C) (p q : Point)
    (less : point_cmp p q ≡ Less) where
  -- the step from p to q
  abbrev step : Step
  step = record { from = p; to = q }

  -- it is the only one, and runs along its edge
  one_step : steps_between p q ≡ step ∷ []
  one_step = ap (λ t. cond t [] (step ∷ [])) (sym (point_cmp-is_tie p q) ∙ ap is_eq less)

  runs_along : point_lt p q ≡ true
  runs_along = sym (point_cmp-is_less p q) ∙ ap is_lt less

  -- the edge between p and q, from either end
  abbrev edge_from : Edge → Carried C
  edge_from e = record { edge = edge_with e.a e.b (counts given); carries = given }

  -- an edge carries the given value, or its reverse
  abbrev Carries : Step → Type 0
  Carries s = MatchBool (is_forward s) (given ≡ given) (IsReversedBy counts reverses given given)

  pub adds_forward : (old new : List (Carried C)) → new ≡ old ++ edge_from (record { a = p; b = q }) ∷ [] →
      AddsStep counts reverses given p q old new
  adds_forward old new is = record {
    carried = given;
    is_carried = subst (All Carries) (sym one_step)
        (All-cons Carries step []
        (subst (λ t. MatchBool t (given ≡ given) (IsReversedBy counts reverses given given)) (sym runs_along) refl)
        (All-nil Carries));
    content = is
        ∙ ap (λ t. old ++ edge_from (cond t (record { a = p; b = q }) (record { a = q; b = p })) ∷ []) (sym runs_along)
        ∙ ap (λ ss. old ++ map (edge_carrying counts given) ss) (sym one_step);
  }

module _ {S : Type 0} (writes : S → S → Type 0) (p q : Point) (o : Ordering) (is : point_cmp p q ≡ o) (s : S) where
  -- the store stays where the first point is not the larger
  pub stays : is_le o ≡ true → LeavesStore writes p q s s
  stays up = subst (λ t. MatchBool t (s ≡ s) (writes s s)) (sym (ap is_le is ∙ up)) refl

  -- a call writes into the store if the step runs back
  pub is_written : is_le o ≡ false → (t : S) → writes s t → LeavesStore writes p q s t
  is_written down t step = subst (λ b. MatchBool b (t ≡ s) (writes s t)) (sym (ap is_le is ∙ down)) step
