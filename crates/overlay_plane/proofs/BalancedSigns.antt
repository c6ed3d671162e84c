-- The signs of the edges across which a rule changes are balanced counts, and their windings are the rule's truth.
use Rattle.std.proofs.Common.{◌≡◌, Bool, true, cond, ℤ, pos, ◌-ℤ◌, ◌*ℤ◌, List, Contains, sym, ap, ◌∙◌, arith}
use Rattle.std.proofs.lemmas.Int.{ints}
use Rattle.std.proofs.lemmas.List.Elements.{All-contains}
use Rattle.overlay_geom.specs.Plane.{Step, edge_eq, edge_of, point_lt, midpoint, total}
use Rattle.overlay_geom.specs.Edges.{CountedEdge, ends_of, winding_below}
use Rattle.overlay_plane.specs.BesideOrbits.{count_on}
use Rattle.overlay_plane.specs.EdgeLists.{IsBalanced}
use Rattle.overlay_plane.specs.Nodes.{IsBalancedArrangement}
use Rattle.overlay_plane.specs.Regions.{holds_above, holds_below, one_if, selected_sign, IsRuled}
use Rattle.overlay_plane.specs.SelectedSteps.{selected_steps}
use Rattle.overlay_plane.specs.Turn.Hand.{left}
use Rattle.overlay_plane.proofs.BalancedSteps.{alternating_steps_are_balanced}
use Rattle.overlay_plane.proofs.RegionBelow.{region_from_selected_signs}
use Rattle.overlay_plane.proofs.SelectedAlternate.{selected_steps_alternate}
use Rattle.overlay_plane.proofs.SelectedLists.{selected_steps_of_edges, arranged_by_subject, arranged_by_clip}
use Rattle.overlay_plane.proofs.SelectedWindings.{along_edge, selected_total, selected_once}
use Rattle.overlay_plane.proofs.SingleEntries.{single_total}
use Rattle.overlay_plane.proofs.Totals.{total-same}

module _ (holds : ℤ → ℤ → Bool) (subj clip : CountedEdge → ℤ) (es : List CountedEdge)
    (ruled : IsRuled holds subj clip es) where
  -- the sign of an edge
  abbrev sign : CountedEdge → ℤ
  sign e = selected_sign holds subj clip es e

  -- the selected steps, with the rule on the left
  abbrev steps : List Step
  steps = selected_steps holds subj clip left es

  -- each walks along an edge of the list
  along : (s : Step) → Contains steps s → (e : CountedEdge) × Contains es e × (edge_of s ≡ ends_of e)
  along s c =
      let found = (selected_steps_of_edges holds subj clip left es).selected s c in (
        found.0,
        found.1.entry,
        ap edge_of found.1.walks
            ∙ along_edge (ends_of found.0)
            (All-contains (λ f. point_lt f.a f.b ≡ true) es found.0 ruled.planar.forward found.1.entry)
            (holds_above holds subj clip es found.0),
      )

  -- they count on an edge as its sign
  counts_sign : (e : CountedEdge) → Contains es e → count_on steps e ≡ sign e
  counts_sign e c = selected_total holds subj clip es ruled left (λ f. edge_eq f (ends_of e))
      ∙ once (total (λ f. cond (edge_eq (ends_of f) (ends_of e)) (sign f) (pos 0)) es)
      ∙ single_total es ruled.planar.distinct sign e c
    where
      once : (z : ℤ) → pos 1 *ℤ z ≡ z
      once z = omega (arith, ints)

  -- so the signs are balanced
  pub signs_are_balanced : IsBalanced ends_of sign es
  signs_are_balanced g =
      total-same (λ e. sign e *ℤ (g e.b -ℤ g e.a)) (λ e. count_on steps e *ℤ (g e.b -ℤ g e.a)) es
      (λ e c. ap (λ k. k *ℤ (g e.b -ℤ g e.a)) (sym (counts_sign e c)))
      ∙ (alternating_steps_are_balanced es steps
      (record { planar = ruled.planar; along = along })
      (selected_steps_alternate holds subj clip es (arranged_by_subject holds subj clip es ruled)
      (arranged_by_clip holds subj clip es ruled) left steps
      (selected_steps_of_edges holds subj clip left es))
      (selected_once holds subj clip es ruled left)).balanced g

  -- the list is an arrangement by them
  pub arranged_by_signs : IsBalancedArrangement sign es
  arranged_by_signs = record {
    planar = ruled.planar;
    balanced =
        signs_are_balanced;
  }

  -- below an edge their winding is the rule's truth there
  pub signs_below : (e : CountedEdge) → winding_below sign es e ≡ one_if (holds_below holds subj clip es e)
  signs_below e = region_from_selected_signs holds subj clip es ruled (midpoint (ends_of e))
