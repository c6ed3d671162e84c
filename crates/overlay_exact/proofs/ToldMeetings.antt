-- The meeting points found of an edge are those in which another edge of the ascending list meets it.
use Rattle.std.proofs.Common.{◌≡◌, ◌≢◌, ⊎_elim, ℕ, ◌<◌, ◌≤◌, true, false, List, All, get_or, sym, ap₂, ◌∙◌, subst}
use Rattle.std.specs.List.{Any}
use Rattle.std.proofs.lemmas.Bool.{both_ways, cases_lt}
use Rattle.std.proofs.lemmas.List.{get_or_default}
use Rattle.std.proofs.Math.Nat.{eq-or-lt_of_le}
use Rattle.overlay_geom.specs.Edges.{CountedEdge, ends_of}
use Rattle.overlay_geom.specs.Plane.{PlanePoint, edge_eq, edge_lt}
use Rattle.overlay_geom.proofs.Orders.{edge_eq-itself, edge_eq-flip, edge_eq-from_lt}
use Rattle.overlay_plane.specs.Meetings.{MeetsAnother}
use Rattle.overlay_plane.proofs.Entries.{any_of_entry, Contains-from_any}
use Rattle.overlay_order.specs.Content.{IsAscending}
use Rattle.overlay_pairs.specs.Places.{IsAt}
use Rattle.overlay_pairs.proofs.Entries.{one_entry}
use Rattle.overlay_exact.specs.AllMet.{IsMetBefore, TellsOf, AreMetOf}
use Rattle.overlay_exact.specs.Along.{Met}
use Rattle.overlay_exact.specs.MetLaws.{AreAllTold}
use Rattle.overlay_exact.specs.Parts.{LiesAt}

module _ (es : List CountedEdge) (i : ℕ) (e : CountedEdge) (at : IsAt es i e) where
  -- an edge that differs stands at another place
  pub other_place : (j : ℕ) (f : CountedEdge) → IsAt es j f → edge_eq (ends_of e) (ends_of f) ≡ false → j ≢ i
  other_place j f at_f differ same =
      let is = one_entry es i f e (subst (λ k. IsAt es k f) same at_f) at in
      both_ways (edge_eq (ends_of e) (ends_of e)) (subst (λ g. edge_eq (ends_of e) (ends_of g) ≡ false) is differ)
      (edge_eq-itself (ends_of e))

  module _ (up : IsAscending es) where
    -- an edge at a later place comes later
    pub less_at : (j k : ℕ) (f g : CountedEdge) → j < k → IsAt es j f → IsAt es k g →
        edge_lt (ends_of f) (ends_of g) ≡ true
    less_at j k f g less at_f at_g =
        let first : get_or es j g ≡ f = get_or_default es j g f at_f.0 ∙ at_f.1 in
        sym (ap₂ (λ x y. edge_lt (ends_of x) (ends_of y)) first at_g.1) ∙ up j k g less at_g.0

    -- so edges at two places differ
    pub differ_at : (j : ℕ) (f : CountedEdge) → IsAt es j f → j ≢ i → edge_eq (ends_of e) (ends_of f) ≡ false
    differ_at j f at_f apart = ⊎_elim
        (λ (before : j < i). edge_eq-flip (ends_of f) (ends_of e)
        (edge_eq-from_lt (ends_of f) (ends_of e) (less_at j i f e before at_f at)))
        (λ (le : i ≤ j). ⊎_elim (λ (same : i ≡ j). absurd (apart (sym same)))
        (λ (behind : i < j). edge_eq-from_lt (ends_of e) (ends_of f) (less_at i j e f behind at at_f))
        (eq-or-lt_of_le le))
        (cases_lt j i)

    module _ (ms : List Met) (of : AreMetOf es i e ms) where
      -- each point in which another edge meets it is told
      each_told : (p : PlanePoint) → MeetsAnother es e p → Any (λ m. LiesAt (ends_of e) m.part p) ms
      each_told p (f, (j, within, is), differ, meeting) =
          let found = Contains-from_any (TellsOf e j p) ms
          (of.all.every j f p within (other_place j f (within, is) differ) (within, is) meeting) in
          let told : TellsOf e j p found.0 = found.2 in
          any_of_entry (λ m. LiesAt (ends_of e) m.part p) ms found.0 found.1 told.1

      -- and in each that is told another edge meets it
      each_met : All (λ m. (p : PlanePoint) × LiesAt (ends_of e) m.part p × MeetsAnother es e p) ms
      each_met k d within =
          let met : IsMetBefore es _ i e (get_or ms k d) = of.all.each k d within in (
            met.met.point,
            met.met.place,
            (
              met.edge,
              ((get_or ms k d).other, met.at.0, met.at.1),
              differ_at (get_or ms k d).other met.edge met.at met.other,
              met.met.meets,
            ),
          )

      pub all_told : AreAllTold es e ms
      all_told = record { told = each_told; met = each_met }
