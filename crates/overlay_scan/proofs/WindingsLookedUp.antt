-- If live edges carry the windings above them, the look-up below the start of an edge gives the winding below that
-- edge.
use Rattle.std.proofs.Common.{◌≡◌, ⊎_elim, inl, inr, true, ℤ, pos, List, Contains, Option, None, Some}
use Rattle.std.proofs.Common.{refl, sym, ap, ◌∙◌, subst}
use Rattle.std.specs.List.{filter}
use Rattle.std.proofs.lemmas.Bool.{false_from_ne_true}
use Rattle.overlay_geom.specs.Plane.{Edge, edge_eq}
use Rattle.overlay_geom.specs.Edges.{CountedEdge, ends_of, winding_below, winding_above}
use Rattle.overlay_geom.proofs.Orders.{edge_eq-itself}
use Rattle.overlay_plane.specs.Anchors.{is_below_anchor}
use Rattle.overlay_plane.specs.Heights.{is_under}
use Rattle.overlay_plane.specs.Nodes.{IsBalancedArrangement}
use Rattle.overlay_plane.proofs.Entries.{Contains-filter}
use Rattle.overlay_plane.proofs.SingleEntries.{one_entry}
use Rattle.overlay_scan.specs.Laws.{IsGreatestBelow}
use Rattle.overlay_scan.specs.Scan.{Entry, IsFromBottomToTop, entry_below, value_or, value_below}
use Rattle.overlay_scan.specs.Sweeps.{entry_of}
use Rattle.overlay_scan.proofs.LastEntries.{no_last, look_up_gives_the_greatest}
use Rattle.overlay_scan.proofs.WindingsBelow.{winding_with_none_below, winding_above_the_greatest}

-- the live entries are those of edges of the list, and among them are all that are below the start of e
pub record AreLiveEdges {V : Type 0} (value : CountedEdge → V) (es : List CountedEdge) (e : CountedEdge)
    (live : List (Entry V)) : Type 0 where
  pub order : IsFromBottomToTop e.a.x live
  pub from : (f : Entry V) → Contains live f → (g : CountedEdge) × Contains es g × (entry_of value g ≡ f)
  pub all : (g : CountedEdge) → Contains es g → is_below_anchor (ends_of e) (ends_of g) ≡ true →
      Contains live (entry_of value g)

module _ {V : Type 0} (number : V → ℤ) (value : CountedEdge → V) (count : CountedEdge → ℤ) (es : List CountedEdge)
    (r : IsBalancedArrangement count es)
    (values : (g : CountedEdge) → number (value g) ≡ winding_above count es g) (e : CountedEdge) (at_e : Contains es e)
    (live : List (Entry V))
    (are : AreLiveEdges value es e live) (default : V) (zero : number default ≡ pos 0) where
  found_by : (o : Option (Entry V)) → entry_below (ends_of e) live ≡ o →
      number (value_or default o) ≡ winding_below count es e
  found_by None nothing = zero ∙ sym
      (winding_with_none_below count es r e at_e (λ g at. false_from_ne_true (is_below_anchor (ends_of e) (ends_of g))
      (λ below. no_last (filter (λ h. is_below_anchor (ends_of e) h.edge) live) (entry_of value g)
      (Contains-filter (λ h. is_below_anchor (ends_of e) h.edge) live (entry_of value g) (are.all g at below) below)
      nothing)))
  found_by (Some f) found =
      let great : IsGreatestBelow (ends_of e) e.a.x live f = look_up_gives_the_greatest V live
      (ends_of e) e.a.x are.order f found in
      let own = are.from f great.entry in
      let g = own.0 in
      ap (λ (h : Entry V). number h.value) (sym own.2) ∙ values g
      ∙ sym (winding_above_the_greatest count es r e at_e g (record {
        entry = own.1;
        is = subst (λ (h : Entry V). is_below_anchor (ends_of e) h.edge ≡ true) (sym own.2) great.below;
        greatest = λ h at below. ⊎_elim
            (λ same. inl (one_entry es r.planar.distinct h g at own.1
            (subst (λ (k : Edge). edge_eq (ends_of h) k ≡ true) (ap (λ (k : Entry V). k.edge) (same ∙ sym own.2))
            (edge_eq-itself (ends_of h)))))
            (λ under. inr (subst (λ (k : Entry V). is_under (ends_of h) k.edge e.a.x (pos 1) ≡ true) (sym own.2) under))
            (great.greatest (entry_of value h) (are.all h at below) below);
      }))

  -- the value that the look-up gives has the winding below
  pub winding_looked_up : number (value_below default (ends_of e) live) ≡ winding_below count es e
  winding_looked_up = found_by (entry_below (ends_of e) live) refl
