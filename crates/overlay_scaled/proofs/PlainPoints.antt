-- Plain points of a merged list are the inner points of the pieces of its exact arrangement.
use Rattle.std.proofs.Common.{◌≡◌, inl, inr, ⊎_elim, false, ℤ, List, []}
use Rattle.std.proofs.Common.{◌∷◌, ◌++◌, Contains}
use Rattle.std.proofs.Common.{sym, ◌∙◌, subst}
use Rattle.std.proofs.lemmas.Bool.{cases_Bool}
use Rattle.std.proofs.lemmas.List.Elements.{Contains-append_right}
use Rattle.overlay_geom.specs.Edges.{CountedEdge, ends_of}
use Rattle.overlay_geom.specs.Merged.{IsMerged}
use Rattle.overlay_geom.specs.Plane.{Point, PlanePoint, Edge, SamePlace, IsOn, IsAt, IsEnd, edge_eq}
use Rattle.overlay_plane.specs.EdgeLists.{IsForwardBy}
use Rattle.overlay_plane.specs.Meetings.{IsMeetingPoint, MeetsAnother}
use Rattle.overlay_plane.specs.Rounds.{Round, whole_cuts}
use Rattle.overlay_plane.proofs.Entries.{Contains-map, Contains-from_map}
use Rattle.overlay_plane.proofs.ChainStops.{IsLink}
use Rattle.overlay_plane.proofs.SettledPieces.{shared_stop, link_end}
use Rattle.overlay_plane.proofs.Totals.{Contains-head, Contains-later}
use Rattle.overlay_plane.proofs.WholeCuts.{CutsWhole, stops, stop_cases, goes_forward, whole_cut_meets, meeting_whole}
use Rattle.overlay_plane.proofs.WholeCuts.{meeting_cut, stop_at_cut}
use Rattle.overlay_plane.proofs.WholeOnEdges.{held_of_on, same_place_at}
use Rattle.overlay_scaled.specs.ExactArrangements.{IsExactArrangement}
use Rattle.overlay_scaled.specs.PlainPoints.{IsPlain}
use Rattle.overlay_scaled.specs.Scaled.{scaled_edge, scaled, IsTimes}
use Rattle.overlay_scaled.proofs.ExactArrangements.{whole_cut}
use Rattle.overlay_scaled.proofs.ScaledMeetings.{end_forth, end_back, meeting_forth, meeting_back, times_at_place}
use Rattle.overlay_scaled.proofs.ScaledMerged.{same_edge_eq, cuts_scaled}
use Rattle.overlay_scaled.proofs.ScaledPoints.{lies_alike}
use Rattle.overlay_scaled.proofs.ThroughRounds.{StopsNowhereAt}

module _ (n : ℤ) (content es new : List CountedEdge) (merged : IsMerged content es) (forward : IsForwardBy ends_of es)
    (arranged : IsExactArrangement n es new) where
  abbrev r : Round
  r = arranged.round

  h : CutsWhole r
  h = whole_cut n es new forward arranged

  are_scaled : r.edges ≡ scaled n es
  are_scaled = cuts_scaled n arranged.scale content es merged new arranged

  pub has_scaled : (e : CountedEdge) → Contains es e → Contains r.edges (scaled_edge n e)
  has_scaled e c = subst (λ fs. Contains fs (scaled_edge n e)) (sym are_scaled) (Contains-map (scaled_edge n) es e c)

  pub from_scaled : (f : CountedEdge) → Contains r.edges f → (e : CountedEdge) × Contains es e × (scaled_edge n e ≡ f)
  from_scaled f c = Contains-from_map (scaled_edge n) es f (subst (λ fs. Contains fs f) are_scaled c)

  -- no chain stops n times as far as a plain point
  module _ (e : CountedEdge) (p q : PlanePoint) (at : IsTimes n p q) (plain : IsPlain es e p) where
    abbrev large : CountedEdge
    large = scaled_edge n e

    on : IsOn (ends_of large) q
    on = ((lies_alike n arranged.scale p q at).on e).0 plain.on

    no_end : ¬ (IsEnd (ends_of large) q)
    no_end end = plain.no_end (end_back n arranged.scale p q at e end)

    pub no_meeting : (f : CountedEdge) → Contains r.edges f → edge_eq (ends_of large) (ends_of f) ≡ false →
        (s : PlanePoint) → SamePlace q s → IsMeetingPoint (ends_of large) (ends_of f) s → ⊥
    no_meeting f c other s same meeting =
        let from = from_scaled f c in
        plain.alone (
          from.0,
          from.1,
          sym (same_edge_eq n arranged.scale e from.0)
              ∙ subst (λ (g : CountedEdge). edge_eq (ends_of large) (ends_of g) ≡ false) (sym from.2) other,
          meeting_back n arranged.scale p s (times_at_place n arranged.scale p q s at same) e from.0
              (subst (λ (g : CountedEdge). IsMeetingPoint (ends_of large) (ends_of g) s) (sym from.2) meeting),
        )

    no_own_stop : (v : Point) → Contains (stops r large) v → ¬ (IsAt v q)
    no_own_stop v has at_q = stop_cases r h large v has
        (λ is. no_end (inl (subst (λ w. IsAt w q) (sym is) at_q)))
        (λ is. no_end (inr (subst (λ w. IsAt w q) (sym is) at_q)))
        (λ cut. let meets = whole_cut_meets r h large v (has_scaled e plain.entry) cut in
        no_meeting meets.1.0 meets.1.1 meets.1.2 meets.0 (same_place_at v q meets.0 at_q meets.2) meets.1.3)

    pub stops_nowhere : StopsNowhereAt r q
    stops_nowhere f c v has at_q = elim (cases_Bool (edge_eq (ends_of large) (ends_of f))) [
      | inl same ↦ no_own_stop v (subst (λ (g : CountedEdge). Contains (stops r g) v)
          (sym (h.alone large f (has_scaled e plain.entry) c same)) has) at_q
      | inr other ↦ no_own_stop v (shared_stop r h large f v (has_scaled e plain.entry) c other has
          (held_of_on (ends_of large) v q (goes_forward r h large (has_scaled e plain.entry)) at_q on)) at_q
    ]

  -- an inner point of a link of a scaled edge's chain is n times as far as a plain point
  module _ (e : CountedEdge) (p q : PlanePoint) (at : IsTimes n p q) (c : Contains es e) (g : Edge)
      (link : IsLink (stops r (scaled_edge n e)) g) (on_large : IsOn (ends_of (scaled_edge n e)) q) (on_g : IsOn g q)
      (inside : ¬ (IsEnd g q)) where
    abbrev whole : CountedEdge
    whole = scaled_edge n e

    no_stop : (v : Point) → Contains (stops r whole) v → ¬ (IsAt v q)
    no_stop v has at_q = inside (link_end (stops r whole) g v q link has at_q on_g)

    not_at_end : ¬ (IsEnd (ends_of e) p)
    not_at_end end = ⊎_elim
        (no_stop whole.a (Contains-head whole.a (whole_cuts r whole ++ whole.b ∷ [])))
        (no_stop whole.b (Contains-later whole.a (whole_cuts r whole ++ whole.b ∷ []) whole.b
        (Contains-append_right (whole_cuts r whole) (whole.b ∷ []) whole.b (Contains-head whole.b []))))
        (end_forth n arranged.scale p q at e end)

    not_met : ¬ (MeetsAnother es e p)
    not_met (f, c_f, other, meeting) =
        let meets : MeetsAnother r.edges whole q = (
          scaled_edge n f,
          has_scaled f c_f,
          same_edge_eq n arranged.scale e f ∙ other,
          meeting_forth n arranged.scale p q at e f meeting,
        ) in
        let at_q = meeting_whole r h whole q (has_scaled e c) meets in
        no_stop (r.whole_at q) (stop_at_cut r h whole (r.whole_at q)
        (meeting_cut r h whole q (r.whole_at q) (has_scaled e c) meets at_q)) at_q

    pub plain_of_link : IsPlain es e p
    plain_of_link = record {
      entry = c;
      on = ((lies_alike n arranged.scale p q at).on e).1 on_large;
      no_end = not_at_end;
      alone = not_met;
    }
