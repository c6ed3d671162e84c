-- Links of chains that share an inner point which is n times as far as a plain point are one edge.
use Rattle.std.proofs.Common.{◌≡◌, inl, inr, false, Contains, sym, subst}
use Rattle.std.proofs.lemmas.Bool.{cases_Bool}
use Rattle.overlay_geom.specs.Edges.{CountedEdge, ends_of}
use Rattle.overlay_geom.specs.Placed.{IsAlong}
use Rattle.overlay_geom.specs.Plane.{PlanePoint, Edge, IsOn, IsEnd, edge_eq}
use Rattle.overlay_geom.specs.Settled.{MeetInEnds}
use Rattle.overlay_geom.proofs.OneLine.{along_exchanged}
use Rattle.overlay_geom.proofs.Orders.{Decides-edge_eq, edge_eq-flip}
use Rattle.overlay_plane.specs.Meetings.{IsMeetingPoint}
use Rattle.overlay_plane.specs.Rounds.{Round}
use Rattle.overlay_plane.proofs.ChainStops.{IsLink, clear_edges_meet_in_ends}
use Rattle.overlay_plane.proofs.CommonPoints.{common_cases}
use Rattle.overlay_plane.proofs.LinesWithin.{on_holder}
use Rattle.overlay_plane.proofs.SettledPieces.{no_stop_inside}
use Rattle.overlay_plane.proofs.WholeCuts.{CutsWhole, stops, stop_held, goes_forward}
use Rattle.overlay_plane.proofs.WholeOnEdges.{by_test}

module _ (r : Round) (h : CutsWhole r) where
  -- a point of a link is on the edge
  pub on_of_link : (e : CountedEdge) → Contains r.edges e → (g : Edge) → IsLink (stops r e) g → (q : PlanePoint) →
      IsOn g q → IsOn (ends_of e) q
  on_of_link e c g link q on = on_holder (ends_of e) g q (goes_forward r h e c) link.forward
      (stop_held r h e g.a c link.from) (stop_held r h e g.b c link.to) on

  -- of one chain
  links_of_one : (e : CountedEdge) (g k : Edge) → IsLink (stops r e) g → IsLink (stops r e) k → ¬ (g ≡ k) →
      MeetInEnds g k
  links_of_one e g k link_g link_k = clear_edges_meet_in_ends g k link_g.forward link_k.forward
      (λ in_g. link_g.clear k.a link_k.from in_g.0 in_g.1) (λ in_g. link_g.clear k.b link_k.to in_g.0 in_g.1)
      (λ in_k. link_k.clear g.a link_g.from in_k.0 in_k.1) (λ in_k. link_k.clear g.b link_g.to in_k.0 in_k.1)

  -- of two chains along one line
  links_along : (e f : CountedEdge) (g k : Edge) → Contains r.edges e → Contains r.edges f →
      edge_eq (ends_of e) (ends_of f) ≡ false → IsAlong (ends_of e) (ends_of f) → IsLink (stops r e) g →
      IsLink (stops r f) k → ¬ (g ≡ k) → MeetInEnds g k
  links_along e f g k has_e has_f other along link_g link_k =
      let back = along_exchanged (ends_of e) (ends_of f) (goes_forward r h e has_e) along in
      let back_other = edge_eq-flip (ends_of e) (ends_of f) other in
      clear_edges_meet_in_ends g k link_g.forward link_k.forward
      (no_stop_inside r h e f g k.a has_e has_f other along link_g link_k.from)
      (no_stop_inside r h e f g k.b has_e has_f other along link_g link_k.to)
      (no_stop_inside r h f e k g.a has_f has_e back_other back link_k link_g.from)
      (no_stop_inside r h f e k g.b has_f has_e back_other back link_k link_g.to)

  -- no other edge meets e at q
  pub same_link : (e f : CountedEdge) (g k : Edge) (q : PlanePoint) → Contains r.edges e → Contains r.edges f →
      (edge_eq (ends_of e) (ends_of f) ≡ false → ¬ (IsMeetingPoint (ends_of e) (ends_of f) q)) →
      IsLink (stops r e) g → IsLink (stops r f) k → IsOn g q → IsOn k q → ¬ (IsEnd g q) → g ≡ k
  same_link e f g k q has_e has_f alone link_g link_k on_g on_k inside = by_test (edge_eq g k) (Decides-edge_eq g k)
      (λ same. same)
      (λ differ. absurd (inside (meet differ q (on_g, on_k)).0))
    where
      meet : ¬ (g ≡ k) → MeetInEnds g k
      meet differ = elim (cases_Bool (edge_eq (ends_of e) (ends_of f))) [
        | inl same ↦ links_of_one e g k link_g
            (subst (λ (x : CountedEdge). IsLink (stops r x) k) (sym (h.alone e f has_e has_f same)) link_k) differ
        | inr other ↦ elim (common_cases (ends_of e) (ends_of f) q (goes_forward r h f has_f)
            (on_of_link e has_e g link_g q on_g, on_of_link f has_f k link_k q on_k)) [
              | inl meeting ↦ absurd (alone other meeting)
              | inr along ↦ links_along e f g k has_e has_f other along.0 link_g link_k differ
            ]
      ]
