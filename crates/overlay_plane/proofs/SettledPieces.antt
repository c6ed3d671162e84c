-- One cutting round settles edges that meet in whole points alone: the pieces along the chains meet in ends alone.
use Rattle.std.proofs.Common.{◌≡◌, inl, inr, false, List, [], ◌∷◌, ◌++◌, Contains, sym, subst}
use Rattle.std.proofs.lemmas.Bool.{cases_Bool}
use Rattle.std.proofs.lemmas.Bool.Decides.{not_from_Decides}
use Rattle.overlay_geom.specs.Plane.{Point, PlanePoint, Edge, IsAt, IsOn, IsEnd, edge_eq, in_plane}
use Rattle.overlay_geom.specs.Edges.{CountedEdge, ends_of}
use Rattle.overlay_geom.specs.Merged.{IsMerged}
use Rattle.overlay_geom.specs.Placed.{IsAlong}
use Rattle.overlay_geom.specs.Settled.{IsSettled, MeetInEnds}
use Rattle.overlay_geom.proofs.OneLine.{along_exchanged, IsHeldBy}
use Rattle.overlay_geom.proofs.Orders.{Decides-edge_eq, edge_eq-same, edge_eq-flip}
use Rattle.overlay_geom.proofs.PointOrder.{IsBefore, by_order, before_up_to, up_to_through, up_to_both}
use Rattle.overlay_plane.specs.Cutting.{piece_along, pieces_through}
use Rattle.overlay_plane.specs.Meetings.{IsMeetingPoint, MeetsAnother}
use Rattle.overlay_plane.specs.Rounds.{Round, pieces_of, chain_of, whole_cuts}
use Rattle.overlay_plane.proofs.Entries.{Contains-from_map, Contains-from_flat_map}
use Rattle.overlay_plane.proofs.ChainStops.{IsLink, links_of_chain, clear_edges_meet_in_ends}
use Rattle.overlay_plane.proofs.CommonPoints.{common_cases, end_is_meeting}
use Rattle.overlay_plane.proofs.LinesWithin.{whole_on_line_of, along_through, on_holder, only_common_is_end}
use Rattle.overlay_plane.proofs.WholeCuts.{CutsWhole, ends_of_merged, goes_forward, meeting_whole, whole_cut_meets}
use Rattle.overlay_plane.proofs.WholeCuts.{meeting_cut}
use Rattle.overlay_plane.proofs.WholeCuts.{stops, stop_cases, stop_at_cut, stop_held, stops_rise}
use Rattle.overlay_plane.proofs.WholeOnEdges.{at_itself, on_of_held, held_of_on}

-- a meeting point is one whichever edge is named first
pub meeting_exchanged : (e f : Edge) (p : PlanePoint) → IsMeetingPoint e f p → IsMeetingPoint f e p
meeting_exchanged e f p meeting = record {
  common = (meeting.common.1, meeting.common.0);
  only_or_end = elim meeting.only_or_end [
    | inl only ↦ inl (λ q also. only q (also.1, also.0))
    | inr end ↦ inr (elim end [
      | inl of_e ↦ inr of_e
      | inr of_f ↦ inl of_f
    ])
  ];
}

-- where one of its points is at a point of a link, that is an end of the link
pub link_end : (vs : List Point) (g : Edge) (v : Point) (p : PlanePoint) → IsLink vs g → Contains vs v → IsAt v p →
    IsOn g p → IsEnd g p
link_end vs g v p link has at on = by_order v g.a
    (λ low. inl (subst (λ w. IsAt w p) (up_to_both v g.a low held.from) at))
    (λ more. by_order g.b v
    (λ high. inr (subst (λ w. IsAt w p) (up_to_both v g.b held.to high) at))
    (λ less. absurd (link.clear v has more less)))
  where
    held : IsHeldBy g v
    held = held_of_on g v p link.forward at on

module _ (r : Round) (h : CutsWhole r) where
  -- a cut of an edge that lies on another edge is a cut of that edge
  pub shared_cut : (e f : CountedEdge) (v : Point) → Contains r.edges e → Contains r.edges f →
      edge_eq (ends_of e) (ends_of f) ≡ false →
      Contains (whole_cuts r f) v → IsHeldBy (ends_of e) v → Contains (whole_cuts r e) v
  shared_cut e f v has_e has_f other has_v held = by (whole_cut_meets r h f v has_f has_v)
    where
      by : (p : PlanePoint) × MeetsAnother r.edges f p × IsAt v p → Contains (whole_cuts r e) v
      by (p, (k, has_k, differs, meeting), at) =
          elim (cases_Bool (edge_eq (ends_of e) (ends_of k))) [
            | inl same ↦ with_f (meeting_exchanged (ends_of f) (ends_of e) p
                (subst (λ g. IsMeetingPoint (ends_of f) g p) (sym (edge_eq-same (ends_of e) (ends_of k) same)) meeting))
            | inr apart ↦ elim (common_cases (ends_of e) (ends_of k) p (goes_forward r h k has_k)
                (on_e, meeting.common.1)) [
                  | inl at_k ↦ meeting_cut r h e p v has_e (k, has_k, apart, at_k) at
                  | inr inner_k ↦ elim (common_cases (ends_of e) (ends_of f) p (goes_forward r h f has_f)
                      (on_e, meeting.common.0)) [
                        | inl at_f ↦ with_f at_f
                        | inr inner_f ↦ absurd (overlap inner_k inner_f)
                      ]
                ]
          ]
        where
          on_e : IsOn (ends_of e) p
          on_e = on_of_held (ends_of e) v p (goes_forward r h e has_e) at held

          with_f : IsMeetingPoint (ends_of e) (ends_of f) p → Contains (whole_cuts r e) v
          with_f at_f = meeting_cut r h e p v has_e (f, has_f, other, at_f) at

          overlap : IsAlong (ends_of e) (ends_of k) × ¬ (IsEnd (ends_of e) p) × ¬ (IsEnd (ends_of k) p) →
              IsAlong (ends_of e) (ends_of f) × ¬ (IsEnd (ends_of e) p) × ¬ (IsEnd (ends_of f) p) → ⊥
          overlap (k_along, no_end, no_end_k) (f_along, none, no_end_f) =
              elim meeting.only_or_end [
                | inl only ↦ only_common_is_end (ends_of f) (ends_of k) p (goes_forward r h f has_f)
                    (goes_forward r h k has_k)
                    (along_through (ends_of e) (ends_of k) (ends_of f) (goes_forward r h e has_e) k_along f_along)
                    meeting.common only no_end_f no_end_k
                | inr end ↦ elim end [
                  | inl of_f ↦ no_end_f of_f
                  | inr of_k ↦ no_end_k of_k
                ]
              ]

  -- a stop of an edge that lies on another edge is a stop of that edge
  pub shared_stop : (e f : CountedEdge) (v : Point) → Contains r.edges e → Contains r.edges f →
      edge_eq (ends_of e) (ends_of f) ≡ false →
      Contains (stops r f) v → IsHeldBy (ends_of e) v → Contains (stops r e) v
  shared_stop e f v has_e has_f other has_v held =
      stop_at_cut r h e v (stop_cases r h f v has_v
      (λ is. at_end (inl (subst (λ w. IsAt w (in_plane v)) (sym is) (at_itself v))))
      (λ is. at_end (inr (subst (λ w. IsAt w (in_plane v)) (sym is) (at_itself v))))
      (λ cut. shared_cut e f v has_e has_f other cut held))
    where
      at_end : IsEnd (ends_of f) (in_plane v) → Contains (whole_cuts r e) v
      at_end end =
          let on_e = on_of_held (ends_of e) v (in_plane v) (goes_forward r h e has_e) (at_itself v) held in
          let on_f = on_of_held (ends_of f) v (in_plane v) (goes_forward r h f has_f) (at_itself v)
          (stop_held r h f v has_f has_v) in
          meeting_cut r h e (in_plane v) v has_e (
            f,
            has_f,
            other,
            end_is_meeting (ends_of e) (ends_of f) (in_plane v) (on_e, on_f) (inr end),
          ) (at_itself v)

  -- no stop of an edge along another edge lies inside a link of that edge
  pub no_stop_inside : (e f : CountedEdge) (g : Edge) (v : Point) → Contains r.edges e → Contains r.edges f →
      edge_eq (ends_of e) (ends_of f) ≡ false →
      IsAlong (ends_of e) (ends_of f) → IsLink (stops r e) g → Contains (stops r f) v →
      ¬ (IsBefore g.a v × IsBefore v g.b)
  no_stop_inside e f g v has_e has_f other along link has_v (more, less) = link.clear v
      (shared_stop e f v has_e has_f other has_v held) more less
    where
      held : IsHeldBy (ends_of e) v
      held = record {
        on_line = whole_on_line_of (ends_of e) (ends_of f) v (goes_forward r h f has_f) along
            (stop_held r h f v has_f has_v).on_line;
        from = up_to_through e.a g.a v (stop_held r h e g.a has_e link.from).from (before_up_to g.a v more);
        to = up_to_through v g.b e.b (before_up_to v g.b less) (stop_held r h e g.b has_e link.to).to;
      }

  -- different links of one chain meet in ends alone
  links_of_one : (e : CountedEdge) (g k : Edge) → IsLink (stops r e) g → IsLink (stops r e) k → ¬ (g ≡ k) →
      MeetInEnds g k
  links_of_one e g k link_g link_k = clear_edges_meet_in_ends g k link_g.forward link_k.forward
      (λ in_g. link_g.clear k.a link_k.from in_g.0 in_g.1) (λ in_g. link_g.clear k.b link_k.to in_g.0 in_g.1)
      (λ in_k. link_k.clear g.a link_g.from in_k.0 in_k.1) (λ in_k. link_k.clear g.b link_g.to in_k.0 in_k.1)

  -- different links of the chains of two edges meet in ends alone
  links_of_two : (e f : CountedEdge) (g k : Edge) → Contains r.edges e → Contains r.edges f →
      edge_eq (ends_of e) (ends_of f) ≡ false →
      IsLink (stops r e) g → IsLink (stops r f) k → ¬ (g ≡ k) → MeetInEnds g k
  links_of_two e f g k has_e has_f other link_g link_k differ p (on_g, on_k) =
      elim (common_cases (ends_of e) (ends_of f) p (goes_forward r h f has_f) (on_e, on_f)) [
        | inl meeting ↦ (
          in_meeting e f g has_e has_f other meeting link_g on_g,
          in_meeting f e k has_f has_e (edge_eq-flip (ends_of e) (ends_of f) other)
              (meeting_exchanged (ends_of e) (ends_of f) p meeting) link_k on_k,
        )
        | inr inner ↦ in_overlap inner.0
      ]
    where
      on_e : IsOn (ends_of e) p
      on_e = on_holder (ends_of e) g p (goes_forward r h e has_e) link_g.forward (stop_held r h e g.a has_e link_g.from)
          (stop_held r h e g.b has_e link_g.to) on_g

      on_f : IsOn (ends_of f) p
      on_f = on_holder (ends_of f) k p (goes_forward r h f has_f) link_k.forward (stop_held r h f k.a has_f link_k.from)
          (stop_held r h f k.b has_f link_k.to) on_k

      -- a meeting point is a stop
      in_meeting : (e f : CountedEdge) (g : Edge) → Contains r.edges e → Contains r.edges f →
          edge_eq (ends_of e) (ends_of f) ≡ false →
          IsMeetingPoint (ends_of e) (ends_of f) p → IsLink (stops r e) g → IsOn g p → IsEnd g p
      in_meeting e f g has_e has_f other meeting link on =
          let at : IsAt (r.whole_at p) p = meeting_whole r h e p has_e (f, has_f, other, meeting) in
          let cut : Contains (whole_cuts r e) (r.whole_at p) = meeting_cut r h e p (r.whole_at p) has_e
          (f, has_f, other, meeting) at in
          link_end (stops r e) g (r.whole_at p) p link (stop_at_cut r h e (r.whole_at p) cut) at on

      in_overlap : IsAlong (ends_of e) (ends_of f) → IsEnd g p × IsEnd k p
      in_overlap along =
          let back = along_exchanged (ends_of e) (ends_of f) (goes_forward r h e has_e) along in
          let back_other = edge_eq-flip (ends_of e) (ends_of f) other in
          clear_edges_meet_in_ends g k link_g.forward link_k.forward
          (no_stop_inside e f g k.a has_e has_f other along link_g link_k.from)
          (no_stop_inside e f g k.b has_e has_f other along link_g link_k.to)
          (no_stop_inside f e k g.a has_f has_e back_other back link_k link_g.from)
          (no_stop_inside f e k g.b has_f has_e back_other back link_k link_g.to)
          differ p (on_g, on_k)

  -- any two different links meet in ends alone
  links_meet_in_ends : (e f : CountedEdge) (g k : Edge) → Contains r.edges e → Contains r.edges f →
      IsLink (stops r e) g → IsLink (stops r f) k →
      ¬ (g ≡ k) → MeetInEnds g k
  links_meet_in_ends e f g k has_e has_f link_g link_k differ =
      elim (cases_Bool (edge_eq (ends_of e) (ends_of f))) [
        | inl same ↦ links_of_one e g k link_g
            (subst (λ (x : CountedEdge). IsLink (stops r x) k) (sym (h.alone e f has_e has_f same)) link_k) differ
        | inr other ↦ links_of_two e f g k has_e has_f other link_g link_k differ
      ]

  -- each piece lies along a link of some edge's chain
  piece_link : (g : CountedEdge) → Contains (pieces_of r) g →
      (e : CountedEdge) × Contains r.edges e × IsLink (stops r e) (ends_of g)
  piece_link g has =
      let of_edge = Contains-from_flat_map (pieces_through (whole_cuts r)) r.edges g has in
      let e : CountedEdge = of_edge.0 in
      let of_step = Contains-from_map (piece_along e) (chain_of r e) g of_edge.2 in (
        e,
        of_edge.1,
        subst (λ (x : CountedEdge). IsLink (stops r e) (ends_of x)) of_step.2
            (links_of_chain e.a (whole_cuts r e ++ e.b ∷ []) (stops_rise r h e of_edge.1) of_step.0 of_step.1),
      )

  -- the pieces, merged, are settled
  pub pieces_settled : (new : List CountedEdge) → IsMerged (pieces_of r) new → IsSettled new
  pieces_settled new merged g k has_g has_k other =
      let from_g = ends_of_merged (pieces_of r) new merged g has_g in
      let from_k = ends_of_merged (pieces_of r) new merged k has_k in
      let of_g = piece_link from_g.0 from_g.1 in
      let of_k = piece_link from_k.0 from_k.1 in
      links_meet_in_ends of_g.0 of_k.0 (ends_of g) (ends_of k) of_g.1 of_k.1
      (subst (IsLink (stops r of_g.0)) from_g.2 of_g.2) (subst (IsLink (stops r of_k.0)) from_k.2 of_k.2)
      (not_from_Decides (edge_eq (ends_of g) (ends_of k)) (Decides-edge_eq (ends_of g) (ends_of k)) other)
