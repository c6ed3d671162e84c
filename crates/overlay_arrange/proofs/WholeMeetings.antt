-- Edges meet in whole points alone, or overlap, exactly where the whole points through which they lead each other lie
-- on their lines: where two lines cross, a whole point on both is the crossing itself. After such a round the pieces,
-- merged, are settled.
use Rattle.std.proofs.Common.{◌≡◌, ◌⊎◌, inl, inr, true, pos, List, [], ◌∷◌, All, Contains}
use Rattle.std.proofs.Common.{sym, ap, ◌∙◌, subst, arith}
use Rattle.std.specs.Prelude.{◌↔◌}
use Rattle.std.specs.List.{flat_map}
use Rattle.std.proofs.lemmas.List.Elements.{All-contains, All-nil, All-cons, All-filter}
use Rattle.overlay_geom.specs.Edges.{CountedEdge, ends_of}
use Rattle.overlay_geom.specs.Merged.{IsMerged}
use Rattle.overlay_geom.specs.Placed.{IsAlong, IsBeside}
use Rattle.overlay_geom.specs.Plane.{Point, PlanePoint, Edge, IsAt, IsEnd, SamePlace, cross_at, edge_eq, in_plane}
use Rattle.overlay_geom.specs.Plane.{point_lt}
use Rattle.overlay_geom.specs.Rounding.{nearest_point}
use Rattle.overlay_geom.specs.Settled.{IsCommon, IsSettled}
use Rattle.overlay_geom.proofs.PointOrder.{IsBefore}
use Rattle.overlay_geom.proofs.Rounded.{nearest_point-rounding}
use Rattle.overlay_geom.proofs.Signs.{mul-zero}
use Rattle.overlay_plane.specs.CutPoints.{comes_first, crossing, cut_points, cut_edges, is_between, met_at}
use Rattle.overlay_plane.specs.EdgeLists.{IsForwardBy}
use Rattle.overlay_plane.specs.Meetings.{MeetInWholePoints}
use Rattle.overlay_plane.specs.Rounds.{Round}
use Rattle.overlay_plane.proofs.CommonPoints.{along_of_parallel, common_is_meeting, one_on_both}
use Rattle.overlay_plane.proofs.CrossingPoints.{IsPartWay, part_way_across, crossing_point, crossing_is_common}
use Rattle.overlay_plane.proofs.CuttingRounds.{CutsThrough, cutting_through}
use Rattle.overlay_plane.proofs.Entries.{all_of_entries, Contains-flat_map, Contains-from_flat_map}
use Rattle.overlay_plane.proofs.InOrderLists.{Contains-in_order, Contains-put_in_order}
use Rattle.overlay_plane.proofs.LinesWithin.{only_common_is_end}
use Rattle.overlay_plane.proofs.Placements.{AreCrossing, by_placement, both_across, beside_have_no_common, ends_between}
use Rattle.overlay_plane.proofs.Placements.{not_along_back}
use Rattle.overlay_plane.proofs.Placements.{met_along, met_beside, met_across}
use Rattle.overlay_plane.proofs.SettledPieces.{pieces_settled}
use Rattle.overlay_plane.proofs.SharedCrossings.{crossing_alike}
use Rattle.overlay_plane.proofs.Totals.{Contains-head}
use Rattle.overlay_plane.proofs.WholeCuts.{CutsWhole, same_merged}
use Rattle.overlay_plane.proofs.WholeOnEdges.{at_itself, by_end, forward_from_test, held_of_on, side_at}
use Rattle.overlay_plane.proofs.WholePlaces.{at_moved, rounded_whole}
use Rattle.overlay_arrange.specs.Cut.{IsOnLineOf, AreLedAlongLines}
use Rattle.overlay_arrange.proofs.PairMeetings.{only_entry}

-- ---- from the points to the meetings

-- an end of an edge is a whole point
whole_end : (e : Edge) (p : PlanePoint) → IsEnd e p → (v : Point) × IsAt v p
whole_end e p (inl at) = (e.a, at)
whole_end e p (inr at) = (e.b, at)

-- a whole point on the lines of two edges across each other is the point that they have in common
whole_crossing : (e f : Edge) (v : Point) (p : PlanePoint) → IsBefore f.a f.b → ¬ (IsAlong e f) →
    cross_at e.a e.b v ≡ pos 0 → cross_at f.a f.b v ≡ pos 0 → IsCommon e f p → IsAt v p
whole_crossing e f v p forward apart on_e on_f (e_p, f_p) =
    at_moved v (in_plane v) p (one_on_both e f p (in_plane v)
    (λ none. apart (along_of_parallel e f p forward none e_p.on_line f_p.on_line)) e_p.on_line f_p.on_line
    (side_at e v (in_plane v) (at_itself v) ∙ mul-zero (pos 1) (cross_at e.a e.b v) on_e)
    (side_at f v (in_plane v) (at_itself v) ∙ mul-zero (pos 1) (cross_at f.a f.b v) on_f)) (at_itself v)

module _ (es : List CountedEdge) (forward : IsForwardBy ends_of es) where
  -- each edge leads forward
  leads : (e : CountedEdge) → Contains es e → IsBefore e.a e.b
  leads e at = forward_from_test (ends_of e) (All-contains (λ x. point_lt x.a x.b ≡ true) es e forward at)

  -- a point through which an edge of the list leads e is one of its computed points
  computed : (e f : CountedEdge) (v : Point) → Contains es f → Contains (met_at (ends_of e) (ends_of f)) v →
      Contains (cut_points es e) v
  computed e f v at_f met =
      Contains-put_in_order (comes_first (ends_of e)) (flat_map (λ g. met_at (ends_of e) (ends_of g)) es) v
      (Contains-flat_map (λ g. met_at (ends_of e) (ends_of g)) es f v at_f met)

  -- where the computed points lie on the edges' lines, the edges meet in whole points alone, or overlap
  whole_where_on_lines : All (AreLedAlongLines es) es → MeetInWholePoints es
  whole_where_on_lines led e f p at_e at_f meeting = by_placement (ends_of e) (ends_of f) along beside across
    where
      on_line : (g h : CountedEdge) (v : Point) → Contains es g → Contains es h →
          Contains (met_at (ends_of g) (ends_of h)) v → IsOnLineOf g v
      on_line g h v at_g at_h met =
          All-contains (IsOnLineOf g) (cut_points es g) v (All-contains (AreLedAlongLines es) es g led at_g)
          (computed g h v at_h met)

      along : IsAlong (ends_of e) (ends_of f) → (v : Point) × IsAt v p
      along line = by meeting.only_or_end
        where
          by : ((q : PlanePoint) → IsCommon (ends_of e) (ends_of f) q → SamePlace q p)
              ⊎ (IsEnd (ends_of e) p ⊎ IsEnd (ends_of f) p) → (v : Point) × IsAt v p
          by (inl only) = by_end (ends_of e) p (whole_end (ends_of e) p)
              (λ no_end_e. by_end (ends_of f) p (whole_end (ends_of f) p)
              (λ no_end_f. absurd (only_common_is_end (ends_of e) (ends_of f) p (leads e at_e)
              (leads f at_f) line meeting.common only no_end_e no_end_f)))
          by (inr (inl end)) = whole_end (ends_of e) p end
          by (inr (inr end)) = whole_end (ends_of f) p end

      beside : ¬ (IsAlong (ends_of e) (ends_of f)) → IsBeside (ends_of e) (ends_of f) ⊎ IsBeside (ends_of f)
          (ends_of e) → (v : Point) × IsAt v p
      beside apart (inl one) = absurd
          (beside_have_no_common (ends_of e) (ends_of f) p (leads f at_f) one meeting.common)
      beside apart (inr other) = absurd (beside_have_no_common (ends_of f) (ends_of e) p (leads e at_e) other
          (meeting.common.1, meeting.common.0))

      across : AreCrossing (ends_of e) (ends_of f) → (v : Point) × IsAt v p
      across c =
          let v = crossing (ends_of e) (ends_of f) in
          let both = both_across (ends_of e) (ends_of f) c in
          let back : AreCrossing (ends_of f) (ends_of e) =
          record {
            apart = not_along_back (ends_of e) (ends_of f) both.0;
            not_beside = c.not_back;
            not_back =
                c.not_beside;
          } in
          let met = subst (λ vs. Contains vs v) (sym (met_across (ends_of e) (ends_of f) c)) (Contains-head v []) in
          let met_back = subst (λ vs. Contains vs v)
          (sym (met_across (ends_of f) (ends_of e) back
          ∙ ap (λ w. w ∷ []) (sym (crossing_alike (ends_of e) (ends_of f) both.0 both.1)))) (Contains-head v []) in (
            v,
            whole_crossing (ends_of e) (ends_of f) v p (leads f at_f) c.apart (on_line e f v at_e at_f met)
                (on_line f e v at_f at_e met_back) meeting.common,
          )

  -- ---- and from the meetings to the points

  -- where they meet so, each computed point lies on its edge's line
  on_lines_where_whole : MeetInWholePoints es → All (AreLedAlongLines es) es
  on_lines_where_whole whole = all_of_entries (AreLedAlongLines es) es
      (λ e at_e. all_of_entries (IsOnLineOf e) (cut_points es e) (λ v at. from e v at_e
      (Contains-from_flat_map (λ g. met_at (ends_of e) (ends_of g)) es v
      (Contains-in_order (comes_first (ends_of e)) (flat_map (λ g. met_at (ends_of e) (ends_of g)) es) v at))))
    where
      from : (e : CountedEdge) (v : Point) → Contains es e →
          (f : CountedEdge) × Contains es f × Contains (met_at (ends_of e) (ends_of f)) v → IsOnLineOf e v
      from e v at_e (f, at_f, met) = by_placement (ends_of e) (ends_of f) along beside across
        where
          along : IsAlong (ends_of e) (ends_of f) → IsOnLineOf e v
          along line = All-contains (IsOnLineOf e) (ends_between (ends_of e) (ends_of f)) v
              (All-filter (is_between (ends_of e)) (IsOnLineOf e) (f.a ∷ f.b ∷ [])
              (All-cons (IsOnLineOf e) f.a (f.b ∷ []) line.0
              (All-cons (IsOnLineOf e) f.b [] line.1 (All-nil (IsOnLineOf e)))))
              (subst (λ vs. Contains vs v) (met_along (ends_of e) (ends_of f) line) met)

          beside : ¬ (IsAlong (ends_of e) (ends_of f)) → IsBeside (ends_of e) (ends_of f) ⊎ IsBeside (ends_of f)
              (ends_of e) → IsOnLineOf e v
          beside apart sides = let none = subst (λ vs. Contains vs v) (met_beside (ends_of e) (ends_of f) apart sides)
              met in absurd (omega (arith, none.1))

          across : AreCrossing (ends_of e) (ends_of f) → IsOnLineOf e v
          across c =
              let way : IsPartWay (ends_of e) (ends_of f) = part_way_across (ends_of e) (ends_of f)
              (both_across (ends_of e) (ends_of f) c).1 in
              let p : PlanePoint = crossing_point (ends_of e) (ends_of f) way.2 in
              let common = crossing_is_common (ends_of e) (ends_of f) way.2 c in
              let at = whole e f p at_e at_f
              (common_is_meeting (ends_of e) (ends_of f) p (leads f at_f) c.apart common) in
              let w_is : nearest_point p ≡ at.0 = rounded_whole nearest_point at.0 p nearest_point-rounding at.1 in
              let v_is : crossing (ends_of e) (ends_of f) ≡ v = only_entry (crossing (ends_of e) (ends_of f)) v
              (subst (λ vs. Contains vs v) (met_across (ends_of e) (ends_of f) c) met) in
              subst (IsOnLineOf e) (sym w_is ∙ v_is)
              (held_of_on (ends_of e) at.0 p (leads e at_e) at.1 common.0).on_line

  -- the two are equivalent
  pub whole_meetings_on_lines : All (AreLedAlongLines es) es ↔ MeetInWholePoints es
  whole_meetings_on_lines = (whole_where_on_lines, on_lines_where_whole)

-- ---- the pieces of a round that rounds no point

-- merged edges that are not settled, and meet in whole points alone, leave pieces that, merged, are settled
pub settled_where_whole : (old es left new : List CountedEdge) → IsForwardBy ends_of es → IsMerged old es →
    ¬ (IsSettled es) →
    MeetInWholePoints es → left ≡ cut_edges es → IsMerged left new → IsSettled new
settled_where_whole old es left new forward merged unsettled whole is merged_left = pieces_settled r cuts_whole new
    (subst (λ gs. IsMerged gs new) (is ∙ sym cuts.leaves) merged_left)
  where
    found : (r : Round) × CutsThrough old es r
    found = cutting_through old es forward merged unsettled

    r : Round
    r = found.0

    cuts : CutsThrough old es r
    cuts = found.1

    cuts_whole : CutsWhole r
    cuts_whole = record {
      forward = subst (IsForwardBy ends_of) (sym cuts.edges) forward;
      whole = subst MeetInWholePoints (sym cuts.edges) whole;
      alone = subst (λ gs. (e f : CountedEdge) → Contains gs e → Contains gs f →
          edge_eq (ends_of e) (ends_of f) ≡ true → e ≡ f) (sym cuts.edges) (same_merged old es merged);
      cut = cuts.is.cut;
      rounding = cuts.is.rounding;
    }
