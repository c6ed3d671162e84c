-- Two edges that meet in ends alone lead each other only through their own ends.
use Rattle.std.proofs.Common.{◌≡◌, ◌⊎◌, inl, inr, ℕ, List, Contains, sym, ◌∙◌, subst, arith}
use Rattle.overlay_geom.specs.Plane.{Point, PlanePoint, IsEnd, in_plane}
use Rattle.overlay_geom.specs.Edges.{CountedEdge, ends_of}
use Rattle.overlay_geom.specs.Placed.{IsAlong, IsBeside}
use Rattle.overlay_geom.specs.Rounding.{nearest_point}
use Rattle.overlay_geom.proofs.OneLine.{meet_in_ends_exchanged}
use Rattle.overlay_geom.proofs.PointOrder.{IsBefore, Decides-point_lt}
use Rattle.overlay_geom.proofs.Rounded.{nearest_point-rounding}
use Rattle.overlay_plane.specs.CutPoints.{crossing, met_at}
use Rattle.overlay_plane.proofs.CrossingPoints.{IsPartWay, part_way_across, crossing_point, crossing_is_common}
use Rattle.overlay_plane.proofs.MeetingsAlong.{end_held, holds_its_ends}
use Rattle.overlay_plane.proofs.Placements.{AreCrossing, by_placement, both_across, met_along, met_beside, met_across}
use Rattle.overlay_plane.proofs.SettledMeetings.{common_of_held}
use Rattle.overlay_plane.proofs.WholeOnEdges.{at_whole}
use Rattle.overlay_plane.proofs.WholePlaces.{rounded_whole}
use Rattle.overlay_order.specs.Content.{IsHeld}
use Rattle.overlay_pairs.specs.Settle.{AreSettled}
use Rattle.overlay_arrange.specs.Cut.{IsEndOf}
use Rattle.overlay_arrange.specs.Meetings.{AddsBoth, Meeting}
use Rattle.overlay_arrange.proofs.PairMeetings.{ends_left_out, only_entry}

-- h leads g through v
abbrev pub IsLedBy : CountedEdge → CountedEdge → Point → Type 0
IsLedBy g h v = Contains (met_at (ends_of g) (ends_of h)) v

-- h leads g through nothing but g's ends
abbrev pub LeadsNowhere : CountedEdge → CountedEdge → Type 0
LeadsNowhere g h = (v : Point) → IsLedBy g h v → IsEndOf g v

-- an edge that meets another edge in ends alone is led by it through its own ends alone
pub leads_to_ends : (limit : ℕ) (e f : CountedEdge) → IsHeld limit e → IsHeld limit f → AreSettled e f →
    LeadsNowhere e f
leads_to_ends limit e f e_held f_held settled v met = by_placement (ends_of e) (ends_of f) along beside across
  where
    e_forward : IsBefore e.a e.b
    e_forward = (Decides-point_lt e.a e.b).0 e_held.forward

    f_forward : IsBefore f.a f.b
    f_forward = (Decides-point_lt f.a f.b).0 f_held.forward

    whole_end : IsEnd (ends_of e) (in_plane v) → IsEndOf e v
    whole_end (inl at) = inl (sym (at_whole e.a v at))
    whole_end (inr at) = inr (sym (at_whole e.b v at))

    rounded_end : (p : PlanePoint) → nearest_point p ≡ v → IsEnd (ends_of e) p → IsEndOf e v
    rounded_end p is (inl at) = inl (sym is ∙ rounded_whole nearest_point e.a p nearest_point-rounding at)
    rounded_end p is (inr at) = inr (sym is ∙ rounded_whole nearest_point e.b p nearest_point-rounding at)

    along : IsAlong (ends_of e) (ends_of f) → IsEndOf e v
    along line =
        let found = end_held (ends_of e) (ends_of f) v line
        (subst (λ vs. Contains vs v) (met_along (ends_of e) (ends_of f) line) met) in
        let of_f = holds_its_ends (ends_of f) v f_forward found.0 in
        whole_end (settled (in_plane v) (common_of_held (ends_of e) (ends_of f) v e_forward f_forward found.1 of_f)).0

    beside : ¬ (IsAlong (ends_of e) (ends_of f)) → IsBeside (ends_of e) (ends_of f) ⊎ IsBeside (ends_of f) (ends_of e) →
        IsEndOf e v
    beside apart sides = let none = subst (λ vs. Contains vs v) (met_beside (ends_of e) (ends_of f) apart sides) met in
        absurd (omega (arith, none.1))

    across : AreCrossing (ends_of e) (ends_of f) → IsEndOf e v
    across c =
        let way : IsPartWay (ends_of e) (ends_of f) = part_way_across (ends_of e) (ends_of f)
        (both_across (ends_of e) (ends_of f) c).1 in
        let p : PlanePoint = crossing_point (ends_of e) (ends_of f) way.2 in
        let v_is : crossing (ends_of e) (ends_of f) ≡ v = only_entry (crossing (ends_of e) (ends_of f)) v
        (subst (λ vs. Contains vs v) (met_across (ends_of e) (ends_of f) c) met) in
        rounded_end p v_is (settled p (crossing_is_common (ends_of e) (ends_of f) way.2 c)).0

-- it leads that edge through its ends alone
pub led_to_ends : (limit : ℕ) (e f : CountedEdge) → IsHeld limit e → IsHeld limit f → AreSettled e f → LeadsNowhere f e
led_to_ends limit e f e_held f_held settled =
    leads_to_ends limit f e f_held e_held (meet_in_ends_exchanged (ends_of f) (ends_of e) settled)

-- two edges that meet in ends alone need no meetings
pub none_where_settled : (limit : ℕ) (i : ℕ) (e : CountedEdge) (j : ℕ) (f : CountedEdge) → IsHeld limit e →
    IsHeld limit f → AreSettled e f → (ms : List Meeting) → AddsBoth i e j f ms ms
none_where_settled limit i e j f e_held f_held settled ms = record {
  between = ms;
  one = ends_left_out i e (met_at (ends_of e) (ends_of f)) ms (leads_to_ends limit e f e_held f_held settled);
  other = ends_left_out j f (met_at (ends_of f) (ends_of e)) ms (led_to_ends limit e f e_held f_held settled);
}
