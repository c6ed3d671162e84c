-- A list of forward edges is settled exactly where each meeting point of two different edges is an end of both.
-- Overlapping edges also meet in the ends of the overlap; if those are ends of both, the two are equal.
use Rattle.std.proofs.Common.{◌≡◌, ◌⊎◌, inl, inr, ⊎_elim, true, false, Contains, sym, ap}
use Rattle.std.proofs.lemmas.Bool.{both_ways}
use Rattle.std.proofs.lemmas.List.Elements.{All-contains}
use Rattle.overlay_geom.specs.Plane.{Point, PlanePoint, Edge, IsEnd, edge_eq, point_lt, in_plane}
use Rattle.overlay_geom.specs.Edges.{CountedEdge, ends_of}
use Rattle.overlay_geom.specs.Settled.{IsCommon, MeetInEnds, IsSettled}
use Rattle.overlay_geom.specs.Placed.{IsAlong}
use Rattle.overlay_geom.proofs.Orders.{Decides-edge_eq}
use Rattle.overlay_geom.proofs.PointOrder.{IsBefore, IsUpTo, by_order, before_up_to, before_is_other}
use Rattle.overlay_geom.proofs.OneLine.{apart_meet_in_ends, meet_in_ends_exchanged, along_exchanged, IsHeldBy}
use Rattle.overlay_geom.proofs.OneLine.{holds_start, holds_end}
use Rattle.overlay_plane.specs.Meetings.{IsMeetingPoint, MeetOnlyInEnds, SettledByMeetingPoints}
use Rattle.overlay_plane.proofs.WholeOnEdges.{forward_from_test, at_itself, at_whole, on_of_held}
use Rattle.overlay_plane.proofs.CommonPoints.{end_is_meeting, common_cases}

-- an edge on which a common point lies that is no end of it begins before the other ends, and ends after that begins
pub overlap_at_inner : (e f : Edge) (p : PlanePoint) → IsBefore e.a e.b → IsBefore f.a f.b → IsCommon e f p →
    ¬ (IsEnd e p) →
    IsBefore f.a e.b × IsBefore e.a f.b
overlap_at_inner e f p e_forward f_forward common inner = (
  by_order e.b f.a (λ apart. absurd (inner (apart_meet_in_ends e f e_forward f_forward apart p common).0))
      (λ before. before),
  by_order f.b e.a (λ apart. absurd
      (inner (meet_in_ends_exchanged e f (apart_meet_in_ends f e f_forward e_forward apart) p common).0))
      (λ before. before),
)

-- each whole point of both edges that is an end of one is an end of both
abbrev EndsAlike : Edge → Edge → Type 0
EndsAlike e f = (v : Point) → IsCommon e f (in_plane v) → IsEnd e (in_plane v) ⊎ IsEnd f (in_plane v) →
    IsEnd e (in_plane v) × IsEnd f (in_plane v)

-- and so the other way round
alike_exchanged : (e f : Edge) → EndsAlike e f → EndsAlike f e
alike_exchanged e f alike v (on_f, on_e) (inl end) = let ends = alike v (on_e, on_f) (inr end) in (ends.1, ends.0)
alike_exchanged e f alike v (on_f, on_e) (inr end) = let ends = alike v (on_e, on_f) (inl end) in (ends.1, ends.0)

-- a whole point that both edges hold is common
pub common_of_held : (e f : Edge) (v : Point) → IsBefore e.a e.b → IsBefore f.a f.b → IsHeldBy e v → IsHeldBy f v →
    IsCommon e f (in_plane v)
common_of_held e f v e_forward f_forward e_v f_v =
    (on_of_held e v (in_plane v) e_forward (at_itself v) e_v, on_of_held f v (in_plane v) f_forward (at_itself v) f_v)

-- of two overlapping edges the later start is an end of both, and so the start of both
start_of_later : (e f : Edge) → IsBefore e.a e.b → IsBefore f.a f.b → IsAlong e f → EndsAlike e f → IsUpTo e.a f.a →
    IsBefore f.a e.b → e.a ≡ f.a
start_of_later e f e_forward f_forward along alike later begins = by (alike f.a common (inr (inl (at_itself f.a)))).0
  where
    common : IsCommon e f (in_plane f.a)
    common = common_of_held e f f.a e_forward f_forward
        (record { on_line = along.0; from = later; to = before_up_to f.a e.b begins }) (holds_start f f_forward)

    by : IsEnd e (in_plane f.a) → e.a ≡ f.a
    by (inl at) = at_whole e.a f.a at
    by (inr at) = let same = at_whole e.b f.a at in
        absurd (before_is_other f.a e.b begins (ap (λ (v : Point). v.x) same) (ap (λ (v : Point). v.y) same))

-- and the sooner end the end of both
end_of_sooner : (e f : Edge) → IsBefore e.a e.b → IsBefore f.a f.b → IsAlong e f → EndsAlike e f → IsUpTo f.b e.b →
    IsBefore e.a f.b → e.b ≡ f.b
end_of_sooner e f e_forward f_forward along alike sooner begins = by (alike f.b common (inr (inr (at_itself f.b)))).0
  where
    common : IsCommon e f (in_plane f.b)
    common = common_of_held e f f.b e_forward f_forward
        (record { on_line = along.1; from = before_up_to e.a f.b begins; to = sooner }) (holds_end f f_forward)

    by : IsEnd e (in_plane f.b) → e.b ≡ f.b
    by (inl at) = let same = at_whole e.a f.b at in
        absurd (before_is_other e.a f.b begins (ap (λ (v : Point). v.x) (sym same))
        (ap (λ (v : Point). v.y) (sym same)))
    by (inr at) = at_whole e.b f.b at

-- two overlapping edges are equal if each end on the other is an end of both
one_edge : (e f : Edge) → IsBefore e.a e.b → IsBefore f.a f.b → IsAlong e f → EndsAlike e f → IsBefore f.a e.b →
    IsBefore e.a f.b → e ≡ f
one_edge e f e_forward f_forward along alike f_begins e_begins = λ i. record { a = same_start i; b = same_end i }
  where
    back : IsAlong f e
    back = along_exchanged e f e_forward along

    same_start : e.a ≡ f.a
    same_start =
        by_order e.a f.a
        (λ later. start_of_later e f e_forward f_forward along alike later f_begins)
        (λ sooner. sym (start_of_later f e f_forward e_forward back (alike_exchanged e f alike)
        (before_up_to f.a e.a sooner) e_begins))

    same_end : e.b ≡ f.b
    same_end =
        by_order f.b e.b
        (λ sooner. end_of_sooner e f e_forward f_forward along alike sooner e_begins)
        (λ later. sym (end_of_sooner f e f_forward e_forward back (alike_exchanged e f alike)
        (before_up_to e.b f.b later) f_begins))

-- two different edges meet in ends alone if each meeting point is an end of both
pub meet_in_ends_of_meetings : (e f : Edge) → IsBefore e.a e.b → IsBefore f.a f.b → edge_eq e f ≡ false →
    ((p : PlanePoint) → IsMeetingPoint e f p → IsEnd e p × IsEnd f p) → MeetInEnds e f
meet_in_ends_of_meetings e f e_forward f_forward other ends p common = ⊎_elim (ends p) overlapping
    (common_cases e f p f_forward common)
  where
    overlapping : IsAlong e f × ¬ (IsEnd e p) × ¬ (IsEnd f p) → IsEnd e p × IsEnd f p
    overlapping (along, inner, inner_too) =
        let order = overlap_at_inner e f p e_forward f_forward common inner in
        let same = one_edge e f e_forward f_forward along
        (λ v at end. ends (in_plane v) (end_is_meeting e f (in_plane v) at end)) order.0 order.1 in
        absurd (both_ways (edge_eq e f) other ((Decides-edge_eq e f).1 same))

-- a list of forward edges is settled exactly where each meeting point of two different ones is an end of both
pub settled_by_meeting_points : SettledByMeetingPoints
settled_by_meeting_points es forward =
    (settled, λ h e f p at_e at_f other meeting. h e f at_e at_f other p meeting.common)
  where
    leads : (e : CountedEdge) → Contains es e → IsBefore e.a e.b
    leads e at = forward_from_test (ends_of e) (All-contains (λ x. point_lt x.a x.b ≡ true) es e forward at)

    settled : MeetOnlyInEnds es → IsSettled es
    settled ends e f at_e at_f other = meet_in_ends_of_meetings (ends_of e) (ends_of f) (leads e at_e)
        (leads f at_f) other (λ p. ends e f p at_e at_f other)
