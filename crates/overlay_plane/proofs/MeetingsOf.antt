-- The meeting points of two different edges as a list, whose nearest whole points are those that are computed for the
-- pair.
use Rattle.std.proofs.Common.{◌≡◌, ◌⊎◌, inl, inr, List, [], ◌∷◌, map, refl, sym, subst}
use Rattle.std.specs.List.{Any, Contains}
use Rattle.std.proofs.lemmas.List.Elements.{All-nil, All-cons}
use Rattle.overlay_geom.specs.Plane.{PlanePoint, Edge, SamePlace, in_plane}
use Rattle.overlay_geom.specs.Placed.{IsAlong, IsBeside}
use Rattle.overlay_geom.specs.Rounding.{nearest_point}
use Rattle.overlay_geom.proofs.PointOrder.{IsBefore}
use Rattle.overlay_plane.specs.CutPoints.{crossing, met_at}
use Rattle.overlay_plane.specs.Meetings.{IsMeetingPoint}
use Rattle.overlay_plane.proofs.CommonPoints.{only_unless_along, common_is_meeting}
use Rattle.overlay_plane.proofs.CrossingPoints.{IsPartWay, part_way_across, crossing_point, crossing_is_common}
use Rattle.overlay_plane.proofs.Entries.{any_of_entry}
use Rattle.overlay_plane.proofs.MeetingLists.{AreMeetings, AreNearest}
use Rattle.overlay_plane.proofs.MeetingsAlong.{ends_on_other, meetings_along, nearest_along}
use Rattle.overlay_plane.proofs.Placements.{AreCrossing, by_placement, both_across, beside_have_no_common, met_along}
use Rattle.overlay_plane.proofs.Placements.{met_beside, met_across}
use Rattle.overlay_plane.proofs.Totals.{Contains-head}

-- the meeting points of two edges, with the computed points nearest to them
abbrev pub HasMeetings : Edge → Edge → Type 0
HasMeetings e f = (ps : List PlanePoint) × AreMeetings e f ps × AreNearest e ps (met_at e f)

-- edges along one line have the ends of each on the other
meetings_on_line : (e f : Edge) → IsBefore e.a e.b → IsBefore f.a f.b → IsAlong e f → HasMeetings e f
meetings_on_line e f e_forward f_forward along =
    let ps : List PlanePoint = map in_plane (ends_on_other e f) in (
      ps,
      meetings_along e f e_forward f_forward along,
      subst (λ vs. AreNearest e ps vs) (sym (met_along e f along)) (nearest_along e f e_forward f_forward along),
    )

-- of no points
none_nearest : (e : Edge) → AreNearest e [] []
none_nearest e = record { from = All-nil _; to = All-nil _ }

-- edges beside each other have none
meetings_beside : (e f : Edge) → IsBefore e.a e.b → IsBefore f.a f.b → ¬ (IsAlong e f) → IsBeside e f ⊎ IsBeside f e →
    HasMeetings e f
meetings_beside e f e_forward f_forward apart beside = (
  [],
  record { only = All-nil _; every = λ p meeting. absurd (none beside p meeting) },
  subst (λ vs. AreNearest e [] vs) (sym (met_beside e f apart beside)) (none_nearest e),
)
  where
    none : IsBeside e f ⊎ IsBeside f e → (p : PlanePoint) → IsMeetingPoint e f p → ⊥
    none (inl one) p meeting = beside_have_no_common e f p f_forward one meeting.common
    none (inr other) p meeting = beside_have_no_common f e p e_forward other (meeting.common.1, meeting.common.0)

-- edges across each other have one
meetings_across : (e f : Edge) → IsBefore f.a f.b → AreCrossing e f → HasMeetings e f
meetings_across e f f_forward c =
    (p ∷ [], meetings, subst (λ vs. AreNearest e (p ∷ []) vs) (sym (met_across e f c)) near)
  where
    way : IsPartWay e f
    way = part_way_across e f (both_across e f c).1

    p : PlanePoint
    p = crossing_point e f way.2

    meetings : AreMeetings e f (p ∷ [])
    meetings = record {
      only = All-cons (IsMeetingPoint e f) p []
          (common_is_meeting e f p f_forward c.apart (crossing_is_common e f way.2 c)) (All-nil _);
      every = λ q meeting. any_of_entry (SamePlace q) (p ∷ []) p (Contains-head p [])
          (only_unless_along e f p q f_forward c.apart (crossing_is_common e f way.2 c) meeting.common);
    }

    near : AreNearest e (p ∷ []) (crossing e f ∷ [])
    near = record {
      from = All-cons (λ q. (nearest_point q ≡ e.a) ⊎ ((nearest_point q ≡ e.b) ⊎ Contains (crossing e f ∷ [])
          (nearest_point q))) p []
          (inr (inr (Contains-head (crossing e f) []))) (All-nil _);
      to = All-cons (λ v. (v ≡ e.a) ⊎ ((v ≡ e.b) ⊎ Any (λ q. v ≡ nearest_point q) (p ∷ []))) (crossing e f) []
          (inr (inr (any_of_entry (λ q. crossing e f ≡ nearest_point q) (p ∷ []) p (Contains-head p []) refl)))
          (All-nil _);
    }

-- two forward edges have a list of meeting points, and the whole points computed for the pair are nearest to them
pub meetings_of : (e f : Edge) → IsBefore e.a e.b → IsBefore f.a f.b →
    (ps : List PlanePoint) × AreMeetings e f ps × AreNearest e ps (met_at e f)
meetings_of e f e_forward f_forward =
    by_placement e f
    (meetings_on_line e f e_forward f_forward)
    (meetings_beside e f e_forward f_forward)
    (meetings_across e f f_forward)
