-- Where an edge and its parts are met: an edge on another line meets the parts where it meets the edge, and each point
-- of the edge lies on a part.
use Rattle.std.proofs.Common.{◌≡◌, ◌⊎◌, inl, inr, List, [], ◌∷◌, ◌++◌, sym, ap, ◌∙◌, subst, append_assoc}
use Rattle.std.proofs.Common.{append-nil}
use Rattle.overlay_geom.specs.Placed.{IsAlong}
use Rattle.overlay_geom.specs.Plane.{Point, PlanePoint, Edge, IsOn, IsAt, IsEnd, in_plane}
use Rattle.overlay_geom.specs.Plane.{steps_between, steps_through}
use Rattle.overlay_geom.proofs.AlongEdge.{over, place_of, on_of_order, order_of_on}
use Rattle.overlay_geom.proofs.OneLine.{along_exchanged, holds_end, holds_start, IsHeldBy}
use Rattle.overlay_geom.proofs.PointOrder.{IsBefore, by_order, before_up_to}
use Rattle.overlay_plane.specs.Meetings.{IsMeetingPoint}
use Rattle.overlay_plane.proofs.CommonPoints.{common_is_meeting, end_is_meeting}
use Rattle.overlay_plane.proofs.LinesWithin.{along_through, on_holder, on_line_of, whole_on_line_of}
use Rattle.overlay_plane.proofs.WholeOnEdges.{at_itself, on_of_held}

-- ---- a part of an edge

module _ (e g : Edge) (e_forward : IsBefore e.a e.b) (g_forward : IsBefore g.a g.b) (start : IsHeldBy e g.a)
    (end : IsHeldBy e g.b) where
  along : IsAlong e g
  along = (start.on_line, end.on_line)

  -- the points of the part are points of the edge
  pub whole_has : (p : PlanePoint) → IsOn g p → IsOn e p
  whole_has p on = on_holder e g p e_forward g_forward start end on

  -- the part and the edge have one line
  pub along_whole : (f : Edge) → IsAlong g f → IsAlong e f
  along_whole f (a, b) = (whole_on_line_of e g f.a g_forward along a, whole_on_line_of e g f.b g_forward along b)

  pub along_part : (f : Edge) → IsAlong e f → IsAlong g f
  along_part f f_along = along_through e f g e_forward f_along along

  -- an edge on another line meets the part where it meets the edge in a point of the part
  pub meets_part : (f : Edge) (p : PlanePoint) → IsBefore f.a f.b → ¬ (IsAlong e f) → IsMeetingPoint e f p → IsOn g p →
      IsMeetingPoint g f p
  meets_part f p f_forward apart meeting on =
      common_is_meeting g f p f_forward (λ f_along. apart (along_whole f f_along)) (on, meeting.common.1)

  pub meets_whole : (f : Edge) (p : PlanePoint) → IsBefore f.a f.b → ¬ (IsAlong e f) → IsMeetingPoint g f p →
      IsMeetingPoint e f p
  meets_whole f p f_forward apart meeting =
      common_is_meeting e f p f_forward apart (whole_has p meeting.common.0, meeting.common.1)

-- ---- an edge parted at a point

module _ (e : Edge) (v : Point) (e_forward : IsBefore e.a e.b) (held : IsHeldBy e v) (after : IsBefore e.a v)
    (before : IsBefore v e.b) where
  -- the two parts
  abbrev pub low_part : Edge
  low_part = record { a = e.a; b = v }

  abbrev pub high_part : Edge
  high_part = record { a = v; b = e.b }

  low_back : IsAlong low_part e
  low_back = along_exchanged e low_part e_forward ((holds_start e e_forward).on_line, held.on_line)

  high_back : IsAlong high_part e
  high_back = along_exchanged e high_part e_forward (held.on_line, (holds_end e e_forward).on_line)

  -- each point of the edge lies on one of them
  pub on_a_part : (p : PlanePoint) → IsOn e p → IsOn low_part p ⊎ IsOn high_part p
  on_a_part p on =
      let order = order_of_on e p e_forward on in
      by_order (place_of p) (over v p.d)
      (λ up_to. inl (on_of_order low_part p after (on_line_of low_part e p e_forward low_back on.on_line) order.0
      up_to))
      (λ past. inr (on_of_order high_part p before (on_line_of high_part e p e_forward high_back on.on_line)
      (before_up_to (over v p.d) (place_of p) past) order.1))

  -- an end of another edge at the point meets the edge there
  pub end_meets : (f : Edge) → IsBefore f.a f.b → (v ≡ f.a) ⊎ (v ≡ f.b) → IsMeetingPoint e f (in_plane v)
  end_meets f f_forward is_end =
      end_is_meeting e f (in_plane v) (
        on_of_held e v (in_plane v) e_forward (at_itself v) held,
        on_of_held f v (in_plane v) f_forward (at_itself v) (holds is_end),
      ) (inr (ends is_end))
    where
      holds : (v ≡ f.a) ⊎ (v ≡ f.b) → IsHeldBy f v
      holds (inl is) = subst (IsHeldBy f) (sym is) (holds_start f f_forward)
      holds (inr is) = subst (IsHeldBy f) (sym is) (holds_end f f_forward)

      ends : (v ≡ f.a) ⊎ (v ≡ f.b) → IsEnd f (in_plane v)
      ends (inl is) = inl (subst (λ w. IsAt w (in_plane v)) is (at_itself v))
      ends (inr is) = inr (subst (λ w. IsAt w (in_plane v)) is (at_itself v))

-- ---- chains

-- a chain through a point is the chain up to it, and the chain on from it
pub chain_parted : (a v : Point) (us ws : List Point) →
    steps_through a (us ++ v ∷ ws) ≡ steps_through a (us ++ v ∷ []) ++ steps_through v ws
chain_parted a v [] ws = ap (λ ss. ss ++ steps_through v ws) (sym (append-nil (steps_between a v)))
chain_parted a v (u ∷ us) ws =
    ap (λ ss. steps_between a u ++ ss) (chain_parted u v us ws)
    ∙ sym (append_assoc (steps_between a u) (steps_through u (us ++ v ∷ [])) (steps_through v ws))
