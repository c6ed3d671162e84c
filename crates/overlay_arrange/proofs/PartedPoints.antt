-- A list of edges in which one edge is parted at an end of another: its edges meet in the same points.
use Rattle.std.proofs.Common.{◌≡◌, ◌⊎◌, ⊎_elim, inl, inr, true, pos, List, ◌∷◌, Contains, sym, subst}
use Rattle.std.proofs.lemmas.List.Elements.{All-contains, All-cons, All-tail}
use Rattle.overlay_geom.specs.Edges.{CountedEdge, ends_of}
use Rattle.overlay_geom.specs.Placed.{IsAlong}
use Rattle.overlay_geom.specs.Plane.{Point, PlanePoint, Edge, IsOn, IsAt, IsEnd, SamePlace, cross_at, point_lt}
use Rattle.overlay_geom.specs.Settled.{IsCommon}
use Rattle.overlay_geom.proofs.OneLine.{IsHeldBy, holds_end, holds_start}
use Rattle.overlay_geom.proofs.PointOrder.{IsBefore, before_up_to, up_to_both, Decides-point_lt}
use Rattle.overlay_plane.specs.CutPoints.{are_along}
use Rattle.overlay_plane.specs.EdgeLists.{IsForwardBy}
use Rattle.overlay_plane.specs.Meetings.{IsMeetingPoint, MeetInWholePoints}
use Rattle.overlay_plane.proofs.CommonPoints.{end_is_meeting, Decides-are_along}
use Rattle.overlay_plane.proofs.LaterEntries.{Contains-cases}
use Rattle.overlay_plane.proofs.LinesWithin.{only_common_is_end}
use Rattle.overlay_plane.proofs.Totals.{Contains-head, Contains-later}
use Rattle.overlay_plane.proofs.WholeOnEdges.{by_end, by_test, held_of_on, on_of_held}
use Rattle.overlay_order.specs.Content.{edge_with}
use Rattle.overlay_arrange.proofs.PartedMeetings.{along_part, meets_part, meets_whole, on_a_part, whole_has}

-- ---- two edges

-- a meeting point of two edges on one line is an end of one of them
end_of_along : (e f : Edge) (p : PlanePoint) → IsBefore e.a e.b → IsBefore f.a f.b → IsAlong e f →
    IsMeetingPoint e f p → IsEnd e p ⊎ IsEnd f p
end_of_along e f p e_forward f_forward along meeting = ⊎_elim only (λ end. end) meeting.only_or_end
  where
    only : ((q : PlanePoint) → IsCommon e f q → SamePlace q p) → IsEnd e p ⊎ IsEnd f p
    only one = by_end e p (λ end. inl end) (λ no_e. by_end f p (λ end. inr end)
        (λ no_f. absurd (only_common_is_end e f p e_forward f_forward along meeting.common one no_e no_f)))

-- the order of the two does not matter
pub turned_meeting : (e f : Edge) (p : PlanePoint) → IsMeetingPoint e f p → IsMeetingPoint f e p
turned_meeting e f p meeting = record {
  common = (meeting.common.1, meeting.common.0);
  only_or_end = ⊎_elim (λ only. inl (λ q both. only q (both.1, both.0)))
      (λ end. inr (⊎_elim (λ of_e. inr of_e) (λ of_f. inl of_f) end)) meeting.only_or_end;
}

module _ (e g : Edge) (e_forward : IsBefore e.a e.b) (g_forward : IsBefore g.a g.b) (start : IsHeldBy e g.a)
    (end : IsHeldBy e g.b) where
  -- an end of the edge on the part is an end of the part
  own_end : (p : PlanePoint) → IsOn g p → IsEnd e p → IsEnd g p
  own_end p on (inl at) =
      let held = held_of_on g e.a p g_forward at on in
      inl (subst (λ w. IsAt w p) (up_to_both e.a g.a start.from held.from) at)
  own_end p on (inr at) =
      let held = held_of_on g e.b p g_forward at on in
      inr (subst (λ w. IsAt w p) (up_to_both e.b g.b held.to end.to) at)

  -- another edge meets the part in its points where it meets the edge
  pub narrowed : (f : Edge) (p : PlanePoint) → IsBefore f.a f.b → IsMeetingPoint e f p → IsOn g p →
      IsMeetingPoint g f p
  narrowed f p f_forward meeting on = by_test (are_along e f) (Decides-are_along e f)
      (λ along. end_is_meeting g f p (on, meeting.common.1)
      (⊎_elim (λ of_e. inl (own_end p on of_e)) (λ of_f. inr of_f)
      (end_of_along e f p e_forward f_forward along meeting)))
      (λ apart. meets_part e g e_forward g_forward start end f p f_forward apart meeting on)

  -- it meets the edge where it meets the part, but perhaps in the part's ends
  pub widened : (f : Edge) (p : PlanePoint) → IsBefore f.a f.b → IsMeetingPoint g f p →
      IsMeetingPoint e f p ⊎ IsEnd g p
  widened f p f_forward meeting = by_test (are_along e f) (Decides-are_along e f)
      (λ along. ⊎_elim (λ of_g. inr of_g)
      (λ of_f. inl (end_is_meeting e f p
      (whole_has e g e_forward g_forward start end p meeting.common.0, meeting.common.1) (inr of_f)))
      (end_of_along g f p g_forward f_forward (along_part e g e_forward g_forward start end f along) meeting))
      (λ apart. inl (meets_whole e g e_forward g_forward start end f p f_forward apart meeting))

-- ---- lists

-- an edge of the list meets e at p
abbrev pub IsMet : List CountedEdge → Edge → PlanePoint → Type 0
IsMet es e p = (f : CountedEdge) × Contains es f × IsMeetingPoint e (ends_of f) p

-- an end of an edge of the list is met by this edge itself
pub met_at_end : (es : List CountedEdge) (e : CountedEdge) (p : PlanePoint) → Contains es e → IsOn (ends_of e) p →
    IsEnd (ends_of e) p → IsMet es (ends_of e) p
met_at_end es e p at on end = (e, at, end_is_meeting (ends_of e) (ends_of e) p (on, on) (inl end))

-- v lies between the ends of the edge, and is an end of another edge on its line
pub record IsCutBy (part other : CountedEdge) (v : Point) : Type 0 where
  pub along : IsAlong (ends_of part) (ends_of other)
  pub after : point_lt part.a v ≡ true
  pub before : point_lt v part.b ≡ true
  pub is_end : (v ≡ other.a) ⊎ (v ≡ other.b)

-- the edge up to v, and from v on
abbrev pub low_of : CountedEdge → Point → CountedEdge
low_of part v = edge_with part.a v part.counts

abbrev pub high_of : CountedEdge → Point → CountedEdge
high_of part v = edge_with v part.b part.counts

module _ (part other : CountedEdge) (v : Point) (rest : List CountedEdge)
    (forward : IsForwardBy ends_of (part ∷ other ∷ rest)) (cut : IsCutBy part other v) where
  -- the list before
  abbrev pub old_list : List CountedEdge
  old_list = part ∷ other ∷ rest

  -- the list with the two parts
  abbrev pub new_list : List CountedEdge
  new_list = low_of part v ∷ high_of part v ∷ other ∷ rest

  leads : (f : CountedEdge) → point_lt f.a f.b ≡ true → IsBefore f.a f.b
  leads f = (Decides-point_lt f.a f.b).0

  -- each edge leads forward
  pub old_leads : (f : CountedEdge) → Contains old_list f → IsBefore f.a f.b
  old_leads f at = leads f (All-contains (λ (g : CountedEdge). point_lt g.a g.b ≡ true) old_list f forward at)

  -- with the parts too
  pub new_forward : IsForwardBy ends_of new_list
  new_forward =
      let Leads : CountedEdge → Type 0 = λ g. point_lt g.a g.b ≡ true in
      All-cons Leads (low_of part v) (high_of part v ∷ other ∷ rest) cut.after
      (All-cons Leads (high_of part v) (other ∷ rest) cut.before (All-tail Leads part (other ∷ rest) forward))

  pub new_leads : (f : CountedEdge) → Contains new_list f → IsBefore f.a f.b
  new_leads f at = leads f (All-contains (λ (g : CountedEdge). point_lt g.a g.b ≡ true) new_list f new_forward at)

  pub part_forward : IsBefore part.a part.b
  part_forward = old_leads part (Contains-head part (other ∷ rest))

  other_in : Contains old_list other
  other_in = Contains-later part (other ∷ rest) other (Contains-head other rest)

  other_forward : IsBefore other.a other.b
  other_forward = old_leads other other_in

  pub low_forward : IsBefore part.a v
  low_forward = (Decides-point_lt part.a v).0 cut.after

  pub high_forward : IsBefore v part.b
  high_forward = (Decides-point_lt v part.b).0 cut.before

  -- the edge holds v
  pub held : IsHeldBy (ends_of part) v
  held = record {
    on_line = ⊎_elim (λ is. subst (λ w. cross_at part.a part.b w ≡ pos 0) (sym is) cut.along.0)
        (λ is. subst (λ w. cross_at part.a part.b w ≡ pos 0) (sym is) cut.along.1) cut.is_end;
    from = before_up_to part.a v low_forward;
    to = before_up_to v part.b high_forward;
  }

  -- the other edge holds it too
  other_holds : IsHeldBy (ends_of other) v
  other_holds = ⊎_elim (λ is. subst (IsHeldBy (ends_of other)) (sym is) (holds_start (ends_of other) other_forward))
      (λ is. subst (IsHeldBy (ends_of other)) (sym is) (holds_end (ends_of other) other_forward)) cut.is_end

  -- each edge that passes v is met there
  pub met_there : (g : Edge) (p : PlanePoint) → IsAt v p → IsOn g p → IsMet old_list g p
  met_there g p at on = (
    other,
    other_in,
    end_is_meeting g (ends_of other) p (on, on_of_held (ends_of other) v p other_forward at other_holds)
        (inr (⊎_elim (λ is. inl (subst (λ w. IsAt w p) is at)) (λ is. inr (subst (λ w. IsAt w p) is at)) cut.is_end)),
  )

  part_start : IsHeldBy (ends_of part) part.a
  part_start = holds_start (ends_of part) part_forward

  part_end : IsHeldBy (ends_of part) part.b
  part_end = holds_end (ends_of part) part_forward

  -- each point of the edge lies on one of the two
  pub on_low_or_high : (p : PlanePoint) → IsOn (ends_of part) p →
      IsOn (ends_of (low_of part v)) p ⊎ IsOn (ends_of (high_of part v)) p
  on_low_or_high = on_a_part (ends_of part) v part_forward held low_forward high_forward

  -- ---- where an edge is met

  -- an edge meets the parts where it met the edge
  pub met_forth : (g : Edge) (p : PlanePoint) → IsBefore g.a g.b → IsMet old_list g p → IsMet new_list g p
  met_forth g p g_forward (f, at, meeting) = ⊎_elim by_part by_others (Contains-cases part (other ∷ rest) f at)
    where
      by_others : Contains (other ∷ rest) f → IsMet new_list g p
      by_others later = (
        f,
        Contains-later (low_of part v) (high_of part v ∷ other ∷ rest) f
            (Contains-later (high_of part v) (other ∷ rest) f later),
        meeting,
      )

      by_part : part ≡ f → IsMet new_list g p
      by_part is =
          let back = turned_meeting g (ends_of part) p
          (subst (λ (h : CountedEdge). IsMeetingPoint g (ends_of h) p) (sym is) meeting) in
          ⊎_elim
          (λ on. (
            low_of part v,
            Contains-head (low_of part v) (high_of part v ∷ other ∷ rest),
            turned_meeting (ends_of (low_of part v)) g p (narrowed (ends_of part) (ends_of (low_of part v))
                part_forward low_forward part_start held g p g_forward back on),
          ))
          (λ on. (
            high_of part v,
            Contains-later (low_of part v) (high_of part v ∷ other ∷ rest) (high_of part v)
                (Contains-head (high_of part v) (other ∷ rest)),
            turned_meeting (ends_of (high_of part v)) g p (narrowed (ends_of part) (ends_of (high_of part v))
                part_forward high_forward held part_end g p g_forward back on),
          ))
          (on_low_or_high p back.common.0)

  -- each end of a part is an end of the edge, or v
  low_ends : (p : PlanePoint) → IsEnd (ends_of (low_of part v)) p → IsEnd (ends_of part) p ⊎ IsAt v p
  low_ends p (inl at) = inl (inl at)
  low_ends p (inr at) = inr at

  high_ends : (p : PlanePoint) → IsEnd (ends_of (high_of part v)) p → IsEnd (ends_of part) p ⊎ IsAt v p
  high_ends p (inl at) = inr at
  high_ends p (inr at) = inl (inr at)

  module _ (piece : CountedEdge) (forward_too : IsBefore piece.a piece.b) (start : IsHeldBy (ends_of part) piece.a)
      (end : IsHeldBy (ends_of part) piece.b)
      (own : (p : PlanePoint) → IsEnd (ends_of piece) p → IsEnd (ends_of part) p ⊎ IsAt v p) where
    -- an edge met by a part was met by the edge, or at v
    met_by_part : (g : Edge) (p : PlanePoint) → IsBefore g.a g.b → IsMeetingPoint g (ends_of piece) p →
        IsMet old_list g p
    met_by_part g p g_forward meeting = ⊎_elim
        (λ met. (part, Contains-head part (other ∷ rest), turned_meeting (ends_of part) g p met))
        (λ end_here. ⊎_elim
        (λ of_part. (
          part,
          Contains-head part (other ∷ rest),
          end_is_meeting g (ends_of part) p (meeting.common.0, on_part) (inr of_part),
        ))
        (λ there. met_there g p there meeting.common.0) (own p end_here))
        (widened (ends_of part) (ends_of piece) part_forward forward_too start end g p g_forward
        (turned_meeting g (ends_of piece) p meeting))
      where
        on_part : IsOn (ends_of part) p
        on_part = whole_has (ends_of part) (ends_of piece) part_forward forward_too start end p meeting.common.1

    -- the part is met where the edge was
    narrowed_met : (p : PlanePoint) → IsMet old_list (ends_of part) p → IsOn (ends_of piece) p →
        IsMet new_list (ends_of piece) p
    narrowed_met p met on =
        let also = met_forth (ends_of part) p part_forward met in (
          also.0,
          also.1,
          narrowed (ends_of part) (ends_of piece) part_forward forward_too start end (ends_of also.0) p
              (new_leads also.0 also.1) also.2 on,
        )

    -- the edge was met where the part is
    widened_met : ((g : Edge) (q : PlanePoint) → IsBefore g.a g.b → IsMet new_list g q → IsMet old_list g q) →
        (p : PlanePoint) → IsMet new_list (ends_of piece) p → IsMet old_list (ends_of part) p
    widened_met back p (f, at, meeting) = ⊎_elim
        (λ met. back (ends_of part) p part_forward (f, at, met))
        (λ end_here. ⊎_elim
        (λ of_part. met_at_end old_list part p (Contains-head part (other ∷ rest)) on_part of_part)
        (λ there. met_there (ends_of part) p there on_part) (own p end_here))
        (widened (ends_of part) (ends_of piece) part_forward forward_too start end (ends_of f) p (new_leads f at)
        meeting)
      where
        on_part : IsOn (ends_of part) p
        on_part = whole_has (ends_of part) (ends_of piece) part_forward forward_too start end p meeting.common.0

  -- an edge met the edges before the parting where it meets them behind it
  pub met_back : (g : Edge) (p : PlanePoint) → IsBefore g.a g.b → IsMet new_list g p → IsMet old_list g p
  met_back g p g_forward (f, at, meeting) = ⊎_elim
      (λ is. met_by_part (low_of part v) low_forward part_start held low_ends g p g_forward (moved (low_of part v) is))
      (λ later. ⊎_elim
      (λ is. met_by_part (high_of part v) high_forward held part_end high_ends g p g_forward
      (moved (high_of part v) is))
      (λ others. (f, Contains-later part (other ∷ rest) f others, meeting))
      (Contains-cases (high_of part v) (other ∷ rest) f later))
      (Contains-cases (low_of part v) (high_of part v ∷ other ∷ rest) f at)
    where
      moved : (h : CountedEdge) → h ≡ f → IsMeetingPoint g (ends_of h) p
      moved h is = subst (λ (k : CountedEdge). IsMeetingPoint g (ends_of k) p) (sym is) meeting

  -- ---- where the parts are met

  pub low_met : (p : PlanePoint) → IsMet old_list (ends_of part) p → IsOn (ends_of (low_of part v)) p →
      IsMet new_list (ends_of (low_of part v)) p
  low_met = narrowed_met (low_of part v) low_forward part_start held low_ends

  pub high_met : (p : PlanePoint) → IsMet old_list (ends_of part) p → IsOn (ends_of (high_of part v)) p →
      IsMet new_list (ends_of (high_of part v)) p
  high_met = narrowed_met (high_of part v) high_forward held part_end high_ends

  pub met_of_low : (p : PlanePoint) → IsMet new_list (ends_of (low_of part v)) p → IsMet old_list (ends_of part) p
  met_of_low = widened_met (low_of part v) low_forward part_start held low_ends met_back

  pub met_of_high : (p : PlanePoint) → IsMet new_list (ends_of (high_of part v)) p → IsMet old_list (ends_of part) p
  met_of_high = widened_met (high_of part v) high_forward held part_end high_ends met_back

  -- the parts have points of the edge
  pub low_within : (p : PlanePoint) → IsOn (ends_of (low_of part v)) p → IsOn (ends_of part) p
  low_within = whole_has (ends_of part) (ends_of (low_of part v)) part_forward low_forward part_start held

  pub high_within : (p : PlanePoint) → IsOn (ends_of (high_of part v)) p → IsOn (ends_of part) p
  high_within = whole_has (ends_of part) (ends_of (high_of part v)) part_forward high_forward held part_end

  -- ---- whole points

  -- where all meeting points are whole they stay so
  pub whole_forth : MeetInWholePoints old_list → MeetInWholePoints new_list
  whole_forth whole e f p at_e at_f meeting = ⊎_elim
      (λ is. found part (Contains-head part (other ∷ rest)) (met_of_low p (moved (low_of part v) is)))
      (λ later. ⊎_elim
      (λ is. found part (Contains-head part (other ∷ rest)) (met_of_high p (moved (high_of part v) is)))
      (λ others. found e (Contains-later part (other ∷ rest) e others)
      (met_back (ends_of e) p (new_leads e at_e) (f, at_f, meeting)))
      (Contains-cases (high_of part v) (other ∷ rest) e later))
      (Contains-cases (low_of part v) (high_of part v ∷ other ∷ rest) e at_e)
    where
      found : (g : CountedEdge) → Contains old_list g → IsMet old_list (ends_of g) p → (w : Point) × IsAt w p
      found g at_g (h, at_h, met) = whole g h p at_g at_h met

      moved : (g : CountedEdge) → g ≡ e → IsMet new_list (ends_of g) p
      moved g is = (f, at_f, subst (λ (k : CountedEdge). IsMeetingPoint (ends_of k) (ends_of f) p) (sym is) meeting)

  -- and they were so
  pub whole_back : MeetInWholePoints new_list → MeetInWholePoints old_list
  whole_back whole e f p at_e at_f meeting = ⊎_elim by_part
      (λ others. found e (Contains-later (low_of part v) (high_of part v ∷ other ∷ rest) e
      (Contains-later (high_of part v) (other ∷ rest) e others))
      (met_forth (ends_of e) p (old_leads e at_e) (f, at_f, meeting)))
      (Contains-cases part (other ∷ rest) e at_e)
    where
      found : (g : CountedEdge) → Contains new_list g → IsMet new_list (ends_of g) p → (w : Point) × IsAt w p
      found g at_g (h, at_h, met) = whole g h p at_g at_h met

      by_part : part ≡ e → (w : Point) × IsAt w p
      by_part is =
          let met : IsMet old_list (ends_of part) p =
          (f, at_f, subst (λ (k : CountedEdge). IsMeetingPoint (ends_of k) (ends_of f) p) (sym is) meeting) in
          ⊎_elim
          (λ on. found (low_of part v) (Contains-head (low_of part v) (high_of part v ∷ other ∷ rest))
          (low_met p met on))
          (λ on. found (high_of part v) (Contains-later (low_of part v) (high_of part v ∷ other ∷ rest)
          (high_of part v) (Contains-head (high_of part v) (other ∷ rest))) (high_met p met on))
          (on_low_or_high p met.2.common.0)
