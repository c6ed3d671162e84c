-- The chains of edges depend on ends alone. Where an edge is parted at an end of another, its chain is those of its
-- parts, one behind the other. This holds in cutting rounds and in snap rounding.
use Rattle.std.proofs.Common.{◌≡◌, ⊎_elim, true, List, [], ◌∷◌, ◌++◌, Contains, sym, ap, ◌∙◌, subst}
use Rattle.overlay_geom.specs.Edges.{CountedEdge, ends_of}
use Rattle.overlay_geom.specs.Placed.{IsAlong}
use Rattle.overlay_geom.specs.Plane.{Point, PlanePoint, Edge, IsOn, in_plane, point_lt, steps_through}
use Rattle.overlay_geom.specs.Rounding.{nearest_point}
use Rattle.overlay_geom.proofs.OneLine.{holds_end, holds_start}
use Rattle.overlay_geom.proofs.PointOrder.{IsBefore, Decides-point_lt}
use Rattle.overlay_plane.specs.CutPoints.{cut_points}
use Rattle.overlay_plane.specs.EdgeLists.{IsForwardBy}
use Rattle.overlay_plane.specs.Meetings.{IsMeetingPoint, MeetInWholePoints}
use Rattle.overlay_plane.specs.SnapPoints.{snap_points}
use Rattle.overlay_plane.proofs.LaterEntries.{Contains-cases}
use Rattle.overlay_plane.proofs.Totals.{Contains-head, Contains-later}
use Rattle.overlay_plane.proofs.WholeOnEdges.{at_itself, on_of_held}
use Rattle.overlay_arrange.specs.Cut.{chain_by, LeadingPoints}
use Rattle.overlay_arrange.proofs.PartedChains.{LeadBy, parted_chain, same_led}
use Rattle.overlay_arrange.proofs.PartedCuts.{cuts_lead, snaps_lead, nearest_itself, IsHotAt, RoundsToHot}
use Rattle.overlay_arrange.proofs.PartedPoints.{IsCutBy, IsMet, high_forward, high_met, high_of, high_within, held}
use Rattle.overlay_arrange.proofs.PartedPoints.{low_forward, low_met, low_of, low_within, met_back, met_forth}
use Rattle.overlay_arrange.proofs.PartedPoints.{met_of_high, met_of_low, met_there, new_forward, new_leads, old_leads}
use Rattle.overlay_arrange.proofs.PartedPoints.{on_low_or_high, part_forward}

-- ---- lists whose edges have equal ends

-- each edge of either list has the ends of an edge of the other
pub record HaveSameEnds (es fs : List CountedEdge) : Type 0 where
  pub forth : (e : CountedEdge) → Contains es e → (f : CountedEdge) × Contains fs f × (ends_of e ≡ ends_of f)
  pub back : (f : CountedEdge) → Contains fs f → (e : CountedEdge) × Contains es e × (ends_of f ≡ ends_of e)

-- edges meet those of either list alike
pub met_alike : (es fs : List CountedEdge) →
    ((e : CountedEdge) → Contains es e → (f : CountedEdge) × Contains fs f × (ends_of e ≡ ends_of f)) →
    (g : Edge) (p : PlanePoint) → IsMet es g p → IsMet fs g p
met_alike es fs forth g p (e, at, meeting) =
    let other = forth e at in
    (other.0, other.1, subst (λ h. IsMeetingPoint g h p) other.2 meeting)

-- and have the same hot points
pub hot_alike : (es fs : List CountedEdge) →
    ((e : CountedEdge) → Contains es e → (f : CountedEdge) × Contains fs f × (ends_of e ≡ ends_of f)) →
    (v : Point) → IsHotAt es v → IsHotAt fs v
hot_alike es fs forth v (e, at, p, met, is) =
    let other = forth e at in
    (other.0, other.1, p, subst (λ h. IsMet fs h p) other.2 (met_alike es fs forth (ends_of e) p met), is)

-- where all meeting points of the one list are whole, so are those of the other
pub whole_alike : (es fs : List CountedEdge) →
    ((f : CountedEdge) → Contains fs f → (e : CountedEdge) × Contains es e × (ends_of f ≡ ends_of e)) →
    MeetInWholePoints es → MeetInWholePoints fs
whole_alike es fs back whole e f p at_e at_f meeting =
    let one = back e at_e in
    let other = back f at_f in
    whole one.0 other.0 p one.1 other.1
    (subst (λ h. IsMeetingPoint (ends_of one.0) h p) other.2
    (subst (λ h. IsMeetingPoint h (ends_of f) p) one.2 meeting))

-- ---- both ways to lead edges

-- the chains of edges depend on ends alone. Where an edge is parted at an end of another, its chain is those of its
-- parts, one behind the other, and all other chains stay the same
pub record KeepChains (points : List CountedEdge → LeadingPoints) : Type 0 where
  pub alike : (es fs : List CountedEdge) → IsForwardBy ends_of es → IsForwardBy ends_of fs → HaveSameEnds es fs →
      (e f : CountedEdge) → point_lt e.a e.b ≡ true → ends_of e ≡ ends_of f →
      chain_by (points es) e ≡ chain_by (points fs) f
  pub others : (part other : CountedEdge) (v : Point) (rest : List CountedEdge) →
      IsForwardBy ends_of (part ∷ other ∷ rest) → IsCutBy part other v →
      (g : CountedEdge) → point_lt g.a g.b ≡ true →
      chain_by (points (part ∷ other ∷ rest)) g
      ≡ chain_by (points (low_of part v ∷ high_of part v ∷ other ∷ rest)) g
  pub parts : (part other : CountedEdge) (v : Point) (rest : List CountedEdge) →
      IsForwardBy ends_of (part ∷ other ∷ rest) → IsCutBy part other v →
      chain_by (points (part ∷ other ∷ rest)) part
      ≡ chain_by (points (low_of part v ∷ high_of part v ∷ other ∷ rest)) (low_of part v)
      ++ chain_by (points (low_of part v ∷ high_of part v ∷ other ∷ rest)) (high_of part v)

-- with equal ends an edge has one chain
chain_of_ends : (points : List CountedEdge → LeadingPoints)
    (by_ends : (es : List CountedEdge) (e f : CountedEdge) → ends_of e ≡ ends_of f → points es e ≡ points es f)
    (es : List CountedEdge) (e f : CountedEdge) → ends_of e ≡ ends_of f →
    chain_by (points es) e ≡ chain_by (points es) f
chain_of_ends points by_ends es e f same =
    ap (λ vs. steps_through e.a (vs ++ e.b ∷ [])) (by_ends es e f same)
    ∙ ap (λ (g : Edge). steps_through g.a (points es f ++ g.b ∷ [])) same

module _ (part other : CountedEdge) (v : Point) (rest : List CountedEdge)
    (forward : IsForwardBy ends_of (part ∷ other ∷ rest)) (cut : IsCutBy part other v) where
  -- the lists
  abbrev old : List CountedEdge
  old = part ∷ other ∷ rest

  abbrev new : List CountedEdge
  new = low_of part v ∷ high_of part v ∷ other ∷ rest

  -- the edge passes v
  v_on : IsOn (ends_of part) (in_plane v)
  v_on = on_of_held (ends_of part) v (in_plane v) (part_forward part other v rest forward cut) (at_itself v)
      (held part other v rest forward cut)

  -- it is met there
  v_met : IsMet old (ends_of part) (in_plane v)
  v_met = met_there part other v rest forward cut (ends_of part) (in_plane v) (at_itself v) v_on

  -- v is hot, and hot points stay so
  hot_there : IsHotAt old v
  hot_there = (part, Contains-head part (other ∷ rest), in_plane v, v_met, nearest_itself v)

  pub hot_forth : (w : Point) → IsHotAt old w → IsHotAt new w
  hot_forth w (e, at, p, met, is) = ⊎_elim of_part of_others (Contains-cases part (other ∷ rest) e at)
    where
      of_part : part ≡ e → IsHotAt new w
      of_part same =
          let met_part : IsMet old (ends_of part) p =
          subst (λ (g : CountedEdge). IsMet old (ends_of g) p) (sym same) met in
          ⊎_elim
          (λ on. (
            low_of part v,
            Contains-head (low_of part v) (high_of part v ∷ other ∷ rest),
            p,
            low_met part other v rest forward cut p met_part on,
            is,
          ))
          (λ on. (
            high_of part v,
            Contains-later (low_of part v) (high_of part v ∷ other ∷ rest) (high_of part v)
                (Contains-head (high_of part v) (other ∷ rest)),
            p,
            high_met part other v rest forward cut p met_part on,
            is,
          ))
          (on_low_or_high part other v rest forward cut p met_part.2.common.0)

      of_others : Contains (other ∷ rest) e → IsHotAt new w
      of_others later = (
        e,
        Contains-later (low_of part v) (high_of part v ∷ other ∷ rest) e
            (Contains-later (high_of part v) (other ∷ rest) e later),
        p,
        met_forth part other v rest forward cut (ends_of e) p (old_leads part other v rest forward cut e at) met,
        is,
      )

  pub hot_back : (w : Point) → IsHotAt new w → IsHotAt old w
  hot_back w (e, at, p, met, is) = ⊎_elim
      (λ same. whole (met_of_low part other v rest forward cut p (moved (low_of part v) same)))
      (λ later. ⊎_elim
      (λ same. whole (met_of_high part other v rest forward cut p (moved (high_of part v) same)))
      of_others
      (Contains-cases (high_of part v) (other ∷ rest) e later))
      (Contains-cases (low_of part v) (high_of part v ∷ other ∷ rest) e at)
    where
      whole : IsMet old (ends_of part) p → IsHotAt old w
      whole met_part = (part, Contains-head part (other ∷ rest), p, met_part, is)

      moved : (g : CountedEdge) → g ≡ e → IsMet new (ends_of g) p
      moved g same = subst (λ (h : CountedEdge). IsMet new (ends_of h) p) (sym same) met

      of_others : Contains (other ∷ rest) e → IsHotAt old w
      of_others others = (
        e,
        Contains-later part (other ∷ rest) e others,
        p,
        met_back part other v rest forward cut (ends_of e) p (new_leads part other v rest forward cut e at) met,
        is,
      )

  -- ---- chains

  module _ (points : List CountedEdge → LeadingPoints) (IsLed : List CountedEdge → Edge → PlanePoint → Type 0)
      (lead : LeadBy points IsLed) where
    -- an edge keeps its chain where both lists lead it alike
    kept_chain : ((g : Edge) (p : PlanePoint) → IsBefore g.a g.b → IsLed old g p → IsLed new g p) →
        ((g : Edge) (p : PlanePoint) → IsBefore g.a g.b → IsLed new g p → IsLed old g p) →
        (g : CountedEdge) → point_lt g.a g.b ≡ true → chain_by (points old) g ≡ chain_by (points new) g
    kept_chain forth back g g_forward =
        let before = (Decides-point_lt g.a g.b).0 g_forward in
        same_led points IsLed lead old new forward (new_forward part other v rest forward cut) g before
        (λ p on led. forth (ends_of g) p before led) (λ p on led. back (ends_of g) p before led)

    low_along : IsAlong (ends_of part) (ends_of (low_of part v))
    low_along = (
      (holds_start (ends_of part) (part_forward part other v rest forward cut)).on_line,
      (held part other v rest forward cut).on_line,
    )

    high_along : IsAlong (ends_of part) (ends_of (high_of part v))
    high_along = (
      (held part other v rest forward cut).on_line,
      (holds_end (ends_of part) (part_forward part other v rest forward cut)).on_line,
    )

    -- the parts have the chain of the edge
    chain_of_parts : IsLed old (ends_of part) (in_plane v) →
        ((p : PlanePoint) → IsLed old (ends_of part) p → IsOn (ends_of (low_of part v)) p →
        IsLed new (ends_of (low_of part v)) p) →
        ((p : PlanePoint) → IsLed old (ends_of part) p → IsOn (ends_of (high_of part v)) p →
        IsLed new (ends_of (high_of part v)) p) →
        ((p : PlanePoint) → IsLed new (ends_of (low_of part v)) p → IsLed old (ends_of part) p) →
        ((p : PlanePoint) → IsLed new (ends_of (high_of part v)) p → IsLed old (ends_of part) p) →
        chain_by (points old) part
        ≡ chain_by (points new) (low_of part v) ++ chain_by (points new) (high_of part v)
    chain_of_parts led = parted_chain points IsLed lead old new forward (new_forward part other v rest forward cut) part
        v (part_forward part other v rest forward cut) (low_forward part other v rest forward cut)
        (high_forward part other v rest forward cut) low_along high_along
        (low_within part other v rest forward cut) (high_within part other v rest forward cut)
        (on_low_or_high part other v rest forward cut) (v_on, led)

-- ---- both rules

module _ (points : List CountedEdge → LeadingPoints) (IsLed : List CountedEdge → Edge → PlanePoint → Type 0)
    (lead : LeadBy points IsLed)
    (alike : (es fs : List CountedEdge) →
    ((e : CountedEdge) → Contains es e → (f : CountedEdge) × Contains fs f × (ends_of e ≡ ends_of f)) →
    (g : Edge) (p : PlanePoint) → IsLed es g p → IsLed fs g p) where
  -- chains depend on ends alone
  alike_by_ends : (es fs : List CountedEdge) → IsForwardBy ends_of es → IsForwardBy ends_of fs →
      HaveSameEnds es fs → (e f : CountedEdge) → point_lt e.a e.b ≡ true → ends_of e ≡ ends_of f →
      chain_by (points es) e ≡ chain_by (points fs) f
  alike_by_ends es fs es_forward fs_forward ends e f forward same =
      same_led points IsLed lead es fs es_forward fs_forward e ((Decides-point_lt e.a e.b).0 forward)
      (λ p on led. alike es fs ends.forth (ends_of e) p led)
      (λ p on led. alike fs es ends.back (ends_of e) p led)
      ∙ chain_of_ends points lead.by_ends fs e f same

-- cutting rounds keep chains
pub cuts_keep : KeepChains cut_points
cuts_keep = record {
  alike = alike_by_ends cut_points IsMet cuts_lead met_alike;
  others = λ part other v rest forward cut. kept_chain part other v rest forward cut cut_points IsMet cuts_lead
      (met_forth part other v rest forward cut) (met_back part other v rest forward cut);
  parts = λ part other v rest forward cut. chain_of_parts part other v rest forward cut cut_points IsMet cuts_lead
      (v_met part other v rest forward cut) (low_met part other v rest forward cut)
      (high_met part other v rest forward cut) (met_of_low part other v rest forward cut)
      (met_of_high part other v rest forward cut);
}

-- snap rounding does too
pub snaps_keep : KeepChains snap_points
snaps_keep = record {
  alike = alike_by_ends snap_points RoundsToHot snaps_lead (λ es fs forth g p. hot_alike es fs forth (nearest_point p));
  others = λ part other v rest forward cut. kept_chain part other v rest forward cut snap_points RoundsToHot snaps_lead
      (λ g p before. hot_forth part other v rest forward cut (nearest_point p))
      (λ g p before. hot_back part other v rest forward cut (nearest_point p));
  parts = λ part other v rest forward cut. chain_of_parts part other v rest forward cut snap_points RoundsToHot
      snaps_lead
      (subst (IsHotAt (part ∷ other ∷ rest)) (sym (nearest_itself v)) (hot_there part other v rest forward cut))
      (λ p hot on. hot_forth part other v rest forward cut (nearest_point p) hot)
      (λ p hot on. hot_forth part other v rest forward cut (nearest_point p) hot)
      (λ p hot. hot_back part other v rest forward cut (nearest_point p) hot)
      (λ p hot. hot_back part other v rest forward cut (nearest_point p) hot);
}
