-- A cutting round of edges that meet in whole points alone: it moves no point, and leads each edge through its meeting
-- points in order.
use Rattle.std.proofs.Common.{◌≡◌, inl, inr, true, false, List, [], ◌∷◌, ◌++◌, Contains, sym, ap, ◌∙◌, subst, get_or}
use Rattle.std.specs.List.{All}
use Rattle.std.proofs.lemmas.Bool.{both_ways}
use Rattle.std.proofs.lemmas.List.Elements.{All-contains, Contains-get_or, Contains-append_left, Contains-push_cases}
use Rattle.overlay_geom.specs.Plane.{Point, PlanePoint, Edge, IsAt, SamePlace, edge_eq, point_lt}
use Rattle.overlay_geom.specs.Edges.{CountedEdge, ends_of, counts_nothing}
use Rattle.overlay_geom.specs.Merged.{IsMerged, joined_edge}
use Rattle.overlay_geom.specs.Rounding.{IsRounding}
use Rattle.overlay_geom.proofs.Between.{find_between}
use Rattle.overlay_geom.proofs.Merging.{joined_none}
use Rattle.overlay_geom.proofs.Orders.{edge_eq-same}
use Rattle.overlay_geom.proofs.PointOrder.{IsBefore, IsUpTo, before_up_to}
use Rattle.overlay_geom.proofs.OneLine.{IsHeldBy, holds_start, holds_end}
use Rattle.overlay_plane.specs.EdgeLists.{IsForwardBy}
use Rattle.overlay_plane.specs.Meetings.{IsMeetingPoint, MeetsAnother, MeetInWholePoints}
use Rattle.overlay_plane.specs.Rounds.{Round, IsRound, IsCutAt, IsSmaller, MovesNone, whole_cuts}
use Rattle.overlay_plane.proofs.Entries.{Contains-map, Contains-from_map, Contains-from_any}
use Rattle.overlay_plane.proofs.LaterEntries.{Contains-cases, Each, Each-from_all_pairs, Each-map, Each-between_ends}
use Rattle.overlay_plane.proofs.Totals.{Contains-later}
use Rattle.overlay_plane.proofs.WholeOnEdges.{held_of_on, forward_from_test}
use Rattle.overlay_plane.proofs.WholePlaces.{before_of_smaller, rounded_whole}

-- ---- merged lists

-- each edge of a merged list has the ends of one of those that were merged
pub ends_of_merged : (old new : List CountedEdge) → IsMerged old new → (e : CountedEdge) → Contains new e →
    (f : CountedEdge) × Contains old f × (ends_of f ≡ ends_of e)
ends_of_merged old new merged e has =
    elim (find_between old (ends_of e)) [
      | inl none ↦ absurd (both_ways (counts_nothing e) joined.1 (ap counts_nothing joined.0
          ∙ joined_none old (ends_of e) none))
      | inr found ↦ found
    ]
  where
    joined : (e ≡ joined_edge old (ends_of e)) × (counts_nothing e ≡ false)
    joined = All-contains (λ e. (e ≡ joined_edge old (ends_of e)) × (counts_nothing e ≡ false)) new e merged.joined has

-- a merged list of forward edges is one
pub forward_merged : (old new : List CountedEdge) → IsMerged old new → IsForwardBy ends_of old → IsForwardBy ends_of new
forward_merged old new merged forward = λ k d l.
    let found = ends_of_merged old new merged (get_or new k d) (Contains-get_or new k d l) in
    subst (λ (e : Edge). point_lt e.a e.b ≡ true) found.2
    (All-contains (λ e. point_lt e.a e.b ≡ true) old found.0 forward found.1)

-- merged edges meet only where those do that were merged
pub whole_meetings_merged : (old new : List CountedEdge) → IsMerged old new → MeetInWholePoints old →
    MeetInWholePoints new
whole_meetings_merged old new merged whole e f p has_e has_f meeting =
    let from_e = ends_of_merged old new merged e has_e in
    let from_f = ends_of_merged old new merged f has_f in
    whole from_e.0 from_f.0 p from_e.1 from_f.1 (subst (λ g. IsMeetingPoint g (ends_of from_f.0) p) (sym from_e.2)
    (subst (λ g. IsMeetingPoint (ends_of e) g p) (sym from_f.2) meeting))

-- edges of a merged list with the same ends are equal
pub same_merged : (old new : List CountedEdge) → IsMerged old new → (e f : CountedEdge) → Contains new e →
    Contains new f →
    edge_eq (ends_of e) (ends_of f) ≡ true → e ≡ f
same_merged old new merged e f has_e has_f same = joined e has_e
    ∙ ap (joined_edge old) (edge_eq-same (ends_of e) (ends_of f) same) ∙ sym (joined f has_f)
  where
    joined : (g : CountedEdge) → Contains new g → g ≡ joined_edge old (ends_of g)
    joined g has = (All-contains (λ g. (g ≡ joined_edge old (ends_of g)) × (counts_nothing g ≡ false)) new g
        merged.joined has).0

-- ---- the round

-- the round cuts forward edges, no two with the same ends, which meet in whole points alone
pub record CutsWhole (r : Round) : Type 0 where
  pub forward : IsForwardBy ends_of r.edges
  pub whole : MeetInWholePoints r.edges
  pub alone : (e f : CountedEdge) → Contains r.edges e → Contains r.edges f → edge_eq (ends_of e) (ends_of f) ≡ true →
      e ≡ f
  pub cut : All (λ e. IsCutAt r.edges e (r.cuts e)) r.edges
  pub rounding : IsRounding r.whole_at

-- a round of such edges does so
pub cuts_whole : (old : List CountedEdge) (r : Round) → IsForwardBy ends_of old → MeetInWholePoints old →
    IsRound old r → CutsWhole r
cuts_whole old r forward whole round = record {
  forward = forward_merged old r.edges round.merged forward;
  whole = whole_meetings_merged old r.edges round.merged whole;
  alone = same_merged old r.edges round.merged;
  cut = round.cut;
  rounding = round.rounding;
}

-- the points at which a round lets the chain of an edge stop
abbrev pub stops : Round → CountedEdge → List Point
stops r e = e.a ∷ (whole_cuts r e ++ e.b ∷ [])

module _ (r : Round) (h : CutsWhole r) where
  -- each edge is cut where others meet it
  is_cut_at : (e : CountedEdge) → Contains r.edges e → IsCutAt r.edges e (r.cuts e)
  is_cut_at e has = All-contains (λ e. IsCutAt r.edges e (r.cuts e)) r.edges e h.cut has

  -- the edge leads from its smaller end to its larger
  pub goes_forward : (e : CountedEdge) → Contains r.edges e → IsBefore e.a e.b
  goes_forward e has = forward_from_test (ends_of e)
      (All-contains (λ e. point_lt e.a e.b ≡ true) r.edges e h.forward has)

  -- the whole point that the round takes for a meeting point is there
  pub meeting_whole : (e : CountedEdge) (p : PlanePoint) → Contains r.edges e → MeetsAnother r.edges e p →
      IsAt (r.whole_at p) p
  meeting_whole e p has meets =
      let at = h.whole e meets.0 p has meets.1 meets.3 in
      subst (λ v. IsAt v p) (sym (rounded_whole r.whole_at at.0 p h.rounding at.1)) at.1

  -- this holds for each cut
  cut_whole : (e : CountedEdge) (p : PlanePoint) → Contains r.edges e → Contains (r.cuts e) p → IsAt (r.whole_at p) p
  cut_whole e p has has_p = meeting_whole e p has
      (All-contains (MeetsAnother r.edges e) (r.cuts e) p (is_cut_at e has).only has_p)

  -- the round moves no point
  pub moves_none : MovesNone r
  moves_none = λ k d l. λ j c m. cut_whole (get_or r.edges k d) (get_or (r.cuts (get_or r.edges k d)) j c)
      (Contains-get_or r.edges k d l)
      (Contains-get_or (r.cuts (get_or r.edges k d)) j c m)

  -- each whole point through which an edge is led is at a point in which another edge meets it
  pub whole_cut_meets : (e : CountedEdge) (v : Point) → Contains r.edges e → Contains (whole_cuts r e) v →
      (p : PlanePoint) × MeetsAnother r.edges e p × IsAt v p
  whole_cut_meets e v has has_v =
      let found = Contains-from_map r.whole_at (r.cuts e) v has_v in
      let p : PlanePoint = found.0 in (
        p,
        All-contains (MeetsAnother r.edges e) (r.cuts e) p (is_cut_at e has).only found.1,
        subst (λ w. IsAt w p) found.2 (cut_whole e p has found.1),
      )

  -- each whole point at such a point is one of them
  pub meeting_cut : (e : CountedEdge) (p : PlanePoint) (v : Point) → Contains r.edges e → MeetsAnother r.edges e p →
      IsAt v p → Contains (whole_cuts r e) v
  meeting_cut e p v has meets at =
      let some = Contains-from_any (SamePlace p) (r.cuts e) ((is_cut_at e has).every p meets) in
      subst (Contains (whole_cuts r e)) (sym (h.rounding.one p some.0 some.2)
      ∙ rounded_whole r.whole_at v p h.rounding at)
      (Contains-map r.whole_at (r.cuts e) some.0 some.1)

  -- each point at which a chain stops is an end of the edge, or one of them
  pub stop_cases : {P : Type 0} (e : CountedEdge) (v : Point) → Contains (stops r e) v → (e.a ≡ v → P) → (e.b ≡ v → P) →
      (Contains (whole_cuts r e) v → P) → P
  stop_cases e v has at_a at_b at_cut =
      elim (Contains-cases e.a (whole_cuts r e ++ e.b ∷ []) v has) [
        | inl is ↦ at_a is
        | inr later ↦ elim (Contains-push_cases (whole_cuts r e) e.b v later) [
          | inl cut ↦ at_cut cut
          | inr is ↦ at_b is
        ]
      ]

  -- a cut is a stop
  pub stop_at_cut : (e : CountedEdge) (v : Point) → Contains (whole_cuts r e) v → Contains (stops r e) v
  stop_at_cut e v has = Contains-later e.a (whole_cuts r e ++ e.b ∷ []) v
      (Contains-append_left (whole_cuts r e) (e.b ∷ []) v has)

  -- a cut lies on its edge
  pub cut_held : (e : CountedEdge) (v : Point) → Contains r.edges e → Contains (whole_cuts r e) v →
      IsHeldBy (ends_of e) v
  cut_held e v has has_v = let meets = whole_cut_meets e v has has_v in
      held_of_on (ends_of e) v meets.0 (goes_forward e has) meets.2 meets.1.3.common.0

  -- each stop is so too
  pub stop_held : (e : CountedEdge) (v : Point) → Contains r.edges e → Contains (stops r e) v → IsHeldBy (ends_of e) v
  stop_held e v has has_v =
      stop_cases e v has_v
      (λ is. subst (IsHeldBy (ends_of e)) is (holds_start (ends_of e) (goes_forward e has)))
      (λ is. subst (IsHeldBy (ends_of e)) is (holds_end (ends_of e) (goes_forward e has)))
      (cut_held e v has)

  -- the stops are in order
  pub stops_rise : (e : CountedEdge) → Contains r.edges e → Each IsUpTo (stops r e)
  stops_rise e has =
      Each-between_ends IsUpTo e.a e.b (whole_cuts r e) (before_up_to e.a e.b (goes_forward e has))
      (λ v has_v. ((cut_held e v has has_v).from, (cut_held e v has has_v).to)) cuts_rise
    where
      cuts_rise : Each IsUpTo (whole_cuts r e)
      cuts_rise =
          Each-map IsSmaller IsUpTo r.whole_at (r.cuts e)
          (λ p q has_p has_q smaller. before_up_to (r.whole_at p) (r.whole_at q)
          (before_of_smaller (r.whole_at p) (r.whole_at q) p q (cut_whole e p has has_p)
          (cut_whole e q has has_q) smaller))
          (Each-from_all_pairs IsSmaller (r.cuts e) (is_cut_at e has).ascending)
