-- The points in which the other edges of a list meet an edge, in ascending order, each once.
use Rattle.std.proofs.Common.{◌≡◌, Bool, true, false, List, [], Contains, refl, subst}
use Rattle.std.specs.List.{Any, flat_map}
use Rattle.std.proofs.lemmas.Bool.{both_ways}
use Rattle.std.proofs.lemmas.List.Elements.{All-contains}
use Rattle.overlay_geom.specs.Plane.{PlanePoint, Edge, point_lt, edge_eq, SamePlace, IsOn}
use Rattle.overlay_geom.specs.Edges.{CountedEdge, ends_of}
use Rattle.overlay_plane.specs.CutPoints.{met_at}
use Rattle.overlay_plane.specs.EdgeLists.{IsForwardBy}
use Rattle.overlay_plane.specs.Meetings.{IsMeetingPoint, MeetsAnother}
use Rattle.overlay_plane.specs.Rounds.{IsSmaller, IsCutAt}
use Rattle.overlay_plane.proofs.Entries.{all_of_entries, any_of_entry, Contains-from_any, Contains-flat_map}
use Rattle.overlay_plane.proofs.Entries.{Contains-from_flat_map}
use Rattle.overlay_plane.proofs.LaterEntries.{Each, Each-weaker, AllPairs-from_each}
use Rattle.overlay_plane.proofs.EachOnce.{each_once, once_entry, once_each, IsLower, once_ascends}
use Rattle.overlay_plane.proofs.MeetingLists.{AreMeetings, AreNearest}
use Rattle.overlay_plane.proofs.MeetingsOf.{meetings_of}
use Rattle.overlay_plane.proofs.SmallerPoints.{is_smaller, Decides-is_smaller, smaller-irreflexive, smaller-transitive}
use Rattle.overlay_plane.proofs.SmallerPoints.{same_place-from_tie, same_place-trans}
use Rattle.overlay_plane.proofs.WholeOnEdges.{forward_from_test}

-- ---- the points of two edges

-- both edges lead from their smaller ends to their larger, and they are not one edge
pub record AreTwoForward (e f : Edge) : Type 0 where
  pub forward : point_lt e.a e.b ≡ true
  pub also : point_lt f.a f.b ≡ true
  pub differ : edge_eq e f ≡ false

-- the points in which two different forward edges meet, and none for an edge and itself
pub record PairPoints (e f : Edge) : Type 0 where
  pub points : List PlanePoint
  pub meetings : AreTwoForward e f → AreMeetings e f points
  pub nearest : AreTwoForward e f → AreNearest e points (met_at e f)
  pub none_alone : edge_eq e f ≡ true → points ≡ []

-- for other edges the list is empty
no_points : (e f : Edge) → ¬ (AreTwoForward e f) → PairPoints e f
no_points e f not_two = record {
  points = [];
  meetings = λ two. absurd (not_two two);
  nearest = λ two. absurd (not_two two);
  none_alone = λ same. refl;
}

-- any two edges have such a list
pub pair_points : (e f : Edge) → PairPoints e f
pair_points e f = by (point_lt e.a e.b) (point_lt f.a f.b) (edge_eq e f) refl refl refl
  where
    by : (r s t : Bool) → point_lt e.a e.b ≡ r → point_lt f.a f.b ≡ s → edge_eq e f ≡ t → PairPoints e f
    by false s t back other same = no_points e f (λ two. both_ways (point_lt e.a e.b) back two.forward)
    by true false t forward back same = no_points e f (λ two. both_ways (point_lt f.a f.b) back two.also)
    by true true true forward also same = no_points e f (λ two. both_ways (edge_eq e f) two.differ same)
    by true true false forward also differ =
        let found = meetings_of e f (forward_from_test e forward) (forward_from_test f also) in
        record {
          points = found.0;
          meetings = λ two. found.1;
          nearest = λ two. found.2;
          none_alone = λ same. absurd (both_ways (edge_eq e f) differ same);
        }

-- two edges that have a point are different
pub differs : (e f : Edge) (p : PlanePoint) → Contains (pair_points e f).points p → edge_eq e f ≡ false
differs e f p at_p = by (edge_eq e f) refl
  where
    by : (t : Bool) → edge_eq e f ≡ t → edge_eq e f ≡ false
    by true same = absurd (elim (subst (λ ps. Contains ps p) ((pair_points e f).none_alone same) at_p).1 [ ])
    by false differ = differ

-- ---- the points of an edge and a list

-- the points in which e and f meet
abbrev pub points_between : CountedEdge → CountedEdge → List PlanePoint
points_between e f = (pair_points (ends_of e) (ends_of f)).points

-- those of e and each edge of the list
abbrev pub all_meetings : List CountedEdge → CountedEdge → List PlanePoint
all_meetings es e = flat_map (points_between e) es

-- the points in ascending order, each once: the cuts
abbrev pub cuts_of : List CountedEdge → CountedEdge → List PlanePoint
cuts_of es e = each_once is_smaller (all_meetings es e)

-- the cuts are ascending
pub cuts_ascend : (es : List CountedEdge) (e : CountedEdge) → Each IsSmaller (cuts_of es e)
cuts_ascend es e = Each-weaker (IsLower is_smaller) IsSmaller (cuts_of es e)
    (λ p q at_p at_q lower. (Decides-is_smaller p q).0 lower)
    (once_ascends is_smaller smaller-transitive (all_meetings es e))

-- each point in which e meets an edge of the list is at the place of a cut
pub cut_at : (es : List CountedEdge) (e f : CountedEdge) (p : PlanePoint) → Contains es f →
    Contains (points_between e f) p →
    (q : PlanePoint) × Contains (cuts_of es e) q × SamePlace p q
cut_at es e f p at_f at_p =
    let kept = once_each is_smaller smaller-irreflexive (all_meetings es e) p
    (Contains-flat_map (points_between e) es f p at_f at_p) in
    (kept.0, kept.1, same_place-from_tie p kept.0 kept.2.0 kept.2.1)

-- each cut is a point in which e meets an edge of the list
pub cut_from : (es : List CountedEdge) (e : CountedEdge) (p : PlanePoint) → Contains (cuts_of es e) p →
    (f : CountedEdge) × Contains es f × Contains (points_between e f) p
cut_from es e p at_p = Contains-from_flat_map (points_between e) es p (once_entry is_smaller (all_meetings es e) p at_p)

module _ (es : List CountedEdge) (forward : IsForwardBy ends_of es) (e : CountedEdge) (at_e : Contains es e) where
  -- each edge of the list leads forward
  pub leads_forward : (f : CountedEdge) → Contains es f → point_lt f.a f.b ≡ true
  leads_forward f at_f = All-contains (λ g. point_lt g.a g.b ≡ true) es f forward at_f

  -- e and each different edge of the list are two forward edges
  pub two_forward : (f : CountedEdge) → Contains es f → edge_eq (ends_of e) (ends_of f) ≡ false →
      AreTwoForward (ends_of e) (ends_of f)
  two_forward f at_f differ = record { forward = leads_forward e at_e; also = leads_forward f at_f; differ = differ }

  -- in each cut another edge meets e
  pub cut_meets : (p : PlanePoint) → Contains (cuts_of es e) p → MeetsAnother es e p
  cut_meets p at_p =
      let from = cut_from es e p at_p in
      let differ = differs (ends_of e) (ends_of from.0) p from.2 in
      let meetings = (pair_points (ends_of e) (ends_of from.0)).meetings (two_forward from.0 from.1 differ) in (
        from.0,
        from.1,
        differ,
        All-contains (IsMeetingPoint (ends_of e) (ends_of from.0)) (points_between e from.0) p
            meetings.only from.2,
      )

  -- each cut is on e
  pub cut_on : (p : PlanePoint) → Contains (cuts_of es e) p → IsOn (ends_of e) p
  cut_on p at_p = (cut_meets p at_p).3.common.0

  -- the cuts are the points in which other edges meet e
  pub is_cut_at : IsCutAt es e (cuts_of es e)
  is_cut_at = record {
    ascending = AllPairs-from_each IsSmaller (cuts_of es e) (cuts_ascend es e);
    only = all_of_entries (MeetsAnother es e) (cuts_of es e) cut_meets;
    every = every;
  }
    where
      every : (p : PlanePoint) → MeetsAnother es e p → Any (SamePlace p) (cuts_of es e)
      every p (f, at_f, differ, meets) =
          let meetings = (pair_points (ends_of e) (ends_of f)).meetings (two_forward f at_f differ) in
          let met = Contains-from_any (SamePlace p) (points_between e f) (meetings.every p meets) in
          let cut = cut_at es e f met.0 at_f met.1 in
          any_of_entry (SamePlace p) (cuts_of es e) cut.0 cut.1 (same_place-trans p met.0 cut.0 met.2 cut.2)
