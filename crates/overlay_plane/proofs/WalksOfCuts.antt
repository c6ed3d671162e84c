-- A walk that selected steps are cut into: the orbit of its start in the steps that earlier walks left, along edges of
-- the list, along each once.
use Rattle.std.proofs.Common.{◌≡◌, ⊎_elim, Bool, true, false, cond, ℤ, List, [], take, Contains, sym, ap, ◌∙◌, subst}
use Rattle.std.proofs.lemmas.Bool.{both_ways, false_from_ne_true}
use Rattle.std.proofs.lemmas.List.{get_or_default}
use Rattle.std.proofs.lemmas.List.Elements.{All-contains}
use Rattle.overlay_geom.specs.Plane.{Step, Edge, edge_of, edge_eq, step_eq, point_lt}
use Rattle.overlay_geom.specs.Edges.{CountedEdge, ends_of}
use Rattle.overlay_geom.specs.Settled.{MeetInEnds, IsSettledBy}
use Rattle.overlay_geom.proofs.Orders.{edge_eq-same}
use Rattle.overlay_plane.specs.Turn.{Hand, step_round, is_left_hand}
use Rattle.overlay_plane.specs.Alternates.{Alternates}
use Rattle.overlay_plane.specs.Regions.{IsRuled, holds_above, holds_below}
use Rattle.overlay_plane.specs.SelectedSteps.{selected_steps}
use Rattle.overlay_plane.specs.BesideOrbits.{WalksAlong, HasEachOnce}
use Rattle.overlay_plane.specs.Contours.{without, all_steps, outline_or_hole_hand, IsCutInto, IsFirstWalk, IsContour}
use Rattle.overlay_plane.specs.Anchors.{HasEachEdgeOnce}
use Rattle.overlay_plane.proofs.AtNodes.{equal_steps, no_way_back}
use Rattle.overlay_plane.proofs.BesideAcross.{one_of_two}
use Rattle.overlay_plane.proofs.ClosedWalks.{orbits_are_contours}
use Rattle.overlay_plane.proofs.CutWalks.{left_parts, cuts_are_orbits}
use Rattle.overlay_plane.proofs.CutWindings.{selected_alternate}
use Rattle.overlay_plane.proofs.LaterEntries.{Each-from_all_pairs, Each-weaker, AllPairs-from_each}
use Rattle.overlay_plane.proofs.NextSteps.{alternating_steps_lead_on}
use Rattle.overlay_plane.proofs.OrbitSteps.{orbits_are_cycles}
use Rattle.overlay_plane.proofs.SelectedLists.{selected_steps_of_edges}
use Rattle.overlay_plane.proofs.SelectedWindings.{along_edge}
use Rattle.overlay_plane.proofs.ShuffledSteps.{Differ}

-- ---- edges of a list

-- the edge is that of an entry
pub record IsEdgeOf (es : List CountedEdge) (g : Edge) : Type 0 where
  pub entry : CountedEdge
  pub among : Contains es entry
  pub ends : g ≡ ends_of entry

-- in a list whose edges lead forward it leads forward
pub edge_forward : (holds : ℤ → ℤ → Bool) (subj clip : CountedEdge → ℤ) (es : List CountedEdge) →
    IsRuled holds subj clip es → (g : Edge) → IsEdgeOf es g →
    point_lt g.a g.b ≡ true
edge_forward holds subj clip es ruled g h =
    ap (λ f. point_lt f.a f.b) h.ends ∙ All-contains (λ e. point_lt e.a e.b ≡ true) es h.entry ruled.planar.forward
    h.among

-- in a settled list two different such edges meet in ends alone
pub edges_meet : (es : List CountedEdge) → IsSettledBy ends_of es → (g h : Edge) → IsEdgeOf es g → IsEdgeOf es h →
    edge_eq g h ≡ false → MeetInEnds g h
edges_meet es settled g h of_g of_h apart =
    subst (λ (k : Edge). MeetInEnds k h) (sym of_g.ends) (subst (λ (k : Edge). MeetInEnds (ends_of of_g.entry) k)
    (sym of_h.ends)
    (settled of_g.entry of_h.entry of_g.among of_h.among
    (ap (λ k. edge_eq k (ends_of of_h.entry)) (sym of_g.ends) ∙ ap (λ k. edge_eq g k) (sym of_h.ends) ∙ apart)))

-- ---- walks

-- the walk is the first of steps that walk along edges of the list; it is a contour along different edges that meet in
-- ends alone
pub record IsWalkOfCut (es : List CountedEdge) (hand_of : Step → Hand) (steps walk : List Step) : Type 0 where
  pub remaining : List Step
  pub inside : (s : Step) → Contains remaining s → Contains steps s
  pub first : IsFirstWalk hand_of remaining walk
  pub along : WalksAlong es remaining
  pub within : (s : Step) → Contains walk s → Contains remaining s
  pub contour : IsContour walk
  pub each_edge_once : HasEachEdgeOnce walk
  pub settled : IsSettledBy edge_of walk

-- steps of a set that alternates, each once, have different edges
pub different_edges : (steps : List Step) → Alternates steps → (walk : List Step) →
    ((s : Step) → Contains walk s → Contains steps s) → HasEachOnce walk →
    HasEachEdgeOnce walk
different_edges steps alternates walk inside once =
    AllPairs-from_each (λ s t. edge_eq (edge_of s) (edge_of t) ≡ false) walk
    (Each-weaker Differ (λ s t. edge_eq (edge_of s) (edge_of t) ≡ false) walk apart
    (Each-from_all_pairs Differ walk once))
  where
    apart : (s t : Step) → Contains walk s → Contains walk t → Differ s t → edge_eq (edge_of s) (edge_of t) ≡ false
    apart s t at_s at_t differ = false_from_ne_true (edge_eq (edge_of s) (edge_of t)) (λ same. ⊎_elim
        (λ one. both_ways (step_eq s t) differ (equal_steps s t one))
        (λ back. no_way_back steps alternates s t (inside s at_s) (inside t at_t) (ap (λ u. u.from) back)
        (ap (λ u. u.to) back))
        (one_of_two s t (edge_eq-same (edge_of s) (edge_of t) same)))

-- a step along an edge of the list has such an edge
pub edge_of_step : (es : List CountedEdge) (steps : List Step) → WalksAlong es steps → (s : Step) → Contains steps s →
    IsEdgeOf es (edge_of s)
edge_of_step es steps along s c = let own = along.along s c in record { entry = own.0; among = own.1; ends = own.2 }

module _ (holds : ℤ → ℤ → Bool) (subj clip : CountedEdge → ℤ) (es : List CountedEdge) (filled : Hand)
    (ruled : IsRuled holds subj clip es) where
  -- selected steps walk along edges of the list
  pub selected_along : WalksAlong es (selected_steps holds subj clip filled es)
  selected_along = record {
    planar = ruled.planar;
    along = λ s c. let own = (selected_steps_of_edges holds subj clip filled es).selected s c in (
      own.0,
      own.1.entry,
      ap edge_of own.1.walks
          ∙ along_edge (ends_of own.0) (All-contains (λ e. point_lt e.a e.b ≡ true) es own.0 ruled.planar.forward
          own.1.entry)
          (cond (is_left_hand filled) (holds_above holds subj clip es own.0) (holds_below holds subj clip es own.0)),
    );
  }

  module _ (walks : List (List Step))
      (cut : IsCutInto (outline_or_hole_hand filled) (selected_steps holds subj clip filled es) walks) where
    -- each walk is such a walk
    pub walk_of_a_cut : (walk : List Step) → Contains walks walk →
        IsWalkOfCut es (outline_or_hole_hand filled) (selected_steps holds subj clip filled es) walk
    walk_of_a_cut walk at = record {
      remaining = remaining;
      inside = inside;
      first = first;
      along = along;
      within = within;
      contour = contour;
      each_edge_once = different_edges remaining first.alternate walk within contour.once;
      settled = λ s t at_s at_t apart. edges_meet es ruled.planar.settled (edge_of s) (edge_of t)
          (edge_of_step es remaining along s (within s at_s)) (edge_of_step es remaining along t (within t at_t)) apart;
    }
      where
        steps : List Step
        steps = selected_steps holds subj clip filled es

        remaining : List Step
        remaining = without steps (all_steps (take at.0 walks))

        inside : (s : Step) → Contains remaining s → Contains steps s
        inside s c = (left_parts steps (all_steps (take at.0 walks)) s c).0

        first : IsFirstWalk (outline_or_hole_hand filled) remaining walk
        first = subst (λ w. IsFirstWalk (outline_or_hole_hand filled) remaining w)
            (get_or_default walks at.0 [] walk at.1 ∙ at.2)
            (cuts_are_orbits (outline_or_hole_hand filled) steps (selected_alternate holds subj clip es ruled filled)
            walks cut at.0 at.1)

        along : WalksAlong es remaining
        along = record {
          planar = ruled.planar;
          along = λ s c. selected_along.along s (inside s c);
        }

        within : (s : Step) → Contains walk s → Contains remaining s
        within s c = All-contains (Contains remaining) walk s
            (orbits_are_cycles remaining (outline_or_hole_hand filled (step_round walk 0))
            (alternating_steps_lead_on remaining first.alternate (outline_or_hole_hand filled (step_round walk 0)))
            walk first.orbit).inside c

        contour : IsContour walk
        contour = orbits_are_contours remaining first.alternate (outline_or_hole_hand filled (step_round walk 0))
            walk first.orbit
