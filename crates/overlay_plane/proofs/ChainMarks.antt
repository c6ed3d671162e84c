-- The chains of the added edges make the marks of the arrangement: no round changes which marks their steps are given
-- along an edge.
use Rattle.std.proofs.Common.{◌≡◌, ◌↔◌, ⊎_elim, Bool, true, false, List, [], ◌∷◌, Contains, sym, ap, ◌∙◌, subst}
use Rattle.std.specs.List.{All, Any}
use Rattle.std.specs.Prelude.{flat_map}
use Rattle.std.proofs.lemmas.Bool.{both_ways}
use Rattle.std.proofs.lemmas.List.Elements.{All-contains, All-contains_itself, All-weaker}
use Rattle.overlay_geom.specs.Plane.{Step, point_lt, edge_of, is_forward}
use Rattle.overlay_geom.specs.Edges.{CountedEdge, ends_of}
use Rattle.overlay_geom.specs.Merged.{IsMerged}
use Rattle.overlay_plane.specs.ChainLinks.{ChainLink, links_after, links_through, step_of, step_along, chain_through}
use Rattle.overlay_plane.specs.ChainLinks.{IsMarkedBy, marks_along, marks_against}
use Rattle.overlay_plane.specs.ChainLinks.ChainLink.{held, dropped}
use Rattle.overlay_plane.specs.EdgeLists.{IsForwardBy}
use Rattle.overlay_plane.specs.MarkedChains.{IsMarkedStep, MarkedChainsStay}
use Rattle.overlay_plane.specs.RoundLists.{AreEachRounds}
use Rattle.overlay_plane.specs.Rounds.{Round, pieces_of, after_rounds}
use Rattle.overlay_plane.proofs.AnyRounds.{IsAnyRound, any_rounds}
use Rattle.overlay_plane.proofs.EdgeMarks.{mark, marks, along_edge, HasMarked, merged_marked, marked_merged}
use Rattle.overlay_plane.proofs.EdgeMarks.{marked_held, marks-along, marks-against}
use Rattle.overlay_plane.proofs.EdgesOfSteps.{edge_by}
use Rattle.overlay_plane.proofs.Entries.{Contains-map, Contains-from_map, Contains-from_any, any_of_entry}
use Rattle.overlay_plane.proofs.MarkedLinks.{MakeMarks, make_after, only_entry, not_both, along_edge-back}
use Rattle.overlay_plane.proofs.Totals.{Contains-head}

module _ (old : List CountedEdge) where
  -- the links of the chains make the marks after all rounds
  make_in_rounds : (es : List CountedEdge) (rs : List Round) → AreEachRounds IsAnyRound es rs →
      (links : CountedEdge → List ChainLink) → MakeMarks old links es →
      MakeMarks old (λ e. links_through rs (links e)) (after_rounds es rs)
  make_in_rounds es [] rounds links make = make
  make_in_rounds es (r ∷ rs) rounds links make =
      make_in_rounds (pieces_of r) rs rounds.1 (λ e. flat_map (links_after r) (links e))
      (make_after old es r rounds.0.merged links make)

  -- at first each edge is its own chain
  abbrev own_chain : CountedEdge → List ChainLink
  own_chain e = held (step_along e) ∷ []

  -- an edge gives its step its own mark
  own_mark : (d : Bool) (e : CountedEdge) → point_lt e.a e.b ≡ true → marks d e (step_along e) ≡ mark d e
  own_mark d e runs = ap (λ t. mark (along_edge t d) e) runs

  -- and its step is along it
  own_edge : (e : CountedEdge) → point_lt e.a e.b ≡ true → edge_of (step_along e) ≡ ends_of e
  own_edge e runs = ap (λ t. edge_by t (step_along e)) runs

  -- each edge makes its own marks
  make_at_first : IsForwardBy ends_of old → MakeMarks old own_chain old
  make_at_first forward = record {
    made = λ d f has. record {
      edge = has.found;
      inside = has.inside;
      step = step_along has.found;
      link = Contains-head (held (step_along has.found)) [];
      along = own_edge has.found (runs has.found has.inside) ∙ has.ends;
      given = own_mark d has.found (runs has.found has.inside) ∙ has.marked;
    };
    makes = λ d e c s link given. let is = ap step_of (only_entry (held (step_along e)) (held s) link) in record {
      found = e;
      inside = c;
      ends = sym (own_edge e (runs e c)) ∙ ap edge_of is;
      marked = sym (own_mark d e (runs e c)) ∙ ap (marks d e) is ∙ given;
    };
    unmarked = λ e c s link d. not_both (step_along e) s (only_entry (held (step_along e)) (dropped s) link);
  }
    where
      runs : (e : CountedEdge) → Contains old e → point_lt e.a e.b ≡ true
      runs e c = All-contains (λ d. point_lt d.a d.b ≡ true) old e forward c

  module _ (rs : List Round) (new : List CountedEdge) (rounds : AreEachRounds IsAnyRound old rs)
      (merged : IsMerged (after_rounds old rs) new) (forward : IsForwardBy ends_of old) where
    -- the links after all rounds
    abbrev links : CountedEdge → List ChainLink
    links e = links_through rs (own_chain e)

    make : MakeMarks old links (after_rounds old rs)
    make = make_in_rounds old rs rounds own_chain (make_at_first forward)

    -- a mark of the arrangement is given to a step of a chain
    mark_given : (marked_as : CountedEdge → Step → Bool) (d : Bool) →
        ((e : CountedEdge) (s : Step) → marked_as e s ≡ marks d e s) →
        (f : CountedEdge) → Contains new f → mark d f ≡ true → IsMarkedBy marked_as rs old (ends_of f)
    mark_given marked_as d same f c h =
        let given = make.made d (ends_of f) (merged_marked (after_rounds old rs) new merged d f c h) in
        any_of_entry (λ e. Any (λ t. (edge_of t ≡ ends_of f) × (marked_as e t ≡ true)) (chain_through rs e)) old
        given.edge given.inside
        (any_of_entry (λ t. (edge_of t ≡ ends_of f) × (marked_as given.edge t ≡ true))
        (chain_through rs given.edge) given.step
        (Contains-map step_of (links given.edge) (held given.step) given.link) (
          given.along,
          same given.edge given.step
              ∙ given.given,
        ))

    -- a mark that is given to a step of a chain is one of the arrangement
    given_mark : (marked_as : CountedEdge → Step → Bool) (d : Bool) →
        ((e : CountedEdge) (s : Step) → marked_as e s ≡ marks d e s) →
        (f : CountedEdge) → Contains new f → IsMarkedBy marked_as rs old (ends_of f) → mark d f ≡ true
    given_mark marked_as d same f c any =
        let at = Contains-from_any (λ e. Any (λ t. (edge_of t ≡ ends_of f) × (marked_as e t ≡ true))
        (chain_through rs e)) old any in
        let step = Contains-from_any (λ t. (edge_of t ≡ ends_of f) × (marked_as at.0 t ≡ true))
        (chain_through rs at.0) at.2 in
        let link = Contains-from_map step_of (links at.0) step.0 step.1 in
        by at.0 at.1 step.0 step.2.0 (sym (same at.0 step.0) ∙ step.2.1) link.0 link.1 link.2
      where
        by : (e : CountedEdge) → Contains old e → (t : Step) → edge_of t ≡ ends_of f → marks d e t ≡ true →
            (l : ChainLink) → Contains (links e) l → step_of l ≡ t → mark d f ≡ true
        by e in_old t along h (held s) link is = marked_merged (after_rounds old rs) new merged d f c
            (subst (HasMarked d (after_rounds old rs)) (ap edge_of is ∙ along)
            (make.makes d e in_old s link (ap (marks d e) is ∙ h)))
        by e in_old t along h (dropped s) link is =
            absurd (both_ways (mark (along_edge (is_forward t) d) e)
            (make.unmarked e in_old s link (along_edge (is_forward t) d)) h)

    -- the chains make the marks of the arrangement
    pub chains_make_marks : (marked_as : CountedEdge → Step → Bool) (d : Bool) →
        ((e : CountedEdge) (s : Step) → marked_as e s ≡ marks d e s) →
        All (λ f. (mark d f ≡ true) ↔ IsMarkedBy marked_as rs old (ends_of f)) new
    chains_make_marks marked_as d same = All-weaker (Contains new)
        (λ f. (mark d f ≡ true) ↔ IsMarkedBy marked_as rs old (ends_of f))
        (λ f c. (mark_given marked_as d same f c, given_mark marked_as d same f c)) new (All-contains_itself new)

    -- ---- the chain of an edge with a mark

    module _ (e : CountedEdge) (inside : Contains old e) (d : Bool) (has : mark d e ≡ true) where
      -- a mark that the edge gives to a held link is one of each edge of the arrangement with its ends
      has_mark : (marked_as : CountedEdge → Step → Bool) (b : Bool) →
          ((e : CountedEdge) (s : Step) → marked_as e s ≡ marks b e s) → (s : Step) →
          Contains (links e) (held s) → (g : CountedEdge) → Contains new g → ends_of g ≡ edge_of s →
          marked_as e s ≡ true → mark b g ≡ true
      has_mark marked_as b same s link g at ends given = marked_merged (after_rounds old rs) new merged b g at
          (subst (HasMarked b (after_rounds old rs)) (sym ends)
          (make.makes b e inside s link (sym (same e s) ∙ given)))

      by_link : (t : Step) (l : ChainLink) → Contains (links e) l → step_of l ≡ t → IsMarkedStep new e t
      by_link t (held s) link is =
          let some = make.makes (along_edge (is_forward s) d) e inside s link
          (ap (λ b. mark b e) (along_edge-back (is_forward s) d) ∙ has) in
          let found = marked_held (after_rounds old rs) new merged (along_edge (is_forward s) d) (edge_of s) some in
          subst (IsMarkedStep new e) is (record {
            edge = found.0;
            entry = found.1;
            ends = found.2;
            along = has_mark marks_along true marks-along s link found.0 found.1 found.2;
            against = has_mark marks_against false marks-against s link found.0 found.1 found.2;
          })
      by_link t (dropped s) link is = absurd (both_ways (mark d e) (make.unmarked e inside s link d) has)

      -- an edge of the arrangement runs along each of its steps
      pub marked_step : (t : Step) → Contains (chain_through rs e) t → IsMarkedStep new e t
      marked_step t c = let link = Contains-from_map step_of (links e) t c in by_link t link.0 link.1 link.2

-- the law of the chains of edges with a mark
pub marked_chains_stay : MarkedChainsStay
marked_chains_stay solver rounds old new forward reached e inside marked =
    let cut = any_rounds solver old rounds reached.cut in
    ⊎_elim (marked_step old rounds new cut reached.merged forward e inside true)
    (marked_step old rounds new cut reached.merged forward e inside false) marked
