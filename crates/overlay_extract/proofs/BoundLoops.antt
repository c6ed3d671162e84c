-- Loops of filled sides can be bound: none passes an edge twice, and no two pass one edge on one side of it.
use Rattle.std.proofs.Common.{◌≡◌, ⊎_elim, Bool, true, false, not, cond, ℤ, List, map}
use Rattle.std.proofs.Common.{All}
use Rattle.std.proofs.Common.{Contains, AllPairs, refl, sym, ap, ◌∙◌, subst}
use Rattle.std.specs.List.{filter}
use Rattle.std.proofs.lemmas.Bool.{both_ways, false_from_ne_true}
use Rattle.std.proofs.lemmas.List.Elements.{All-filter, All-weaker, All-contains}
use Rattle.overlay_geom.specs.Plane.{Step, edge_of, edge_eq, step_eq, is_forward}
use Rattle.overlay_geom.specs.Edges.{CountedEdge}
use Rattle.overlay_plane.specs.Anchors.{HasEachEdgeOnce}
use Rattle.overlay_plane.specs.Binding.{all_filled_above}
use Rattle.overlay_plane.specs.Contours.{all_steps, is_filled_above, IsContour}
use Rattle.overlay_plane.specs.Groups.{IsSimpleContour}
use Rattle.overlay_plane.specs.KeptContours.{CanBeBound}
use Rattle.overlay_plane.specs.Nodes.{IsBalancedArrangement}
use Rattle.overlay_plane.specs.Turn.{Hand}
use Rattle.overlay_plane.specs.Turn.Hand.{left, right}
use Rattle.overlay_plane.proofs.AtNodes.{equal_steps}
use Rattle.overlay_plane.proofs.BesideAcross.{one_of_two}
use Rattle.overlay_plane.proofs.Entries.{Contains-from_filter}
use Rattle.overlay_plane.proofs.KeptWalks.{step_of_kept, kept_in_relation}
use Rattle.overlay_plane.proofs.LaterEntries.{Each, Each-weaker, Each-map, Each-filter}
use Rattle.overlay_plane.proofs.LaterEntries.{Each-from_all_pairs, AllPairs-from_each}
use Rattle.overlay_plane.proofs.ShuffledSteps.{Differ}
use Rattle.overlay_plane.proofs.WalksOfCuts.{IsEdgeOf, edge_of_step, edges_meet}
use Rattle.overlay_extract.specs.Bound.{LoopsCanBeBound}
use Rattle.overlay_extract.specs.FilledSides.{filled_sides}
use Rattle.overlay_extract.specs.Loops.{AreLoops}
use Rattle.overlay_extract.proofs.SideLists.{sides_listed, sides_walk_along}
use Rattle.overlay_extract.proofs.SimpleLoops.{no_step_back}
use Rattle.overlay_geom.proofs.Orders.{edge_eq-same}
use Rattle.overlay_plane.proofs.WalksApart.{filled_above_of_all}

-- ---- steps along one edge

-- a step by its edge and its way
by_edge : (s : Step) (b : Bool) → is_forward s ≡ b →
    edge_of s ≡ cond b (record { a = s.from; b = s.to }) (record { a = s.to; b = s.from })
by_edge s b e = ap (λ t. cond t (record { a = s.from; b = s.to }) (record { a = s.to; b = s.from })) e

-- steps along one edge in one way are one
pub one_way : (s t : Step) (b : Bool) → is_forward s ≡ b → is_forward t ≡ b → edge_of s ≡ edge_of t → s ≡ t
one_way s t true p q same = let e = sym (by_edge s true p) ∙ same ∙ by_edge t true q in
    λ i. record { from = (e i).a; to = (e i).b }
one_way s t false p q same = let e = sym (by_edge s false p) ∙ same ∙ by_edge t false q in
    λ i. record { from = (e i).b; to = (e i).a }

-- what is filled above goes one way
one_side_up : (filled : Hand) (s t : Step) → is_filled_above filled s ≡ true → is_filled_above filled t ≡ true →
    is_forward s ≡ is_forward t
one_side_up left s t p q = p ∙ sym q
one_side_up right s t p q = by (is_forward s) (is_forward t) (p ∙ sym q)
  where
    by : (b c : Bool) → not b ≡ not c → b ≡ c
    by true true e = refl
    by true false e = absurd (both_ways false refl e)
    by false true e = absurd (both_ways false refl (sym e))
    by false false e = refl

-- ---- edges that are filled above

-- no two are equal where no step stands twice
distinct_above_once : (filled : Hand) (walks : List (List Step)) → Each Differ (all_steps walks) →
    AllPairs (λ e f. edge_eq e f ≡ false) (all_filled_above filled walks)
distinct_above_once filled walks once = subst (AllPairs (λ e f. edge_eq e f ≡ false))
    (sym (filled_above_of_all filled walks))
    (AllPairs-from_each (λ e f. edge_eq e f ≡ false) (map edge_of up)
    (Each-map Differ (λ e f. edge_eq e f ≡ false) edge_of up become
    (Each-filter Differ (is_filled_above filled) (all_steps walks) once)))
  where
    up : List Step
    up = filter (is_filled_above filled) (all_steps walks)

    become : (s t : Step) → Contains up s → Contains up t → Differ s t → edge_eq (edge_of s) (edge_of t) ≡ false
    become s t c d differ = false_from_ne_true (edge_eq (edge_of s) (edge_of t)) (λ same. both_ways (step_eq s t) differ
        (equal_steps s t (one_way s t (is_forward t)
        (one_side_up filled s t (Contains-from_filter (is_filled_above filled) (all_steps walks) s c).1
        (Contains-from_filter (is_filled_above filled) (all_steps walks) t d).1) refl
        (edge_eq-same (edge_of s) (edge_of t) same))))

-- ---- loops

-- a loop walks along each of its edges once
each_edge_once : (loop : List Step) → IsSimpleContour loop → HasEachEdgeOnce loop
each_edge_once loop simple = AllPairs-from_each (λ s t. edge_eq (edge_of s) (edge_of t) ≡ false) loop
    (Each-weaker Differ (λ s t. edge_eq (edge_of s) (edge_of t) ≡ false) loop become
    (Each-from_all_pairs Differ loop simple.contour.once))
  where
    become : (s t : Step) → Contains loop s → Contains loop t → Differ s t → edge_eq (edge_of s) (edge_of t) ≡ false
    become s t c d differ = false_from_ne_true (edge_eq (edge_of s) (edge_of t)) (λ same. ⊎_elim
        (λ one. both_ways (step_eq s t) differ (equal_steps s t (sym one)))
        (λ back. no_step_back loop simple s c (subst (Contains loop) back d))
        (one_of_two t s (sym (edge_eq-same (edge_of s) (edge_of t) same))))

module _ (fills : ℤ → Bool) (count : CountedEdge → ℤ) (es : List CountedEdge)
    (arranged : IsBalancedArrangement count es) (loops : List (List Step))
    (are : AreLoops (filled_sides fills count es) loops) (keeps : List Step → Bool) where
  abbrev kept : List (List Step)
  kept = filter keeps loops

  -- no step stands twice among the kept ones
  once : Each Differ (all_steps kept)
  once = kept_in_relation Differ keeps loops (Each-from_all_pairs Differ (all_steps loops) are.at_most_once)

  -- and each is a filled side
  sides : (s : Step) → Contains (all_steps kept) s → Contains (filled_sides fills count es) s
  sides s c = All-contains (Contains (filled_sides fills count es)) (all_steps loops) s are.are_sides
      (step_of_kept keeps loops s c)

  simple : All IsSimpleContour kept
  simple = All-filter keeps IsSimpleContour loops are.simple

  -- along an edge of the arrangement
  along : (s : Step) → Contains (all_steps kept) s → IsEdgeOf es (edge_of s)
  along s c = edge_of_step es (filled_sides fills count es)
      (sides_walk_along fills count es arranged left (filled_sides fills count es)
      (sides_listed fills count es arranged)) s (sides s c)

  pub kept_can_be_bound : CanBeBound left kept
  kept_can_be_bound = record {
    contours = All-weaker IsSimpleContour IsContour (λ l h. h.contour) kept simple;
    single = All-weaker IsSimpleContour HasEachEdgeOnce each_edge_once kept simple;
    distinct_above = distinct_above_once left kept once;
    distinct_below = distinct_above_once right kept once;
    settled = λ s t c d apart. edges_meet es arranged.planar.settled (edge_of s) (edge_of t) (along s c) (along t d)
        apart;
  }

-- the law
pub loops_can_be_bound : LoopsCanBeBound
loops_can_be_bound = kept_can_be_bound
