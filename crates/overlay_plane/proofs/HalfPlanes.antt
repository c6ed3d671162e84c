-- Edges in a half plane with a whole border stay in it, round by round, with their chains and pieces.
use Rattle.std.proofs.Common.{Bool, true, false, List, [], ◌∷◌, ◌++◌, Contains, sym, subst}
use Rattle.std.specs.List.{All}
use Rattle.std.specs.Prelude.{flat_map}
use Rattle.std.proofs.lemmas.List.Elements.{All-nil, All-cons, All-append, All-map, All-contains, All-contains_itself}
use Rattle.std.proofs.lemmas.List.Elements.{All-weaker}
use Rattle.overlay_geom.specs.Plane.{PlanePoint, Step, Edge, is_forward, edge_of, steps_through}
use Rattle.overlay_geom.specs.Edges.{CountedEdge, ends_of}
use Rattle.overlay_geom.specs.Merged.{IsMerged}
use Rattle.overlay_plane.specs.ChainLinks.{ChainLink, links_after, links_through, step_of, step_along}
use Rattle.overlay_plane.specs.ChainLinks.ChainLink.{held}
use Rattle.overlay_plane.specs.Cutting.{piece_along, pieces_through}
use Rattle.overlay_plane.specs.HalfPlanes.{HalfPlane, IsInHalf, IsStepInHalf, IsEdgeInHalf, ChainsStayInHalfPlanes}
use Rattle.overlay_plane.specs.HalfPlanes.{ArrangementsStayInHalfPlanes}
use Rattle.overlay_plane.specs.RoundLists.{AreEachRounds}
use Rattle.overlay_plane.specs.Rounds.{Round, pieces_of, after_rounds, chain_of}
use Rattle.overlay_plane.specs.Rounds.{whole_cuts}
use Rattle.overlay_plane.proofs.AnyRounds.{IsAnyRound, any_rounds}
use Rattle.overlay_plane.proofs.EdgesOfSteps.{edge_by}
use Rattle.overlay_plane.proofs.Entries.{Contains-from_map, Contains-from_flat_map}
use Rattle.overlay_plane.proofs.LinksKept.{IsBetweenGood, good_through, AllLinks, links_kept}
use Rattle.overlay_plane.proofs.RoundedHalves.{rounded_in_half}
use Rattle.overlay_plane.proofs.WholeCuts.{ends_of_merged}

module _ (h : HalfPlane) where
  -- the ends of the edge of a step in the half plane are in it
  ends_in_half : (s : Step) → IsStepInHalf h s → IsInHalf h (edge_of s).a × IsInHalf h (edge_of s).b
  ends_in_half s in_half = by (is_forward s)
    where
      by : (t : Bool) → IsInHalf h (edge_by t s).a × IsInHalf h (edge_by t s).b
      by true = in_half
      by false = (in_half.1, in_half.0)

  module _ (old : List CountedEdge) (r : Round) (round : IsAnyRound old r) where
    -- the whole points of an edge's cuts are in the half plane, where its ends are
    cuts_in_half : (f : CountedEdge) → Contains r.edges f → IsEdgeInHalf h f → All (IsInHalf h) (whole_cuts r f)
    cuts_in_half f c ends = All-map (IsInHalf h) r.whole_at (r.cuts f)
        (All-weaker (Contains (r.cuts f)) (λ p. IsInHalf h (r.whole_at p)) at (r.cuts f)
        (All-contains_itself (r.cuts f)))
      where
        at : (p : PlanePoint) → Contains (r.cuts f) p → IsInHalf h (r.whole_at p)
        at p here = rounded_in_half h (ends_of f) p (r.whole_at p) ends.0 ends.1
            (round.on f c p here) (round.rounding.near_x p) (round.rounding.near_y p)

    -- its chain is in the half plane
    chain_in_half : (f : CountedEdge) → Contains r.edges f → IsEdgeInHalf h f → All (IsStepInHalf h) (chain_of r f)
    chain_in_half f c ends =
        All-weaker (IsBetweenGood (IsInHalf h)) (IsStepInHalf h) (λ s good. (good.from, good.to)) (chain_of r f)
        (good_through (IsInHalf h) f.a (whole_cuts r f ++ f.b ∷ []) ends.0
        (All-append (IsInHalf h) (whole_cuts r f) (f.b ∷ []) (cuts_in_half f c ends)
        (All-cons (IsInHalf h) f.b [] ends.1 (All-nil (IsInHalf h)))))

    -- the links in it stay in it in the round
    links_in_half : (ls : List ChainLink) → AllLinks (IsStepInHalf h) ls →
        AllLinks (IsStepInHalf h) (flat_map (links_after r) ls)
    links_in_half = links_kept (IsStepInHalf h) (IsStepInHalf h) r (λ s in_half. in_half)
        (λ s in_half. (in_half.1, in_half.0))
        (λ s f c is in_half. chain_in_half f c (subst (λ (g : Edge). IsInHalf h g.a × IsInHalf h g.b) (sym is)
        (ends_in_half s in_half)))

    -- the pieces of merged edges in it are in it
    pieces_in_half : All (IsEdgeInHalf h) r.edges → All (IsEdgeInHalf h) (pieces_of r)
    pieces_in_half all = All-weaker (Contains (pieces_of r)) (IsEdgeInHalf h) at (pieces_of r)
        (All-contains_itself (pieces_of r))
      where
        at : (g : CountedEdge) → Contains (pieces_of r) g → IsEdgeInHalf h g
        at g c =
            let of = Contains-from_flat_map (pieces_through (whole_cuts r)) r.edges g c in
            let along = Contains-from_map (piece_along of.0)
            (steps_through of.0.a (whole_cuts r of.0 ++ of.0.b ∷ [])) g of.2 in
            subst (IsEdgeInHalf h) along.2
            (ends_in_half along.0 (All-contains (IsStepInHalf h) (chain_of r of.0) along.0
            (chain_in_half of.0 of.1 (All-contains (IsEdgeInHalf h) r.edges of.0 all of.1)) along.1))

  -- merged edges are in it where all are
  merged_in_half : (old new : List CountedEdge) → IsMerged old new → All (IsEdgeInHalf h) old →
      All (IsEdgeInHalf h) new
  merged_in_half old new merged all = All-weaker (Contains new) (IsEdgeInHalf h) at new (All-contains_itself new)
    where
      at : (g : CountedEdge) → Contains new g → IsEdgeInHalf h g
      at g c =
          let found = ends_of_merged old new merged g c in
          subst (λ (e : Edge). IsInHalf h e.a × IsInHalf h e.b) found.2
          (All-contains (IsEdgeInHalf h) old found.0 all found.1)

  -- links in it stay in it in all rounds
  links_in_rounds : (old : List CountedEdge) (rs : List Round) (ls : List ChainLink) → AreEachRounds IsAnyRound old rs →
      AllLinks (IsStepInHalf h) ls → AllLinks (IsStepInHalf h) (links_through rs ls)
  links_in_rounds old [] ls rounds in_half = in_half
  links_in_rounds old (r ∷ rs) ls rounds in_half =
      links_in_rounds (pieces_of r) rs (flat_map (links_after r) ls) rounds.1
      (links_in_half old r rounds.0 ls in_half)

  -- edges stay in it
  edges_in_rounds : (old : List CountedEdge) (rs : List Round) → AreEachRounds IsAnyRound old rs →
      All (IsEdgeInHalf h) old →
      All (IsEdgeInHalf h) (after_rounds old rs)
  edges_in_rounds old [] rounds all = all
  edges_in_rounds old (r ∷ rs) rounds all =
      edges_in_rounds (pieces_of r) rs rounds.1
      (pieces_in_half old r rounds.0 (merged_in_half old r.edges rounds.0.merged all))

-- chains stay in half planes
pub chains_stay_in_half_planes : ChainsStayInHalfPlanes
chains_stay_in_half_planes solver rounds old are h e ends =
    All-map (IsStepInHalf h) step_of (links_through rounds (held (step_along e) ∷ []))
    (links_in_rounds h old rounds (held (step_along e) ∷ []) (any_rounds solver old rounds are)
    (All-cons (λ l. IsStepInHalf h (step_of l)) (held (step_along e)) [] ends
    (All-nil (λ l. IsStepInHalf h (step_of l)))))

-- arrangements stay in it
pub arrangements_stay_in_half_planes : ArrangementsStayInHalfPlanes
arrangements_stay_in_half_planes solver rounds old new reached h all =
    merged_in_half h (after_rounds old rounds) new reached.merged
    (edges_in_rounds h old rounds (any_rounds solver old rounds reached.cut) all)
