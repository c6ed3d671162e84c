-- The rounds that lead from edges to an arrangement lead from the exchanged edges to the exchanged arrangement, and
-- from the edges in another order to the same one.
use Rattle.std.proofs.Common.{◌≡◌, ℕ, ◌≤◌, ◌<◌, ◌^◌, Bool, true, false, cond, inl, inr, List, [], ◌∷◌, ◌++◌, map}
use Rattle.std.proofs.Common.{refl, sym, ap, ap₂, ◌∙◌, subst}
use Rattle.std.specs.List.{flat_map}
use Rattle.std.specs.List.Sorted.{IsPermutation}
use Rattle.std.proofs.lemmas.List.{length-map, map-append}
use Rattle.std.proofs.lemmas.List.Elements.{All-map, All-weaker}
use Rattle.overlay_geom.specs.Counts.{Counts, reversed_counts}
use Rattle.overlay_geom.specs.Plane.{Point, PlanePoint, Step, edge_of, is_forward, steps_through}
use Rattle.overlay_geom.specs.Edges.{CountedEdge, ends_of, weight}
use Rattle.overlay_geom.specs.Merged.{IsMerged}
use Rattle.overlay_geom.specs.declared.solver.Solver.{Solver}
use Rattle.overlay_geom.specs.declared.solver.Solver.TheVariants.{Rounds, Snapping}
use Rattle.overlay_plane.specs.Arrangements.{IsReachedBy, IsSplit}
use Rattle.overlay_plane.specs.Cutting.{piece_along, pieces_through}
use Rattle.overlay_plane.specs.Meetings.{MeetsAnother}
use Rattle.overlay_plane.specs.RoundLists.{IsRoundBy, AreRounds}
use Rattle.overlay_plane.specs.Rounds.{Round, IsCutAt, IsRound, pieces_of, after_rounds}
use Rattle.overlay_relate.specs.PredicateLaws.{exchanged}
use Rattle.overlay_relate.proofs.ExchangedMeetings.{settled_back, settled_exchanged, meets_exchanged, meets_back}
use Rattle.overlay_relate.proofs.ExchangedMeetings.{whole_back, whole_exchanged}
use Rattle.overlay_relate.proofs.ExchangedMerges.{merged_exchanged, merged_shuffled, weight_exchanged}
use Rattle.overlay_relate.proofs.ExchangedSnaps.{exchanged_round, snap_exchanged, snap_shuffled}

-- ---- one round

-- an edge is cut where the exchanged one is
cut_exchanged : (es : List CountedEdge) (e : CountedEdge) (ps : List PlanePoint) → IsCutAt es e ps →
    IsCutAt (map exchanged es) (exchanged e) ps
cut_exchanged es e ps h = record {
  ascending = h.ascending;
  only = All-weaker (MeetsAnother es e) (MeetsAnother (map exchanged es) (exchanged e)) (meets_exchanged es e) ps
      h.only;
  every = λ p meets. h.every p (meets_back es e p meets);
}

-- so a cutting round of the edges is one of the exchanged edges
cutting_exchanged : (old : List CountedEdge) (r : Round) → IsRound old r →
    IsRound (map exchanged old) (exchanged_round r)
cutting_exchanged old r h = record {
  merged = merged_exchanged old r.edges h.merged;
  unsettled = λ settled. h.unsettled (settled_back r.edges settled);
  cut = All-map (λ e. IsCutAt (map exchanged r.edges) e (r.cuts (exchanged e))) exchanged r.edges
      (All-weaker (λ e. IsCutAt r.edges e (r.cuts e)) (λ e. IsCutAt (map exchanged r.edges) (exchanged e) (r.cuts e))
      (λ e. cut_exchanged r.edges e (r.cuts e)) r.edges h.cut);
  rounding = h.rounding;
}

-- so a round of the solver is one of the exchanged edges
round_exchanged : (solver : Solver) (old : List CountedEdge) (r : Round) → IsRoundBy solver old r →
    IsRoundBy solver (map exchanged old) (exchanged_round r)
round_exchanged Rounds old r h = cutting_exchanged old r h
round_exchanged Snapping old r (inl (whole, h)) = inl (whole_exchanged r.edges whole, cutting_exchanged old r h)
round_exchanged Snapping old r (inr (not_whole, h)) =
    inr (λ whole. not_whole (whole_back r.edges whole), snap_exchanged old r h)

-- a cutting round of the edges is one of the edges in another order, which merge into the same ones
cutting_shuffled : (old other : List CountedEdge) (r : Round) → IsPermutation old other → IsRound old r →
    IsRound other r
cutting_shuffled old other r same h = record {
  merged = merged_shuffled old other r.edges same h.merged;
  unsettled = h.unsettled;
  cut = h.cut;
  rounding = h.rounding;
}

-- and so is a round of the solver
round_shuffled : (solver : Solver) (old other : List CountedEdge) (r : Round) → IsPermutation old other →
    IsRoundBy solver old r → IsRoundBy solver other r
round_shuffled Rounds old other r same h = cutting_shuffled old other r same h
round_shuffled Snapping old other r same (inl (whole, h)) = inl (whole, cutting_shuffled old other r same h)
round_shuffled Snapping old other r same (inr (not_whole, h)) = inr (not_whole, snap_shuffled old other r same h)

-- ---- the pieces

-- the piece of the exchanged edge along a step is the exchanged piece
piece_exchanged : (e : CountedEdge) (s : Step) → piece_along (exchanged e) s ≡ exchanged (piece_along e s)
piece_exchanged e s = by (is_forward s)
  where
    with_counts : Counts → CountedEdge
    with_counts c = record { a = (edge_of s).a; b = (edge_of s).b; counts = c }

    by : (t : Bool) → with_counts (cond t (exchanged e).counts (reversed_counts (exchanged e).counts))
        ≡ exchanged (with_counts (cond t e.counts (reversed_counts e.counts)))
    by true = refl
    by false = refl

pieces_along : (e : CountedEdge) (ss : List Step) →
    map (piece_along (exchanged e)) ss ≡ map exchanged (map (piece_along e) ss)
pieces_along e [] = refl
pieces_along e (s ∷ ss) = ap₂ (λ f fs. f ∷ fs) (piece_exchanged e s) (pieces_along e ss)

pieces_exchanged : (points : CountedEdge → List Point) (es : List CountedEdge) →
    flat_map (pieces_through (λ e. points (exchanged e))) (map exchanged es)
    ≡ map exchanged (flat_map (pieces_through points) es)
pieces_exchanged points [] = refl
pieces_exchanged points (e ∷ es) =
    ap₂ (λ fs gs. fs ++ gs) (pieces_along e (steps_through e.a (points e ++ e.b ∷ []))) (pieces_exchanged points es)
    ∙ sym (map-append exchanged (pieces_through points e) (flat_map (pieces_through points) es))

-- ---- all rounds

abbrev pub exchanged_rounds : List Round → List Round
exchanged_rounds rs = map exchanged_round rs

left_exchanged : (r : Round) → pieces_of (exchanged_round r) ≡ map exchanged (pieces_of r)
left_exchanged r = pieces_exchanged (λ e. map r.whole_at (r.cuts e)) r.edges

rounds_exchanged : (solver : Solver) (old : List CountedEdge) (rs : List Round) → AreRounds solver old rs →
    AreRounds solver (map exchanged old) (exchanged_rounds rs)
rounds_exchanged solver old [] h = tt
rounds_exchanged solver old (r ∷ rs) (first, later) = (
  round_exchanged solver old r first,
  subst (λ es. AreRounds solver es (exchanged_rounds rs)) (sym (left_exchanged r))
      (rounds_exchanged solver (pieces_of r) rs later),
)

after_exchanged : (old : List CountedEdge) (rs : List Round) →
    after_rounds (map exchanged old) (exchanged_rounds rs) ≡ map exchanged (after_rounds old rs)
after_exchanged old [] = refl
after_exchanged old (r ∷ rs) = ap (λ es. after_rounds es (exchanged_rounds rs)) (left_exchanged r)
    ∙ after_exchanged (pieces_of r) rs

-- so the exchanged edges are split into the exchanged ones
pub split_exchanged : (solver : Solver) (most : ℕ) (old new : List CountedEdge) → IsSplit solver most old new →
    IsSplit solver most (map exchanged old) (map exchanged new)
split_exchanged solver most old new h = record {
  rounds = exchanged_rounds h.rounds;
  few = subst (λ n. n ≤ most) (sym (length-map h.rounds exchanged_round)) h.few;
  reached = record {
    cut = rounds_exchanged solver old h.rounds h.reached.cut;
    merged = subst (λ es. IsMerged es (map exchanged new)) (sym (after_exchanged old h.rounds))
        (merged_exchanged (after_rounds old h.rounds) new h.reached.merged);
    settled = settled_exchanged new h.reached.settled;
  };
  light = All-map (λ r. weight (pieces_of r) < 2 ^ 31) exchanged_round h.rounds
      (All-weaker (λ r. weight (pieces_of r) < 2 ^ 31) (λ r. weight (pieces_of (exchanged_round r)) < 2 ^ 31)
      (λ r light. subst (λ n. n < 2 ^ 31)
      (sym (ap weight (left_exchanged r) ∙ weight_exchanged (pieces_of r))) light) h.rounds h.light);
}

-- and edges in another order into the same ones
pub split_shuffled : (solver : Solver) (most : ℕ) (old other new : List CountedEdge) → IsPermutation old other →
    IsSplit solver most old new → IsSplit solver most other new
split_shuffled solver most old other new same h =
    record { rounds = h.rounds; few = h.few; reached = by h.rounds h.reached; light = h.light }
  where
    by : (rs : List Round) → IsReachedBy solver rs old new → IsReachedBy solver rs other new
    by [] reached = record {
      cut = tt;
      merged = merged_shuffled old other new same reached.merged;
      settled = reached.settled;
    }
    by (r ∷ rs) reached = record {
      cut = (round_shuffled solver old other r same reached.cut.0, reached.cut.1);
      merged = reached.merged;
      settled = reached.settled;
    }
