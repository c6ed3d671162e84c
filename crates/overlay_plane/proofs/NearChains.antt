-- The chain of an added edge stays near the edge: each round that moves a point takes it at most 1/2 further away, in x
-- and in y.
use Rattle.std.proofs.Common.{◌≡◌, ℕ, zero, suc, ◌+◌, Bool, true, false, List, [], ◌∷◌, ◌++◌, Contains, refl, sym}
use Rattle.std.proofs.Common.{subst, arith}
use Rattle.std.specs.List.{All}
use Rattle.std.specs.Prelude.{flat_map}
use Rattle.std.proofs.lemmas.List.Elements.{All-nil, All-cons, All-append, All-map, All-contains, All-contains_itself}
use Rattle.std.proofs.lemmas.List.Elements.{All-weaker}
use Rattle.overlay_geom.specs.Plane.{PlanePoint, Step, Edge, point_lt, is_forward, edge_of, reversed_step, IsAt}
use Rattle.overlay_geom.specs.Edges.{CountedEdge, ends_of}
use Rattle.overlay_geom.proofs.Orders.{Decides-point_eq, point_lt-back}
use Rattle.overlay_geom.proofs.PointOrder.{IsBefore, Decides-point_lt, before_is_other}
use Rattle.std.proofs.lemmas.Bool.{false_from_ne_true, both_ways}
use Rattle.std.proofs.lemmas.Bool.Decides.{not_from_Decides}
use Rattle.overlay_geom.proofs.MeansOfEnds.{mean_of_ends}
use Rattle.overlay_plane.specs.ChainLinks.{ChainLink, links_after, links_through, step_of, step_along, chain_through}
use Rattle.overlay_plane.specs.ChainLinks.{IsNear}
use Rattle.overlay_plane.specs.ChainLinks.ChainLink.{held}
use Rattle.overlay_plane.specs.RoundLists.{AreEachRounds}
use Rattle.overlay_plane.specs.Rounds.{Round, pieces_of, chain_of, whole_cuts, MovesNone}
use Rattle.overlay_plane.specs.Rounds.{MovingRounds}
use Rattle.overlay_plane.specs.Rounds.MovingRounds.{none, exact, moving}
use Rattle.overlay_plane.proofs.AnyRounds.{IsAnyRound}
use Rattle.overlay_plane.proofs.EdgesOfSteps.{edge_by}
use Rattle.overlay_plane.proofs.Ends.{start_on, end_on}
use Rattle.overlay_plane.proofs.LinksKept.{IsLong, IsBetweenGood, good_through, AllLinks, links_kept}
use Rattle.overlay_plane.proofs.NearBetween.{IsCloseTo, close_from_at, close_from_half, nearer, near_between, near_at}

-- a long step back is long
pub long_back : (s : Step) → IsLong s → IsLong (reversed_step s)
long_back s long = false_from_ne_true _ (λ same. not_from_Decides _ (Decides-point_eq s.from s.to) long
    (sym ((Decides-point_eq s.to s.from).0 same)))

-- the edge of a long step runs forward
pub long_forward : (s : Step) → IsLong s → point_lt (edge_of s).a (edge_of s).b ≡ true
long_forward s long = by (is_forward s) refl
  where
    by : (t : Bool) → is_forward s ≡ t → point_lt (edge_by t s).a (edge_by t s).b ≡ true
    by true e = e
    by false e = point_lt-back s.from s.to long e

-- the step is long, and its two ends are near the edge
abbrev pub IsNearStep : ℕ → Edge → Step → Type 0
IsNearStep k e s = IsBetweenGood (IsNear k e) s

-- the step back is near too
near_back : (k : ℕ) (e : Edge) (s : Step) → IsNearStep k e s → IsNearStep k e (reversed_step s)
near_back k e s h = record { long = long_back s h.long; from = h.to; to = h.from }

-- the ends of its edge are those of the step
near_ends : (k : ℕ) (e : Edge) (s : Step) → IsNearStep k e s → IsNear k e (edge_of s).a × IsNear k e (edge_of s).b
near_ends k e s h = by (is_forward s)
  where
    by : (t : Bool) → IsNear k e (edge_by t s).a × IsNear k e (edge_by t s).b
    by true = (h.from, h.to)
    by false = (h.to, h.from)

-- the round takes a meeting point at most m halves away
abbrev pub TakesWithin : ℕ → Round → Type 0
TakesWithin m r = (f : CountedEdge) → Contains r.edges f → (p : PlanePoint) → Contains (r.cuts f) p →
    IsCloseTo m (r.whole_at p) p

module _ (m k : ℕ) (e : Edge) (old : List CountedEdge) (r : Round) (round : IsAnyRound old r)
    (takes : TakesWithin m r) where
  -- the whole points of an edge's cuts are near, where its ends are
  cuts_near : (f : CountedEdge) → Contains r.edges f → IsBefore f.a f.b → IsNear k e f.a → IsNear k e f.b →
      All (IsNear (m + k) e) (whole_cuts r f)
  cuts_near f c forward near_a near_b = All-map (IsNear (m + k) e) r.whole_at (r.cuts f)
      (All-weaker (Contains (r.cuts f)) (λ p. IsNear (m + k) e (r.whole_at p)) at (r.cuts f)
      (All-contains_itself (r.cuts f)))
    where
      at : (p : PlanePoint) → Contains (r.cuts f) p → IsNear (m + k) e (r.whole_at p)
      at p here = near_between e (ends_of f) p k m (r.whole_at p)
          (mean_of_ends (ends_of f) p forward (round.on f c p here)) near_a near_b (takes f c p here)

  -- the chain of the edge of a near step is near
  chain_near : (s : Step) (f : CountedEdge) → Contains r.edges f → ends_of f ≡ edge_of s → IsNearStep k e s →
      All (IsNearStep (m + k) e) (chain_of r f)
  chain_near s f c is h = good_through (IsNear (m + k) e) f.a (whole_cuts r f ++ f.b ∷ []) (nearer m k e f.a near_a)
      (All-append (IsNear (m + k) e) (whole_cuts r f) (f.b ∷ [])
      (cuts_near f c ((Decides-point_lt f.a f.b).0
      (subst (λ (g : Edge). point_lt g.a g.b ≡ true) (sym is) (long_forward s h.long))) near_a near_b)
      (All-cons (IsNear (m + k) e) f.b [] (nearer m k e f.b near_b) (All-nil (IsNear (m + k) e))))
    where
      near_a : IsNear k e f.a
      near_a = subst (λ (g : Edge). IsNear k e g.a) (sym is) (near_ends k e s h).0

      near_b : IsNear k e f.b
      near_b = subst (λ (g : Edge). IsNear k e g.b) (sym is) (near_ends k e s h).1

  -- the links stay near in the round
  near_in_a_round : (ls : List ChainLink) → AllLinks (IsNearStep k e) ls →
      AllLinks (IsNearStep (m + k) e) (flat_map (links_after r) ls)
  near_in_a_round ls h = links_kept (IsNearStep k e) (IsNearStep (m + k) e) r
      (λ s near. record { long = near.long; from = nearer m k e s.from near.from; to = nearer m k e s.to near.to })
      (near_back (m + k) e) chain_near ls h

-- a round that moves no point takes each no half away
takes_exactly : (r : Round) → MovesNone r → TakesWithin 0 r
takes_exactly r still f c p here = close_from_at (r.whole_at p) p
    (All-contains (λ p. IsAt (r.whole_at p) p) (r.cuts f) p
    (All-contains (λ f. All (λ p. IsAt (r.whole_at p) p) (r.cuts f)) r.edges f still c) here)

-- any round moves each by at most one half
takes_by_rounding : (old : List CountedEdge) (r : Round) → IsAnyRound old r → TakesWithin 1 r
takes_by_rounding old r round f c p here = close_from_half (r.whole_at p) p (round.rounding.near_x p)
    (round.rounding.near_y p)

-- one count of halves for another
by_count : (e : Edge) (ls : List ChainLink) (m n : ℕ) → m ≡ n → AllLinks (IsNearStep m e) ls →
    AllLinks (IsNearStep n e) ls
by_count e ls m n same h = subst (λ i. AllLinks (IsNearStep i e) ls) same h

-- in rounds the links stay near, by a half more for each round that moves a point
near_in_rounds : (e : Edge) (old : List CountedEdge) (rs : List Round) (k j : ℕ) (ls : List ChainLink) →
    AreEachRounds IsAnyRound old rs → MovingRounds rs k →
    AllLinks (IsNearStep j e) ls → AllLinks (IsNearStep (k + j) e) (links_through rs ls)
near_in_rounds e old [] zero j ls rounds none near = by_count e ls j (0 + j) (omega arith) near
near_in_rounds e old [] (suc k) j ls rounds moved near = elim moved [ ]
near_in_rounds e old (r ∷ rs) k j ls rounds (exact still later) near =
    by_count e (links_through rs (flat_map (links_after r) ls)) (k + (0 + j)) (k + j) (omega arith)
    (near_in_rounds e (pieces_of r) rs k (0 + j) (flat_map (links_after r) ls) rounds.1 later
    (near_in_a_round 0 j e old r rounds.0 (takes_exactly r still) ls near))
near_in_rounds e old (r ∷ rs) (suc k) j ls rounds (moving some later) near =
    by_count e (links_through rs (flat_map (links_after r) ls)) (k + (1 + j)) (suc k + j) (omega arith)
    (near_in_rounds e (pieces_of r) rs k (1 + j) (flat_map (links_after r) ls) rounds.1 later
    (near_in_a_round 1 j e old r rounds.0 (takes_by_rounding old r rounds.0) ls near))

-- the step along a forward edge is long
pub long_along : (e : CountedEdge) → point_lt e.a e.b ≡ true → IsLong (step_along e)
long_along e forward = false_from_ne_true _ (λ same. both_ways (point_lt e.a e.b)
    (subst (λ p. point_lt e.a p ≡ false) ((Decides-point_eq e.a e.b).0 same)
    (false_from_ne_true _ (λ less. before_is_other e.a e.a ((Decides-point_lt e.a e.a).0 less) refl refl))) forward)

-- the chain that a forward edge has become is near it
pub chain_stays_near : (old : List CountedEdge) (rs : List Round) (k : ℕ) → AreEachRounds IsAnyRound old rs →
    MovingRounds rs k → (e : CountedEdge) → point_lt e.a e.b ≡ true →
    All (λ t. IsNear k (ends_of e) t.from × IsNear k (ends_of e) t.to) (chain_through rs e)
chain_stays_near old rs k rounds moved e forward = All-map
    (λ t. IsNear k (ends_of e) t.from × IsNear k (ends_of e) t.to) step_of
    (links_through rs (held (step_along e) ∷ []))
    (subst (λ n. AllLinks (λ t. IsNear n (ends_of e) t.from × IsNear n (ends_of e) t.to)
    (links_through rs (held (step_along e) ∷ []))) count
    (All-weaker (λ l. IsNearStep (k + 0) (ends_of e) (step_of l))
    (λ l. IsNear (k + 0) (ends_of e) (step_of l).from × IsNear (k + 0) (ends_of e) (step_of l).to)
    (λ l h. (h.from, h.to)) (links_through rs (held (step_along e) ∷ []))
    (near_in_rounds (ends_of e) old rs k 0 (held (step_along e) ∷ []) rounds moved start)))
  where
    count : k + 0 ≡ k
    count = omega arith

    start : AllLinks (IsNearStep 0 (ends_of e)) (held (step_along e) ∷ [])
    start = All-cons (λ l. IsNearStep 0 (ends_of e) (step_of l)) (held (step_along e)) []
        (record {
          long = long_along e forward;
          from = near_at (ends_of e) e.a (start_on (ends_of e));
          to = near_at (ends_of e) e.b (end_on (ends_of e));
        })
        (All-nil (λ l. IsNearStep 0 (ends_of e) (step_of l)))
