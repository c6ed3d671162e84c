-- A point far from all edges is off the arrangement that rounds reach, which winds round it as the edges did. A round
-- that moves points takes half a unit of the distance, and a round that moves none takes nothing.
use lib.IntN.{*ℤ_comm}
use Rattle.std.proofs.Common.{◌≡◌, ℕ, zero, suc, ◌≤◌, Bool, true, false, cond, ℤ, pos, ◌+ℤ◌, ◌*ℤ◌, ◌<ℤ◌, ◌≤ℤ◌}
use Rattle.std.proofs.Common.{List, [], ◌∷◌, ◌++◌, map, length, Contains, refl, sym, ap, ap₂, ◌∙◌, subst, arith}
use Rattle.std.specs.List.{All}
use Rattle.std.proofs.lemmas.List.Elements.{All-nil, All-cons, All-append, All-map, All-weaker, All-contains}
use Rattle.overlay_geom.specs.Plane.{Point, PlanePoint, Step, Edge, IsAt, IsOn, IsOff, is_forward, edge_of, in_plane}
use Rattle.overlay_geom.specs.Plane.{point_lt, side}
use Rattle.overlay_geom.specs.Edges.{CountedEdge, ends_of, subj_of, clip_of, winding_by}
use Rattle.overlay_geom.specs.Merged.{IsMerged}
use Rattle.overlay_geom.specs.Rounding.{IsWithinHalf}
use Rattle.overlay_geom.proofs.AlongEdge.{over_le, in_order_between}
use Rattle.overlay_geom.proofs.Identities.{solve, number, ◌⊕◌, ◌⊗◌, ◌≗◌}
use Rattle.overlay_geom.proofs.MeansOfEnds.{MeanOfEnds}
use Rattle.overlay_geom.proofs.MergedWindings.{windings_from_merged}
use Rattle.overlay_geom.proofs.PointOrder.{IsBefore}
use Rattle.overlay_geom.proofs.Signs.{linear, mul-pos, lt_of_mul-lt}
use Rattle.overlay_plane.specs.ContourWindings.{once_round}
use Rattle.overlay_plane.specs.Cutting.{piece_along, pieces_through, AreOnLine}
use Rattle.overlay_plane.specs.EdgeLists.{IsForwardBy}
use Rattle.overlay_plane.specs.FarPoints.{AreWithinHalves, IsFarFromEdge, IsFarFrom}
use Rattle.overlay_plane.specs.FarPoints.{ArrangementsKeepFarPoints, FarPointsWindAsWanted}
use Rattle.overlay_plane.specs.RoundLists.{AreEachRounds}
use Rattle.overlay_plane.specs.Rounds.{Round, MovesNone, MovingRounds, after_rounds, chain_of, pieces_of, whole_cuts}
use Rattle.overlay_plane.specs.Rounds.MovingRounds.{none, exact, moving}
use Rattle.overlay_plane.specs.Snaps.{IsOnStep, AreWithinHalf}
use Rattle.overlay_plane.proofs.AlongLines.{IsCrossedAlike}
use Rattle.overlay_plane.proofs.AnyRounds.{IsAnyRound, any_rounds}
use Rattle.overlay_plane.proofs.CutOnLines.{WindsAsBefore, winding-chain_on_line, winding_by-cut}
use Rattle.overlay_plane.proofs.CutOnLines.{cutting_on_lines_keeps_windings}
use Rattle.overlay_plane.proofs.EdgesOfSteps.{edge_by}
use Rattle.overlay_plane.proofs.Ends.{start_on, end_on}
use Rattle.overlay_plane.proofs.Entries.{Contains-from_map, Contains-from_flat_map, all_of_entries, All-first}
use Rattle.overlay_plane.proofs.Halves.{halves_on, halves_weaker, halves_of_half, halves_of_itself}
use Rattle.overlay_plane.proofs.LinksKept.{IsBetweenGood, good_through}
use Rattle.overlay_plane.proofs.Mixtures.{mixture, mixture_on}
use Rattle.overlay_plane.proofs.OneArrangement.{pieces_forward}
use Rattle.overlay_plane.proofs.PieceCounts.{subj_of_piece, clip_of_piece}
use Rattle.overlay_plane.proofs.PlaceOrder.{on_same_place}
use Rattle.overlay_plane.proofs.SnapWindings.{chain_winds_alike}
use Rattle.overlay_plane.proofs.SnapsNear.{IsTakenFrom, mean_of_step, near_taken_step, on_turned}
use Rattle.overlay_plane.proofs.SquareSides.{IsBelowSquare, IsHighAboveSquare, IsInClosedColumn, far_below_or_above}
use Rattle.overlay_plane.proofs.SquareSides.{far_not_on_both_sides}
use Rattle.overlay_plane.proofs.StepsAcross.{CrossesClosedSquare, near_step_crosses, on_one_side}
use Rattle.overlay_plane.proofs.Tests.{lt_from_test, ge_from_test}
use Rattle.overlay_plane.proofs.WholeCuts.{ends_of_merged, forward_merged}
use Rattle.overlay_plane.proofs.WholeOnEdges.{at_itself, forward_from_test, same_place_at}
use Rattle.overlay_plane.proofs.WithinHalf.{half_from_itself}

-- p is more than k/2 away from the second edges, and they wind round it as the first do
record StaysFar (k : ℕ) (old new : List CountedEdge) (p : PlanePoint) : Type 0 where
  far : IsFarFrom k new p
  subj : winding_by subj_of new p ≡ winding_by subj_of old p
  clip : winding_by clip_of new p ≡ winding_by clip_of old p

-- ---- lists of edges

-- a point far from edges is as far from the merged ones
far_merged : (k : ℕ) (old new : List CountedEdge) → IsMerged old new → (p : PlanePoint) → IsFarFrom k old p →
    IsFarFrom k new p
far_merged k old new merged p far = all_of_entries (IsFarFromEdge k p) new (λ g has.
    let found = ends_of_merged old new merged g has in
    subst (λ (f : Edge). (q : PlanePoint) → IsOn f q → ¬ (AreWithinHalves k q p)) found.2
    (All-contains (IsFarFromEdge k p) old found.0 far found.1))

-- it is off them
pub off_far : (k : ℕ) (es : List CountedEdge) (p : PlanePoint) → IsFarFrom k es p → IsOff (map ends_of es) p
off_far k es p far = All-map (λ f. ¬ (IsOn f p)) ends_of es
    (All-weaker (IsFarFromEdge k p) (λ e. ¬ (IsOn (ends_of e) p))
    (λ e far on. far p on (halves_weaker 0 k (omega arith) p p (halves_of_itself p))) es far)

-- a point on the edge of a step is on the step
pub on_step : (s : Step) (p : PlanePoint) → IsOn (edge_of s) p → IsOnStep s p
on_step s p on = by (is_forward s) on
  where
    by : (t : Bool) → IsOn (edge_by t s) p → IsOnStep s p
    by true on = on
    by false on = on_turned (record { a = s.to; b = s.from }) p on

-- where each point of a step that is within k/2 of p tells of one of an edge within m/2, a point more than m/2 away
-- from the edge is more than k/2 away from the step's piece
pub far_piece : (k m : ℕ) (p : PlanePoint) (e : CountedEdge) (s : Step) →
    ((h : PlanePoint) → IsOnStep s h → AreWithinHalves k h p →
    (q : PlanePoint) × IsOn (ends_of e) q × AreWithinHalves m q p) →
    IsFarFromEdge m p e → IsFarFromEdge k p (piece_along e s)
far_piece k m p e s near far h on within = let q = near h (on_step s h on) within in far q.0 q.1 q.2

-- so a point more than m/2 away from all edges is more than k/2 away from the pieces
far_pieces : (k m : ℕ) (r : Round) (p : PlanePoint) →
    ((e : CountedEdge) → Contains r.edges e → (s : Step) → Contains (chain_of r e) s → (h : PlanePoint) →
    IsOnStep s h → AreWithinHalves k h p → (q : PlanePoint) × IsOn (ends_of e) q × AreWithinHalves m q p) →
    IsFarFrom m r.edges p → IsFarFrom k (pieces_of r) p
far_pieces k m r p near far = all_of_entries (IsFarFromEdge k p) (pieces_of r) (λ g has.
    let of = Contains-from_flat_map (pieces_through (whole_cuts r)) r.edges g has in
    let along = Contains-from_map (piece_along of.0) (chain_of r of.0) g of.2 in
    subst (IsFarFromEdge k p) along.2
    (far_piece k m p of.0 along.0 (near of.0 of.1 along.0 along.1)
    (All-contains (IsFarFromEdge m p) r.edges of.0 far of.1)))

-- ---- whole points at most 1/2 away from points of an edge

-- a whole number up to z / d is up to each whole number at most 1/2 away
whole_le_half : (w v z d : ℤ) → pos 0 <ℤ d → (w *ℤ d) ≤ℤ z → IsWithinHalf v z d → w ≤ℤ v
whole_le_half w v z d positive le half =
    let twice_v = solve 2 (λ v d. number (pos 2) ⊗ v ⊗ d ≗ d ⊗ v ⊕ d ⊗ v) tt v d in
    let twice_z = solve 1 (λ z. number (pos 2) ⊗ z ≗ z ⊕ z) tt z in
    let of_w = *ℤ_comm w d in
    let next = solve 2 (λ v d. d ⊗ (v ⊕ number (pos 1)) ≗ d ⊗ v ⊕ d) tt v d in
    let low = half.0 in
    let less = lt_of_mul-lt d w (v +ℤ pos 1) positive (omega linear) in
    omega linear

-- and one from z / d on is from each of these on
half_le_whole : (w v z d : ℤ) → pos 0 <ℤ d → z ≤ℤ (w *ℤ d) → IsWithinHalf v z d → v ≤ℤ w
half_le_whole w v z d positive le half =
    let twice_v = solve 2 (λ v d. number (pos 2) ⊗ v ⊗ d ≗ d ⊗ v ⊕ d ⊗ v) tt v d in
    let twice_z = solve 1 (λ z. number (pos 2) ⊗ z ≗ z ⊕ z) tt z in
    let of_w = *ℤ_comm w d in
    let next = solve 2 (λ w d. d ⊗ (w ⊕ number (pos 1)) ≗ d ⊗ w ⊕ d) tt w d in
    let high = half.1 in
    let less = lt_of_mul-lt d v (w +ℤ pos 1) positive (omega linear) in
    omega linear

module _ (e : Edge) (before : IsBefore e.a e.b) (p : PlanePoint)
    (far : (q : PlanePoint) → IsOn e q → ¬ (AreWithinHalf q p)) where
  -- such a point is in the span of the edge
  taken_in_span : (v : Point) → IsTakenFrom e v → (e.a.x ≤ℤ v.x) × (v.x ≤ℤ e.b.x)
  taken_in_span v (q, on, half) =
      let span = in_order_between q.x (e.a.x *ℤ q.d) (e.b.x *ℤ q.d) (over_le e.a.x e.b.x q.d q.positive before.x)
      on.in_x in (
        whole_le_half e.a.x v.x q.x q.d q.positive span.0 half.in_x,
        half_le_whole e.b.x v.x q.x q.d q.positive span.1 half.in_x,
      )

  -- where a step between two of them leads across p's vertical line, so does the edge
  edge_crosses : (u v : Point) → IsTakenFrom e u → IsTakenFrom e v → (u.x *ℤ p.d) ≤ℤ p.x → p.x <ℤ (v.x *ℤ p.d) →
      CrossesClosedSquare e p e
  edge_crosses u v at_u at_v from to = near_step_crosses e p (in_plane e.a) (in_plane e.b) (start_on e) (end_on e) e.a
      e.b (half_from_itself e.a) (half_from_itself e.b)
      (let first = over_le e.a.x u.x p.d p.positive (taken_in_span u at_u).0 in omega linear)
      (let last = over_le v.x e.b.x p.d p.positive (taken_in_span v at_v).1 in omega linear)

  -- the step passes p as the edge does
  crossed_far : (u v : Point) → IsTakenFrom e u → IsTakenFrom e v → IsCrossedAlike e p u v
  crossed_far u v at_u at_v right left =
      let from = ge_from_test p.x (u.x *ℤ p.d) right in
      let to = lt_from_test p.x (v.x *ℤ p.d) left in
      on_one_side (IsInClosedColumn p) (IsBelowSquare p) (IsHighAboveSquare p) e p (far_below_or_above e p far)
      (far_not_on_both_sides e p far) (record { a = u; b = v }) e
      (near_step_crosses e p at_u.0 at_v.0 at_u.1 at_v.1 u v at_u.2 at_v.2 from to) (edge_crosses u v at_u at_v from to)

-- ---- whole points on an edge

-- a point of a long step between two whole points of an edge is on the edge
on_step_between : (e : Edge) → IsBefore e.a e.b → (s : Step) → IsBetweenGood (λ v. IsOn e (in_plane v)) s →
    (h : PlanePoint) → IsOnStep s h → IsOn e h
on_step_between e before s good h on = on_same_place e before
    (mixture mean.of_a mean.of_b (in_plane s.from) (in_plane s.to) some) h (
      at_mean mean.of_a mean.of_b mean.both s.from.x s.to.x h.x h.d mean.sum mean.mean_x,
      at_mean mean.of_a mean.of_b mean.both s.from.y s.to.y h.y h.d mean.sum mean.mean_y,
    )
    (mixture_on e mean.of_a mean.of_b (in_plane s.from) (in_plane s.to) some mean.a_nonneg mean.b_nonneg good.from
    good.to)
  where
    mean : MeanOfEnds (record { a = s.from; b = s.to }) h
    mean = mean_of_step (record { a = s.from; b = s.to }) h good.long on

    some : pos 0 <ℤ (mean.of_a *ℤ pos 1 +ℤ mean.of_b *ℤ pos 1)
    some =
        let size = solve 2 (λ a b. a ⊗ number (pos 1) ⊕ b ⊗ number (pos 1) ≗ a ⊕ b) tt mean.of_a mean.of_b in
        let sum = mean.sum in
        let positive = mul-pos mean.both h.d mean.some h.positive in
        omega linear

    at_mean : (a b n u v x d : ℤ) → a +ℤ b ≡ n *ℤ d → n *ℤ x ≡ a *ℤ u +ℤ b *ℤ v →
        (a *ℤ u +ℤ b *ℤ v) *ℤ d ≡ x *ℤ (a *ℤ pos 1 +ℤ b *ℤ pos 1)
    at_mean a b n u v x d sum mean =
        ap (λ z. z *ℤ d) (sym mean)
        ∙ solve 3 (λ n x d. (n ⊗ x) ⊗ d ≗ x ⊗ (n ⊗ d)) tt n x d
        ∙ ap (λ z. x *ℤ z) (sym sum)
        ∙ solve 3 (λ a b x. x ⊗ (a ⊕ b) ≗ x ⊗ (a ⊗ number (pos 1) ⊕ b ⊗ number (pos 1))) tt a b x

-- ---- one round

module _ (old : List CountedEdge) (r : Round) (forward : IsForwardBy ends_of old) (round : IsAnyRound old r) where
  -- its edges lead forward
  edges_forward : IsForwardBy ends_of r.edges
  edges_forward = forward_merged old r.edges round.merged forward

  before_of : (e : CountedEdge) → Contains r.edges e → IsBefore e.a e.b
  before_of e has = forward_from_test (ends_of e) (All-contains (λ e. point_lt e.a e.b ≡ true) r.edges e edges_forward
      has)

  -- P holds of the points through which a chain leads, where it holds of the edge's larger end and the whole points
  after_start : (P : Point → Type 0) (e : CountedEdge) → P e.b →
      ((q : PlanePoint) → Contains (r.cuts e) q → P (r.whole_at q)) → All P (whole_cuts r e ++ e.b ∷ [])
  after_start P e at_b at_cuts = All-append P (whole_cuts r e) (e.b ∷ [])
      (All-map P r.whole_at (r.cuts e) (all_of_entries (λ q. P (r.whole_at q)) (r.cuts e) at_cuts))
      (All-cons P e.b [] at_b (All-nil P))

  -- ---- that may move points

  taken_start : (e : CountedEdge) → IsTakenFrom (ends_of e) e.a
  taken_start e = (in_plane e.a, start_on (ends_of e), half_from_itself e.a)

  taken_after : (e : CountedEdge) → Contains r.edges e → All (IsTakenFrom (ends_of e)) (whole_cuts r e ++ e.b ∷ [])
  taken_after e has = after_start (IsTakenFrom (ends_of e)) e (in_plane e.b, end_on (ends_of e), half_from_itself e.b)
      (λ q at. (q, round.on e has q at, record { in_x = round.rounding.near_x q; in_y = round.rounding.near_y q }))

  -- each point of a chain is within half a unit of its edge
  pub near_chain : (e : CountedEdge) → Contains r.edges e → (s : Step) → Contains (chain_of r e) s → (h : PlanePoint) →
      IsOnStep s h → (q : PlanePoint) × IsOn (ends_of e) q × AreWithinHalf q h
  near_chain e has s has_s h on = near_taken_step (ends_of e) s
      (All-contains (IsBetweenGood (IsTakenFrom (ends_of e))) (chain_of r e) s
      (good_through (IsTakenFrom (ends_of e)) e.a (whole_cuts r e ++ e.b ∷ []) (taken_start e) (taken_after e has))
      has_s) h on

  -- where it is within k/2 of p, the edge has a point half a unit further
  pub near_by_moving : (k : ℕ) (p : PlanePoint) (e : CountedEdge) → Contains r.edges e → (s : Step) →
      Contains (chain_of r e) s → (h : PlanePoint) → IsOnStep s h → AreWithinHalves k h p →
      (q : PlanePoint) × IsOn (ends_of e) q × AreWithinHalves (suc k) q p
  near_by_moving k p e has s has_s h on within =
      let q = near_chain e has s has_s h on in (q.0, q.1, halves_on k q.0 h p q.2 within)

  -- a chain winds round p as its edge
  pub winds_far : (k : ℕ) (p : PlanePoint) (e : CountedEdge) → Contains r.edges e → IsFarFromEdge (suc k) p e →
      WindsAsBefore (whole_cuts r) p e
  winds_far k p e has far = chain_winds_alike (IsTakenFrom (ends_of e)) (whole_cuts r) e (before_of e has) p
      (taken_start e) (taken_after e has)
      (crossed_far (ends_of e) (before_of e has) p
      (λ q on half. far q on (halves_weaker 1 (suc k) (omega arith) q p (halves_of_half q p half))))

  -- the pieces leave p as it is, half a unit less far
  far_by_moving : (k : ℕ) (p : PlanePoint) → IsFarFrom (suc k) old p → StaysFar k old (pieces_of r) p
  far_by_moving k p far_old =
      let far = far_merged (suc k) old r.edges round.merged p far_old in
      let merged = windings_from_merged old r.edges round.merged in
      let winds : (e : CountedEdge) → Contains r.edges e → WindsAsBefore (whole_cuts r) p e =
      λ e has. winds_far k p e has (All-contains (IsFarFromEdge (suc k) p) r.edges e far has) in
      record {
        far = far_pieces k (suc k) r p
            (near_by_moving k p) far;
        subj = winding_by-cut subj_of (whole_cuts r) r.edges subj_of_piece p winds ∙ merged.subj p;
        clip = winding_by-cut clip_of (whole_cuts r) r.edges clip_of_piece p winds ∙ merged.clip p;
      }

  -- ---- that moves none

  module _ (still : MovesNone r) where
    -- the chain of an edge leads through points of the edge
    on_edge_after : (e : CountedEdge) → Contains r.edges e →
        All (λ v. IsOn (ends_of e) (in_plane v)) (whole_cuts r e ++ e.b ∷ [])
    on_edge_after e has = after_start (λ v. IsOn (ends_of e) (in_plane v)) e (end_on (ends_of e))
        (λ q at. on_same_place (ends_of e) (before_of e has) q (in_plane (r.whole_at q))
        (same_place_at (r.whole_at q) q (in_plane (r.whole_at q))
        (All-contains (λ q. IsAt (r.whole_at q) q) (r.cuts e) q
        (All-contains (λ e. All (λ q. IsAt (r.whole_at q) q) (r.cuts e)) r.edges e still has) at)
        (at_itself (r.whole_at q)))
        (round.on e has q at))

    -- so it lies on the edge
    pub on_chain : (e : CountedEdge) → Contains r.edges e → (s : Step) → Contains (chain_of r e) s → (h : PlanePoint) →
        IsOnStep s h → IsOn (ends_of e) h
    on_chain e has s has_s h on = on_step_between (ends_of e) (before_of e has) s
        (All-contains (IsBetweenGood (λ v. IsOn (ends_of e) (in_plane v))) (chain_of r e) s
        (good_through (λ v. IsOn (ends_of e) (in_plane v)) e.a (whole_cuts r e ++ e.b ∷ []) (start_on (ends_of e))
        (on_edge_after e has)) has_s) h on

    -- and its points on the line
    on_line : All (AreOnLine (whole_cuts r)) r.edges
    on_line = all_of_entries (AreOnLine (whole_cuts r)) r.edges (λ e has.
        All-weaker (λ v. IsOn (ends_of e) (in_plane v)) (λ v. side (ends_of e) (in_plane v) ≡ pos 0)
        (λ v on. on.on_line)
        (whole_cuts r e)
        (All-first (λ v. IsOn (ends_of e) (in_plane v)) (whole_cuts r e) (e.b ∷ []) (on_edge_after e has)))

    -- the chain of an edge winds as the edge
    pub winds_still : (p : PlanePoint) (e : CountedEdge) → Contains r.edges e → WindsAsBefore (whole_cuts r) p e
    winds_still p e has = winding-chain_on_line (ends_of e)
        (All-contains (λ e. point_lt e.a e.b ≡ true) r.edges e edges_forward has) (whole_cuts r e)
        (All-contains (AreOnLine (whole_cuts r)) r.edges e on_line has) p

    -- the pieces leave p as it is, and as far
    far_by_still : (k : ℕ) (p : PlanePoint) → IsFarFrom k old p → StaysFar k old (pieces_of r) p
    far_by_still k p far =
        let merged = windings_from_merged old r.edges round.merged in
        let cut = cutting_on_lines_keeps_windings r.edges (whole_cuts r) edges_forward on_line in
        record {
          far = far_pieces k k r p (λ e has s has_s h on within. (h, on_chain e has s has_s h on, within))
              (far_merged k old r.edges round.merged p far);
          subj = cut.subj p ∙ merged.subj p;
          clip = cut.clip p ∙ merged.clip p;
        }

-- ---- all rounds

-- what stays far in one round and in the later ones stays so in all
stays_far_on : (j : ℕ) (old middle new : List CountedEdge) (p : PlanePoint) →
    winding_by subj_of middle p ≡ winding_by subj_of old p → winding_by clip_of middle p ≡ winding_by clip_of old p →
    StaysFar j middle new p → StaysFar j old new p
stays_far_on j old middle new p subj clip later = record {
  far = later.far;
  subj = later.subj ∙ subj;
  clip = later.clip ∙ clip;
}

-- a point more than k/2 away, k of the rounds moving points, stays off the edges
far_by_rounds : (rounds : List Round) (k : ℕ) (old : List CountedEdge) → IsForwardBy ends_of old →
    AreEachRounds IsAnyRound old rounds → MovingRounds rounds k → (p : PlanePoint) → IsFarFrom k old p →
    StaysFar 0 old (after_rounds old rounds) p
far_by_rounds [] zero old forward cut none p far = record { far = far; subj = refl; clip = refl }
far_by_rounds [] (suc k) old forward cut moved p far = elim moved [ ]
far_by_rounds (r ∷ rounds) k old forward cut (exact still later) p far =
    let first = far_by_still old r forward cut.0 still k p far in
    stays_far_on 0 old (pieces_of r) (after_rounds (pieces_of r) rounds) p first.subj first.clip
    (far_by_rounds rounds k (pieces_of r) (pieces_forward r) cut.1 later p first.far)
far_by_rounds (r ∷ rounds) (suc k) old forward cut (moving some later) p far =
    let first = far_by_moving old r forward cut.0 k p far in
    stays_far_on 0 old (pieces_of r) (after_rounds (pieces_of r) rounds) p first.subj first.clip
    (far_by_rounds rounds k (pieces_of r) (pieces_forward r) cut.1 later p first.far)

-- the law of arrangements
pub arrangements_keep_far_points : ArrangementsKeepFarPoints
arrangements_keep_far_points solver rounds k old new forward reached moved p far =
    let last = after_rounds old rounds in
    let stays = far_by_rounds rounds k old forward (any_rounds solver old rounds reached.cut) moved p far in
    let merged = windings_from_merged last new reached.merged in
    record {
      off = off_far 0 new p (far_merged 0 last new reached.merged p stays.far);
      subj = merged.subj p ∙ stays.subj;
      clip = merged.clip p ∙ stays.clip;
    }

-- the law of steps that wind as wanted
pub far_points_wind_as_wanted : FarPointsWindAsWanted
far_points_wind_as_wanted holds filled k old new steps keeps winds p far =
    let given = keeps p far in
    winds p given.off
    ∙ ap₂ (λ s c. cond (holds s c) (once_round filled) (pos 0)) given.subj given.clip

-- ---- more halves

-- a point far by many halves is far by fewer
pub far_weaker : (j k : ℕ) → j ≤ k → (es : List CountedEdge) (p : PlanePoint) → IsFarFrom k es p → IsFarFrom j es p
far_weaker j k le es p far = All-weaker (IsFarFromEdge k p) (IsFarFromEdge j p)
    (λ e from q on within. from q on (halves_weaker j k le q p within)) es far

-- no more rounds move points than there are
pub moving_few : (rounds : List Round) (k : ℕ) → MovingRounds rounds k → k ≤ length rounds
moving_few [] zero none = omega arith
moving_few [] (suc k) moved = elim moved [ ]
moving_few (r ∷ rounds) k (exact still later) = omega (arith, moving_few rounds k later)
moving_few (r ∷ rounds) (suc k) (moving some later) = omega (arith, moving_few rounds k later)
