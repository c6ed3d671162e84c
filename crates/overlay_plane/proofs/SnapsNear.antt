-- The chain of a snapped edge and the edge stay within half a unit of each other. A point of a step mixes the step's
-- ends as a point of the edge mixes the two points nearest to them.
use Rattle.std.proofs.Common.{◌≡◌, ◌⊎◌, inl, inr, Bool, true, false, ℤ, pos, ◌+ℤ◌, ◌*ℤ◌, ◌<ℤ◌, ◌≤ℤ◌, [], ◌∷◌, map}
use Rattle.std.proofs.Common.{Contains, refl, sym, ap, ◌∙◌, subst}
use Rattle.std.specs.List.{All}
use Rattle.std.proofs.lemmas.Int.{by_lt_z}
use Rattle.std.proofs.lemmas.List.Elements.{All-contains, Contains-append_right}
use Rattle.overlay_geom.specs.Plane.{Point, PlanePoint, Step, Edge, SamePlace, IsOn, in_plane, point_eq, point_lt}
use Rattle.overlay_geom.specs.Edges.{CountedEdge, ends_of}
use Rattle.overlay_geom.specs.Rounding.{nearest_point}
use Rattle.overlay_geom.proofs.AlongEdge.{sideE, between_turned}
use Rattle.overlay_geom.proofs.Entries.{Contains-head, Contains-later}
use Rattle.overlay_geom.proofs.Identities.{solve, number, ◌⊕◌, ◌⊗◌, ◌⊖◌, ⊝◌, ◌≗◌}
use Rattle.overlay_geom.proofs.MeansOfEnds.{MeanOfEnds, mean_of_ends}
use Rattle.overlay_geom.proofs.Orders.{point_lt-back}
use Rattle.overlay_geom.proofs.PointOrder.{IsBefore, Decides-point_lt, before_is_other}
use Rattle.overlay_geom.proofs.Signs.{linear, mul-pos, mul-nonneg}
use Rattle.overlay_plane.specs.Rounds.{Round, chain_of}
use Rattle.overlay_plane.specs.Snaps.{IsSnappedAt, IsOnStep, AreWithinHalf, StaysWithinHalf, SnapsStayNear}
use Rattle.overlay_plane.proofs.Ends.{start_on, end_on}
use Rattle.overlay_plane.proofs.Entries.{all_of_entries, Contains-map}
use Rattle.overlay_plane.proofs.LinksKept.{IsBetweenGood}
use Rattle.overlay_plane.proofs.Mixtures.{mixture, mixture_on}
use Rattle.overlay_plane.proofs.SnapStops.{nearest_itself, IsEndOfSome, ends_of_steps, Change, change_between}
use Rattle.overlay_plane.proofs.SnapStops.{IsRounded, places, places_after, rounded_chain, rounded_chain-is, places_on}
use Rattle.overlay_plane.proofs.SnapStops.{chain_between_rounded}
use Rattle.overlay_plane.proofs.WayAlong.{way, same_place_of_same_way, start_first, end_last, part_of_first}
use Rattle.overlay_plane.proofs.WayAlong.{part_of_second, some_part, mixed_between}
use Rattle.overlay_plane.proofs.WholeCuts.{forward_merged}
use Rattle.overlay_plane.proofs.WholeOnEdges.{forward_from_test}
use Rattle.overlay_plane.proofs.WithinHalf.{within_half_exchanged, within_half_elsewhere, rounded_mixture}
use Rattle.overlay_plane.proofs.WithinHalf.{rounded_mixture_near, whole_mixture, whole_mixture_near, IsHalfFrom}
use Rattle.overlay_plane.proofs.WithinHalf.{half_from_nearest}

-- ---- steps

-- the step's two ends as an edge, from the larger
abbrev pub turned : Edge → Edge
turned f = record { a = f.b; b = f.a }

-- a point on an edge is on it with the ends exchanged too
pub on_turned : (f : Edge) (q : PlanePoint) → IsOn f q → IsOn (turned f) q
on_turned f q on = record {
  on_line =
      let identity = solve 7 (λ ax ay bx by x y d. sideE bx by ax ay x y d ≗ ⊝ sideE ax ay bx by x y d) tt f.a.x f.a.y
      f.b.x f.b.y q.x q.y q.d in
      let zero = on.on_line in
      omega linear;
  in_x = between_turned q.x (f.a.x *ℤ q.d) (f.b.x *ℤ q.d) on.in_x;
  in_y = between_turned q.y (f.a.y *ℤ q.d) (f.b.y *ℤ q.d) on.in_y;
}

-- a mean of the ends is one where they are exchanged
mean_turned : (f : Edge) (q : PlanePoint) → MeanOfEnds (turned f) q → MeanOfEnds f q
mean_turned f q m =
    let sum = m.sum in
    let mean_x = m.mean_x in
    let mean_y = m.mean_y in
    record {
      of_a = m.of_b;
      of_b = m.of_a;
      both = m.both;
      a_nonneg = m.b_nonneg;
      b_nonneg = m.a_nonneg;
      some = m.some;
      sum = omega linear;
      mean_x = omega linear;
      mean_y = omega linear;
    }

-- a point of a step is a mean of its ends, whichever way the step leads
pub mean_of_step : (f : Edge) (q : PlanePoint) → point_eq f.a f.b ≡ false → IsOn f q → MeanOfEnds f q
mean_of_step f q long on = by (point_lt f.a f.b) refl
  where
    by : (t : Bool) → point_lt f.a f.b ≡ t → MeanOfEnds f q
    by true e = mean_of_ends f q ((Decides-point_lt f.a f.b).0 e) on
    by false e = mean_turned f q (mean_of_ends (turned f) q
        ((Decides-point_lt f.b f.a).0 (point_lt-back f.a f.b long e)) (on_turned f q on))

-- two numbers mixed by such weights, each as often as the other's denominator says, are at the mean
at_mean : (a b n da db u v x d : ℤ) → a +ℤ b ≡ n *ℤ d → n *ℤ x ≡ a *ℤ u +ℤ b *ℤ v →
    ((a *ℤ db) *ℤ da *ℤ u +ℤ (b *ℤ da) *ℤ db *ℤ v) *ℤ d ≡ x *ℤ ((a *ℤ db) *ℤ da *ℤ pos 1 +ℤ (b *ℤ da) *ℤ db *ℤ pos 1)
at_mean a b n da db u v x d sum mean =
    solve 7 (λ a b da db u v d. ((a ⊗ db) ⊗ da ⊗ u ⊕ (b ⊗ da) ⊗ db ⊗ v) ⊗ d ≗ (da ⊗ db ⊗ d) ⊗ (a ⊗ u ⊕ b ⊗ v)) tt a b da
    db u v d
    ∙ ap (λ z. (da *ℤ db *ℤ d) *ℤ z) (sym mean)
    ∙ solve 5 (λ n da db x d. (da ⊗ db ⊗ d) ⊗ (n ⊗ x) ≗ (x ⊗ (da ⊗ db)) ⊗ (n ⊗ d)) tt n da db x d
    ∙ ap (λ z. (x *ℤ (da *ℤ db)) *ℤ z) (sym sum)
    ∙ solve 5
    (λ a b da db x. (x ⊗ (da ⊗ db)) ⊗ (a ⊕ b) ≗ x ⊗ ((a ⊗ db) ⊗ da ⊗ number (pos 1) ⊕ (b ⊗ da) ⊗ db ⊗ number (pos 1)))
    tt a b da db x

-- the step between the whole points nearest two points
abbrev step_edge : PlanePoint → PlanePoint → Edge
step_edge p q = record { a = nearest_point p; b = nearest_point q }

-- v is at most 1/2 away from a point of e
abbrev pub IsTakenFrom : Edge → Point → Type 0
IsTakenFrom e v = (p : PlanePoint) × IsOn e p × IsHalfFrom p v

-- each point of a step between whole points, each at most 1/2 away from a point of an edge, is near one of the edge
near_step : (e : Edge) (p q : PlanePoint) → IsOn e p → IsOn e q → (u v : Point) → IsHalfFrom p u → IsHalfFrom q v →
    (h : PlanePoint) → point_eq u v ≡ false → IsOn (record { a = u; b = v }) h →
    (m : PlanePoint) × IsOn e m × AreWithinHalf m h
near_step e p q on_p on_q u v near_u near_v h long on = (
  mixture s t p q some,
  mixture_on e s t p q some s_nonneg t_nonneg on_p on_q,
  within_half_elsewhere (mixture s t p q some) (whole_mixture s t p q some u v) h same
      (whole_mixture_near s t p q some u v s_nonneg t_nonneg near_u near_v),
)
  where
    mean : MeanOfEnds (record { a = u; b = v }) h
    mean = mean_of_step (record { a = u; b = v }) h long on

    s : ℤ
    s = mean.of_a *ℤ q.d

    t : ℤ
    t = mean.of_b *ℤ p.d

    s_nonneg : pos 0 ≤ℤ (mean.of_a *ℤ q.d)
    s_nonneg = mul-nonneg mean.of_a q.d mean.a_nonneg (let positive = q.positive in omega linear)

    t_nonneg : pos 0 ≤ℤ (mean.of_b *ℤ p.d)
    t_nonneg = mul-nonneg mean.of_b p.d mean.b_nonneg (let positive = p.positive in omega linear)

    some : pos 0 <ℤ ((mean.of_a *ℤ q.d) *ℤ p.d +ℤ (mean.of_b *ℤ p.d) *ℤ q.d)
    some =
        let size = solve 4 (λ a b c d. (a ⊗ d) ⊗ c ⊕ (b ⊗ c) ⊗ d ≗ (c ⊗ d) ⊗ (a ⊕ b)) tt mean.of_a mean.of_b p.d q.d in
        let sum = mean.sum in
        let both = mul-pos mean.both h.d mean.some h.positive in
        let positive = mul-pos (p.d *ℤ q.d) (mean.of_a +ℤ mean.of_b) (mul-pos p.d q.d p.positive q.positive)
        (omega linear) in
        omega linear

    same : SamePlace (whole_mixture s t p q some u v) h
    same = (
      at_mean mean.of_a mean.of_b mean.both p.d q.d u.x v.x h.x h.d mean.sum mean.mean_x,
      at_mean mean.of_a mean.of_b mean.both p.d q.d u.y v.y h.y h.d mean.sum mean.mean_y,
    )

-- this holds for each long step between such points
pub near_taken_step : (e : Edge) (s : Step) → IsBetweenGood (IsTakenFrom e) s → (h : PlanePoint) → IsOnStep s h →
    (m : PlanePoint) × IsOn e m × AreWithinHalf m h
near_taken_step e s good h on = near_step e good.from.0 good.to.0 good.from.1 good.to.1 s.from s.to good.from.2
    good.to.2
    h good.long on

-- a whole point nearest to a point of the edge is so taken
taken_of_rounded : (e : Edge) (v : Point) → IsRounded e v → IsTakenFrom e v
taken_of_rounded e v (p, on, is) = (p, on, subst (IsHalfFrom p) is (half_from_nearest p))

-- ---- points of the edge

-- a point is near itself
pub near_itself : (p : PlanePoint) → AreWithinHalf p p
near_itself p =
    let none_x = solve 2 (λ x d. number (pos 2) ⊗ (x ⊗ d ⊖ x ⊗ d) ≗ number (pos 0)) tt p.x p.d in
    let none_y = solve 2 (λ y d. number (pos 2) ⊗ (y ⊗ d ⊖ y ⊗ d) ≗ number (pos 0)) tt p.y p.d in
    let positive = mul-pos p.d p.d p.positive p.positive in
    record { right = omega linear; left = omega linear; up = omega linear; down = omega linear }

-- points rounded alike, mixed, are where they are rounded to
mixed_alike : (s t : ℤ) (p q : PlanePoint) (some : pos 0 <ℤ (s *ℤ p.d +ℤ t *ℤ q.d)) →
    nearest_point p ≡ nearest_point q → SamePlace (rounded_mixture s t p q some) (in_plane (nearest_point p))
mixed_alike s t p q some alike = (
  ap (λ (v : Point). ((s *ℤ p.d) *ℤ (nearest_point p).x +ℤ (t *ℤ q.d) *ℤ v.x) *ℤ pos 1) (sym alike)
      ∙ once (s *ℤ p.d) (t *ℤ q.d) (nearest_point p).x,
  ap (λ (v : Point). ((s *ℤ p.d) *ℤ (nearest_point p).y +ℤ (t *ℤ q.d) *ℤ v.y) *ℤ pos 1) (sym alike)
      ∙ once (s *ℤ p.d) (t *ℤ q.d) (nearest_point p).y,
)
  where
    once : (u v z : ℤ) → (u *ℤ z +ℤ v *ℤ z) *ℤ pos 1 ≡ z *ℤ (u *ℤ pos 1 +ℤ v *ℤ pos 1)
    once = solve 3 (λ u v z. (u ⊗ z ⊕ v ⊗ z) ⊗ number (pos 1) ≗ z ⊗ (u ⊗ number (pos 1) ⊕ v ⊗ number (pos 1))) tt

module _ (r : Round) (rounding : (p : PlanePoint) → r.whole_at p ≡ nearest_point p) (e : CountedEdge)
    (before : IsBefore e.a e.b) (on : All (IsOn (ends_of e)) (r.cuts e)) where
  -- the point is near one of the chain
  abbrev NearChain : PlanePoint → Type 0
  NearChain m = (s : Step) × Contains (chain_of r e) s × (h : PlanePoint) × IsOnStep s h × AreWithinHalf m h

  -- the whole points through which the chain leads are ends of its steps
  ends_of_chain : (v : Point) → Contains (map nearest_point (places r e)) v → IsEndOfSome (chain_of r e) v
  ends_of_chain v has = subst (λ ss. IsEndOfSome ss v) (rounded_chain-is r rounding e)
      (elim (ends_of_steps (nearest_point (in_plane e.a)) (map nearest_point (places_after r e))) [
        | inl one ↦ absurd (let same = is_one one in
            before_is_other e.a e.b before (ap (λ p. p.x) (sym same)) (ap (λ p. p.y) (sym same)))
        | inr ends ↦ ends v has
      ])
    where
      is_one : All (λ v. nearest_point (in_plane e.a) ≡ v) (map nearest_point (places_after r e)) → e.a ≡ e.b
      is_one one = sym (nearest_itself e.a)
          ∙ All-contains (λ v. nearest_point (in_plane e.a) ≡ v) (map nearest_point (places_after r e))
          (nearest_point (in_plane e.b)) one
          (Contains-map nearest_point (places_after r e) (in_plane e.b)
          (Contains-append_right (r.cuts e) (in_plane e.b ∷ []) (in_plane e.b) (Contains-head (in_plane e.b) [])))
          ∙ nearest_itself e.b

  -- a point near one of them is near the chain
  near_end : (m : PlanePoint) (v : Point) → Contains (map nearest_point (places r e)) v → AreWithinHalf m (in_plane v) →
      NearChain m
  near_end m v has near =
      let end = ends_of_chain v has in
      let edge : Edge = record { a = end.0.from; b = end.0.to } in (
        end.0,
        end.1,
        in_plane v,
        elim end.2 [
          | inl is ↦ subst (λ w. IsOn edge (in_plane w)) is (start_on edge)
          | inr is ↦ subst (λ w. IsOn edge (in_plane w)) is (end_on edge)
        ],
        near,
      )

  module _ (m : PlanePoint) (on_m : IsOn (ends_of e) m) where
    -- x comes no later than m along the edge
    abbrev IsNoLater : PlanePoint → Type 0
    IsNoLater x = (way (ends_of e) x *ℤ m.d) ≤ℤ (way (ends_of e) m *ℤ x.d)

    -- x comes later than m
    abbrev IsLater : PlanePoint → Type 0
    IsLater x = (way (ends_of e) m *ℤ x.d) <ℤ (way (ends_of e) x *ℤ m.d)

    -- each point comes no later than m, or later
    no_later_or_later : (x : PlanePoint) → IsNoLater x ⊎ IsLater x
    no_later_or_later x = by_lt_z (way (ends_of e) m *ℤ x.d) (way (ends_of e) x *ℤ m.d) (λ later. inr later)
        (λ no_later. inl no_later)

    -- where the end of the edge comes no later, m is that end
    near_at_end : IsNoLater (in_plane e.b) → NearChain m
    near_at_end no_later =
        let no_further = end_last (ends_of e) before m on_m in
        let same = same_place_of_same_way (ends_of e) before m (in_plane e.b) on_m.on_line
        (end_on (ends_of e)).on_line (omega linear) in
        near_end m e.b
        (subst (Contains (map nearest_point (places r e))) (nearest_itself e.b)
        (Contains-map nearest_point (places r e) (in_plane e.b)
        (Contains-later (in_plane e.a) (places_after r e) (in_plane e.b)
        (Contains-append_right (r.cuts e) (in_plane e.b ∷ []) (in_plane e.b) (Contains-head (in_plane e.b) [])))))
        (within_half_elsewhere m m (in_plane e.b) same (near_itself m))

    -- else m lies between two neighbours
    module _ (c : Change nearest_point IsNoLater IsLater (places r e) (rounded_chain r e)) where
      on_first : IsOn (ends_of e) c.first
      on_first = All-contains (IsOn (ends_of e)) (places r e) c.first (places_on r rounding e on) c.first_in

      on_second : IsOn (ends_of e) c.second
      on_second = All-contains (IsOn (ends_of e)) (places r e) c.second (places_on r rounding e on) c.second_in

      abbrev s : ℤ
      s = part_of_first (ends_of e) before c.first c.second m on_first.on_line on_second.on_line on_m.on_line c.is_first
          c.is_second

      abbrev t : ℤ
      t = part_of_second (ends_of e) before c.first c.second m on_first.on_line on_second.on_line on_m.on_line
          c.is_first c.is_second

      some : pos 0 <ℤ (s *ℤ c.first.d +ℤ t *ℤ c.second.d)
      some = some_part (ends_of e) before c.first c.second m on_first.on_line on_second.on_line on_m.on_line c.is_first
          c.is_second

      s_nonneg : pos 0 ≤ℤ s
      s_nonneg = let later = c.is_second in omega linear

      t_nonneg : pos 0 ≤ℤ t
      t_nonneg = let no_later = c.is_first in omega linear

      -- the point is near the point of their step at the same weights
      near_between : AreWithinHalf m (rounded_mixture s t c.first c.second some)
      near_between =
          let same = mixed_between (ends_of e) before c.first c.second m on_first.on_line on_second.on_line on_m.on_line
          c.is_first c.is_second in
          within_half_exchanged (rounded_mixture s t c.first c.second some) m
          (within_half_elsewhere (rounded_mixture s t c.first c.second some) (mixture s t c.first c.second some) m
          (sym same.0, sym same.1)
          (within_half_exchanged (mixture s t c.first c.second some) (rounded_mixture s t c.first c.second some)
          (rounded_mixture_near s t c.first c.second some s_nonneg t_nonneg)))

      near_at_change : NearChain m
      near_at_change = elim c.joined [
        | inl alike ↦ near_end m (nearest_point c.first)
            (Contains-map nearest_point (places r e) c.first c.first_in)
            (within_half_elsewhere m (rounded_mixture s t c.first c.second some) (in_plane (nearest_point c.first))
            (mixed_alike s t c.first c.second some alike) near_between)
        | inr has ↦ (
          record { from = nearest_point c.first; to = nearest_point c.second },
          subst (λ ss. Contains ss (record { from = nearest_point c.first; to = nearest_point c.second }))
              (rounded_chain-is r rounding e) has,
          rounded_mixture s t c.first c.second some,
          mixture_on (step_edge c.first c.second) (s *ℤ c.first.d) (t *ℤ c.second.d)
              (in_plane (nearest_point c.first)) (in_plane (nearest_point c.second)) _
              (mul-nonneg s c.first.d s_nonneg (let positive = c.first.positive in omega linear))
              (mul-nonneg t c.second.d t_nonneg (let positive = c.second.positive in omega linear))
              (start_on (step_edge c.first c.second)) (end_on (step_edge c.first c.second)),
          near_between,
        )
      ]

    -- each point of the edge is near the chain
    near_chain : NearChain m
    near_chain = elim (change_between nearest_point IsNoLater IsLater no_later_or_later (in_plane e.a) (r.cuts e)
        (in_plane e.b) (start_first (ends_of e) before m on_m)) [
          | inl last ↦ near_at_end last
          | inr change ↦ near_at_change change
        ]

  -- the chain and the edge stay within half a unit
  stays_within_half : StaysWithinHalf r e
  stays_within_half = record {
    chain_near = λ s has h on_s.
        let good = All-contains (IsBetweenGood (IsRounded (ends_of e))) (chain_of r e) s
        (chain_between_rounded r rounding e on) has in
        near_taken_step (ends_of e) s
        (record {
          long = good.long;
          from = taken_of_rounded (ends_of e) s.from good.from;
          to = taken_of_rounded (ends_of e) s.to good.to;
        }) h on_s;
    edge_near = near_chain;
  }

-- the law
pub snaps_stay_near : SnapsStayNear
snaps_stay_near old r forward snap = all_of_entries (StaysWithinHalf r) r.edges
    (λ e has. stays_within_half r snap.rounding e
    (forward_from_test (ends_of e) (All-contains (λ e. point_lt e.a e.b ≡ true) r.edges e
    (forward_merged old r.edges snap.merged forward) has))
    (All-contains (λ e. IsSnappedAt r.edges e (r.cuts e)) r.edges e snap.cut has).on)
