-- Steps of an alternating set at one node run along different rays. Between two that leave an arriving step lies, and
-- between two that arrive a leaving step, by either hand.
use Rattle.std.proofs.Common.{◌≡◌, ◌⊎◌, inl, inr, Bool, true, false, List, Contains, refl, sym, ◌∙◌, subst}
use Rattle.std.proofs.lemmas.Bool.{and_parts, and_from, both_ways, false_from_ne_true}
use Rattle.overlay_geom.specs.Plane.{Point, Step, point_eq, step_eq}
use Rattle.overlay_geom.proofs.Cross.{cross_at_same}
use Rattle.overlay_geom.proofs.Orders.{point_eq-same, point_eq-of_same}
use Rattle.overlay_plane.specs.Turn.{Hand, IsMetBefore}
use Rattle.overlay_plane.specs.Turn.Hand.{left, right}
use Rattle.overlay_plane.specs.Alternates.{AreOneWay, Alternates, IsMetBetween}
use Rattle.overlay_plane.specs.Rays.{Apart}
use Rattle.overlay_plane.proofs.Turning.{dot_positive}
use Rattle.overlay_plane.proofs.TurnOrder.{apart_exchanged}
use Rattle.overlay_plane.proofs.CyclicOrder.{AllApart, all_apart_shifted, met_shifted, met_by_other}

-- ---- one point, one step

-- steps that pass the test are equal
pub same_steps : (s t : Step) → step_eq s t ≡ true → s ≡ t
same_steps s t h =
    let both = and_parts (point_eq s.from t.from) (point_eq s.to t.to) h in
    let same_from = point_eq-same s.from t.from both.0 in
    let same_to = point_eq-same s.to t.to both.1 in
    λ i. record { from = same_from i; to = same_to i }

-- and one step passes it
pub equal_steps : (s t : Step) → s ≡ t → step_eq s t ≡ true
equal_steps s t e = and_from (point_eq s.from t.from) (point_eq s.to t.to)
    (point_eq-of_same s.from t.from (λ i. (e i).from)) (point_eq-of_same s.to t.to (λ i. (e i).to))

-- different steps differ whichever of them is named first
pub step_eq-flip : (s t : Step) → step_eq s t ≡ false → step_eq t s ≡ false
step_eq-flip s t differ = false_from_ne_true (step_eq t s)
    (λ same. both_ways (step_eq s t) differ (equal_steps s t (sym (same_steps t s same))))

-- two steps are one, or are not
pub by_steps : (s t : Step) → (s ≡ t) ⊎ (¬ (s ≡ t))
by_steps s t = by (step_eq s t) refl
  where
    by : (b : Bool) → step_eq s t ≡ b → (s ≡ t) ⊎ (¬ (s ≡ t))
    by true e = inl (same_steps s t e)
    by false e = inr (λ same. both_ways (step_eq s t) e (equal_steps s t same))

-- ---- the steps at a node

-- the step is one of the set and begins at v
pub record Leaves (steps : List Step) (v : Point) (s : Step) : Type 0 where
  pub among : Contains steps s
  pub at : s.from ≡ v

-- the step is one of the set and ends at v
pub record Arrives (steps : List Step) (v : Point) (s : Step) : Type 0 where
  pub among : Contains steps s
  pub at : s.to ≡ v

-- two steps that leave run along different rays, where no two leave along one ray, and none has both ends in one point
pub ways_apart : (steps : List Step) → ((s : Step) → Contains steps s → ¬ (s.from ≡ s.to)) →
    ((s t : Step) → Contains steps s → Contains steps t → s.from ≡ t.from → AreOneWay s.from s.to t.to → s ≡ t) →
    (v : Point) (s t : Step) → Leaves steps v s → Leaves steps v t → ¬ (s ≡ t) → Apart v s.to t.to
ways_apart steps long one_leaves v s t h k different = record {
  first = λ e. long s h.among (h.at ∙ sym e);
  second = λ e. long t k.among (k.at ∙ sym e);
  other_ways = λ one. different (one_leaves s t h.among k.among (h.at ∙ sym k.at)
      (subst (λ w. AreOneWay w s.to t.to) (sym h.at) one));
}

module _ (steps : List Step) (alternates : Alternates steps) where
  -- a step has another point at its other end
  pub leaves_long : (v : Point) (s : Step) → Leaves steps v s → ¬ (s.to ≡ v)
  leaves_long v s h e = alternates.long s h.among (h.at ∙ sym e)

  pub arrives_long : (v : Point) (s : Step) → Arrives steps v s → ¬ (s.from ≡ v)
  arrives_long v s h e = alternates.long s h.among (e ∙ sym h.at)

  -- no step leads back along another
  pub no_way_back : (s t : Step) → Contains steps s → Contains steps t → s.from ≡ t.to → ¬ (s.to ≡ t.from)
  no_way_back s t c d ends node = alternates.none_both s t c d node
      (subst (λ w. AreOneWay s.to s.from w) ends
      (record { on_line = cross_at_same s.to s.from; ahead = dot_positive s.to s.from (alternates.long s c) }))

  -- two steps that leave, two that arrive, and one that arrives with one that leaves run along different rays
  pub leaving_apart : (v : Point) (s t : Step) → Leaves steps v s → Leaves steps v t → ¬ (s ≡ t) → Apart v s.to t.to
  leaving_apart = ways_apart steps alternates.long alternates.one_leaves

  pub arriving_apart : (v : Point) (s t : Step) → Arrives steps v s → Arrives steps v t → ¬ (s ≡ t) →
      Apart v s.from t.from
  arriving_apart v s t h k different = record {
    first = arrives_long v s h;
    second = arrives_long v t k;
    other_ways = λ one. different (alternates.one_arrives s t h.among k.among (h.at ∙ sym k.at)
        (subst (λ w. AreOneWay w s.from t.from) (sym h.at) one));
  }

  pub passing_apart : (v : Point) (s t : Step) → Arrives steps v s → Leaves steps v t → Apart v s.from t.to
  passing_apart v s t h k = record {
    first = arrives_long v s h;
    second = leaves_long v t k;
    other_ways = λ one. alternates.none_both s t h.among k.among (h.at ∙ sym k.at)
        (subst (λ w. AreOneWay w s.from t.to) (sym h.at) one);
  }

  -- two that leave with one that arrives, in the order leaves, arrives, leaves
  pub all_apart_leaving : (v : Point) (s a t : Step) → Leaves steps v s → Arrives steps v a → Leaves steps v t →
      ¬ (s ≡ t) → AllApart v s.to a.from t.to
  all_apart_leaving v s a t h at k different = record {
    one = apart_exchanged v a.from s.to (passing_apart v a s at h);
    two = passing_apart v a t at k;
    three = leaving_apart v t s k h (λ e. different (sym e));
  }

  -- two that arrive with one that leaves, in the order arrives, leaves, arrives
  pub all_apart_arriving : (v : Point) (s w t : Step) → Arrives steps v s → Leaves steps v w → Arrives steps v t →
      ¬ (s ≡ t) → AllApart v s.from w.to t.from
  all_apart_arriving v s w t h at k different = record {
    one = passing_apart v s w h at;
    two = apart_exchanged v t.from w.to (passing_apart v t w k at);
    three = arriving_apart v t s k h (λ e. different (sym e));
  }

  -- ---- by either hand

  -- turning counterclockwise from a step that leaves, a ray meets one that arrives before another that leaves
  arrives_between_right : (v : Point) (s t : Step) → Leaves steps v s → Leaves steps v t → ¬ (s ≡ t) →
      (u : Step) × Arrives steps v u × IsMetBefore right v s.to u.from t.to
  arrives_between_right v s t h k different =
      let found = alternates.arrives_between s t h.among k.among (h.at ∙ sym k.at) different in (
        found.0,
        record { among = found.1; at = found.2 ∙ h.at },
        subst (λ w. IsMetBetween w s.to (found.0).from t.to)
            h.at found.3,
      )

  -- turning by either hand from a step that leaves, a ray meets one that arrives before another that leaves
  pub arrives_between_by : (hand : Hand) (v : Point) (s t : Step) → Leaves steps v s → Leaves steps v t → ¬ (s ≡ t) →
      (u : Step) × Arrives steps v u × IsMetBefore hand v s.to u.from t.to
  arrives_between_by right v s t h k different = arrives_between_right v s t h k different
  arrives_between_by left v s t h k different =
      let back = arrives_between_right v t s k h (λ e. different (sym e)) in
      let apart : AllApart v t.to (back.0).from s.to = all_apart_leaving v t back.0 s k back.1 h
      (λ e. different (sym e)) in
      let from_between = met_shifted right v t.to (back.0).from s.to apart back.2 in
      let from_s = met_shifted right v (back.0).from s.to t.to (all_apart_shifted v t.to (back.0).from s.to apart)
      from_between in (
        back.0,
        back.1,
        met_by_other right v s.to t.to (back.0).from
            (all_apart_shifted v (back.0).from s.to t.to (all_apart_shifted v t.to (back.0).from s.to apart)) from_s,
      )

  -- turning counterclockwise from a step that arrives, a ray meets one that leaves before another that arrives
  leaves_between_right : (v : Point) (s t : Step) → Arrives steps v s → Arrives steps v t → ¬ (s ≡ t) →
      (u : Step) × Leaves steps v u × IsMetBefore right v s.from u.to t.from
  leaves_between_right v s t h k different =
      let found = alternates.leaves_between s t h.among k.among (h.at ∙ sym k.at) different in (
        found.0,
        record { among = found.1; at = found.2 ∙ h.at },
        subst (λ w. IsMetBetween w s.from (found.0).to t.from)
            h.at found.3,
      )

  -- turning by either hand from a step that arrives, a ray meets one that leaves before another that arrives
  pub leaves_between_by : (hand : Hand) (v : Point) (s t : Step) → Arrives steps v s → Arrives steps v t → ¬ (s ≡ t) →
      (u : Step) × Leaves steps v u × IsMetBefore hand v s.from u.to t.from
  leaves_between_by right v s t h k different = leaves_between_right v s t h k different
  leaves_between_by left v s t h k different =
      let back = leaves_between_right v t s k h (λ e. different (sym e)) in
      let apart : AllApart v t.from (back.0).to s.from = all_apart_arriving v t back.0 s k back.1 h
      (λ e. different (sym e)) in
      let from_between = met_shifted right v t.from (back.0).to s.from apart back.2 in
      let from_s = met_shifted right v (back.0).to s.from t.from (all_apart_shifted v t.from (back.0).to s.from apart)
      from_between in (
        back.0,
        back.1,
        met_by_other right v s.from t.from (back.0).to
            (all_apart_shifted v (back.0).to s.from t.from (all_apart_shifted v t.from (back.0).to s.from apart))
            from_s,
      )
