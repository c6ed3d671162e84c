-- Part of an alternating set that contains with each step its next step by a hand and the step before. It alternates,
-- and its steps have their next steps of the set.
use Rattle.std.proofs.Common.{◌≡◌, Bool, true, false, not, List, Contains, filter, refl, sym, ap, ◌∙◌, subst}
use Rattle.overlay_geom.specs.Plane.{Point, Step}
use Rattle.overlay_plane.specs.Turn.{Hand, is_met_before, IsMetBefore, IsNextStep}
use Rattle.overlay_plane.specs.Turn.Hand.{left, right}
use Rattle.overlay_plane.specs.Alternates.{Alternates}
use Rattle.overlay_plane.specs.NextSteps.{IsClosedUnderNext, ClosedPartsAlternate}
use Rattle.overlay_plane.proofs.Entries.{Contains-from_filter, Contains-filter}
use Rattle.overlay_plane.proofs.CyclicOrder.{AllApart, all_apart_shifted, all_apart_exchanged, met_shifted}
use Rattle.overlay_plane.proofs.CyclicOrder.{met_by_other, met_after}
use Rattle.overlay_plane.proofs.AtNodes.{Leaves, Arrives, arrives_long, leaving_apart, all_apart_leaving}
use Rattle.overlay_plane.proofs.AtNodes.{all_apart_arriving}
use Rattle.overlay_plane.proofs.LeadingOn.{none_leaves_before, has_next, next_alike}
use Rattle.overlay_plane.proofs.NextSteps.{leads_on, next_surjective, arrives_after}

module _ (steps : List Step) (alternates : Alternates steps) (hand : Hand) (taken : Step → Bool)
    (closed : IsClosedUnderNext steps hand taken) where
  -- the steps of the part
  abbrev part : List Step
  part = filter taken steps

  -- are steps of the set
  from_part : (s : Step) → Contains part s → Contains steps s × (taken s ≡ true)
  from_part s c = Contains-from_filter taken steps s c

  -- the steps leave and arrive at the same nodes
  leaves_there : (v : Point) (s : Step) → Leaves part v s → Leaves steps v s
  leaves_there v s h = record { among = (from_part s h.among).0; at = h.at }

  arrives_there : (v : Point) (s : Step) → Arrives part v s → Arrives steps v s
  arrives_there v s h = record { among = (from_part s h.among).0; at = h.at }

  -- with each step the part holds the next
  next_in_part : (s : Step) → Contains part s → (t : Step) × Contains part t × IsNextStep steps hand s t
  next_in_part s c =
      let whole = from_part s c in
      let next = has_next steps hand (leads_on steps alternates hand) s whole.0 in (
        next.0,
        Contains-filter taken steps next.0 (next.1).among (sym (closed s next.0 whole.0 next.1) ∙ whole.1),
        next.1,
      )

  -- the part contains with each next step the step before
  step_before_in_part : (t : Step) → Contains part t → (s : Step) × Contains part s × IsNextStep steps hand s t
  step_before_in_part t c =
      let whole = from_part t c in
      let last = next_surjective steps alternates hand t whole.0 in
      (last.0, Contains-filter taken steps last.0 last.1 (closed last.0 t last.1 last.2 ∙ whole.1), last.2)

  -- a ray that turns by the hand from a leaving step meets an arriving step of the part before another leaving step of
  -- the part. It is the step whose next step that is
  arrives_in_part : (v : Point) (s t : Step) → Leaves part v s → Leaves part v t → ¬ (s ≡ t) →
      (u : Step) × Arrives part v u × IsMetBefore hand v s.to u.from t.to
  arrives_in_part v s t h k different = (
    u,
    record { among = last.1; at = node },
    met_shifted hand v t.to s.to u.from
        (all_apart_shifted v u.from t.to s.to apart) (met_shifted hand v u.from t.to s.to apart after),
  )
    where
      last : (s : Step) × Contains part s × IsNextStep steps hand s t
      last = step_before_in_part t k.among

      u : Step
      u = last.0

      node : u.to ≡ v
      node = sym (last.2).leaves ∙ k.at

      u_arrives : Arrives steps v u
      u_arrives = record { among = (from_part u last.1).0; at = node }

      apart : AllApart v u.from t.to s.to
      apart = all_apart_exchanged v u.from s.to t.to
          (all_apart_shifted v t.to u.from s.to
          (all_apart_leaving steps alternates v t u s (leaves_there v t k) u_arrives (leaves_there v s h)
          (λ e. different (sym e))))

      after : IsMetBefore hand v u.from t.to s.to
      after = met_after hand v u.from s.to t.to (arrives_long steps alternates v u u_arrives)
          (leaving_apart steps alternates v s t (leaves_there v s h) (leaves_there v t k) different)
          (subst (λ w. is_met_before hand w u.from s.to t.to ≡ false) node
          (none_leaves_before steps hand u t s last.2
          (record { among = (from_part s h.among).0; at = h.at ∙ sym node })))

  -- turning by the hand from a step that arrives, a ray meets its next step before another that arrives
  leaves_in_part : (v : Point) (s t : Step) → Arrives part v s → Arrives part v t → ¬ (s ≡ t) →
      (u : Step) × Leaves part v u × IsMetBefore hand v s.from u.to t.from
  leaves_in_part v s t h k different =
      let next = next_in_part s h.among in
      let after = arrives_after steps alternates hand s next.0 t (from_part s h.among).0 next.2
      (record { among = (from_part t k.among).0; at = k.at ∙ sym h.at }) different in (
        next.0,
        record { among = next.1; at = (next.2).leaves ∙ h.at },
        subst (λ w. IsMetBefore hand w s.from (next.0).to t.from) h.at after,
      )

-- a fact between any two by one hand holds between any two counterclockwise
arrives_in_part_right : (steps : List Step) (alternates : Alternates steps) (hand : Hand) (taken : Step → Bool)
    (closed : IsClosedUnderNext steps hand taken) (v : Point) (s t : Step) → Leaves (filter taken steps) v s →
    Leaves (filter taken steps) v t → ¬ (s ≡ t) →
    (u : Step) × Arrives (filter taken steps) v u × IsMetBefore right v s.to u.from t.to
arrives_in_part_right steps alternates right taken closed v s t h k different = arrives_in_part steps alternates right
    taken closed v s t h k different
arrives_in_part_right steps alternates left taken closed v s t h k different =
    let back = arrives_in_part steps alternates left taken closed v t s k h (λ e. different (sym e)) in
    let leaves = leaves_there steps alternates left taken closed v in
    let apart : AllApart v t.to (back.0).from s.to = all_apart_leaving steps alternates v t back.0 s (leaves t k)
    (arrives_there steps alternates left taken closed v back.0 back.1) (leaves s h) (λ e. different (sym e)) in
    let from_between = met_shifted left v t.to (back.0).from s.to apart back.2 in
    let from_s = met_shifted left v (back.0).from s.to t.to (all_apart_shifted v t.to (back.0).from s.to apart)
    from_between in (
      back.0,
      back.1,
      met_by_other left v s.to t.to (back.0).from
          (all_apart_shifted v (back.0).from s.to t.to (all_apart_shifted v t.to (back.0).from s.to apart)) from_s,
    )

-- likewise between two that arrive
leaves_in_part_right : (steps : List Step) (alternates : Alternates steps) (hand : Hand) (taken : Step → Bool)
    (closed : IsClosedUnderNext steps hand taken) (v : Point) (s t : Step) → Arrives (filter taken steps) v s →
    Arrives (filter taken steps) v t → ¬ (s ≡ t) →
    (u : Step) × Leaves (filter taken steps) v u × IsMetBefore right v s.from u.to t.from
leaves_in_part_right steps alternates right taken closed v s t h k different = leaves_in_part steps alternates right
    taken closed v s t h k different
leaves_in_part_right steps alternates left taken closed v s t h k different =
    let back = leaves_in_part steps alternates left taken closed v t s k h (λ e. different (sym e)) in
    let arrives = arrives_there steps alternates left taken closed v in
    let apart : AllApart v t.from (back.0).to s.from = all_apart_arriving steps alternates v t back.0 s (arrives t k)
    (leaves_there steps alternates left taken closed v back.0 back.1) (arrives s h) (λ e. different (sym e)) in
    let from_between = met_shifted left v t.from (back.0).to s.from apart back.2 in
    let from_s = met_shifted left v (back.0).to s.from t.from (all_apart_shifted v t.from (back.0).to s.from apart)
    from_between in (
      back.0,
      back.1,
      met_by_other left v s.from t.from (back.0).to
          (all_apart_shifted v (back.0).to s.from t.from (all_apart_shifted v t.from (back.0).to s.from apart)) from_s,
    )

module _ (steps : List Step) (alternates : Alternates steps) (hand : Hand) (taken : Step → Bool)
    (closed : IsClosedUnderNext steps hand taken) where
  -- each step of the part is one of the set
  in_steps : (s : Step) → Contains (filter taken steps) s → Contains steps s
  in_steps s c = (Contains-from_filter taken steps s c).0

  -- a closed part alternates
  pub closed_part_alternates : Alternates (filter taken steps)
  closed_part_alternates = record {
    long = λ s c. alternates.long s (in_steps s c);
    one_leaves = λ s t c d. alternates.one_leaves s t (in_steps s c) (in_steps t d);
    one_arrives = λ s t c d. alternates.one_arrives s t (in_steps s c) (in_steps t d);
    none_both = λ s t c d. alternates.none_both s t (in_steps s c) (in_steps t d);
    arrives_between = λ s t c d e different. let found = arrives_in_part_right steps alternates hand taken closed s.from
        s t (record { among = c; at = refl }) (record { among = d; at = sym e }) different in
        (found.0, (found.1).among, (found.1).at, found.2);
    leaves_between = λ s t c d e different. let found = leaves_in_part_right steps alternates hand taken closed s.to s t
        (record { among = c; at = refl }) (record { among = d; at = sym e }) different in
        (found.0, (found.1).among, (found.1).at, found.2);
    goes_on = λ s c. let next = next_in_part steps alternates hand taken closed s c in
        (next.0, next.1, (next.2).leaves);
    comes_in = λ t c. let last = step_before_in_part steps alternates hand taken closed t c in
        (last.0, last.1, sym (last.2).leaves);
  }

-- the part and the rest, which is closed too
pub closed_parts_alternate : ClosedPartsAlternate
closed_parts_alternate steps alternates hand taken closed = record {
  taken_alternate = closed_part_alternates steps alternates hand taken closed;
  left_alternate = closed_part_alternates steps alternates hand (λ s. not (taken s)) rest_closed;
  taken_next = next_alike steps hand (leads_on steps alternates hand) taken closed;
  left_next = next_alike steps hand (leads_on steps alternates hand) (λ s. not (taken s)) rest_closed;
}
  where
    rest_closed : IsClosedUnderNext steps hand (λ s. not (taken s))
    rest_closed s t c next = ap not (closed s t c next)
