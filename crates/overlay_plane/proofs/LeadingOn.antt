-- In a set of steps that leads on by a hand each step has one next step. A part that contains with each step the next
-- step and the step before leads on again, with equal next steps.
use Rattle.std.proofs.Common.{◌≡◌, ◌↔◌, ⊎_elim, Bool, false, not, List, Contains, filter, sym, ap, ◌∙◌, subst}
use Rattle.std.proofs.lemmas.Bool.{both_ways}
use Rattle.std.proofs.lemmas.List.Elements.{All-contains}
use Rattle.overlay_geom.specs.Plane.{Step, point_eq}
use Rattle.overlay_geom.proofs.Orders.{point_eq-same, point_eq-of_same}
use Rattle.overlay_plane.specs.Alternates.{AreOneWay}
use Rattle.overlay_plane.specs.Turn.{Hand, is_met_before, IsNextStep}
use Rattle.overlay_plane.specs.NextSteps.{LeadsOn, IsClosedUnderNext, StepsThatLeadOnHaveOneNext, ClosedPartsLeadOn}
use Rattle.overlay_plane.proofs.AtNodes.{by_steps, Leaves, ways_apart}
use Rattle.overlay_plane.proofs.Entries.{Contains-from_filter, Contains-filter, all_of_entries}
use Rattle.overlay_plane.proofs.Nearest.{nearest}
use Rattle.overlay_plane.proofs.TurnOrder.{met_irreflexive, met_transitive, met_total}

-- none of the steps that leave is met before the next step
pub none_leaves_before : (steps : List Step) (hand : Hand) (s t u : Step) → IsNextStep steps hand s t →
    Leaves steps s.to u → is_met_before hand s.to s.from u.to t.to ≡ false
none_leaves_before steps hand s t u next h = All-contains (λ u. u.from ≡ s.to →
    is_met_before hand s.to s.from u.to t.to ≡ false) steps u next.first h.among h.at

-- the next step leaves at the end of the step
pub next_leaves : (steps : List Step) (hand : Hand) (s t : Step) → IsNextStep steps hand s t → Leaves steps s.to t
next_leaves steps hand s t next = record { among = next.among; at = next.leaves }

module _ (steps : List Step) (hand : Hand) (long : (s : Step) → Contains steps s → ¬ (s.from ≡ s.to)) where
  -- if some step leaves its end, a step has a next step: the step met first
  pub next_where_on : (s : Step) → Contains steps s → (t : Step) × Contains steps t × (t.from ≡ s.to) →
      (t : Step) × IsNextStep steps hand s t
  next_where_on s c on =
      let first = nearest (λ w. point_eq w.from s.to) (λ w z. is_met_before hand s.to s.from w.to z.to)
      (λ w. met_irreflexive hand s.to s.from w.to) (λ w y z. met_transitive hand s.to s.from w.to y.to z.to
      (long s c)) steps on.0 on.1 (point_eq-of_same (on.0).from s.to on.2) in (
        first.0,
        record {
          among = (first.1).among;
          leaves = point_eq-same (first.0).from s.to (first.1).passed;
          first = all_of_entries (λ u. u.from ≡ s.to → is_met_before hand s.to s.from u.to (first.0).to ≡ false) steps
              (λ u at e. (first.1).first u at (point_eq-of_same u.from s.to e));
        },
      )

  -- the next step is unique, if no two leave along one ray
  pub one_next : ((s t : Step) → Contains steps s → Contains steps t → s.from ≡ t.from → AreOneWay s.from s.to t.to →
      s ≡ t) →
      (s t u : Step) → Contains steps s → IsNextStep steps hand s t → IsNextStep steps hand s u → t ≡ u
  one_next one_leaves s t u c to_t to_u = ⊎_elim (λ same. same) (λ different. absurd (⊎_elim
      (λ before. both_ways (is_met_before hand s.to s.from t.to u.to)
      (none_leaves_before steps hand s u t to_u (next_leaves steps hand s t to_t)) before)
      (λ after. both_ways (is_met_before hand s.to s.from u.to t.to)
      (none_leaves_before steps hand s t u to_t (next_leaves steps hand s u to_u)) after)
      (met_total hand s.to s.from t.to u.to (long s c)
      (ways_apart steps long one_leaves s.to t u (next_leaves steps hand s t to_t) (next_leaves steps hand s u to_u)
      different)))) (by_steps t u)

module _ (steps : List Step) (hand : Hand) (leads : LeadsOn steps hand) where
  -- each step has a next step
  pub has_next : (s : Step) → Contains steps s → (t : Step) × IsNextStep steps hand s t
  has_next s c = next_where_on steps hand leads.long s c (leads.goes_on s c)

  -- the next step is unique
  pub has_one_next : (s t u : Step) → Contains steps s → IsNextStep steps hand s t → IsNextStep steps hand s u → t ≡ u
  has_one_next = one_next steps hand leads.long leads.one_leaves

  module _ (taken : Step → Bool) (closed : IsClosedUnderNext steps hand taken) where
    -- the steps of the part are steps of the set
    from_part : (s : Step) → Contains (filter taken steps) s → Contains steps s
    from_part s c = (Contains-from_filter taken steps s c).0

    -- a next step in the set is the next step in the part
    next_in_part : (s t : Step) → Contains (filter taken steps) s → IsNextStep steps hand s t →
        IsNextStep (filter taken steps) hand s t
    next_in_part s t c next = record {
      among = Contains-filter taken steps t next.among (sym (closed s t (from_part s c) next)
          ∙ (Contains-from_filter taken steps s c).1);
      leaves = next.leaves;
      first = all_of_entries (λ u. u.from ≡ s.to → is_met_before hand s.to s.from u.to t.to ≡ false)
          (filter taken steps) (λ u d e. none_leaves_before steps hand s t u next
          (record { among = from_part u d; at = e }));
    }

    -- the converse
    next_of_part : (s t : Step) → Contains (filter taken steps) s → IsNextStep (filter taken steps) hand s t →
        IsNextStep steps hand s t
    next_of_part s t c next =
        let whole = has_next s (from_part s c) in
        let same = one_next (filter taken steps) hand (λ w d. leads.long w (from_part w d))
        (λ w z d e. leads.one_leaves w z (from_part w d) (from_part z e)) s whole.0 t c
        (next_in_part s whole.0 c whole.1) next in
        subst (λ w. IsNextStep steps hand s w) same whole.1

    pub next_alike : (s t : Step) → Contains (filter taken steps) s → IsNextStep (filter taken steps) hand s t
        ↔ IsNextStep steps hand s t
    next_alike s t c = (next_of_part s t c, next_in_part s t c)

    -- the part leads on
    pub part_leads_on : LeadsOn (filter taken steps) hand
    part_leads_on = record {
      long = λ s c. leads.long s (from_part s c);
      one_leaves = λ s t c d. leads.one_leaves s t (from_part s c) (from_part t d);
      goes_on = λ s c. let next = has_next s (from_part s c) in let there = next_in_part s next.0 c next.1 in
          (next.0, there.among, there.leaves);
      apart = λ s t u c d from_s from_t. leads.apart s t u (from_part s c) (from_part t d) (next_of_part s u c from_s)
          (next_of_part t u d from_t);
    }

-- the laws
pub steps_that_lead_on_have_one_next : StepsThatLeadOnHaveOneNext
steps_that_lead_on_have_one_next steps hand leads s c =
    let next = has_next steps hand leads s c in
    record { next = next.0; is = next.1; only = λ t other. has_one_next steps hand leads s t next.0 c other next.1 }

pub closed_parts_lead_on : ClosedPartsLeadOn
closed_parts_lead_on steps hand leads part closed = record {
  part_leads_on = part_leads_on steps hand leads part closed;
  rest_leads_on = part_leads_on steps hand leads (λ s. not (part s)) rest_closed;
  part_next = next_alike steps hand leads part closed;
  rest_next = next_alike steps hand leads (λ s. not (part s)) rest_closed;
}
  where
    rest_closed : IsClosedUnderNext steps hand (λ s. not (part s))
    rest_closed s t c next = ap not (closed s t c next)
