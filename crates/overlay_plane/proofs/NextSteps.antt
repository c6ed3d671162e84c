-- In a set of steps that alternates each step has one next step by a hand, its neighbour at the node. It is the next
-- step of one step.
use Rattle.std.proofs.Common.{◌≡◌, ⊎_elim, false, List, Contains, refl, sym, ◌∙◌, subst}
use Rattle.std.proofs.lemmas.Bool.{both_ways, false_from_ne_true}
use Rattle.overlay_geom.specs.Plane.{Step, point_eq}
use Rattle.overlay_geom.proofs.Orders.{point_eq-same, point_eq-of_same}
use Rattle.overlay_plane.specs.Turn.{Hand, is_met_before, IsMetBefore, IsNextStep, other_hand}
use Rattle.overlay_plane.specs.Alternates.{Alternates}
use Rattle.overlay_plane.specs.NextSteps.{LeadsOn, AlternatingStepsLeadOn, NextIsOneToOne}
use Rattle.overlay_plane.proofs.Entries.{all_of_entries}
use Rattle.overlay_plane.proofs.TurnOrder.{apart_exchanged, met_irreflexive, met_transitive, start_is_last}
use Rattle.overlay_plane.proofs.CyclicOrder.{AllApart, all_apart_shifted, met_shifted, met_by_other, met_after}
use Rattle.overlay_plane.proofs.CyclicOrder.{not_both}
use Rattle.overlay_plane.proofs.LeadingOn.{none_leaves_before, next_leaves, has_next, has_one_next}
use Rattle.overlay_plane.proofs.Nearest.{IsNearest, nearest}
use Rattle.overlay_plane.proofs.AtNodes.{by_steps, Leaves, Arrives, leaves_long, arriving_apart, passing_apart}
use Rattle.overlay_plane.proofs.AtNodes.{all_apart_leaving, all_apart_arriving, arrives_between_by, leaves_between_by}

module _ (steps : List Step) (alternates : Alternates steps) (hand : Hand) where
  -- a step arrives at its own end
  arrives : (s : Step) → Contains steps s → Arrives steps s.to s
  arrives s c = record { among = c; at = refl }

  -- no step that arrives is met before the next step
  pub none_arrives_before : (s t a : Step) → Contains steps s → IsNextStep steps hand s t → Arrives steps s.to a →
      is_met_before hand s.to s.from a.from t.to ≡ false
  none_arrives_before s t a c next h = ⊎_elim
      (λ same. subst (λ w. is_met_before hand s.to s.from w.from t.to ≡ false) same
      (start_is_last hand s.to s.from t.to))
      (λ different. false_from_ne_true (is_met_before hand s.to s.from a.from t.to) (against different)) (by_steps s a)
    where
      against : ¬ (s ≡ a) → ¬ (IsMetBefore hand s.to s.from a.from t.to)
      against different before =
          let between = leaves_between_by steps alternates hand s.to s a (arrives s c) h different in
          both_ways (is_met_before hand s.to s.from (between.0).to t.to)
          (none_leaves_before steps hand s t between.0 next between.1)
          (met_transitive hand s.to s.from (between.0).to a.from t.to (alternates.long s c) between.2 before)

  -- another step that arrives is met after the next step
  pub arrives_after : (s t a : Step) → Contains steps s → IsNextStep steps hand s t → Arrives steps s.to a → ¬ (s ≡ a) →
      IsMetBefore hand s.to s.from t.to a.from
  arrives_after s t a c next h different = met_after hand s.to s.from a.from t.to (alternates.long s c)
      (passing_apart steps alternates s.to a t h (next_leaves steps hand s t next)) (none_arrives_before s t a c next h)

  -- two steps with one next step are equal
  pub next_injective : (s t u : Step) → Contains steps s → Contains steps t → IsNextStep steps hand s u →
      IsNextStep steps hand t u → s ≡ t
  next_injective s t u c d from_s from_t = ⊎_elim (λ same. same) (λ different. absurd (against different))
      (by_steps s t)
    where
      one_node : t.to ≡ s.to
      one_node = sym from_t.leaves ∙ from_s.leaves

      t_arrives : Arrives steps s.to t
      t_arrives = record { among = d; at = one_node }

      s_arrives : Arrives steps t.to s
      s_arrives = record { among = c; at = sym one_node }

      against : ¬ (s ≡ t) → ⊥
      against different =
          let from_t_on = arrives_after t u s d from_t s_arrives (λ e. different (sym e)) in
          let at_s : IsMetBefore hand s.to t.from u.to s.from = subst (λ w. IsMetBefore hand w t.from u.to s.from)
          one_node from_t_on in
          let apart : AllApart s.to t.from u.to s.from = all_apart_arriving steps alternates s.to t u s t_arrives
          (next_leaves steps hand s u from_s) (arrives s c) (λ e. different (sym e)) in
          let from_u = met_shifted hand s.to t.from u.to s.from apart at_s in
          let back = met_shifted hand s.to u.to s.from t.from (all_apart_shifted s.to t.from u.to s.from apart)
          from_u in
          not_both hand s.to s.from u.to t.from (alternates.long s c) (arrives_after s u t c from_s t_arrives different)
          back

  -- the steps lead on by the hand
  pub leads_on : LeadsOn steps hand
  leads_on = record {
    long = alternates.long;
    one_leaves = alternates.one_leaves;
    goes_on = alternates.goes_on;
    apart = next_injective;
  }

  -- the step that arrives where t leaves and that the other hand meets first, turning from t
  before : (t : Step) → Contains steps t →
      (s : Step) × IsNearest (λ w. point_eq w.to t.from)
      (λ w z. is_met_before (other_hand hand) t.from t.to w.from z.from) steps s
  before t c =
      let into = alternates.comes_in t c in
      nearest (λ w. point_eq w.to t.from) (λ w z. is_met_before (other_hand hand) t.from t.to w.from z.from)
      (λ w. met_irreflexive (other_hand hand) t.from t.to w.from)
      (λ w y z. met_transitive (other_hand hand) t.from t.to w.from y.from z.from
      (λ e. alternates.long t c (sym e))) steps into.0 into.1 (point_eq-of_same (into.0).to t.from into.2)

  -- a step that leaves and would be met between that one and t leaves room for one that arrives nearer to t
  none_between : (s t u : Step) → Leaves steps t.from t → Arrives steps t.from s → Leaves steps t.from u →
      ((a : Step) → Arrives steps t.from a → ¬ (IsMetBefore (other_hand hand) t.from t.to a.from s.from)) →
      ¬ (IsMetBefore hand t.from s.from u.to t.to)
  none_between s t u at_t at_s at_u none met = ⊎_elim (λ same. both_ways (is_met_before hand t.from s.from t.to t.to)
      (met_irreflexive hand t.from s.from t.to) (subst (λ w. IsMetBefore hand t.from s.from w.to t.to) same met))
      against (by_steps u t)
    where
      against : ¬ (u ≡ t) → ⊥
      against different =
          let between = arrives_between_by steps alternates hand t.from u t at_u at_t different in
          let apart_s : AllApart t.from s.from u.to t.to = all_apart_shifted t.from t.to s.from u.to
          (all_apart_leaving steps alternates t.from t s u at_t at_s at_u (λ e. different (sym e))) in
          let apart_a : AllApart t.from u.to (between.0).from t.to = all_apart_leaving steps alternates t.from u
          between.0 t at_u between.1 at_t different in
          let to_u = met_shifted hand t.from u.to t.to s.from (all_apart_shifted t.from s.from u.to t.to apart_s)
          (met_shifted hand t.from s.from u.to t.to apart_s met) in
          let to_a = met_shifted hand t.from (between.0).from t.to u.to
          (all_apart_shifted t.from u.to (between.0).from t.to apart_a)
          (met_shifted hand t.from u.to (between.0).from t.to apart_a between.2) in
          let whole = met_transitive hand t.from t.to s.from u.to (between.0).from
          (leaves_long steps alternates t.from t at_t) to_u to_a in
          ⊎_elim (λ same. both_ways (is_met_before hand t.from t.to s.from s.from)
          (met_irreflexive hand t.from t.to s.from) (subst (λ w. IsMetBefore hand t.from t.to s.from w.from)
          (sym same) whole)) (λ other. none between.0 between.1
          (met_by_other hand t.from t.to s.from (between.0).from
          (record {
            one = apart_exchanged t.from s.from t.to (passing_apart steps alternates t.from s t at_s at_t);
            two = arriving_apart steps alternates t.from s between.0 at_s between.1 other;
            three = passing_apart steps alternates t.from between.0 t between.1 at_t;
          }) whole)) (by_steps s between.0)

  -- each step is the next step of the step that the other hand meets first, turning from it
  pub next_surjective : (t : Step) → Contains steps t → (s : Step) × Contains steps s × IsNextStep steps hand s t
  next_surjective t c = (
    s,
    near.among,
    record {
      among = c;
      leaves = sym node;
      first = all_of_entries (λ u. u.from ≡ s.to → is_met_before hand s.to s.from u.to t.to ≡ false) steps
          (λ u at e. subst (λ w. is_met_before hand w s.from u.to t.to ≡ false) (sym node)
          (false_from_ne_true (is_met_before hand t.from s.from u.to t.to)
          (none_between s t u (record { among = c; at = refl }) (record { among = near.among; at = node })
          (record { among = at; at = e ∙ node })
          (λ a h. λ m. both_ways (is_met_before (other_hand hand) t.from t.to a.from s.from)
          (near.first a h.among (point_eq-of_same a.to t.from h.at)) m))));
    },
  )
    where
      s : Step
      s = (before t c).0

      near : IsNearest (λ w. point_eq w.to t.from) (λ w z. is_met_before (other_hand hand) t.from t.to w.from z.from)
          steps s
      near = (before t c).1

      node : s.to ≡ t.from
      node = point_eq-same s.to t.from near.passed

-- the laws
pub alternating_steps_lead_on : AlternatingStepsLeadOn
alternating_steps_lead_on steps alternates hand = leads_on steps alternates hand

pub next_is_one_to_one : NextIsOneToOne
next_is_one_to_one steps alternates hand = record {
  exists = has_next steps hand (leads_on steps alternates hand);
  unique = has_one_next steps hand (leads_on steps alternates hand);
  injective = next_injective steps alternates hand;
  surjective = next_surjective steps alternates hand;
  neighbours = λ s t u c next d at. none_arrives_before steps alternates hand s t u c next
      (record { among = d; at = at });
}
