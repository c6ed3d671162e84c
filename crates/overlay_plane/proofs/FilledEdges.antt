-- Walks that have the selected steps, each once, follow the rule. For a selected step is filled above exactly where the
-- rule holds above its edge.
use Rattle.std.proofs.Common.{◌≡◌, Bool, true, false, cond, not, ℤ, List, Contains, refl, sym, ap, ap₂, ◌∙◌, subst}
use Rattle.std.specs.List.Sorted.{IsPermutation}
use Rattle.std.proofs.lemmas.List.Sorted.{Contains-permutation, IsPermutation-sym}
use Rattle.overlay_geom.specs.Plane.{Step, is_forward, edge_of, point_lt}
use Rattle.overlay_geom.specs.Edges.{CountedEdge, ends_of}
use Rattle.overlay_geom.proofs.Orders.{edge_eq-from_ends}
use Rattle.overlay_plane.specs.Regions.{IsRuled, holds_above, holds_below}
use Rattle.overlay_plane.specs.SelectedSteps.{selected_steps, selected_step, IsSelectedStep}
use Rattle.overlay_plane.specs.Contours.{is_filled_above, all_steps}
use Rattle.overlay_plane.specs.Binding.{all_filled_above}
use Rattle.overlay_plane.specs.KeptContours.{CanBeBound}
use Rattle.overlay_plane.specs.Turn.{Hand, is_left_hand}
use Rattle.overlay_plane.specs.Turn.Hand.{left, right}
use Rattle.overlay_plane.proofs.RuledWalks.{FollowRule, IsFilledBeside, above_kept}
use Rattle.overlay_plane.proofs.SelectedLists.{selected_steps_of_edges}
use Rattle.overlay_plane.proofs.SelectedWindings.{along_edge, forward_above}
use Rattle.overlay_plane.proofs.SingleEntries.{one_entry}
use Rattle.overlay_plane.proofs.WalksOfCuts.{edge_forward}

-- the walks have the selected steps of a ruled list, each once, and can be bound
pub record HaveSelected (holds : ℤ → ℤ → Bool) (subj clip : CountedEdge → ℤ) (es : List CountedEdge) (filled : Hand)
    (walks : List (List Step)) : Type 0 where
  pub ruled : IsRuled holds subj clip es
  pub each_once : IsPermutation (selected_steps holds subj clip filled es) (all_steps walks)
  pub bindable : CanBeBound filled walks

module _ (holds : ℤ → ℤ → Bool) (subj clip : CountedEdge → ℤ) (es : List CountedEdge) (filled : Hand)
    (walks : List (List Step))
    (have : HaveSelected holds subj clip es filled walks) where
  -- the selected steps
  abbrev steps : List Step
  steps = selected_steps holds subj clip filled es

  -- a selected step is filled above exactly where the rule holds above its edge
  filled_is : (e : CountedEdge) (s : Step) → IsSelectedStep holds subj clip es filled e s →
      is_filled_above filled s ≡ holds_above holds subj clip es e
  filled_is e s h = by filled forward
    where
      leads : point_lt e.a e.b ≡ true
      leads = edge_forward holds subj clip es have.ruled (ends_of e)
          (record { entry = e; among = h.entry; ends = refl })

      forward : is_forward s ≡ cond (is_left_hand filled) (holds_above holds subj clip es e)
          (not (holds_above holds subj clip es e))
      forward = ap is_forward h.walks
          ∙ forward_above (ends_of e) leads
          (cond (is_left_hand filled) (holds_above holds subj clip es e) (holds_below holds subj clip es e))
          ∙ ap (λ t. cond (is_left_hand filled) (holds_above holds subj clip es e) t) h.changes

      twice : (t : Bool) → not (not t) ≡ t
      twice true = refl
      twice false = refl

      by : (t : Hand) → is_forward s ≡ cond (is_left_hand t) (holds_above holds subj clip es e)
          (not (holds_above holds subj clip es e)) →
          is_filled_above t s ≡ holds_above holds subj clip es e
      by left is = is
      by right is = ap not is ∙ twice (holds_above holds subj clip es e)

  -- it walks along its edge
  edge_is : (e : CountedEdge) (s : Step) → IsSelectedStep holds subj clip es filled e s → edge_of s ≡ ends_of e
  edge_is e s h = ap edge_of h.walks
      ∙ along_edge (ends_of e) (edge_forward holds subj clip es have.ruled (ends_of e)
      (record { entry = e; among = h.entry; ends = refl }))
      (cond (is_left_hand filled) (holds_above holds subj clip es e) (holds_below holds subj clip es e))

  -- a selected step that is filled above is one of a walk
  filled_kept : (s : Step) → Contains steps s → is_filled_above filled s ≡ true →
      Contains (all_filled_above filled walks) (edge_of s)
  filled_kept s c over = above_kept filled walks s
      (Contains-permutation steps (all_steps walks) s have.each_once c) over

  -- so the walks follow the rule
  pub selected_follow : FollowRule holds subj clip es filled walks
  selected_follow = record {
    ruled = have.ruled;
    bindable = have.bindable;
    beside = beside;
    rising = λ f c above below. kept f (record { entry = c; changes = below ∙ sym (ap not above); walks = refl }) above;
    passed = passed;
  }
    where
      entry_of : (s : Step) → Contains (all_steps walks) s → (e : CountedEdge) ×
          IsSelectedStep holds subj clip es filled e s
      entry_of s c = (selected_steps_of_edges holds subj clip filled es).selected s (Contains-permutation
          (all_steps walks) steps s (IsPermutation-sym steps (all_steps walks) have.each_once) c)

      beside : (s : Step) → Contains (all_steps walks) s → IsFilledBeside holds subj clip es filled s
      beside s c =
          let own = entry_of s c in
          record {
            entry = own.0;
            among = own.1.entry;
            ends = edge_is own.0 s own.1;
            there = ap₂ (λ t u. cond t (holds_above holds subj clip es own.0) u) (filled_is own.0 s own.1)
                own.1.changes ∙ by (holds_above holds subj clip es own.0);
          }
        where
          by : (t : Bool) → cond t t (not t) ≡ true
          by true = refl
          by false = refl

      -- the selected step of an edge above which the rule holds
      kept : (f : CountedEdge) →
          IsSelectedStep holds subj clip es filled f (selected_step holds subj clip filled es f) →
          holds_above holds subj clip es f ≡ true → Contains (all_filled_above filled walks) (ends_of f)
      kept f own above =
          let s = selected_step holds subj clip filled es f in
          subst (Contains (all_filled_above filled walks)) (edge_is f s own)
          (filled_kept s ((selected_steps_of_edges holds subj clip filled es).all f s own)
          (filled_is f s own ∙ above))

      passed : (f : CountedEdge) → Contains es f → holds_above holds subj clip es f ≡ true → (s : Step) →
          Contains (all_steps walks) s → edge_of s ≡ ends_of f → Contains (all_filled_above filled walks) (ends_of f)
      passed f c above s d along =
          let own = entry_of s d in
          let ends = sym (edge_is own.0 s own.1) ∙ along in
          let one = one_entry es have.ruled.planar.distinct own.0 f own.1.entry c
          (edge_eq-from_ends (ends_of own.0) (ends_of f) (ap (λ k. k.a) ends) (ap (λ k. k.b) ends)) in
          kept f (record {
            entry = c;
            changes = subst (λ (k : CountedEdge). holds_below holds subj clip es k ≡
                not (holds_above holds subj clip es k)) one own.1.changes;
            walks = refl;
          }) above
