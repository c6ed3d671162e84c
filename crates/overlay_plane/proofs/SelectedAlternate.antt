-- Selected steps alternate. Counterclockwise round a node, the rule begins to hold across each leaving step and ceases
-- to hold across each arriving step.
use Rattle.std.proofs.Common.{◌≡◌, inl, inr, Bool, true, false, not, cond, ℤ, pos, ◌-ℤ◌, ◌<ℤ◌, List, Contains, refl}
use Rattle.std.proofs.Common.{sym, ap, ap₂, ◌∙◌, subst}
use Rattle.std.proofs.lemmas.Bool.{false≢true}
use Rattle.overlay_geom.specs.Plane.{Point, Step, point_eq, total}
use Rattle.overlay_geom.specs.Edges.{CountedEdge, ends_of, winding_below, winding_above}
use Rattle.overlay_geom.proofs.Signs.{linear}
use Rattle.overlay_geom.proofs.Orders.{point_eq-same, point_eq-of_same}
use Rattle.overlay_plane.specs.Regions.{one_if, holds_above, holds_below}
use Rattle.overlay_plane.specs.Alternates.{IsMetBetween, AreOneWay, Alternates}
use Rattle.overlay_plane.specs.Nodes.{IsBalancedArrangement}
use Rattle.overlay_plane.specs.Spokes.{IsSpoke, far_end, winding_before, winding_after}
use Rattle.overlay_plane.specs.SelectedSteps.{step_with_left, IsSelectedStep, AreSelected, SelectedStepsAlternate}
use Rattle.overlay_plane.specs.Turn.Hand.{left, right}
use Rattle.overlay_plane.proofs.SameWay.{ends_differ}
use Rattle.overlay_plane.proofs.SpokeWindings.{forward_entry, ends_there, not_start}
use Rattle.overlay_plane.proofs.SpokeRays.{one_ray_one_spoke}
use Rattle.overlay_plane.proofs.RisesRound.{some_positive, some_negative, round, in_round, rises_round}

-- a truth value that rises becomes true
pub one_if_rises : (s t : Bool) → pos 0 <ℤ (one_if s -ℤ one_if t) → (s ≡ true) × (t ≡ false)
one_if_rises true true h = absurd (omega linear)
one_if_rises true false h = (refl, refl)
one_if_rises false true h = absurd (omega linear)
one_if_rises false false h = absurd (omega linear)

-- one that falls becomes false
one_if_falls : (s t : Bool) → (one_if s -ℤ one_if t) <ℤ pos 0 → (s ≡ false) × (t ≡ true)
one_if_falls true true h = absurd (omega linear)
one_if_falls true false h = absurd (omega linear)
one_if_falls false true h = (refl, refl)
one_if_falls false false h = absurd (omega linear)

module _ (holds : ℤ → ℤ → Bool) (subj clip : CountedEdge → ℤ) (es : List CountedEdge)
    (by_subj : IsBalancedArrangement subj es) (by_clip : IsBalancedArrangement clip es) where
  -- the rule holds before a spoke, and after it
  abbrev holds_before : Point → CountedEdge → Bool
  holds_before v e = holds (winding_before subj es v e) (winding_before clip es v e)

  -- and after it
  abbrev holds_after : Point → CountedEdge → Bool
  holds_after v e = holds (winding_after subj es v e) (winding_after clip es v e)

  -- a selected step with the side on its left
  abbrev Selected : CountedEdge → Step → Type 0
  Selected = IsSelectedStep holds subj clip es left

  -- ---- steps and spokes

  -- the ends of an entry are different points
  forward_differ : (e : CountedEdge) → Contains es e → ¬ (e.a ≡ e.b)
  forward_differ e at = ends_differ (ends_of e) (forward_entry subj es by_subj e at)

  -- the rule holds above the edge
  abbrev above : CountedEdge → Bool
  above e = holds_above holds subj clip es e

  -- the rule holds below the edge
  abbrev below : CountedEdge → Bool
  below e = holds_below holds subj clip es e

  -- before a spoke that starts in v is the side below, before one that ends there the side above
  before_at : (v : Point) (e : CountedEdge) (t : Bool) → point_eq e.a v ≡ t →
      holds_before v e ≡ cond t (below e) (above e)
  before_at v e true is = ap (λ t. holds (cond t (winding_below subj es e) (winding_above subj es e))
      (cond t (winding_below clip es e) (winding_above clip es e))) is
  before_at v e false is = ap (λ t. holds (cond t (winding_below subj es e) (winding_above subj es e))
      (cond t (winding_below clip es e) (winding_above clip es e))) is

  -- after it is the other side
  after_at : (v : Point) (e : CountedEdge) (t : Bool) → point_eq e.a v ≡ t →
      holds_after v e ≡ cond t (above e) (below e)
  after_at v e true is = ap (λ t. holds (cond t (winding_above subj es e) (winding_below subj es e))
      (cond t (winding_above clip es e) (winding_below clip es e))) is
  after_at v e false is = ap (λ t. holds (cond t (winding_above subj es e) (winding_below subj es e))
      (cond t (winding_above clip es e) (winding_below clip es e))) is

  -- a selected step that leaves v, with its spoke, across which the rule begins to hold
  record Leaving (v : Point) (s : Step) (e : CountedEdge) : Type 0 where
    spoke : IsSpoke es v e
    before : holds_before v e ≡ false
    after : holds_after v e ≡ true
    far : far_end v e ≡ s.to

  -- one that arrives, across whose spoke the rule ceases to hold
  record Arriving (v : Point) (s : Step) (e : CountedEdge) : Type 0 where
    spoke : IsSpoke es v e
    before : holds_before v e ≡ true
    after : holds_after v e ≡ false
    far : far_end v e ≡ s.from

  module _ (v : Point) (e : CountedEdge) (s : Step) (selected : Selected e s) where
    -- the step, by whether the rule holds above its edge
    walk : (u : Bool) → above e ≡ u → s ≡ step_with_left u (ends_of e)
    walk u is = selected.walks ∙ ap (λ t. step_with_left t (ends_of e)) is

    -- below it the rule holds where it does not above
    low : (u : Bool) → above e ≡ u → below e ≡ not u
    low u is = selected.changes ∙ ap not is

    -- where the step leaves v, the rule begins to hold across its spoke
    leaving : s.from ≡ v → Leaving v s e
    leaving starts = by (above e) refl
      where
        by : (u : Bool) → above e ≡ u → Leaving v s e
        by true up = let same = sym (ap (λ (q : Step). q.from) (walk true up)) ∙ starts in record {
          spoke = record { entry = selected.entry; at = inl same };
          before = before_at v e true (point_eq-of_same e.a v same) ∙ low true up;
          after = after_at v e true (point_eq-of_same e.a v same) ∙ up;
          far = ap (λ t. cond t e.b e.a) (point_eq-of_same e.a v same) ∙ sym (ap (λ (q : Step). q.to) (walk true up));
        }
        by false down = let same = sym (ap (λ (q : Step). q.from) (walk false down)) ∙ starts in record {
          spoke = record { entry = selected.entry; at = inr same };
          before = before_at v e false (not_start subj es by_subj v e selected.entry same) ∙ down;
          after = after_at v e false (not_start subj es by_subj v e selected.entry same) ∙ low false down;
          far = ap (λ t. cond t e.b e.a) (not_start subj es by_subj v e selected.entry same)
              ∙ sym (ap (λ (q : Step). q.to) (walk false down));
        }

    -- where it arrives, the rule ceases to hold
    arriving : s.to ≡ v → Arriving v s e
    arriving ends = by (above e) refl
      where
        by : (u : Bool) → above e ≡ u → Arriving v s e
        by true up = let same = sym (ap (λ (q : Step). q.to) (walk true up)) ∙ ends in record {
          spoke = record { entry = selected.entry; at = inr same };
          before = before_at v e false (not_start subj es by_subj v e selected.entry same) ∙ up;
          after = after_at v e false (not_start subj es by_subj v e selected.entry same) ∙ low true up;
          far = ap (λ t. cond t e.b e.a) (not_start subj es by_subj v e selected.entry same)
              ∙ sym (ap (λ (q : Step). q.from) (walk true up));
        }
        by false down = let same = sym (ap (λ (q : Step). q.to) (walk false down)) ∙ ends in record {
          spoke = record { entry = selected.entry; at = inl same };
          before = before_at v e true (point_eq-of_same e.a v same) ∙ low false down;
          after = after_at v e true (point_eq-of_same e.a v same) ∙ down;
          far = ap (λ t. cond t e.b e.a) (point_eq-of_same e.a v same)
              ∙ sym (ap (λ (q : Step). q.from) (walk false down));
        }

    -- a selected step has a length
    has_length : ¬ (s.from ≡ s.to)
    has_length one = by (above e) refl
      where
        by : (u : Bool) → above e ≡ u → ⊥
        by true up = forward_differ e selected.entry (sym (ap (λ (q : Step). q.from) (walk true up)) ∙ one
            ∙ ap (λ (q : Step). q.to) (walk true up))
        by false down = forward_differ e selected.entry (sym (ap (λ (q : Step). q.to) (walk false down)) ∙ sym one
            ∙ ap (λ (q : Step). q.from) (walk false down))

  -- a spoke across which the rule begins, or ceases, to hold has a selected step
  spoke_step : (v : Point) (e : CountedEdge) → IsSpoke es v e → holds_before v e ≡ not (holds_after v e) →
      Selected e (step_with_left (above e) (ends_of e))
  spoke_step v e spoke change = record { entry = spoke.entry; changes = by (point_eq e.a v) refl; walks = refl }
    where
      exchanged : (s t : Bool) → t ≡ not s → s ≡ not t
      exchanged true t is = sym (ap not is)
      exchanged false t is = sym (ap not is)

      by : (t : Bool) → point_eq e.a v ≡ t → below e ≡ not (above e)
      by true is = sym (before_at v e true is) ∙ change ∙ ap not (after_at v e true is)
      by false is = exchanged (below e) (above e) (sym (before_at v e false is) ∙ change
          ∙ ap not (after_at v e false is))

  -- where it begins to hold, the step leaves
  leaving_step : (v : Point) (e : CountedEdge) → IsSpoke es v e → holds_before v e ≡ false → holds_after v e ≡ true →
      (s : Step) × Selected e s × (s.from ≡ v)
  leaving_step v e spoke before after = (
    step_with_left (above e) (ends_of e),
    spoke_step v e spoke (before ∙ sym (ap not after)),
    by (point_eq e.a v) refl,
  )
    where
      by : (t : Bool) → point_eq e.a v ≡ t → (step_with_left (above e) (ends_of e)).from ≡ v
      by true is = ap (λ t. (step_with_left t (ends_of e)).from) (sym (after_at v e true is) ∙ after)
          ∙ point_eq-same e.a v is
      by false is = ap (λ t. (step_with_left t (ends_of e)).from) (sym (before_at v e false is) ∙ before)
          ∙ ends_there es v e spoke is

  -- where it ceases to, the step arrives
  arriving_step : (v : Point) (e : CountedEdge) → IsSpoke es v e → holds_before v e ≡ true → holds_after v e ≡ false →
      (s : Step) × Selected e s × (s.to ≡ v)
  arriving_step v e spoke before after = (
    step_with_left (above e) (ends_of e),
    spoke_step v e spoke (before ∙ sym (ap not after)),
    by (point_eq e.a v) refl,
  )
    where
      by : (t : Bool) → point_eq e.a v ≡ t → (step_with_left (above e) (ends_of e)).to ≡ v
      by true is = ap (λ t. (step_with_left t (ends_of e)).to) (sym (after_at v e true is) ∙ after)
          ∙ point_eq-same e.a v is
      by false is = ap (λ t. (step_with_left t (ends_of e)).to) (sym (before_at v e false is) ∙ before)
          ∙ ends_there es v e spoke is

  -- ---- between two spokes

  module _ (v : Point) (e f : CountedEdge) (spoke_e : IsSpoke es v e) (spoke_f : IsSpoke es v f) where
    -- 1 where the rule holds
    abbrev truth : ℤ → ℤ → ℤ
    truth x y = one_if (holds x y)

    -- the spokes between the two, in order
    abbrev spokes_between : List CountedEdge
    spokes_between = round subj clip es by_subj by_clip truth v e f spoke_e spoke_f

    -- a spoke strictly between the two
    abbrev IsIn : CountedEdge → Type 0
    IsIn m = IsSpoke es v m × IsMetBetween v (far_end v e) (far_end v m) (far_end v f)

    -- the sum of the rises of the rule's truth across them
    sum : total (λ m. one_if (holds_after v m) -ℤ one_if (holds_before v m)) spokes_between ≡ one_if
        (holds_before v f) -ℤ one_if (holds_after v e)
    sum = rises_round subj clip es by_subj by_clip truth v e f spoke_e spoke_f

    -- if the rule holds after one and not before the other, it ceases to hold across a spoke between
    ceases_between : holds_after v e ≡ true → holds_before v f ≡ false →
        (m : CountedEdge) × IsIn m × (holds_before v m ≡ true) × (holds_after v m ≡ false)
    ceases_between after before =
        let found = some_negative (λ m. one_if (holds_after v m) -ℤ one_if (holds_before v m)) spokes_between
        (subst (λ z. z <ℤ pos 0) (sym (sum ∙ ap₂ (λ s t. one_if s -ℤ one_if t) before after))
        (record { lt = tt })) in
        let change = one_if_falls (holds_after v found.0) (holds_before v found.0) found.2 in
        (found.0, in_round subj clip es by_subj by_clip truth v e f spoke_e spoke_f found.0 found.1, change.1, change.0)

    -- in the converse case it begins to hold across a spoke between
    begins_between : holds_after v e ≡ false → holds_before v f ≡ true →
        (m : CountedEdge) × IsIn m × (holds_before v m ≡ false) × (holds_after v m ≡ true)
    begins_between after before =
        let found = some_positive (λ m. one_if (holds_after v m) -ℤ one_if (holds_before v m)) spokes_between
        (subst (λ z. pos 0 <ℤ z) (sym (sum ∙ ap₂ (λ s t. one_if s -ℤ one_if t) before after))
        (record { lt = tt })) in
        let change = one_if_rises (holds_after v found.0) (holds_before v found.0) found.2 in
        (found.0, in_round subj clip es by_subj by_clip truth v e f spoke_e spoke_f found.0 found.1, change.1, change.0)

  -- ---- the steps

  module _ (steps : List Step) (taken : AreSelected holds subj clip es left steps) where
    -- an edge has one selected step
    one_step : (e f : CountedEdge) (s t : Step) → Selected e s → Selected f t → e ≡ f → s ≡ t
    one_step e f s t se sf one = se.walks ∙ ap (λ (g : CountedEdge). step_with_left (above g) (ends_of g)) one
        ∙ sym sf.walks

    -- a step leaves its start
    leaves_at : (s : Step) → Contains steps s → (e : CountedEdge) × Selected e s × Leaving s.from s e
    leaves_at s at = let own = taken.selected s at in (own.0, own.1, leaving s.from own.0 s own.1 refl)

    -- a step arrives in its end
    arrives_at : (v : Point) (s : Step) → Contains steps s → s.to ≡ v →
        (e : CountedEdge) × Selected e s × Arriving v s e
    arrives_at v s at ends = let own = taken.selected s at in (own.0, own.1, arriving v own.0 s own.1 ends)

    -- a step that starts in v leaves it
    leaves_from : (v : Point) (s : Step) → Contains steps s → s.from ≡ v →
        (e : CountedEdge) × Selected e s × Leaving v s e
    leaves_from v s at starts = let own = taken.selected s at in (own.0, own.1, leaving v own.0 s own.1 starts)

    -- spokes on one ray are one, by their far ends
    one_way : (v : Point) (e f : CountedEdge) (p q : Point) → IsSpoke es v e → IsSpoke es v f → far_end v e ≡ p →
        far_end v f ≡ q → AreOneWay v p q → e ≡ f
    one_way v e f p q spoke_e spoke_f far_e far_f one = one_ray_one_spoke subj es by_subj v e f spoke_e spoke_f
        (subst (λ (r : Point). AreOneWay v r (far_end v f)) (sym far_e)
        (subst (λ (r : Point). AreOneWay v p r) (sym far_f) one))

    -- the spokes between two spokes, by their far ends
    between : (v : Point) (e m f : CountedEdge) (p r q : Point) → far_end v e ≡ p → far_end v m ≡ r → far_end v f ≡ q →
        IsMetBetween v (far_end v e) (far_end v m) (far_end v f) → IsMetBetween v p r q
    between v e m f p r q far_e far_m far_f h = subst (λ (x : Point). IsMetBetween v x r q) far_e
        (subst (λ (y : Point). IsMetBetween v (far_end v e) y q) far_m
        (subst (λ (z : Point). IsMetBetween v (far_end v e) (far_end v m) z) far_f h))

    -- a step that arrives between two spokes, and one that leaves
    arrives : (v : Point) (e f : CountedEdge) (p q : Point) → IsSpoke es v e → IsSpoke es v f → far_end v e ≡ p →
        far_end v f ≡ q → holds_after v e ≡ true → holds_before v f ≡ false →
        (u : Step) × Contains steps u × (u.to ≡ v) × IsMetBetween v p u.from q
    arrives v e f p q spoke_e spoke_f far_e far_f after before =
        let found = ceases_between v e f spoke_e spoke_f after before in
        let step = arriving_step v found.0 found.1.0 found.2 found.3 in (
          step.0,
          taken.all found.0 step.0 step.1,
          step.2,
          between v e found.0 f p step.0.from q far_e (arriving v found.0 step.0 step.1 step.2).far far_f found.1.1,
        )

    -- likewise a step that leaves between two spokes
    leaves : (v : Point) (e f : CountedEdge) (p q : Point) → IsSpoke es v e → IsSpoke es v f → far_end v e ≡ p →
        far_end v f ≡ q → holds_after v e ≡ false → holds_before v f ≡ true →
        (u : Step) × Contains steps u × (u.from ≡ v) × IsMetBetween v p u.to q
    leaves v e f p q spoke_e spoke_f far_e far_f after before =
        let found = begins_between v e f spoke_e spoke_f after before in
        let step = leaving_step v found.0 found.1.0 found.2 found.3 in (
          step.0,
          taken.all found.0 step.0 step.1,
          step.2,
          between v e found.0 f p step.0.to q far_e (leaving v found.0 step.0 step.1 step.2).far far_f found.1.1,
        )

    -- the steps alternate
    alternate : Alternates steps
    alternate = record {
      long = λ s at. let own = taken.selected s at in has_length s.from own.0 s own.1;
      one_leaves = λ s t at_s at_t same one.
          let l = leaves_from s.from s at_s refl in
          let m = leaves_from s.from t at_t (sym same) in
          one_step l.0 m.0 s t l.1 m.1 (one_way s.from l.0 m.0 s.to t.to l.2.spoke m.2.spoke l.2.far m.2.far one);
      one_arrives = λ s t at_s at_t same one.
          let l = arrives_at s.to s at_s refl in
          let m = arrives_at s.to t at_t (sym same) in
          one_step l.0 m.0 s t l.1 m.1 (one_way s.to l.0 m.0 s.from t.from l.2.spoke m.2.spoke l.2.far m.2.far one);
      none_both = λ s t at_s at_t same one.
          let l = arrives_at s.to s at_s refl in
          let m = leaves_from s.to t at_t (sym same) in
          false≢true (sym l.2.after ∙ ap (λ (e : CountedEdge). holds_after s.to e)
          (one_way s.to l.0 m.0 s.from t.to l.2.spoke m.2.spoke l.2.far m.2.far one) ∙ m.2.after);
      arrives_between = λ s t at_s at_t same differ.
          let l = leaves_from s.from s at_s refl in
          let m = leaves_from s.from t at_t (sym same) in
          arrives s.from l.0 m.0 s.to t.to l.2.spoke m.2.spoke l.2.far m.2.far l.2.after m.2.before;
      leaves_between = λ s t at_s at_t same differ.
          let l = arrives_at s.to s at_s refl in
          let m = arrives_at s.to t at_t (sym same) in
          leaves s.to l.0 m.0 s.from t.from l.2.spoke m.2.spoke l.2.far m.2.far l.2.after m.2.before;
      goes_on = λ s at_s.
          let l = arrives_at s.to s at_s refl in
          let u = leaves s.to l.0 l.0 s.from s.from l.2.spoke l.2.spoke l.2.far l.2.far l.2.after l.2.before in
          (u.0, u.1, u.2);
      comes_in = λ t at_t.
          let l = leaves_from t.from t at_t refl in
          let u = arrives t.from l.0 l.0 t.to t.to l.2.spoke l.2.spoke l.2.far l.2.far l.2.after l.2.before in
          (u.0, u.1, u.2);
    }

-- with the side on the right, they are those of the opposite rule with the side on the left
pub selected_steps_alternate : SelectedStepsAlternate
selected_steps_alternate holds subj clip es by_subj by_clip left steps taken = alternate holds subj clip es by_subj
    by_clip steps taken
selected_steps_alternate holds subj clip es by_subj by_clip right steps taken = alternate opposite subj clip es by_subj
    by_clip steps (record {
      selected = λ s at. let own = taken.selected s at in
          (own.0, there own.0 s own.1);
      all = λ e s h. taken.all e s (back e s h);
    })
  where
    opposite : ℤ → ℤ → Bool
    opposite x y = not (holds x y)

    twice : (t : Bool) → not (not t) ≡ t
    twice true = refl
    twice false = refl

    there : (e : CountedEdge) (s : Step) → IsSelectedStep holds subj clip es right e s →
        IsSelectedStep opposite subj clip es left e s
    there e s h = record {
      entry = h.entry;
      changes = ap not h.changes;
      walks = h.walks
          ∙ ap (λ t. step_with_left t (ends_of e)) h.changes;
    }

    back : (e : CountedEdge) (s : Step) → IsSelectedStep opposite subj clip es left e s →
        IsSelectedStep holds subj clip es right e s
    back e s h =
        let change = sym (twice (holds_below holds subj clip es e)) ∙ ap not h.changes
        ∙ twice (not (holds_above holds subj clip es e)) in
        record {
          entry = h.entry;
          changes = change;
          walks = h.walks ∙ ap (λ t. step_with_left t (ends_of e)) (sym change);
        }
