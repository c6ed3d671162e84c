-- The selected steps are those of different edges, and wind once round each point where the rule holds: a selected step
-- counts as its edge's sign.
use Rattle.std.proofs.Common.{◌≡◌, Bool, true, false, cond, not, ◌++◌, ℤ, pos, negsuc, ◌-ℤ◌, ◌*ℤ◌, List, [], ◌∷◌}
use Rattle.std.proofs.Common.{Contains, refl, sym, ap, ap₂, ◌∙◌, subst}
use Rattle.std.specs.List.{flat_map}
use Rattle.std.proofs.lemmas.Bool.{both_ways, false_from_ne_true}
use Rattle.std.proofs.lemmas.List.Elements.{All-contains}
use Rattle.overlay_geom.specs.Plane.{PlanePoint, Step, Edge, point_lt, step_eq, edge_eq, is_forward}
use Rattle.overlay_geom.specs.Plane.{edge_of, sign_of, is_strictly_below, total, winding}
use Rattle.overlay_geom.specs.Edges.{CountedEdge, ends_of, winding_by}
use Rattle.overlay_geom.proofs.Orders.{edge_eq-from_ends, point_lt-order}
use Rattle.overlay_plane.specs.Regions.{holds_above, holds_below, one_if, selected_sign, IsRuled}
use Rattle.overlay_plane.specs.SelectedSteps.{step_with_left, is_selected, selected_steps}
use Rattle.overlay_plane.specs.BesideOrbits.{HasEachOnce}
use Rattle.overlay_plane.specs.ContourWindings.{once_round, SelectedStepsWind, SelectedStepsOnce}
use Rattle.overlay_plane.specs.Turn.{Hand, is_left_hand}
use Rattle.overlay_plane.specs.Turn.Hand.{left, right}
use Rattle.overlay_plane.proofs.AtNodes.{same_steps}
use Rattle.overlay_plane.proofs.JoinedLists.{total-flat_map, total-times}
use Rattle.overlay_plane.proofs.LaterEntries.{Each, Each-from_all_pairs, AllPairs-from_each}
use Rattle.overlay_plane.proofs.RegionBelow.{region_from_selected_signs}
use Rattle.overlay_plane.proofs.SelectedLists.{taken_from}
use Rattle.overlay_plane.proofs.Totals.{Contains-head, Contains-later, total-same}

-- ---- the step along an edge

module _ (e : Edge) (forward : point_lt e.a e.b ≡ true) where
  -- the step with the upper side of a forward edge on its left leads forward, the step with the lower side there leads
  -- back
  pub forward_above : (above : Bool) → is_forward (step_with_left above e) ≡ above
  forward_above true = forward
  forward_above false = point_lt-order.one_way e.a e.b forward

  -- it walks along that edge
  pub along_edge : (above : Bool) → edge_of (step_with_left above e) ≡ e
  along_edge true = ap (λ t. cond t (record { a = e.a; b = e.b }) (record { a = e.b; b = e.a })) (forward_above true)
  along_edge false = ap (λ t. cond t (record { a = e.b; b = e.a }) (record { a = e.a; b = e.b })) (forward_above false)

  -- and its sign is 1, or -1
  sign_above : (above : Bool) → sign_of (step_with_left above e) ≡ cond above (pos 1) (negsuc 0)
  sign_above above = ap (λ t. cond t (pos 1) (negsuc 0)) (forward_above above)

module _ (holds : ℤ → ℤ → Bool) (subj clip : CountedEdge → ℤ) (es : List CountedEdge)
    (ruled : IsRuled holds subj clip es) (filled : Hand) where
  -- the rule holds above the edge, and below it
  abbrev above : CountedEdge → Bool
  above e = holds_above holds subj clip es e

  abbrev below : CountedEdge → Bool
  below e = holds_below holds subj clip es e

  -- the edge's step, where it is selected
  abbrev step : CountedEdge → Step
  step e = step_with_left (cond (is_left_hand filled) (above e) (below e)) (ends_of e)

  abbrev chosen : CountedEdge → List Step
  chosen e = cond (is_selected holds subj clip es e) (step e ∷ []) []

  -- an edge of the list leads forward
  leads_forward : (e : CountedEdge) → Contains es e → point_lt e.a e.b ≡ true
  leads_forward e c = All-contains (λ f. point_lt f.a f.b ≡ true) es e ruled.planar.forward c

  -- ---- sums over the edges that pass a test

  module _ (test : Edge → Bool) where
    -- the count of a step where its edge passes
    abbrev part : Step → ℤ
    part s = cond (test (edge_of s)) (sign_of s) (pos 0)

    -- the count of the edge's sign there
    abbrev signed : CountedEdge → ℤ
    signed e = cond (test (ends_of e)) (selected_sign holds subj clip es e) (pos 0)

    -- the count of the edge's step is its sign, once round
    chosen_counts : (e : CountedEdge) → Contains es e → total part (chosen e) ≡ once_round filled *ℤ signed e
    chosen_counts e c = chosen_part (is_selected holds subj clip es e)
        ∙ ap (λ k. total (λ z. z) (cond (is_selected holds subj clip es e) (k ∷ []) [])) counts
        ∙ table (is_left_hand filled) (above e) (below e) (test (ends_of e))
      where
        counts : part (step e) ≡ cond (test (ends_of e)) (cond (cond (is_left_hand filled) (above e) (below e)) (pos 1)
            (negsuc 0))
            (pos 0)
        counts = ap₂ (λ f k. cond (test f) k (pos 0))
            (along_edge (ends_of e) (leads_forward e c) (cond (is_left_hand filled) (above e) (below e)))
            (sign_above (ends_of e) (leads_forward e c) (cond (is_left_hand filled) (above e) (below e)))

        table : (t u v w : Bool) →
            total (λ k. k) (cond (cond u (not v) v) (cond w (cond (cond t u v) (pos 1) (negsuc 0)) (pos 0) ∷ []) []) ≡
            cond t (pos 1) (negsuc 0) *ℤ cond w (one_if u -ℤ one_if v) (pos 0)
        table true true true true = refl
        table true true true false = refl
        table true true false true = refl
        table true true false false = refl
        table true false true true = refl
        table true false true false = refl
        table true false false true = refl
        table true false false false = refl
        table false true true true = refl
        table false true true false = refl
        table false true false true = refl
        table false true false false = refl
        table false false true true = refl
        table false false true false = refl
        table false false false true = refl
        table false false false false = refl

        chosen_part : (t : Bool) → total part (cond t (step e ∷ []) []) ≡ total (λ k. k)
            (cond t (part (step e) ∷ []) [])
        chosen_part true = refl
        chosen_part false = refl

    -- the selected steps count as the signs, once round
    pub selected_total : total part (selected_steps holds subj clip filled es) ≡ once_round filled *ℤ total signed es
    selected_total = total-flat_map part chosen es
        ∙ total-same (λ e. total part (chosen e)) (λ e. once_round filled *ℤ signed e) es chosen_counts
        ∙ total-times (once_round filled) signed es

  -- the rule's truth at a point, once round
  once_where : (t : Bool) → once_round filled *ℤ one_if t ≡ cond t (once_round filled) (pos 0)
  once_where t = by filled t
    where
      by : (u : Hand) (v : Bool) → once_round u *ℤ one_if v ≡ cond v (once_round u) (pos 0)
      by left true = refl
      by left false = refl
      by right true = refl
      by right false = refl

  -- the selected steps wind once where the rule holds
  pub selected_wind : (p : PlanePoint) → winding (selected_steps holds subj clip filled es) p ≡
      cond (holds (winding_by subj es p) (winding_by clip es p)) (once_round filled) (pos 0)
  selected_wind p = selected_total (λ e. is_strictly_below e p)
      ∙ ap (λ k. once_round filled *ℤ k) (region_from_selected_signs holds subj clip es ruled p)
      ∙ once_where (holds (winding_by subj es p) (winding_by clip es p))

  -- ---- each once

  -- steps along different edges are different
  steps_apart : (e f : CountedEdge) → Contains es e → Contains es f → edge_eq (ends_of e) (ends_of f) ≡ false →
      step_eq (step e) (step f) ≡ false
  steps_apart e f c d apart = false_from_ne_true (step_eq (step e) (step f))
      (λ same. both_ways (edge_eq (ends_of e) (ends_of f)) apart (equal same))
    where
      one : step_eq (step e) (step f) ≡ true → ends_of e ≡ ends_of f
      one same = sym (along_edge (ends_of e) (leads_forward e c) (cond (is_left_hand filled) (above e) (below e)))
          ∙ ap edge_of (same_steps (step e) (step f) same)
          ∙ along_edge (ends_of f) (leads_forward f d) (cond (is_left_hand filled) (above f) (below f))

      equal : step_eq (step e) (step f) ≡ true → edge_eq (ends_of e) (ends_of f) ≡ true
      equal same = edge_eq-from_ends (ends_of e) (ends_of f) (λ i. (one same i).a) (λ i. (one same i).b)

  -- a list of edges of the whole one, each different from all later ones, gives such steps
  each_apart : (fs : List CountedEdge) → ((f : CountedEdge) → Contains fs f → Contains es f) →
      Each (λ e f. edge_eq (ends_of e) (ends_of f) ≡ false) fs →
      Each (λ s t. step_eq s t ≡ false) (flat_map chosen fs)
  each_apart [] inside h = tt
  each_apart (e ∷ fs) inside h = by (is_selected holds subj clip es e)
      (each_apart fs (λ f c. inside f (Contains-later e fs f c)) h.1)
    where
      by : (t : Bool) → Each (λ s u. step_eq s u ≡ false) (flat_map chosen fs) →
          Each (λ s u. step_eq s u ≡ false) (cond t (step e ∷ []) [] ++ flat_map chosen fs)
      by false rest = rest
      by true rest = (
        (λ s c. let from = taken_from (is_selected holds subj clip es) step fs s c in
            subst (λ u. step_eq (step e) u ≡ false) (sym from.3)
            (steps_apart e from.0 (inside e (Contains-head e fs)) (inside from.0 (Contains-later e fs from.0 from.1))
            (h.0 from.0 from.1))),
        rest,
      )

  -- no step is selected twice
  pub selected_once : HasEachOnce (selected_steps holds subj clip filled es)
  selected_once = AllPairs-from_each (λ s t. step_eq s t ≡ false) (flat_map chosen es)
      (each_apart es (λ f c. c) (Each-from_all_pairs (λ e f. edge_eq (ends_of e) (ends_of f) ≡ false) es
      ruled.planar.distinct))

-- the laws
pub selected_steps_wind : SelectedStepsWind
selected_steps_wind holds subj clip es ruled filled p = selected_wind holds subj clip es ruled filled p

pub selected_steps_once : SelectedStepsOnce
selected_steps_once holds subj clip es ruled filled = selected_once holds subj clip es ruled filled
