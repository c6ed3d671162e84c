-- The list of the selected steps of the edges has these steps and no others; an arrangement for each count of a ruled
-- list.
use Rattle.std.proofs.Common.{◌≡◌, ⊎_elim, Bool, true, false, not, cond, ◌++◌, ℤ, List, [], ◌∷◌, Contains, refl, sym}
use Rattle.std.proofs.Common.{ap, subst}
use Rattle.std.proofs.lemmas.Bool.{false≢true}
use Rattle.std.specs.List.{flat_map}
use Rattle.overlay_geom.specs.Plane.{Step}
use Rattle.overlay_geom.specs.Edges.{CountedEdge, ends_of}
use Rattle.overlay_plane.specs.Regions.{IsRuled, holds_above, holds_below}
use Rattle.overlay_plane.specs.Nodes.{IsBalancedArrangement}
use Rattle.overlay_plane.specs.SelectedSteps.{step_with_left, is_selected, SelectedStepsOfEdges}
use Rattle.overlay_plane.specs.Turn.{is_left_hand}
use Rattle.overlay_plane.proofs.Totals.{Contains-head, Contains-later}
use Rattle.overlay_plane.proofs.LaterEntries.{Contains-cases}

module _ {X A : Type 0} (p : X → Bool) (h : X → A) where
  -- the values of h for the entries that pass the test
  abbrev taken : List X → List A
  taken xs = flat_map (λ x. cond (p x) (h x ∷ []) []) xs

  -- an item of the list where a test passes comes from an entry that passes it
  pub taken_from : (xs : List X) (a : A) → Contains (taken xs) a → (x : X) × Contains xs x × (p x ≡ true) × (a ≡ h x)
  taken_from [] a c = elim c.1 [ ]
  taken_from (x ∷ xs) a c = by (p x) refl c (taken_from xs a)
    where
      by : (t : Bool) → p x ≡ t → Contains (cond t (h x ∷ []) [] ++ taken xs) a →
          (Contains (taken xs) a → (y : X) × Contains xs y × (p y ≡ true) × (a ≡ h y)) →
          (y : X) × Contains (x ∷ xs) y × (p y ≡ true) × (a ≡ h y)
      by true is at rest = ⊎_elim (λ one. (x, Contains-head x xs, is, sym one)) (λ later. let found = rest later in
          (found.0, Contains-later x xs found.0 found.1, found.2, found.3)) (Contains-cases (h x) (taken xs) a at)
      by false is at rest = let found = rest at in (found.0, Contains-later x xs found.0 found.1, found.2, found.3)

  -- each such entry gives an item
  pub taken_all : (xs : List X) (x : X) → Contains xs x → p x ≡ true → Contains (taken xs) (h x)
  taken_all [] x c t = elim c.1 [ ]
  taken_all (y ∷ ys) x c t = ⊎_elim (λ one. subst (λ (z : X). Contains (taken (y ∷ ys)) (h z)) one
      (head (p y) (subst (λ (z : X). p z ≡ true) (sym one) t)))
      (λ later. rest (p y) (taken_all ys x later t)) (Contains-cases y ys x c)
    where
      head : (s : Bool) → s ≡ true → Contains (cond s (h y ∷ []) [] ++ taken ys) (h y)
      head true is = Contains-head (h y) (taken ys)
      head false is = absurd (false≢true is)

      rest : (s : Bool) → Contains (taken ys) (h x) → Contains (cond s (h y ∷ []) [] ++ taken ys) (h x)
      rest true at = Contains-later (h y) (taken ys) (h x) at
      rest false at = at

-- the list of selected steps has these steps and no others
pub selected_steps_of_edges : SelectedStepsOfEdges
selected_steps_of_edges holds subj clip filled es = record {
  selected = λ s at. let found = taken_from (is_selected holds subj clip es) step es s at in (
    found.0,
    record {
      entry = found.1;
      changes = changes (holds_above holds subj clip es found.0) (holds_below holds subj clip es found.0) found.2;
      walks = found.3;
    },
  );
  all = λ e s h. subst (λ (t : Step). Contains
      (flat_map (λ x. cond (is_selected holds subj clip es x) (step x ∷ []) []) es) t) (sym h.walks)
      (taken_all (is_selected holds subj clip es) step es e h.entry
      (tested (holds_above holds subj clip es e) (holds_below holds subj clip es e) h.changes));
}
  where
    step : CountedEdge → Step
    step e = step_with_left (cond (is_left_hand filled) (holds_above holds subj clip es e)
        (holds_below holds subj clip es e))
        (ends_of e)

    changes : (s t : Bool) → cond s (not t) t ≡ true → t ≡ not s
    changes true true e = absurd (false≢true e)
    changes true false e = refl
    changes false true e = refl
    changes false false e = absurd (false≢true e)

    tested : (s t : Bool) → t ≡ not s → cond s (not t) t ≡ true
    tested true t e = ap not e
    tested false t e = e

-- a ruled list is an arrangement for each of its counts
pub arranged_by_subject : (holds : ℤ → ℤ → Bool) (subj clip : CountedEdge → ℤ) (es : List CountedEdge) →
    IsRuled holds subj clip es → IsBalancedArrangement subj es
arranged_by_subject holds subj clip es ruled = record {
  planar = ruled.planar;
  balanced = ruled.subj_balanced;
}

pub arranged_by_clip : (holds : ℤ → ℤ → Bool) (subj clip : CountedEdge → ℤ) (es : List CountedEdge) →
    IsRuled holds subj clip es → IsBalancedArrangement clip es
arranged_by_clip holds subj clip es ruled = record {
  planar = ruled.planar;
  balanced = ruled.clip_balanced;
}
