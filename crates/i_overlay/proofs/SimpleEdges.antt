-- The edges of a simple contour's steps are the edges that are left of them when they are merged: none is dropped, and
-- no two are made one.
use Rattle.std.proofs.Common.{◌≡◌, ◌⊎◌, ⊎_elim, ◌≤◌, Bool, true, false, cond, not, pos, negsuc, List, [], ◌∷◌}
use Rattle.std.proofs.Common.{◌++◌, length, map, Contains, refl, sym, ap, subst, ◌∙◌, arith}
use Rattle.std.proofs.lemmas.Bool.{both_ways, false_from_ne_true}
use Rattle.std.specs.List.{All}
use Rattle.std.proofs.lemmas.List.Elements.{All-contains, All-head}
use Rattle.overlay_geom.specs.Plane.{Point, Step, Edge, point_eq, edge_eq, is_forward, edge_of, reversed_step}
use Rattle.overlay_geom.specs.Plane.{steps_between, steps_of}
use Rattle.overlay_geom.specs.Edges.{CountedEdge, ends_of, subject_edge, counts_nothing}
use Rattle.overlay_geom.specs.Merged.{IsMerged, edges_between, joined_edge}
use Rattle.overlay_geom.proofs.Between.{edges_between-none, edges_between-here, edges_between-past}
use Rattle.overlay_geom.proofs.Entries.{Contains-head, Contains-cases}
use Rattle.overlay_geom.proofs.Merging.{all_joined, joined_alone}
use Rattle.overlay_geom.proofs.Orders.{edge_eq-same, edge_eq-itself, point_eq-of_same}
use Rattle.overlay_plane.specs.Groups.{HasEachPointOnce}
use Rattle.overlay_plane.proofs.BesideAcross.{one_of_two}
use Rattle.overlay_plane.proofs.EdgesOfSteps.{edge_by}
use Rattle.overlay_plane.proofs.Entries.{all_of_entries, Contains-map, Contains-from_map}
use Rattle.overlay_plane.proofs.LaterEntries.{Each, Each-from_all_pairs, Each-map}
use Rattle.overlay_plane.proofs.StepsAlong.{edge_eq-either, turns_round}
use Rattle.overlay_plane.proofs.WholeCuts.{ends_of_merged, same_merged}
use Rattle.i_overlay.proofs.ClosedPoints.{differ_apart, starts, none_back}
use Rattle.overlay_walk.proofs.OnceSorted.{Differ, differ_back}

-- ---- merging edges with different ends

-- the two edges have different ends
abbrev EndsDiffer : CountedEdge → CountedEdge → Type 0
EndsDiffer e f = edge_eq (ends_of e) (ends_of f) ≡ false

-- each edge of such a list is the only one between its ends
alone : (es : List CountedEdge) → Each EndsDiffer es → (f : CountedEdge) → Contains es f →
    edges_between es (ends_of f) ≡ f ∷ []
alone [] once f c = elim c.1 [ ]
alone (x ∷ es) once f c = ⊎_elim
    (λ here. subst (λ (g : CountedEdge). edges_between (x ∷ es) (ends_of g) ≡ g ∷ []) here
    (edges_between-here x es (ends_of x) (edge_eq-itself (ends_of x))
    ∙ ap (λ fs. x ∷ fs) (edges_between-none es (ends_of x) (all_of_entries
    (λ g. edge_eq (ends_of g) (ends_of x) ≡ false)
    es (λ g at. edge_eq-either (ends_of g) (ends_of x) ∙ once.0 g at)))))
    (λ later. edges_between-past x es (ends_of f) (once.0 f later) ∙ alone es once.1 f later)
    (Contains-cases x es f c)

module _ (old new : List CountedEdge) (merged : IsMerged old new) where
  -- so it stays, if it counts something
  stays : Each EndsDiffer old → (f : CountedEdge) → Contains old f → counts_nothing f ≡ false → Contains new f
  stays once f c some = ⊎_elim
      (λ none. absurd (both_ways (counts_nothing f) some (sym (ap counts_nothing is) ∙ none)))
      (λ kept. subst (Contains new) is kept)
      (All-contains (λ e. (counts_nothing (joined_edge old (ends_of e)) ≡ true) ⊎ Contains new
      (joined_edge old (ends_of e))) old f merged.complete c)
    where
      is : joined_edge old (ends_of f) ≡ f
      is = joined_alone old f (alone old once f c)

  -- where the edges between any two ends count nothing together, none is left
  none_left : ((e : Edge) → counts_nothing (joined_edge old e) ≡ true) → new ≡ []
  none_left nothing = by new merged.joined
    where
      by : (es : List CountedEdge) → All (λ e. (e ≡ joined_edge old (ends_of e)) × (counts_nothing e ≡ false)) es →
          es ≡ []
      by [] joined = refl
      by (e ∷ es) joined =
          let first = All-head (λ e. (e ≡ joined_edge old (ends_of e)) × (counts_nothing e ≡ false)) e es joined in
          absurd (both_ways (counts_nothing e) first.1 (ap counts_nothing first.0 ∙ nothing (ends_of e)))

-- ---- one step, and a step and the one back

-- the edge of a subject's step that leads forward, or back
abbrev counted : Bool → Step → CountedEdge
counted t s = record {
  a = (edge_by t s).a;
  b = (edge_by t s).b;
  counts = record
      { subj = cond t (pos 1) (negsuc 0); clip = pos 0; along = false; against = false };
}

-- it counts something
counts_some : (s : Step) → counts_nothing (subject_edge s) ≡ false
counts_some s = by (is_forward s)
  where
    by : (t : Bool) → counts_nothing (counted t s) ≡ false
    by true = refl
    by false = refl

-- a step and the step back count nothing together
back_and_forth : (s : Step) → point_eq s.from s.to ≡ false → (e : Edge) →
    counts_nothing (joined_edge (subject_edge s ∷ subject_edge (reversed_step s) ∷ []) e) ≡ true
back_and_forth s long e =
    ap (λ t. counts_nothing (joined_edge (counted (is_forward s) s ∷ counted t (reversed_step s) ∷ []) e))
    (turns_round s long) ∙ by (is_forward s)
  where
    -- of two edges both are between the ends, or neither is
    both : (f g : CountedEdge) (t : Bool) → counts_nothing (all_joined e (f ∷ g ∷ [])) ≡ true →
        counts_nothing (all_joined e (cond t (f ∷ cond t (g ∷ []) []) (cond t (g ∷ []) []))) ≡ true
    both f g true none = none
    both f g false none = refl

    by : (t : Bool) →
        counts_nothing (joined_edge (counted t s ∷ counted (not t) (reversed_step s) ∷ []) e) ≡ true
    by true = both (counted true s) (counted false (reversed_step s)) (edge_eq (edge_by true s) e) refl
    by false = both (counted false s) (counted true (reversed_step s)) (edge_eq (edge_by false s) e) refl

-- ---- a simple contour

module _ (ps : List Point) (once : HasEachPointOnce ps) (es : List CountedEdge)
    (merged : IsMerged (map subject_edge (steps_of ps)) es) (some_edge : ¬ (es ≡ [])) where
  -- it has three points or more
  pub three_points : 3 ≤ length ps
  three_points = by ps (Each-from_all_pairs Differ ps once) merged
    where
      by : (qs : List Point) → Each Differ qs → IsMerged (map subject_edge (steps_of qs)) es → 3 ≤ length qs
      by [] each m = absurd (some_edge (none_left [] es m (λ e. refl)))
      by (p ∷ []) each m = absurd (some_edge (none_left [] es
          (subst (λ t. IsMerged (map subject_edge (cond {A = List Step} t [] (record { from = p; to = p } ∷ []) ++ []))
          es)
          (point_eq-of_same p p refl) m) (λ e. refl)))
      by (p ∷ q ∷ []) each m =
          let s : Step = record { from = p; to = q } in
          let long : point_eq p q ≡ false = each.0 q (Contains-head q []) in
          absurd (some_edge (none_left (subject_edge s ∷ subject_edge (reversed_step s) ∷ []) es
          (subst (λ t. IsMerged (map subject_edge (s ∷ cond {A = List Step} t [] (reversed_step s ∷ []) ++ [])) es)
          (differ_back p q long)
          (subst (λ t. IsMerged (map subject_edge (cond {A = List Step} t [] (s ∷ []) ++ (steps_between q p ++ []))) es)
          long m)) (back_and_forth s long)))
      by (p ∷ q ∷ r ∷ qs) each m = omega arith

  two_points : 2 ≤ length ps
  two_points = omega (arith, three_points)

  -- no step begins twice in one point
  each_start : Each (λ (s t : Step). Differ s.from t.from) (steps_of ps)
  each_start = unmapped (steps_of ps)
      (subst (Each Differ) (sym (starts ps once two_points)) (Each-from_all_pairs Differ ps once))
    where
      unmapped : (ss : List Step) → Each Differ (map (λ (s : Step). s.from) ss) → Each
          (λ (s t : Step). Differ s.from t.from) ss
      unmapped [] each = tt
      unmapped (s ∷ ss) each =
          (λ t c. each.0 t.from (Contains-map (λ (u : Step). u.from) ss t c), unmapped ss each.1)

  -- so no two of the edges have the same ends
  edges_differ : Each EndsDiffer (map subject_edge (steps_of ps))
  edges_differ = Each-map (λ (s t : Step). Differ s.from t.from) EndsDiffer subject_edge (steps_of ps) apart each_start
    where
      apart : (s t : Step) → Contains (steps_of ps) s → Contains (steps_of ps) t → Differ s.from t.from →
          EndsDiffer (subject_edge s) (subject_edge t)
      apart s t at_s at_t differ = false_from_ne_true (edge_eq (edge_of s) (edge_of t)) (λ same. ⊎_elim
          (λ is. differ_apart s.from t.from differ (ap (λ (u : Step). u.from) (sym is)))
          (λ back. none_back ps once two_points three_points s t at_s at_t (sym (ap (λ (u : Step). u.from) back))
          (ap (λ (u : Step). u.to) back))
          (one_of_two t s (sym (edge_eq-same (edge_of s) (edge_of t) same))))

  -- each step has its edge among those that are left
  pub edge_left : (s : Step) → Contains (steps_of ps) s → Contains es (subject_edge s)
  edge_left s at = stays (map subject_edge (steps_of ps)) es merged edges_differ (subject_edge s)
      (Contains-map subject_edge (steps_of ps) s at) (counts_some s)

  -- and they are the edges of steps
  pub step_along : (e : CountedEdge) → Contains es e → (s : Step) × Contains (steps_of ps) s × (subject_edge s ≡ e)
  step_along e at =
      let found = ends_of_merged (map subject_edge (steps_of ps)) es merged e at in
      let step = Contains-from_map subject_edge (steps_of ps) found.0 found.1 in (
        step.0,
        step.1,
        same_merged (map subject_edge (steps_of ps)) es merged (subject_edge step.0) e (edge_left step.0 step.1) at
            (ap (λ f. edge_eq f (ends_of e)) (ap ends_of step.2 ∙ found.2) ∙ edge_eq-itself (ends_of e)),
      )
