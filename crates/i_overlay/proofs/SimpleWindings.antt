-- A simple contour winds round each point of the plane zero times or once, in its direction.
use Rattle.std.proofs.Common.{◌≡◌, ◌⊎◌, inl, inr, ⊎_elim, ℕ, zero, suc, ◌<◌, ◌≤◌, Bool, true, false, cond, not}
use Rattle.std.proofs.Common.{◌&&◌, ℤ, pos, negsuc, ◌+ℤ◌, List, length, map, Contains, refl, sym, ap, ap₂, subst}
use Rattle.std.proofs.Common.{◌∙◌, arith}
use Rattle.std.proofs.lemmas.Bool.{both_ways, false_from_ne_true}
use Rattle.std.proofs.lemmas.Bool.Decides.{Decides-int_eq}
use Rattle.std.specs.Ordering.{int_eq}
use Rattle.overlay_geom.specs.Plane.{Point, PlanePoint, Step, point_eq, point_lt, is_forward, edge_of, steps_of}
use Rattle.overlay_geom.specs.Plane.{winding}
use Rattle.overlay_geom.specs.Plane.{is_strictly_below}
use Rattle.overlay_geom.specs.Edges.{CountedEdge, ends_of, subj_of, clip_of, subject_edge, winding_by}
use Rattle.overlay_geom.specs.Edges.{winding_below, winding_above}
use Rattle.overlay_geom.specs.Merged.{IsMerged}
use Rattle.overlay_geom.specs.declared.options.ContourDirection.{ContourDirection}
use Rattle.overlay_geom.specs.declared.options.ContourDirection.TheVariants.{CounterClockwise, Clockwise}
use Rattle.overlay_geom.proofs.MergedWindings.{windings_from_merged}
use Rattle.overlay_geom.proofs.Orders.{point_eq-same, point_eq-of_same, point_lt-back}
use Rattle.overlay_geom.proofs.Signs.{linear}
use Rattle.overlay_plane.specs.Alternates.{IsMetBetween}
use Rattle.overlay_plane.specs.EdgeLists.{IsForwardBy}
use Rattle.overlay_plane.specs.Leftmost.{CountsNothingBefore, CountsNothingBelow}
use Rattle.overlay_plane.specs.Nodes.{IsBalancedArrangement, turns_left}
use Rattle.overlay_plane.specs.Regions.{IsRuled}
use Rattle.overlay_plane.specs.Spokes.{IsSpoke, far_end, winding_before, winding_after}
use Rattle.overlay_plane.specs.Turn.Hand.{right}
use Rattle.overlay_plane.proofs.BeforeTheSteps.{end_before}
use Rattle.overlay_plane.proofs.EdgeOrder.{distinct_from_ascending}
use Rattle.overlay_plane.proofs.EdgesOfSteps.{edge_by}
use Rattle.overlay_plane.proofs.Entries.{all_of_entries}
use Rattle.overlay_plane.proofs.JoinedLists.{total-map}
use Rattle.overlay_plane.proofs.KeepingBalance.{added_contours_are_balanced, merging_keeps_balance}
use Rattle.overlay_plane.proofs.LeftmostPoints.{nothing_before_the_leftmost}
use Rattle.overlay_plane.proofs.ReachedEdges.{above_below_point}
use Rattle.overlay_plane.proofs.RoundNodes.{one_winding_beside_neighbours}
use Rattle.overlay_plane.proofs.TurnOrder.{met_irreflexive, start_is_last}
use Rattle.i_overlay.specs.Laws.{once_in}
use Rattle.i_overlay.specs.Simple.{IsSimple, IsLowestStep, RunsIn}
use Rattle.i_overlay.proofs.ClosedPoints.{among, begins, stops_in_next, step_at, place_of, one_begins}
use Rattle.i_overlay.proofs.ClosedPoints.{one_ends, all_long}
use Rattle.i_overlay.proofs.SimpleEdges.{three_points, edge_left, step_along}

module _ (ps : List Point) (es : List CountedEdge) (simple : IsSimple ps es) where
  merged : IsMerged (map subject_edge (steps_of ps)) es
  merged = simple.none_cut.merged

  three : 3 ≤ length ps
  three = three_points ps simple.points_once es merged simple.some_edge

  two : 2 ≤ length ps
  two = omega (arith, three)

  -- a step of the contour
  abbrev IsStep : Step → Type 0
  IsStep s = Contains (steps_of ps) s

  left_edge : (s : Step) → IsStep s → Contains es (subject_edge s)
  left_edge = edge_left ps simple.points_once es merged simple.some_edge

  along : (e : CountedEdge) → Contains es e → (s : Step) × IsStep s × (subject_edge s ≡ e)
  along = step_along ps simple.points_once es merged simple.some_edge

  long : (s : Step) → IsStep s → ¬ (s.from ≡ s.to)
  long = all_long ps simple.points_once two

  -- ---- the arrangement

  -- the edge of a step leads forward
  forward : (s : Step) → IsStep s → point_lt (edge_of s).a (edge_of s).b ≡ true
  forward s at = by (is_forward s) refl
    where
      by : (t : Bool) → point_lt s.from s.to ≡ t → point_lt (edge_by t s).a (edge_by t s).b ≡ true
      by true less = less
      by false more = point_lt-back s.from s.to (false_from_ne_true (point_eq s.from s.to)
          (λ same. long s at (point_eq-same s.from s.to same))) more

  arranged_forward : IsForwardBy ends_of es
  arranged_forward = all_of_entries (λ e. point_lt e.a e.b ≡ true) es
      (λ e c. let step = along e c in subst (λ (f : CountedEdge). point_lt f.a f.b ≡ true) step.2
      (forward step.0 step.1))

  balanced_subj : IsBalancedArrangement subj_of es
  balanced_subj = record {
    planar = record {
      forward = arranged_forward;
      settled = simple.none_cut.settled;
      distinct = distinct_from_ascending es merged.ascending;
    };
    balanced = (merging_keeps_balance (map subject_edge (steps_of ps)) es merged
        (added_contours_are_balanced.subject ps)).subj;
  }

  balanced_clip : IsBalancedArrangement clip_of es
  balanced_clip = record {
    planar = record {
      forward = arranged_forward;
      settled = simple.none_cut.settled;
      distinct = distinct_from_ascending es merged.ascending;
    };
    balanced = (merging_keeps_balance (map subject_edge (steps_of ps)) es merged
        (added_contours_are_balanced.subject ps)).clip;
  }

  -- ---- beside the steps

  -- the winding on the left of a step that leads forward, or back
  abbrev left_by : Bool → Step → ℤ
  left_by t s = cond t (winding_above subj_of es (subject_edge s)) (winding_below subj_of es (subject_edge s))

  abbrev left_of : Step → ℤ
  left_of s = left_by (is_forward s) s

  -- above and below its edge the winding is that one, or the one on its right, which is 1 less
  abbrev IsBeside : ℤ → ℤ → Type 0
  IsBeside l z = (z ≡ l) ⊎ (z +ℤ pos 1 ≡ l)

  above_beside : (s : Step) → IsBeside (left_of s) (winding_above subj_of es (subject_edge s))
  above_beside s = by (is_forward s) (winding_below subj_of es (subject_edge s))
    where
      by : (t : Bool) (below : ℤ) → IsBeside (cond t (below +ℤ cond t (pos 1) (negsuc 0)) below)
          (below +ℤ cond t (pos 1) (negsuc 0))
      by true below = inl refl
      by false below = inr (omega linear)

  -- where one step ends and the next one begins, theirs are the only edges
  module _ (s t : Step) (at_s : IsStep s) (at_t : IsStep t) (on : s.to ≡ t.from) where
    ends_in : (u : Step) (v : Point) → ((u.from ≡ v) ⊎ (u.to ≡ v)) → ((edge_of u).a ≡ v) ⊎ ((edge_of u).b ≡ v)
    ends_in u v at = by (is_forward u) at
      where
        by : (f : Bool) → ((u.from ≡ v) ⊎ (u.to ≡ v)) → ((edge_by f u).a ≡ v) ⊎ ((edge_by f u).b ≡ v)
        by true (inl from) = inl from
        by true (inr to) = inr to
        by false (inl from) = inr from
        by false (inr to) = inl to

    ends_back : (u : Step) (v : Point) → (((edge_of u).a ≡ v) ⊎ ((edge_of u).b ≡ v)) → (u.from ≡ v) ⊎ (u.to ≡ v)
    ends_back u v at = by (is_forward u) at
      where
        by : (f : Bool) → (((edge_by f u).a ≡ v) ⊎ ((edge_by f u).b ≡ v)) → (u.from ≡ v) ⊎ (u.to ≡ v)
        by true (inl a) = inl a
        by true (inr b) = inr b
        by false (inl a) = inr a
        by false (inr b) = inl b

    spoke_s : IsSpoke es s.to (subject_edge s)
    spoke_s = record { entry = left_edge s at_s; at = ends_in s s.to (inr refl) }

    spoke_t : IsSpoke es s.to (subject_edge t)
    spoke_t = record { entry = left_edge t at_t; at = ends_in t s.to (inl (sym on)) }

    -- each edge there is one of the two
    one_of_them : (m : CountedEdge) → IsSpoke es s.to m → (m ≡ subject_edge t) ⊎ (m ≡ subject_edge s)
    one_of_them m spoke =
        let step = along m spoke.entry in
        ⊎_elim
        (λ from. inl (sym step.2 ∙ ap subject_edge (one_begins ps simple.points_once two step.0 t step.1 at_t
        (from ∙ on))))
        (λ to. inr (sym step.2 ∙ ap subject_edge (one_ends ps simple.points_once two step.0 s step.1 at_s to)))
        (ends_back step.0 s.to (subst (λ (e : CountedEdge). (e.a ≡ s.to) ⊎ (e.b ≡ s.to)) (sym step.2) spoke.at))

    none_between : (m : CountedEdge) → IsSpoke es s.to m →
        ¬ (IsMetBetween s.to (far_end s.to (subject_edge t)) (far_end s.to m) (far_end s.to (subject_edge s)))
    none_between m spoke met = ⊎_elim
        (λ is. both_ways _ (start_is_last right s.to (far_end s.to (subject_edge t)) (far_end s.to (subject_edge s)))
        (subst (λ (e : CountedEdge). IsMetBetween s.to (far_end s.to (subject_edge t)) (far_end s.to e)
        (far_end s.to (subject_edge s))) is met))
        (λ is. both_ways _ (met_irreflexive right s.to (far_end s.to (subject_edge t)) (far_end s.to (subject_edge s)))
        (subst (λ (e : CountedEdge). IsMetBetween s.to (far_end s.to (subject_edge t)) (far_end s.to e)
        (far_end s.to (subject_edge s))) is met))
        (one_of_them m spoke)

    -- what is met after the step that leaves is its left side, and before the one that arrives too
    after_leaving : winding_after subj_of es s.to (subject_edge t) ≡ left_of t
    after_leaving = by (is_forward t) (winding_above subj_of es (subject_edge t))
        (winding_below subj_of es (subject_edge t))
      where
        by : (f : Bool) (up low : ℤ) → cond (point_eq (edge_by f t).a s.to) up low ≡ cond f up low
        by true up low = ap (λ b. cond b up low) (point_eq-of_same t.from s.to (sym on))
        by false up low = ap (λ b. cond b up low) (false_from_ne_true (point_eq t.to s.to)
            (λ same. long t at_t (sym on ∙ sym (point_eq-same t.to s.to same))))

    before_arriving : winding_before subj_of es s.to (subject_edge s) ≡ left_of s
    before_arriving = by (is_forward s) (winding_above subj_of es (subject_edge s))
        (winding_below subj_of es (subject_edge s))
      where
        by : (f : Bool) (up low : ℤ) → cond (point_eq (edge_by f s).a s.to) low up ≡ cond f up low
        by true up low = ap (λ b. cond b low up) (false_from_ne_true (point_eq s.from s.to)
            (λ same. long s at_s (point_eq-same s.from s.to same)))
        by false up low = ap (λ b. cond b low up) (point_eq-of_same s.to s.to refl)

    -- so the winding on the left goes over to the next step
    goes_over : left_of t ≡ left_of s
    goes_over = sym after_leaving
        ∙ one_winding_beside_neighbours subj_of es balanced_subj s.to (subject_edge t) (subject_edge s) spoke_t spoke_s
        none_between
        ∙ before_arriving

  -- it is one number along the contour
  at_places : (k : ℕ) → k < length ps → left_of (step_at ps simple.points_once two k) ≡ left_of
      (step_at ps simple.points_once two 0)
  at_places zero within = refl
  at_places (suc k) within =
      goes_over (step_at ps simple.points_once two k) (step_at ps simple.points_once two (suc k))
      (among ps simple.points_once two k (omega (arith, within))) (among ps simple.points_once two (suc k) within)
      (stops_in_next ps simple.points_once two k (omega (arith, within))
      ∙ sym (begins ps simple.points_once two (suc k) within))
      ∙ at_places k (omega (arith, within))

  one_left : (s t : Step) → IsStep s → IsStep t → left_of s ≡ left_of t
  one_left s t at_s at_t =
      let i = place_of ps simple.points_once two s at_s in
      let j = place_of ps simple.points_once two t at_t in
      sym (ap left_of i.2) ∙ at_places i.0 i.1 ∙ sym (at_places j.0 j.1) ∙ ap left_of j.2

  -- ---- the lowest edge at the leftmost lowest point

  module _ (u : Step) (lowest : IsLowestStep (steps_of ps) u) where
    none_before : CountsNothingBefore subj_of es (edge_of u).a
    none_before e c before =
        let step = along e c in
        absurd (lowest.leftmost step.0 step.1
        (end_before (edge_of u).a step.0 e (ap ends_of step.2) before))

    none_below : CountsNothingBelow subj_of es (edge_of u).a (subject_edge u)
    none_below e c starts_there below =
        let step = along e c in
        absurd (both_ways (turns_left (edge_of step.0) (edge_of u))
        (lowest.lowest step.0 step.1 (ap (λ (f : CountedEdge). f.a) step.2 ∙ starts_there))
        (ap (λ (f : CountedEdge). turns_left (ends_of f) (edge_of u)) step.2 ∙ below))

    -- below it the winding is 0
    nothing_below : winding_below subj_of es (subject_edge u) ≡ pos 0
    nothing_below = (nothing_before_the_leftmost subj_of es balanced_subj (edge_of u).a none_before).below_lowest
        (subject_edge u) (left_edge u lowest.among) refl none_below

    -- so on the left of the step it is 1 where it leads forward, and 0 where it leads back
    left_there : left_of u ≡ cond (is_forward u) (pos 1) (pos 0)
    left_there = by (is_forward u) (winding_below subj_of es (subject_edge u)) nothing_below
      where
        by : (t : Bool) (below : ℤ) → below ≡ pos 0 → cond t (below +ℤ cond t (pos 1) (negsuc 0)) below ≡ cond t (pos 1)
            (pos 0)
        by true below is = ap (λ z. z +ℤ pos 1) is
        by false below is = is

  -- ---- round each point

  module _ (direction : ContourDirection) (runs : RunsIn direction ps) where
    -- above each edge the winding is 0, or once in the direction
    abbrev NoneOrOnce : ℤ → Type 0
    NoneOrOnce z = (z ≡ pos 0) ⊎ (z ≡ once_in direction)

    above_each : (e : CountedEdge) → Contains es e → NoneOrOnce (winding_above subj_of es e)
    above_each e c =
        let step = along e c in
        subst (λ (f : CountedEdge). NoneOrOnce (winding_above subj_of es f)) step.2
        (by direction (is_forward runs.step) runs.passed (winding_above subj_of es (subject_edge step.0))
        (subst (λ z. IsBeside z (winding_above subj_of es (subject_edge step.0)))
        (one_left step.0 runs.step step.1 runs.is_lowest.among ∙ left_there runs.step runs.is_lowest)
        (above_beside step.0)))
      where
        by : (d : ContourDirection) (t : Bool) → d ≡ cond t CounterClockwise Clockwise → (z : ℤ) →
            IsBeside (cond t (pos 1) (pos 0)) z → (z ≡ pos 0) ⊎ (z ≡ once_in d)
        by d true is z (inl one) = inr (one ∙ sym (ap once_in is))
        by d true is z (inr less) = inl (omega linear)
        by d false is z (inl none) = inl none
        by d false is z (inr less) = inr (let low : z ≡ negsuc 0 = omega linear in low ∙ sym (ap once_in is))

    -- a winding is another number
    abbrev other : ℤ → ℤ → Bool
    other w c = not (int_eq w (pos 0)) && not (int_eq w (once_in direction))

    ruled : IsRuled other subj_of clip_of es
    ruled = record {
      planar = record {
        forward = arranged_forward;
        settled = simple.none_cut.settled;
        distinct = distinct_from_ascending es merged.ascending;
      };
      subj_balanced = balanced_subj.balanced;
      clip_balanced = balanced_clip.balanced;
      none = refl;
    }

    -- no winding is
    none_other : (w c : ℤ) → NoneOrOnce w → other w c ≡ false
    none_other w c (inl none) = ap (λ z. other z c) none
    none_other w c (inr once) = ap (λ z. other z c) once ∙ by direction
      where
        by : (d : ContourDirection) → (not (int_eq (once_in d) (pos 0)) && not (int_eq (once_in d) (once_in d))) ≡ false
        by CounterClockwise = refl
        by Clockwise = refl

    at_points : (p : PlanePoint) → NoneOrOnce (winding_by subj_of es p)
    at_points p = by (int_eq (winding_by subj_of es p) (pos 0)) (int_eq (winding_by subj_of es p) (once_in direction))
        refl refl
      where
        by : (s t : Bool) → int_eq (winding_by subj_of es p) (pos 0) ≡ s →
            int_eq (winding_by subj_of es p) (once_in direction) ≡ t → NoneOrOnce (winding_by subj_of es p)
        by true t none is = inl ((Decides-int_eq (winding_by subj_of es p) (pos 0)).0 none)
        by false true some once = inr ((Decides-int_eq (winding_by subj_of es p) (once_in direction)).0 once)
        by false false some else =
            let found = above_below_point other subj_of clip_of es ruled p
            (ap₂ (λ a b. not a && not b) some else) in
            absurd (both_ways (other (winding_above subj_of es found.0) (winding_above clip_of es found.0))
            (none_other (winding_above subj_of es found.0) (winding_above clip_of es found.0)
            (above_each found.0 found.1)) found.3)

    -- the contour's steps wind as the edges do
    pub same_winding : (p : PlanePoint) → winding (steps_of ps) p ≡ winding_by subj_of es p
    same_winding p =
        sym (total-map (λ e. cond (is_strictly_below (ends_of e) p) (subj_of e) (pos 0)) subject_edge (steps_of ps))
        ∙ sym ((windings_from_merged (map subject_edge (steps_of ps)) es merged).subj p)

    -- zero times or once, in the direction
    pub winds_once : (p : PlanePoint) → (winding_by subj_of es p ≡ pos 0) ⊎
        (winding_by subj_of es p ≡ once_in direction)
    winds_once p = at_points p

  -- a simple contour runs in one direction
  pub one_direction : (d e : ContourDirection) → RunsIn d ps → RunsIn e ps → d ≡ e
  one_direction d e first second =
      first.passed ∙ ap (λ t. cond t CounterClockwise Clockwise) (by (is_forward first.step) (is_forward second.step)
      (sym (left_there first.step first.is_lowest)
      ∙ one_left first.step second.step first.is_lowest.among second.is_lowest.among
      ∙ left_there second.step second.is_lowest))
      ∙ sym second.passed
    where
      by : (s t : Bool) → cond s (pos 1) (pos 0) ≡ cond t (pos 1) (pos 0) → s ≡ t
      by true true same = refl
      by true false same = let no : pos 1 ≡ pos 0 = same in absurd (omega linear)
      by false true same = let no : pos 0 ≡ pos 1 = same in absurd (omega linear)
      by false false same = refl
