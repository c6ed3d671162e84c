-- Filled sides wind once round each point where the winding is filled, and zero times elsewhere; and a step back counts
-- as the opposite of the step.
use Rattle.std.proofs.Common.{◌≡◌, Bool, true, false, cond, not, ◌++◌, ℤ, pos, negsuc, ◌-ℤ◌, ◌*ℤ◌, List, [], ◌∷◌}
use Rattle.std.proofs.Common.{Contains, refl, sym, ap, ap₂, ◌∙◌}
use Rattle.std.proofs.lemmas.Bool.{false_from_ne_true}
use Rattle.overlay_geom.specs.Plane.{PlanePoint, Step, point_eq, is_forward, is_strictly_below}
use Rattle.overlay_geom.specs.Plane.{reversed_step, total, winding}
use Rattle.overlay_geom.specs.Edges.{CountedEdge, ends_of, winding_by, winding_below, winding_above}
use Rattle.overlay_geom.proofs.Orders.{point_eq-same}
use Rattle.overlay_plane.specs.Nodes.{IsBalancedArrangement}
use Rattle.overlay_plane.specs.Regions.{IsRuled, one_if, selected_sign}
use Rattle.overlay_plane.specs.SelectedSteps.{step_with_left}
use Rattle.overlay_plane.proofs.AlongLines.{winding_part}
use Rattle.overlay_plane.proofs.EdgesOfSteps.{edge_by}
use Rattle.overlay_plane.proofs.JoinedLists.{total-flat_map, times_taken}
use Rattle.overlay_plane.proofs.RegionBelow.{region_from_selected_signs}
use Rattle.overlay_plane.proofs.SelectedWindings.{forward_above, along_edge}
use Rattle.overlay_plane.proofs.SpokeWindings.{forward_entry}
use Rattle.overlay_plane.proofs.StepsAlong.{turns_round}
use Rattle.overlay_plane.proofs.Totals.{total-same}
use Rattle.overlay_extract.specs.ClosedWalks.{HasLength}
use Rattle.overlay_extract.specs.FilledSides.{sides_of, filled_sides}

-- ---- a step back

pub part_back : (p : PlanePoint) (s : Step) → HasLength s →
    winding_part p (reversed_step s) ≡ negsuc 0 *ℤ winding_part p s
part_back p s long =
    ap (λ t. cond (is_strictly_below (edge_by t (reversed_step s)) p) (cond t (pos 1) (negsuc 0)) (pos 0))
    (turns_round s (false_from_ne_true (point_eq s.from s.to) (λ same. long (point_eq-same s.from s.to same))))
    ∙ by (is_forward s)
  where
    by : (t : Bool) →
        cond (is_strictly_below (edge_by (not t) (reversed_step s)) p) (cond (not t) (pos 1) (negsuc 0)) (pos 0) ≡
        negsuc 0 *ℤ cond (is_strictly_below (edge_by t s) p) (cond t (pos 1) (negsuc 0)) (pos 0)
    by true = sym (times_taken (is_strictly_below (edge_by true s) p) (negsuc 0) (pos 1))
    by false = sym (times_taken (is_strictly_below (edge_by false s) p) (negsuc 0) (negsuc 0))

-- ---- filled sides

-- the test as a rule for two windings, of which it reads the first one alone
abbrev pub by_first : (ℤ → Bool) → ℤ → ℤ → Bool
by_first fills w other = fills w

module _ (fills : ℤ → Bool) (count : CountedEdge → ℤ) (es : List CountedEdge)
    (arranged : IsBalancedArrangement count es) (empty : fills (pos 0) ≡ false) where
  pub ruled : IsRuled (by_first fills) count count es
  ruled = record {
    planar = arranged.planar;
    subj_balanced = arranged.balanced;
    clip_balanced = arranged.balanced;
    none = empty;
  }

  module _ (p : PlanePoint) where
    -- what the sides of an edge count is its sign
    sides_count : (e : CountedEdge) → Contains es e → total (winding_part p) (sides_of fills count es e) ≡
        cond (is_strictly_below (ends_of e) p) (selected_sign (by_first fills) count count es e) (pos 0)
    sides_count e c = single above below
        ∙ ap₂ (λ m n. total (λ z. z) (cond above (m ∷ []) [] ++ cond below (n ∷ []) [])) (side true) (side false)
        ∙ table above below (is_strictly_below (ends_of e) p)
      where
        above : Bool
        above = fills (winding_above count es e)

        below : Bool
        below = fills (winding_below count es e)

        side : (up : Bool) → winding_part p (step_with_left up (ends_of e)) ≡
            cond (is_strictly_below (ends_of e) p) (cond up (pos 1) (negsuc 0)) (pos 0)
        side up = ap₂ (λ f t. cond (is_strictly_below f p) (cond t (pos 1) (negsuc 0)) (pos 0))
            (along_edge (ends_of e) (forward_entry count es arranged e c) up)
            (forward_above (ends_of e) (forward_entry count es arranged e c) up)

        single : (u v : Bool) → total (winding_part p)
            (cond u (step_with_left true (ends_of e) ∷ []) [] ++ cond v (step_with_left false (ends_of e) ∷ []) []) ≡
            total (λ z. z) (cond u (winding_part p (step_with_left true (ends_of e)) ∷ []) []
            ++ cond v (winding_part p (step_with_left false (ends_of e)) ∷ []) [])
        single true true = refl
        single true false = refl
        single false true = refl
        single false false = refl

        table : (u v w : Bool) →
            total (λ z. z) (cond u (cond w (pos 1) (pos 0) ∷ []) [] ++ cond v (cond w (negsuc 0) (pos 0) ∷ []) []) ≡
            cond w (one_if u -ℤ one_if v) (pos 0)
        table true true true = refl
        table true true false = refl
        table true false true = refl
        table true false false = refl
        table false true true = refl
        table false true false = refl
        table false false true = refl
        table false false false = refl

    pub sides_wind : winding (filled_sides fills count es) p ≡ one_if (fills (winding_by count es p))
    sides_wind = total-flat_map (winding_part p) (sides_of fills count es) es
        ∙ total-same (λ e. total (winding_part p) (sides_of fills count es e))
        (λ e. cond (is_strictly_below (ends_of e) p) (selected_sign (by_first fills) count count es e) (pos 0)) es
        sides_count
        ∙ region_from_selected_signs (by_first fills) count count es ruled p
