-- Steps counted on the edges of a list. A number of each edge, times the count of steps along it, sums to the numbers
-- of the steps' edges times the steps' signs.
use Rattle.std.proofs.Common.{◌≡◌, Bool, true, false, cond, ℤ, pos, ◌*ℤ◌, List, Contains, sym, ap, ◌∙◌}
use lib.IntN.{*ℤ_comm, *ℤ-zero}
use Rattle.overlay_geom.specs.Plane.{PlanePoint, Step, Edge, edge_eq, edge_of, sign_of, is_strictly_below, total}
use Rattle.overlay_geom.specs.Plane.{winding}
use Rattle.overlay_geom.specs.Edges.{CountedEdge, ends_of, winding_by}
use Rattle.overlay_geom.proofs.Identities.{solve, number, ◌⊗◌, ◌≗◌}
use Rattle.overlay_geom.proofs.Orders.{edge_eq-exchanged}
use Rattle.overlay_plane.specs.Regions.{one_if}
use Rattle.overlay_plane.specs.BesideOrbits.{count_on, WalksAlong}
use Rattle.overlay_plane.proofs.JoinedLists.{total-times, times_taken}
use Rattle.overlay_plane.proofs.SingleEntries.{single_total}
use Rattle.overlay_plane.proofs.StepTotals.{total-exchange}
use Rattle.overlay_plane.proofs.Tests.{same_tests}
use Rattle.overlay_plane.proofs.Totals.{total-same}

module _ (es : List CountedEdge) (steps : List Step) (walks : WalksAlong es steps) (taken : List Step)
    (inside : (s : Step) → Contains taken s → Contains steps s) where
  module _ (number : Edge → ℤ) where
    -- the count of a step on an edge: 0 except on its own edge
    abbrev added_on : CountedEdge → Step → ℤ
    added_on e s = number (ends_of e) *ℤ cond (edge_eq (edge_of s) (ends_of e)) (sign_of s) (pos 0)

    -- over all edges this is the number of its edge, with its sign
    added_by : (s : Step) → Contains taken s → total (λ e. added_on e s) es ≡ sign_of s *ℤ number (edge_of s)
    added_by s c =
        total-same (λ e. added_on e s)
        (λ e. cond (edge_eq (ends_of e) (ends_of own)) (number (ends_of e) *ℤ sign_of s) (pos 0)) es
        (λ e at. times_taken (edge_eq (edge_of s) (ends_of e)) (number (ends_of e)) (sign_of s)
        ∙ ap (λ b. cond b (number (ends_of e) *ℤ sign_of s) (pos 0)) (one_test e))
        ∙ single_total es walks.planar.distinct (λ e. number (ends_of e) *ℤ sign_of s) own
        (walks.along s (inside s c)).1
        ∙ ap (λ f. number f *ℤ sign_of s) (sym along)
        ∙ *ℤ_comm (number (edge_of s)) (sign_of s)
      where
        own : CountedEdge
        own = (walks.along s (inside s c)).0

        along : edge_of s ≡ ends_of own
        along = (walks.along s (inside s c)).2

        one_test : (e : CountedEdge) → edge_eq (edge_of s) (ends_of e) ≡ edge_eq (ends_of e) (ends_of own)
        one_test e = ap (λ f. edge_eq f (ends_of e)) along ∙ same_tests (edge_eq (ends_of own) (ends_of e))
            (edge_eq (ends_of e) (ends_of own)) (edge_eq-exchanged (ends_of own) (ends_of e))
            (edge_eq-exchanged (ends_of e) (ends_of own))

    pub numbers_counted : total (λ e. count_on taken e *ℤ number (ends_of e)) es ≡
        total (λ s. sign_of s *ℤ number (edge_of s)) taken
    numbers_counted =
        total-same (λ e. count_on taken e *ℤ number (ends_of e)) (λ e. total (λ s. added_on e s) taken) es
        (λ e at. *ℤ_comm (count_on taken e) (number (ends_of e))
        ∙ sym (total-times (number (ends_of e)) (λ s. cond (edge_eq (edge_of s) (ends_of e)) (sign_of s) (pos 0))
        taken))
        ∙ total-exchange added_on es taken
        ∙ total-same (λ s. total (λ e. added_on e s) es) (λ s. sign_of s *ℤ number (edge_of s)) taken added_by

  -- a number that is taken or not is multiplied by 1 or 0
  taken_as_factor : (t : Bool) (z : ℤ) → cond t z (pos 0) ≡ z *ℤ one_if t
  taken_as_factor true z = solve 1 (λ a. a ≗ a ⊗ number (pos 1)) tt z
  taken_as_factor false z = sym (*ℤ-zero z)

  -- the steps wind as their counts on the edges
  pub winding_counted : (p : PlanePoint) → winding taken p ≡ winding_by (count_on taken) es p
  winding_counted p =
      total-same (λ s. cond (is_strictly_below (edge_of s) p) (sign_of s) (pos 0))
      (λ s. sign_of s *ℤ one_if (is_strictly_below (edge_of s) p)) taken
      (λ s c. taken_as_factor (is_strictly_below (edge_of s) p) (sign_of s))
      ∙ sym (numbers_counted (λ e. one_if (is_strictly_below e p)))
      ∙ total-same (λ e. count_on taken e *ℤ one_if (is_strictly_below (ends_of e) p))
      (λ e. cond (is_strictly_below (ends_of e) p) (count_on taken e) (pos 0)) es
      (λ e c. sym (taken_as_factor (is_strictly_below (ends_of e) p) (count_on taken e)))
