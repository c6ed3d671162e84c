-- The smallest of the first points of a list, one point after another.
use Rattle.std.proofs.Common.{◌≡◌, ⊎_elim, ℕ, ◌+◌, ◌<◌, true, false, List, length, get_or, ap}
use Rattle.std.proofs.Common.{subst}
use Rattle.std.proofs.Common.{◌∙◌, arith}
use Rattle.std.proofs.lemmas.Bool.{both_ways, cases_lt, false_from_ne_true}
use Rattle.std.proofs.lemmas.List.{get_or_default}
use Rattle.overlay_geom.specs.Plane.{Point, point_lt}
use Rattle.overlay_geom.proofs.Orders.{point_lt-itself}
use Rattle.overlay_geom.proofs.PointOrder.{point_lt-transitive}
use Rattle.overlay_plane.specs.Turn.{no_step}
use Rattle.i_overlay.specs.Points.{IsLeast}

-- the point at a place
abbrev pub point_at : List Point → ℕ → Point
point_at ps k = get_or ps k no_step.from

-- none of so many first points is smaller than the one at the place
abbrev pub IsLeastUpTo : List Point → ℕ → ℕ → Type 0
IsLeastUpTo ps number place = (k : ℕ) → k < number → point_lt (point_at ps k) (point_at ps place) ≡ false

module _ (ps : List Point) (number place : ℕ) (least : IsLeastUpTo ps number place) where
  -- a next point that is not smaller
  pub still_least : point_lt (point_at ps number) (point_at ps place) ≡ false → IsLeastUpTo ps (number + 1) place
  still_least not_less k within = ⊎_elim (λ before. least k before)
      (λ not_before. let here : k ≡ number = omega (arith, not_before, within) in
      ap (λ j. point_lt (point_at ps j) (point_at ps place)) here ∙ not_less)
      (cases_lt k number)

  -- one that is
  pub newly_least : point_lt (point_at ps number) (point_at ps place) ≡ true → IsLeastUpTo ps (number + 1) number
  newly_least less k within = ⊎_elim
      (λ before. false_from_ne_true (point_lt (point_at ps k) (point_at ps number))
      (λ smaller. both_ways (point_lt (point_at ps k) (point_at ps place)) (least k before)
      (point_lt-transitive (point_at ps k) (point_at ps number) (point_at ps place) smaller less)))
      (λ not_before. let here : k ≡ number = omega (arith, not_before, within) in
      ap (λ j. point_lt (point_at ps j) (point_at ps number)) here ∙ point_lt-itself (point_at ps number))
      (cases_lt k number)

-- none of all
pub least_of_all : (ps : List Point) (place : ℕ) → IsLeastUpTo ps (length ps) place → IsLeast ps (point_at ps place)
least_of_all ps place least q c =
    subst (λ (r : Point). point_lt r (point_at ps place) ≡ false)
    (get_or_default ps c.0 no_step.from q c.1 ∙ c.2) (least c.0 c.1)
