-- The steps of a contour lead between different points, and each has a step before and a step after.
use Rattle.std.proofs.Common.{◌≡◌, inl, inr, ◌+◌, ◌-◌, ◌<◌, List, [], ◌∷◌, ◌++◌, length, Contains, sym, ap, ◌∙◌, subst}
use Rattle.std.proofs.Common.{arith}
use Rattle.std.proofs.lemmas.List.Elements.{Contains-append_cases}
use Rattle.overlay_geom.specs.Plane.{Point, Step, steps_between, steps_through, steps_of, points_of}
use Rattle.overlay_plane.specs.Turn.{step_round, no_step}
use Rattle.overlay_plane.specs.Contours.{IsContour}
use Rattle.overlay_plane.proofs.ChainStops.{step_between}
use Rattle.overlay_plane.proofs.ItemsRound.{item_round-round, Contains-item_round, place_of}

-- the steps through points are between different ones
through_long : (p : Point) (qs : List Point) (s : Step) → Contains (steps_through p qs) s → ¬ (s.from ≡ s.to)
through_long p [] s c = absurd (elim c.1 [ ])
through_long p (q ∷ qs) s c = elim (Contains-append_cases (steps_between p q) (steps_through q qs) s c) [
  | inl first ↦ let found = step_between p q s first in
      λ same. found.1 (subst (λ (t : Step). t.from ≡ t.to) (sym found.0) same)
  | inr later ↦ through_long q qs s later
]

-- the steps round a closed list of points are such steps
round_long : (ps : List Point) (s : Step) → Contains (steps_of ps) s → ¬ (s.from ≡ s.to)
round_long [] s c = absurd (elim c.1 [ ])
round_long (p ∷ ps) s c = through_long p (ps ++ p ∷ []) s c

module _ (walk : List Step) (contour : IsContour walk) where
  -- the steps of a contour are between different points
  pub contour_long : (s : Step) → Contains walk s → ¬ (s.from ≡ s.to)
  contour_long s c = round_long (points_of walk) s (subst (λ ss. Contains ss s) (sym contour.whole) c)

  -- a contour has a step
  pub some_step : 0 < length walk
  some_step = let three = contour.three in omega arith

  -- a step begins where each ends
  pub step_after : (s : Step) → Contains walk s → (t : Step) × Contains walk t × (t.from ≡ s.to)
  step_after s c =
      let at = place_of walk no_step s c in (
        step_round walk (at.0 + 1),
        Contains-item_round walk no_step (at.0 + 1) some_step,
        contour.leads_on at.0
            ∙ ap (λ (t : Step). t.to) at.2,
      )

  -- a step ends where each begins
  pub step_before : (s : Step) → Contains walk s → (t : Step) × Contains walk t × (t.to ≡ s.from)
  step_before s c =
      let at = place_of walk no_step s c in
      let k = (length walk - 1) + at.0 in
      let next : k + 1 ≡ length walk + at.0 = let some = some_step in omega arith in (
        step_round walk k,
        Contains-item_round walk no_step k some_step,
        sym (contour.leads_on k) ∙ ap (λ j. (step_round walk j).from) next
            ∙ ap (λ (t : Step). t.from) (item_round-round walk no_step at.0 ∙ at.2),
      )
