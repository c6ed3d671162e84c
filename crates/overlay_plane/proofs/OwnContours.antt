-- The contours of a shape from the start: beside each of them the outline winds once on the filled side. Steps with
-- equal windings along each contour have them beside all contours.
use Rattle.std.proofs.Common.{◌≡◌, ℕ, ◌<◌, Bool, false, cond, ℤ, List, [], ◌∷◌, length, Contains, Some, sym}
use Rattle.std.proofs.Common.{ap}
use Rattle.std.proofs.Common.{◌∙◌, subst, filter}
use Rattle.overlay_geom.specs.Plane.{Step}
use Rattle.overlay_geom.specs.Edges.{CountedEdge}
use Rattle.overlay_plane.specs.Turn.{Hand, other_hand, IsOrbit, step_round, no_step}
use Rattle.overlay_plane.specs.Regions.{IsRuled}
use Rattle.overlay_plane.specs.SelectedSteps.{selected_steps}
use Rattle.overlay_plane.specs.BesideOrbits.{winding_beside, IsBalancedPart}
use Rattle.overlay_plane.specs.Contours.{is_filled_above, outline_or_hole_hand, IsStart}
use Rattle.overlay_plane.specs.ContourWindings.{once_round}
use Rattle.overlay_plane.specs.Binding.{is_hole}
use Rattle.overlay_plane.specs.RoledContours.{outline, Contour, stands_in, IsCut}
use Rattle.overlay_plane.specs.BoundContours.{walks_in}
use Rattle.overlay_plane.specs.ShapesAlone.{HasOneWinding}
use Rattle.overlay_plane.proofs.BalancedSteps.{orbits_are_balanced}
use Rattle.overlay_plane.proofs.BesideNext.{one_winding_along_orbits}
use Rattle.overlay_plane.proofs.ContourNumbers.{cut_numbered}
use Rattle.overlay_plane.proofs.Entries.{Contains-from_filter, Contains-map}
use Rattle.overlay_plane.proofs.ItemsRound.{item_round-here, Contains-item_round}
use Rattle.overlay_plane.proofs.NumberedContours.{one_outline, IsFromWalks, from_walks}
use Rattle.overlay_plane.proofs.StartWindings.{once_beside_start}
use Rattle.overlay_plane.proofs.WalksOfCuts.{IsWalkOfCut, walk_of_a_cut}

-- the outline of the n-th shape, and the contours of the shape from the start
pub record HaveOwn (filled : Hand) (es : List CountedEdge) (steps : List Step) (contours : List Contour) (n : ℕ)
    (outline_steps : List Step) : Type 0 where
  pub once : (c : Contour) → Contains contours c → stands_in c.role ≡ Some n → (s : Step) → Contains c.steps s →
      winding_beside filled es outline_steps s ≡ once_round filled
  pub alike : (taken : List Step) → IsBalancedPart es steps taken →
      ((w : List Step) → Contains (walks_in contours) w → HasOneWinding filled es taken w) → (c d : Contour) →
      Contains contours c → Contains contours d → stands_in c.role ≡ Some n → stands_in d.role ≡ Some n →
      (s t : Step) → Contains c.steps s → Contains d.steps t →
      winding_beside filled es taken s ≡ winding_beside filled es taken t

-- the first step of a walk that is no hole is not filled above
pub first_not_filled : (filled : Hand) (walk : List Step) → is_hole filled walk ≡ false → 0 < length walk →
    is_filled_above filled (step_round walk 0) ≡ false
first_not_filled filled [] h some = absurd (elim some [ ])
first_not_filled filled (s ∷ ss) h some = subst (λ (t : Step). is_filled_above filled t ≡ false)
    (sym (item_round-here (s ∷ ss) no_step 0 some)) h

module _ (holds : ℤ → ℤ → Bool) (subj clip : CountedEdge → ℤ) (es : List CountedEdge) (filled : Hand)
    (ruled : IsRuled holds subj clip es) (keeps : List Step → Bool) (contours : List Contour)
    (cut : IsCut filled keeps (selected_steps holds subj clip filled es) contours) (n : ℕ) (o : Contour)
    (at_o : Contains contours o) (is_o : o.role ≡ outline n) where
  abbrev steps : List Step
  steps = selected_steps holds subj clip filled es

  -- a contour is one of the walks
  from : (c : Contour) → Contains contours c → IsFromWalks filled (filter keeps cut.walks) c
  from c at = from_walks filled 0 (filter keeps cut.walks) c (subst (λ cs. Contains cs c) cut.are at)

  -- the contours of the shape from the start are the outline
  is_outline : (c : Contour) → Contains contours c → stands_in c.role ≡ Some n → c ≡ o
  is_outline c at stands = one_outline 0 contours (cut_numbered false filled keeps steps contours cut) c o at at_o n
      ((from c at).is_outline n stands) is_o

  -- the outline is a walk of the cut
  own : IsWalkOfCut es (outline_or_hole_hand filled) steps o.steps
  own = walk_of_a_cut holds subj clip es filled ruled cut.walks cut.cut o.steps
      (Contains-from_filter keeps cut.walks o.steps (from o at_o).among).0

  abbrev start : Step
  start = step_round o.steps 0

  below : is_filled_above filled start ≡ false
  below = first_not_filled filled o.steps ((from o at_o).no_hole n (ap stands_in is_o)) own.first.orbit.some

  -- the outline is an orbit by the filled hand
  orbit : IsOrbit own.remaining filled o.steps
  orbit = subst (λ h. IsOrbit own.remaining h o.steps) (ap (λ b. cond b (other_hand filled) filled) below)
      own.first.orbit

  part : IsBalancedPart es own.remaining o.steps
  part = orbits_are_balanced es own.remaining own.along filled o.steps orbit

  first : IsStart o.steps start
  first = record {
    among = Contains-item_round o.steps no_step 0 own.first.orbit.some;
    lowest = λ t c. own.first.start.lowest t (own.within t c);
    top = λ t c. own.first.start.top t (own.within t c);
  }

  -- the outline winds once along its filled side
  once_along : (s : Step) → Contains o.steps s → winding_beside filled es o.steps s ≡ once_round filled
  once_along s c =
      one_winding_along_orbits es own.remaining o.steps own.along own.first.alternate part filled o.steps orbit s start
      c
      first.among
      ∙ once_beside_start es own.remaining o.steps own.along own.first.alternate filled part start first
      own.contour.once below

  pub walks_have_own : HaveOwn filled es steps contours n o.steps
  walks_have_own = record {
    once = λ c at stands s in_c. once_along s
        (subst (λ (d : Contour). Contains d.steps s) (is_outline c at stands) in_c);
    alike = λ taken part_taken one c d at_c at_d stands_c stands_d s t in_c in_d.
        one o.steps (Contains-map (λ (k : Contour). k.steps) contours o at_o) s t
        (subst (λ (k : Contour). Contains k.steps s) (is_outline c at_c stands_c) in_c)
        (subst (λ (k : Contour). Contains k.steps t) (is_outline d at_d stands_d) in_d);
  }
