-- The winding of the steps taken carries over from each step to its next step, so it is constant along each orbit.
use Rattle.std.proofs.Common.{◌≡◌, inl, inr, ⊎_elim, List, Contains, refl, sym, ◌∙◌}
use Rattle.overlay_geom.specs.Plane.{Step}
use Rattle.overlay_geom.specs.Edges.{CountedEdge}
use Rattle.overlay_plane.specs.Turn.{Hand, IsNextStep, IsOrbit}
use Rattle.overlay_plane.specs.Alternates.{Alternates}
use Rattle.overlay_plane.specs.Nodes.{IsBalancedArrangement}
use Rattle.overlay_plane.specs.WindingsBeside.{IsStepAlong, CountsSteps}
use Rattle.overlay_plane.specs.BesideOrbits.{count_on, winding_beside, WalksAlong, IsBalancedPart, OneWindingToTheNext}
use Rattle.overlay_plane.specs.BesideOrbits.{OneWindingAlongOrbits}
use Rattle.overlay_plane.proofs.OrbitSteps.{all_round}
use Rattle.overlay_plane.proofs.EdgesOfSteps.{along_or_back, one_side, walked_or_nothing}
use Rattle.overlay_plane.proofs.NextWindings.{one_winding_to_the_next_step}

module _ (es : List CountedEdge) (steps taken : List Step) (walks : WalksAlong es steps) (alternates : Alternates steps)
    (part : IsBalancedPart es steps taken) where
  -- the edges, counted by the steps taken
  arrangement : IsBalancedArrangement (count_on taken) es
  arrangement = record {
    planar = walks.planar;
    balanced =
        part.balanced;
  }

  -- an edge that counts has a step taken along it
  counts_steps : CountsSteps (count_on taken) es steps
  counts_steps e at = ⊎_elim (λ none. inl none)
      (λ some. inr (some.0, part.inside some.0 some.1, record { entry = at; walks = along_or_back some.0 e some.2 }))
      (walked_or_nothing taken e)

  -- a step of the set walks along its edge
  along_its_edge : (s : Step) (c : Contains steps s) → IsStepAlong es (walks.along s c).0 s
  along_its_edge s c = record {
    entry = (walks.along s c).1;
    walks = along_or_back s (walks.along s c).0 (walks.along s c).2;
  }

  -- from a step to its next step by a hand
  pub to_the_next : (hand : Hand) (s t : Step) → Contains steps s → IsNextStep steps hand s t →
      winding_beside hand es taken s ≡ winding_beside hand es taken t
  to_the_next hand s t c next =
      one_side s (walks.along s c).0 (walks.along s c).2 (alternates.long s c) es taken hand
      ∙ one_winding_to_the_next_step (count_on taken) es arrangement steps alternates counts_steps hand s t c next
      (walks.along s c).0 (walks.along t next.among).0
      (along_its_edge s c) (along_its_edge t next.among)
      ∙ sym (one_side t (walks.along t next.among).0 (walks.along t next.among).2 (alternates.long t next.among)
      es taken hand)

  -- along an orbit
  pub along_an_orbit : (hand : Hand) (walk : List Step) → IsOrbit steps hand walk → (s t : Step) → Contains walk s →
      Contains walk t → winding_beside hand es taken s ≡ winding_beside hand es taken t
  along_an_orbit hand walk orbit s t c d = all_round steps hand walk orbit
      (λ w. winding_beside hand es taken s ≡ winding_beside hand es taken w)
      (λ x y at next same. same ∙ to_the_next hand x y at next) s t c d refl

-- for each hand
pub one_winding_to_the_next : OneWindingToTheNext
one_winding_to_the_next = to_the_next

-- for each orbit
pub one_winding_along_orbits : OneWindingAlongOrbits
one_winding_along_orbits = along_an_orbit
