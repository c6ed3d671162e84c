-- Along an orbit of filled sides the winding of any of them with balanced counts is one number on the hand's side.
use Rattle.std.proofs.Common.{◌≡◌, ℤ, Bool, List, Contains, refl, sym, ◌∙◌, subst}
use Rattle.std.proofs.lemmas.Bool.{both_ways}
use Rattle.overlay_geom.specs.Plane.{Point, Step}
use Rattle.overlay_geom.specs.Edges.{CountedEdge}
use Rattle.overlay_plane.specs.Turn.{Hand, is_met_before, IsMetBefore, IsNextStep, IsOrbit}
use Rattle.overlay_plane.specs.BesideOrbits.{count_on, winding_beside, IsBalancedPart}
use Rattle.overlay_plane.specs.Nodes.{IsBalancedArrangement}
use Rattle.overlay_plane.specs.Spokes.{IsSpoke, far_end}
use Rattle.overlay_plane.specs.WindingsBeside.{winding_on_side}
use Rattle.overlay_plane.proofs.EdgesOfSteps.{one_side}
use Rattle.overlay_plane.proofs.OrbitSteps.{all_round}
use Rattle.overlay_extract.specs.FilledSides.{IsFilledSide, AreFilledSides, OneWindingAlongSides}
use Rattle.overlay_extract.proofs.SideLists.{edge_of_along}
use Rattle.overlay_extract.proofs.SideSpokes.{Arrives, Leaves, arrives, leaves, long, beside_both}
use Rattle.overlay_extract.proofs.NextSides.{IsNeighbour, next_is_neighbour}

module _ (fills : ℤ → Bool) (count : CountedEdge → ℤ) (es : List CountedEdge)
    (arranged : IsBalancedArrangement count es) (hand : Hand) (steps : List Step)
    (are : AreFilledSides fills count es hand steps) (taken : List Step) (part : IsBalancedPart es steps taken) where
  -- the edges, counted by the steps taken
  counted : IsBalancedArrangement (count_on taken) es
  counted = record { planar = arranged.planar; balanced = part.balanced }

  -- the winding beside a side is that beside it along its edge
  beside_edge : (s : Step) (side : IsFilledSide fills count es hand s) →
      winding_beside hand es taken s ≡ winding_on_side hand (count_on taken) es side.edge s
  beside_edge s side = one_side s side.edge (edge_of_along fills count es arranged side.edge s side.along)
      (long count es arranged s.to side.edge s side.along) es taken hand

  -- from a side to its next one
  pub to_the_next : (s t : Step) → Contains steps s → IsNextStep steps hand s t →
      winding_beside hand es taken s ≡ winding_beside hand es taken t
  to_the_next s t c next = beside_edge s side ∙ beside_both (count_on taken) es counted s.to side.edge
      (near.side).edge s t arriving leaving hand none ∙ sym (beside_edge t near.side)
    where
      side : IsFilledSide fills count es hand s
      side = are.sides s c

      near : IsNeighbour fills count es arranged hand s t
      near = next_is_neighbour fills count es arranged hand steps are s t c next

      arriving : Arrives (count_on taken) es counted s.to side.edge s
      arriving = arrives (count_on taken) es counted s.to side.edge s side.along refl

      leaving : Leaves (count_on taken) es counted s.to (near.side).edge t
      leaving = leaves (count_on taken) es counted s.to (near.side).edge t (near.side).along near.leaves

      none : (m : CountedEdge) → IsSpoke es s.to m →
          ¬ (IsMetBefore hand s.to (far_end s.to side.edge) (far_end s.to m) (far_end s.to (near.side).edge))
      none m spoke h = both_ways (is_met_before hand s.to s.from (far_end s.to m) t.to) (near.none m spoke)
          (subst (λ (p : Point). IsMetBefore hand s.to p (far_end s.to m) t.to) arriving.far
          (subst (λ (r : Point). IsMetBefore hand s.to (far_end s.to side.edge) (far_end s.to m) r) leaving.far h))

  -- and so along an orbit
  pub along_an_orbit : (walk : List Step) → IsOrbit steps hand walk → (s t : Step) → Contains walk s →
      Contains walk t → winding_beside hand es taken s ≡ winding_beside hand es taken t
  along_an_orbit walk orbit s t c d = all_round steps hand walk orbit
      (λ w. winding_beside hand es taken s ≡ winding_beside hand es taken w)
      (λ x y at next same. same ∙ to_the_next x y at next) s t c d refl

-- the law
pub one_winding_along_sides : OneWindingAlongSides
one_winding_along_sides fills count es arranged hand steps are taken part =
    along_an_orbit fills count es arranged hand steps are taken part
