-- An orbit of a set of steps that alternates is itself such a set, and so it has orbits, which are inside it.
use Rattle.std.proofs.Common.{List, Contains, filter}
use Rattle.std.proofs.lemmas.List.Elements.{All-contains}
use Rattle.overlay_geom.specs.Plane.{Step}
use Rattle.overlay_geom.specs.Edges.{CountedEdge}
use Rattle.overlay_plane.specs.Turn.{Hand, IsOrbit}
use Rattle.overlay_plane.specs.Alternates.{Alternates}
use Rattle.overlay_plane.specs.Orbits.{is_step_of}
use Rattle.overlay_plane.specs.BesideOrbits.{WalksAlong}
use Rattle.overlay_plane.proofs.Entries.{Contains-filter, Contains-from_filter}
use Rattle.overlay_plane.proofs.NextSteps.{alternating_steps_lead_on}
use Rattle.overlay_plane.proofs.OrbitSteps.{orbits_are_cycles}
use Rattle.overlay_plane.proofs.OrbitsApart.{is_step_of_decides, orbits_leave_the_rest}
use Rattle.overlay_plane.proofs.ShuffledCuts.{alternate_alike}

-- some of the steps along edges of a list walk along them too
pub part_along : (es : List CountedEdge) (steps part : List Step) → WalksAlong es steps →
    ((s : Step) → Contains part s → Contains steps s) → WalksAlong es part
part_along es steps part along inside = record {
  planar = along.planar;
  along = λ s c. along.along s (inside s c);
}

module _ (steps : List Step) (alternates : Alternates steps) (hand : Hand) (walk : List Step)
    (orbit : IsOrbit steps hand walk) where
  -- the orbit's steps are steps of the set
  pub orbit_inside : (s : Step) → Contains walk s → Contains steps s
  orbit_inside s c = All-contains (Contains steps) walk s
      (orbits_are_cycles steps hand (alternating_steps_lead_on steps alternates hand) walk orbit).inside c

  -- they alternate
  pub orbit_alternates : Alternates walk
  orbit_alternates = alternate_alike (filter (is_step_of walk) steps) walk (
    (λ s c. (is_step_of_decides walk s).0 (Contains-from_filter (is_step_of walk) steps s c).1),
    (λ s c. Contains-filter (is_step_of walk) steps s (orbit_inside s c) ((is_step_of_decides walk s).1 c)),
  )
      (orbits_leave_the_rest steps alternates hand walk orbit (is_step_of walk)
      (is_step_of_decides walk)).1.taken_alternate
