-- Steps cut by one hand: each walk is an orbit of all the steps, and its first step is the start of its own steps.
use Rattle.std.proofs.Common.{⊎_elim, List, ◌∷◌, Contains, sym, subst, arith}
use Rattle.std.proofs.lemmas.List.Elements.{All-contains}
use Rattle.overlay_geom.specs.Plane.{Step}
use Rattle.overlay_plane.specs.Turn.{Hand, step_round, IsOrbit, no_step}
use Rattle.overlay_plane.specs.NextSteps.{LeadsOn}
use Rattle.overlay_plane.specs.Orbits.{is_step_of}
use Rattle.overlay_plane.specs.Contours.{IsStart, without, IsCutInto, done, next}
use Rattle.overlay_plane.proofs.CutWalks.{left_leads_on}
use Rattle.overlay_plane.proofs.ItemsRound.{item_round-here}
use Rattle.overlay_plane.proofs.LaterEntries.{Contains-cases}
use Rattle.overlay_plane.proofs.OrbitSteps.{orbits_are_cycles}
use Rattle.overlay_plane.proofs.OrbitsApart.{is_step_of_decides, orbits_are_closed, orbits_of_the_rest}
use Rattle.overlay_plane.proofs.Totals.{Contains-head}

-- the walk is an orbit of the steps, and its first step is the start of its own ones
pub record IsFromStart (steps : List Step) (hand : Hand) (walk : List Step) : Type 0 where
  pub orbit : IsOrbit steps hand walk
  pub start : IsStart walk (step_round walk 0)

-- this holds if the walk begins with the start of the steps
first_from_start : (steps : List Step) (hand : Hand) → LeadsOn steps hand → (s : Step) (ss : List Step) →
    IsStart steps s → IsOrbit steps hand (s ∷ ss) →
    IsFromStart steps hand (s ∷ ss)
first_from_start steps hand leads s ss start orbit = record {
  orbit = orbit;
  start = subst (λ t. IsStart (s ∷ ss) t) (sym (item_round-here (s ∷ ss) no_step 0 (omega arith)))
      (record {
        among = Contains-head s ss;
        lowest = λ t c. start.lowest t (inside t c);
        top = λ t c. start.top t
            (inside t c);
      });
}
  where
    inside : (t : Step) → Contains (s ∷ ss) t → Contains steps t
    inside t c = All-contains (Contains steps) (s ∷ ss) t (orbits_are_cycles steps hand leads (s ∷ ss) orbit).inside c

-- this holds for each walk of the cut
pub walks_from_starts : (hand : Hand) (steps : List Step) → LeadsOn steps hand → (walks : List (List Step)) →
    IsCutInto (λ s. hand) steps walks →
    (walk : List Step) → Contains walks walk → IsFromStart steps hand walk
walks_from_starts hand steps leads walks done walk c = elim c.1 [ ]
walks_from_starts hand steps leads walks (next {s} {ss} {rest} start orbit cut) walk c = ⊎_elim
    (λ is. subst (λ w. IsFromStart steps hand w) is (first_from_start steps hand leads s ss start orbit))
    (λ later. let own = walks_from_starts hand (without steps (s ∷ ss)) (left_leads_on steps hand leads (s ∷ ss) orbit)
    rest cut walk later in
    record {
      orbit = orbits_of_the_rest steps hand leads (is_step_of (s ∷ ss))
          (orbits_are_closed steps hand leads (s ∷ ss) orbit (is_step_of (s ∷ ss)) (is_step_of_decides (s ∷ ss)))
          walk own.orbit;
      start = own.start;
    })
    (Contains-cases (s ∷ ss) rest walk c)
