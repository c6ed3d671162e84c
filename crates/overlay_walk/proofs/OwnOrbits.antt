-- Groups that visit no point twice: each is its one walk by either hand.
use Rattle.std.proofs.Common.{◌≡◌, ⊎_elim, ◌+◌, false, not, List, [], ◌∷◌, Contains}
use Rattle.std.proofs.Common.{sym, ap, ◌∙◌, subst, arith}
use Rattle.std.proofs.lemmas.Bool.{both_ways}
use Rattle.std.proofs.lemmas.List.Elements.{All-contains}
use Rattle.overlay_geom.specs.Plane.{Step, points_of, point_eq}
use Rattle.overlay_geom.proofs.Orders.{point_eq-of_same}
use Rattle.overlay_plane.specs.Turn.{Hand, is_met_before, no_step, step_round, IsOrbit}
use Rattle.overlay_plane.specs.Alternates.{Alternates}
use Rattle.overlay_plane.specs.Contours.{IsStart, IsCutInto, without, done, next}
use Rattle.overlay_plane.specs.Groups.{HasEachPointOnce}
use Rattle.overlay_plane.specs.Orbits.{is_step_of}
use Rattle.overlay_plane.proofs.CutByOneHand.{IsFromStart}
use Rattle.overlay_plane.proofs.Entries.{all_of_entries, Contains-map}
use Rattle.overlay_plane.proofs.GroupSteps.{orbit_inside}
use Rattle.overlay_plane.proofs.ItemsRound.{Contains-item_round, item_round-here}
use Rattle.overlay_plane.proofs.LaterEntries.{Contains-cases, Each, Each-from_all_pairs}
use Rattle.overlay_plane.proofs.OrbitsApart.{is_step_of_decides}
use Rattle.overlay_plane.proofs.SplitLists.{filter-same, filter-none}
use Rattle.overlay_plane.proofs.TurnOrder.{met_irreflexive}
use Rattle.overlay_walk.specs.Walks.{IsOwnOrbit}
use Rattle.overlay_walk.proofs.OnceSorted.{Differ}

-- an orbit from its start is so in its own steps
pub own_orbit : (steps : List Step) → Alternates steps → (hand : Hand) (walk : List Step) →
    IsFromStart steps hand walk → IsOwnOrbit walk
own_orbit steps alternates hand walk from = record {
  hand = hand;
  orbit = record {
    some = from.orbit.some;
    goes_on = λ k l. let is = from.orbit.goes_on k l in record {
      among = Contains-item_round walk no_step (k + 1) from.orbit.some;
      leaves = is.leaves;
      first = all_of_entries (λ u. u.from ≡ (step_round walk k).to → is_met_before hand (step_round walk k).to
          (step_round walk k).from u.to (step_round walk (k + 1)).to ≡ false) walk
          (λ u c. All-contains (λ u. u.from ≡ (step_round walk k).to → is_met_before hand (step_round walk k).to
          (step_round walk k).from u.to (step_round walk (k + 1)).to ≡ false) steps u is.first
          (orbit_inside steps alternates hand walk from.orbit u c));
    };
    once = from.orbit.once;
  };
  start = from.start;
}

-- a step of the list does not leave the point of one before it
not_again : (s : Step) (ss : List Step) → Each Differ (points_of (s ∷ ss)) → (t : Step) → Contains ss t →
    ¬ (s.from ≡ t.from)
not_again s ss each t c same = both_ways (point_eq s.from t.from)
    (each.0 t.from (Contains-map (λ (u : Step). u.from) ss t c)) (point_eq-of_same s.from t.from same)

-- so steps that leave one point are one
one_of : (ss : List Step) → Each Differ (points_of ss) → (s t : Step) → Contains ss s → Contains ss t →
    s.from ≡ t.from → s ≡ t
one_of [] each s t c d same = elim c.1 [ ]
one_of (u ∷ us) each s t c d same = ⊎_elim
    (λ here. ⊎_elim (λ here'. sym here ∙ here')
    (λ later. absurd (not_again u us each t later (ap (λ (v : Step). v.from) here ∙ same)))
    (Contains-cases u us t d))
    (λ later. ⊎_elim
    (λ here. absurd (not_again u us each s later (ap (λ (v : Step). v.from) here ∙ sym same)))
    (λ later'. one_of us each.1 s t later later' same)
    (Contains-cases u us t d))
    (Contains-cases u us s c)

module _ (walk : List Step) (once : HasEachPointOnce (points_of walk)) where
  -- two of the steps that leave one point are one
  one_leaves : (s t : Step) → Contains walk s → Contains walk t → s.from ≡ t.from → s ≡ t
  one_leaves = one_of walk (Each-from_all_pairs Differ (points_of walk) once)

  -- so the walk is an orbit by either hand
  pub orbit_by : (hand other : Hand) → IsOrbit walk hand walk → IsOrbit walk other walk
  orbit_by hand other orbit = record {
    some = orbit.some;
    goes_on = λ k l. let is = orbit.goes_on k l in record {
      among = is.among;
      leaves = is.leaves;
      first = all_of_entries (λ u. u.from ≡ (step_round walk k).to → is_met_before other (step_round walk k).to
          (step_round walk k).from u.to (step_round walk (k + 1)).to ≡ false) walk
          (λ u c leaves. subst (λ (v : Step). is_met_before other (step_round walk k).to (step_round walk k).from v.to
          (step_round walk (k + 1)).to ≡ false)
          (sym (one_leaves u (step_round walk (k + 1)) c is.among (leaves ∙ sym is.leaves)))
          (met_irreflexive other (step_round walk k).to (step_round walk k).from (step_round walk (k + 1)).to));
    };
    once = orbit.once;
  }

-- without its own steps nothing is left
none_left : (walk : List Step) → without walk walk ≡ []
none_left walk =
    filter-same (λ s. not (is_step_of walk s)) (λ s. false) walk (λ s c. ap not ((is_step_of_decides walk s).1 c))
    ∙ filter-none walk

-- such a group is cut into itself
pub own_cut : (walk : List Step) → IsOwnOrbit walk → HasEachPointOnce (points_of walk) → (hand : Hand) →
    IsCutInto (λ s. hand) walk (walk ∷ [])
own_cut [] own once hand = absurd (omega (arith, own.orbit.some))
own_cut (s ∷ ss) own once hand = next
    (subst (λ t. IsStart (s ∷ ss) t) (item_round-here (s ∷ ss) no_step 0 own.orbit.some) own.start)
    (orbit_by (s ∷ ss) once own.hand hand own.orbit)
    (subst (λ left. IsCutInto (λ t. hand) left []) (sym (none_left (s ∷ ss))) done)
