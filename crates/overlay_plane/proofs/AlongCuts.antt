-- Along each walk of a cut, each of the walks has a constant winding on the filled sides. An earlier orbit has equal
-- windings on both sides of a later walk, and the steps left do so along an earlier walk.
use Rattle.std.proofs.Common.{◌≡◌, ⊎_elim, ℤ, pos, ◌+ℤ◌, List, ◌∷◌, Contains, refl, sym, ◌∙◌}
use Rattle.std.proofs.Common.{subst}
use Rattle.std.proofs.lemmas.Bool.{both_ways}
use Rattle.overlay_geom.specs.Plane.{Step}
use Rattle.overlay_geom.specs.Edges.{CountedEdge}
use Rattle.overlay_geom.proofs.Signs.{linear}
use Rattle.overlay_plane.specs.Turn.{Hand, IsOrbit}
use Rattle.overlay_plane.specs.Turn.Hand.{left, right}
use Rattle.overlay_plane.specs.Alternates.{Alternates}
use Rattle.overlay_plane.specs.BesideOrbits.{winding_beside, WalksAlong, IsBalancedPart, HasEachOnce}
use Rattle.overlay_plane.specs.BesideOrbits.{WindingAcrossSteps}
use Rattle.overlay_plane.specs.Orbits.{is_step_of}
use Rattle.overlay_plane.specs.Contours.{IsCutInto, done, next, without}
use Rattle.overlay_plane.specs.ShapesAlone.{HasOneWinding}
use Rattle.overlay_plane.proofs.BalancedSteps.{orbits_are_balanced, orbits_have_each_once}
use Rattle.overlay_plane.proofs.BesideAcross.{winding_across_alternating_steps}
use Rattle.overlay_plane.proofs.BesideNext.{one_winding_along_orbits}
use Rattle.overlay_plane.proofs.CutWalks.{left_parts, left_alternates}
use Rattle.overlay_plane.proofs.GroupSteps.{orbit_inside}
use Rattle.overlay_plane.proofs.LaterEntries.{Contains-cases}
use Rattle.overlay_plane.proofs.NextSteps.{alternating_steps_lead_on}
use Rattle.overlay_plane.proofs.OrbitsApart.{is_step_of_decides}
use Rattle.overlay_plane.proofs.OrbitSteps.{all_round}
use Rattle.overlay_plane.proofs.PastOrbits.{one_winding_past_orbits}

-- where across two steps the winding rises alike, it is one on the other hand's side too
by_either_hand : (filled hand : Hand) (es : List CountedEdge) (taken : List Step) (k : ℤ) (s t : Step) →
    winding_beside left es taken s ≡ winding_beside right es taken s +ℤ k →
    winding_beside left es taken t ≡ winding_beside right es taken t +ℤ k →
    winding_beside hand es taken s ≡ winding_beside hand es taken t →
    winding_beside filled es taken s ≡ winding_beside filled es taken t
by_either_hand left left es taken k s t at_s at_t same = same
by_either_hand right right es taken k s t at_s at_t same = same
by_either_hand left right es taken k s t at_s at_t same =
    on_left (winding_beside left es taken s) (winding_beside right es taken s) (winding_beside left es taken t)
    (winding_beside right es taken t) at_s at_t same
  where
    on_left : (a b c d : ℤ) → a ≡ b +ℤ k → c ≡ d +ℤ k → b ≡ d → a ≡ c
    on_left a b c d p q r = omega linear
by_either_hand right left es taken k s t at_s at_t same =
    on_right (winding_beside left es taken s) (winding_beside right es taken s) (winding_beside left es taken t)
    (winding_beside right es taken t) at_s at_t same
  where
    on_right : (a b c d : ℤ) → a ≡ b +ℤ k → c ≡ d +ℤ k → a ≡ c → b ≡ d
    on_right a b c d p q r = omega linear

-- the walk is an orbit of some of the steps, which alternate
record IsSomeOrbit (steps walk : List Step) : Type 0 where
  remaining : List Step
  inside : (s : Step) → Contains remaining s → Contains steps s
  alternates : Alternates remaining
  hand : Hand
  orbit : IsOrbit remaining hand walk

-- each walk of a cut is
some_orbit : (hand_of : Step → Hand) (steps : List Step) → Alternates steps → (walks : List (List Step)) →
    IsCutInto hand_of steps walks → (walk : List Step) → Contains walks walk → IsSomeOrbit steps walk
some_orbit hand_of steps alternates walks done walk c = elim c.1 [ ]
some_orbit hand_of steps alternates walks (next {s} {ss} {rest} start orbit cut) walk c = ⊎_elim
    (λ is. subst (λ w. IsSomeOrbit steps w) is (record {
      remaining = steps;
      inside = λ t d. d;
      alternates = alternates;
      hand = hand_of s;
      orbit = orbit;
    }))
    (λ later. let own = some_orbit hand_of (without steps (s ∷ ss))
    (left_alternates steps alternates (hand_of s) (s ∷ ss) orbit) rest cut walk later in
    record {
      remaining = own.remaining;
      inside = λ t d. (left_parts steps (s ∷ ss) t (own.inside t d)).0;
      alternates = own.alternates;
      hand = own.hand;
      orbit = own.orbit;
    })
    (Contains-cases (s ∷ ss) rest walk c)

module _ (filled : Hand) (es : List CountedEdge) (steps : List Step) (along : WalksAlong es steps)
    (alternates : Alternates steps) where
  -- some of the steps walk along edges of the list too
  some_along : (some : List Step) → ((s : Step) → Contains some s → Contains steps s) → WalksAlong es some
  some_along some inside = record { planar = along.planar; along = λ s c. along.along s (inside s c) }

  module _ (hand : Hand) (walk : List Step) (orbit : IsOrbit steps hand walk) where
    -- along an orbit its own winding is one
    own_winding : HasOneWinding filled es walk walk
    own_winding s t c d = by_either_hand filled hand es walk (pos 1) s t (across.rises once s c) (across.rises once t d)
        (one_winding_along_orbits es steps walk along alternates part hand walk orbit s t c d)
      where
        part : IsBalancedPart es steps walk
        part = orbits_are_balanced es steps along hand walk orbit

        across : WindingAcrossSteps es steps walk
        across = winding_across_alternating_steps es steps walk alternates part.inside

        once : HasEachOnce walk
        once = orbits_have_each_once steps hand (alternating_steps_lead_on steps alternates hand) walk orbit

    -- the winding of a part without steps of the orbit is constant along it too
    others_winding : (taken : List Step) → IsBalancedPart es steps taken →
        ((s : Step) → Contains walk s → ¬ (Contains taken s)) → HasOneWinding filled es taken walk
    others_winding taken part none s t c d = by_either_hand filled hand es taken (pos 0) s t (level s c) (level t d)
        (one_winding_along_orbits es steps taken along alternates part hand walk orbit s t c d)
      where
        level : (u : Step) → Contains walk u →
            winding_beside left es taken u ≡ winding_beside right es taken u +ℤ pos 0
        level u e = (winding_across_alternating_steps es steps taken alternates part.inside).stays u
            (orbit_inside steps alternates hand walk orbit u e) (none u e)
            ∙ as_it_was (winding_beside right es taken u)
          where
            as_it_was : (z : ℤ) → z ≡ z +ℤ pos 0
            as_it_was z = omega linear

    -- a step that the orbit leaves is not one of it
    not_taken : (s : Step) → Contains (without steps walk) s → ¬ (Contains walk s)
    not_taken s c taken = both_ways (is_step_of walk s) (left_parts steps walk s c).1
        ((is_step_of_decides walk s).1 taken)

    -- along an orbit of the rest its winding is constant
    past_winding : (other : List Step) → IsSomeOrbit (without steps walk) other → HasOneWinding filled es walk other
    past_winding other own s t c d = all_round own.remaining own.hand other own.orbit
        (λ u. winding_beside filled es walk s ≡ winding_beside filled es walk u)
        (λ u w at_u is_next same. same ∙ one_winding_past_orbits es steps along alternates hand walk orbit u w
        (in_steps u at_u) (in_steps w is_next.among) (not_taken u (own.inside u at_u))
        (not_taken w (own.inside w is_next.among)) (sym is_next.leaves) filled)
        s t c d refl
      where
        in_steps : (u : Step) → Contains own.remaining u → Contains steps u
        in_steps u e = (left_parts steps walk u (own.inside u e)).0

    -- the winding of an orbit of the rest is constant along it
    before_winding : (other : List Step) → IsSomeOrbit (without steps walk) other → HasOneWinding filled es other walk
    before_winding other own = others_winding other
        (record {
          inside = in_steps;
          balanced = (orbits_are_balanced es own.remaining (some_along own.remaining
              (λ u e. (left_parts steps walk u (own.inside u e)).0)) own.hand other own.orbit).balanced;
        })
        (λ s c d. not_taken s (own.inside s (orbit_inside own.remaining own.alternates own.hand other own.orbit s d)) c)
      where
        in_steps : (u : Step) → Contains other u → Contains steps u
        in_steps u e = (left_parts steps walk u (own.inside u (orbit_inside own.remaining own.alternates own.hand other
            own.orbit u e))).0

-- along each walk of a cut each of its walks has a constant winding
pub walks_wind_alike : (filled : Hand) (es : List CountedEdge) (hand_of : Step → Hand) (steps : List Step) →
    WalksAlong es steps → Alternates steps → (walks : List (List Step)) → IsCutInto hand_of steps walks →
    (taken walk : List Step) → Contains walks taken → Contains walks walk → HasOneWinding filled es taken walk
walks_wind_alike filled es hand_of steps along alternates walks done taken walk c d = elim c.1 [ ]
walks_wind_alike filled es hand_of steps along alternates walks (next {s} {ss} {rest} start orbit cut) taken walk c d =
    ⊎_elim
    (λ is_taken. subst (λ w. HasOneWinding filled es w walk) is_taken (⊎_elim
    (λ is. subst (λ w. HasOneWinding filled es (s ∷ ss) w) is
    (own_winding filled es steps along alternates (hand_of s) (s ∷ ss) orbit))
    (λ later. past_winding filled es steps along alternates (hand_of s) (s ∷ ss) orbit walk
    (some_orbit hand_of left_steps left_alternate rest cut walk later))
    (Contains-cases (s ∷ ss) rest walk d)))
    (λ later_taken. ⊎_elim
    (λ is. subst (λ w. HasOneWinding filled es taken w) is
    (before_winding filled es steps along alternates (hand_of s) (s ∷ ss) orbit taken
    (some_orbit hand_of left_steps left_alternate rest cut taken later_taken)))
    (λ later. walks_wind_alike filled es hand_of left_steps
    (record { planar = along.planar; along = λ t e. along.along t (left_parts steps (s ∷ ss) t e).0 })
    left_alternate rest cut taken walk later_taken later)
    (Contains-cases (s ∷ ss) rest walk d))
    (Contains-cases (s ∷ ss) rest taken c)
  where
    left_steps : List Step
    left_steps = without steps (s ∷ ss)

    left_alternate : Alternates left_steps
    left_alternate = left_alternates steps alternates (hand_of s) (s ∷ ss) orbit
