-- The steps that a walk takes: a walk under way, with the values of its edges.
use Rattle.std.proofs.Common.{◌≡◌, ℕ, ◌+◌, ◌≤◌, not, ℤ, List, [], ◌∷◌, ◌++◌, length, All, sym, subst, arith}
use Rattle.std.specs.Prelude.{Any, Contains}
use Rattle.std.proofs.lemmas.List.{length-map, map-append}
use Rattle.std.proofs.lemmas.List.Elements.{All-nil, All-push, All-weaker, All-contains, All-contains_itself}
use Rattle.overlay_geom.specs.Plane.{Step}
use Rattle.overlay_plane.specs.NextSteps.{LeadsOn}
use Rattle.overlay_plane.specs.BesideOrbits.{HasEachOnce}
use Rattle.overlay_plane.specs.Contours.{without}
use Rattle.overlay_plane.specs.Orbits.{is_step_of}
use Rattle.overlay_plane.specs.Turn.{Hand, IsNextStep, IsOrbit}
use Rattle.overlay_plane.proofs.Entries.{Contains-map}
use Rattle.overlay_plane.proofs.LaterEntries.{Each-from_all_pairs, AllPairs-from_each, Each-filter}
use Rattle.overlay_plane.proofs.ShuffledSteps.{Differ}
use Rattle.overlay_walk.specs.Steps.{plain_step, plain_steps, IsLong}
use Rattle.overlay_walk.specs.declared.step.Step.{Step as StepTaken}
use Rattle.overlay_walk.proofs.WalksOn.{IsUnderWay, sets_out, walked_few, way_goes_on, comes_round, takes_all, walks_on}

-- the steps left by a list of steps, each once, occur once each
pub without_once : (steps taken : List Step) → HasEachOnce steps → HasEachOnce (without steps taken)
without_once steps taken once = AllPairs-from_each Differ (without steps taken)
    (Each-filter Differ (λ t. not (is_step_of taken t)) steps (Each-from_all_pairs Differ steps once))

-- a walk under way, of steps in range; walked, pending and left are steps that there were
pub record IsTaking {I : Type 0} (whole : I → ℤ) (limit : ℕ) (all : List (StepTaken I)) (hand : Hand)
    (start : StepTaken I) (walk : List (StepTaken I)) (s : StepTaken I) (left : List (StepTaken I)) : Type 0 where
  pub way : IsUnderWay (plain_steps whole all) hand (plain_step whole start) (plain_steps whole walk)
      (plain_step whole s) (plain_steps whole left)
  pub long : All (IsLong limit) (plain_steps whole all)
  pub walked : All (Contains all) walk
  pub pending : Contains all s
  pub fewer : All (Contains all) left

module _ {I : Type 0} (whole : I → ℤ) (limit : ℕ) (all : List (StepTaken I)) (hand : Hand) (start : StepTaken I) where
  -- how it begins
  pub begins_taking : All (IsLong limit) (plain_steps whole all) → Contains all start →
      IsTaking whole limit all hand start [] start all
  begins_taking long c = record {
    way = sets_out (plain_steps whole all) hand (plain_step whole start) (Contains-map (plain_step whole) all start c);
    long = long;
    walked = All-nil (Contains all);
    pending = c;
    fewer = All-contains_itself all;
  }

  module _ (leads : LeadsOn (plain_steps whole all) hand) (walk : List (StepTaken I)) (s : StepTaken I)
      (left : List (StepTaken I)) (taking : IsTaking whole limit all hand start walk s left) where
    -- the pending step is long, and goes on
    pub pending_long : IsLong limit (plain_step whole s)
    pending_long = All-contains (IsLong limit) (plain_steps whole all) (plain_step whole s) taking.long
        (Contains-map (plain_step whole) all s taking.pending)

    pub pending_goes_on : Any (λ t. t.from ≡ (plain_step whole s).to) (plain_steps whole left)
    pending_goes_on = way_goes_on (plain_steps whole all) hand leads (plain_step whole start) (plain_steps whole walk)
        (plain_step whole s) (plain_steps whole left) taking.way

    -- the steps left stand once each
    pub left_once : HasEachOnce (plain_steps whole all) → HasEachOnce (plain_steps whole left)
    left_once once = subst HasEachOnce (sym taking.way.rest) (without_once (plain_steps whole all) _ once)

    -- there are more steps than were walked
    pub more_than_walked : length walk + 1 ≤ length all
    more_than_walked =
        let few = walked_few (plain_steps whole all) hand leads (plain_step whole start) (plain_steps whole walk)
        (plain_step whole s) (plain_steps whole left) taking.way in
        let a = length-map walk (plain_step whole) in
        let b = length-map all (plain_step whole) in
        omega arith

    -- the walk with the step, as numbers
    pushed : plain_steps whole (walk ++ s ∷ []) ≡ plain_steps whole walk ++ plain_step whole s ∷ []
    pushed = map-append (plain_step whole) walk (s ∷ [])

    pub walked_on : All (Contains all) (walk ++ s ∷ [])
    walked_on = All-push (Contains all) walk s taking.walked taking.pending

    module _ (t : StepTaken I) (after : List (StepTaken I))
        (next : IsNextStep (plain_steps whole left) hand (plain_step whole s) (plain_step whole t))
        (taken : plain_steps whole after ≡ without (plain_steps whole left) (plain_step whole t ∷ [])) where
      -- when the start comes again the walk is the orbit, and its steps are taken
      pub taken_round : plain_step whole t ≡ plain_step whole start → IsOrbit (plain_steps whole all) hand
          (plain_steps whole (walk ++ s ∷ []))
      taken_round same = subst (λ ts. IsOrbit (plain_steps whole all) hand ts) (sym pushed)
          (comes_round (plain_steps whole all) hand leads (plain_step whole start) (plain_steps whole walk)
          (plain_step whole s) (plain_steps whole left) taking.way (plain_step whole t) (plain_steps whole after)
          next taken same)

      pub all_taken : plain_step whole t ≡ plain_step whole start →
          plain_steps whole after ≡ without (plain_steps whole all) (plain_steps whole (walk ++ s ∷ []))
      all_taken same = subst (λ ts. plain_steps whole after ≡ without (plain_steps whole all) ts) (sym pushed)
          (takes_all (plain_steps whole all) hand leads (plain_step whole start) (plain_steps whole walk)
          (plain_step whole s) (plain_steps whole left) taking.way (plain_step whole t) (plain_steps whole after)
          next taken same)

      module _ (among : Contains left t) (fewer : All (Contains left) after) where
        -- the entries left were there
        pub fewer_taken : All (Contains all) after
        fewer_taken = All-weaker (Contains left) (Contains all)
            (λ u c. All-contains (Contains all) left u taking.fewer c) after fewer

        -- elsewhere it goes on
        pub goes_on_taking : ¬ (plain_step whole t ≡ plain_step whole start) →
            IsTaking whole limit all hand start (walk ++ s ∷ []) t after
        goes_on_taking other = record {
          way = subst (λ ts. IsUnderWay (plain_steps whole all) hand (plain_step whole start) ts (plain_step whole t)
              (plain_steps whole after)) (sym pushed)
              (walks_on (plain_steps whole all) hand leads (plain_step whole start) (plain_steps whole walk)
              (plain_step whole s) (plain_steps whole left) taking.way (plain_step whole t)
              (plain_steps whole after) next taken other);
          long = taking.long;
          walked = walked_on;
          pending = All-contains (Contains all) left t taking.fewer among;
          fewer = fewer_taken;
        }
