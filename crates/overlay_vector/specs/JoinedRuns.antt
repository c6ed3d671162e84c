-- What joined edges tell of the edges that they replace.
use Rattle.std.specs.Prelude.{◌≡◌, ◌⊎◌, ◌<◌, Bool, true, List, [], ◌∷◌, ◌++◌, length, All}
use Rattle.std.specs.List.{AllZip, flat_map}
use Rattle.overlay_geom.specs.Plane.{Point}
use Rattle.overlay_vector.specs.DataVectors.{DataVector}
use Rattle.overlay_vector.specs.Joining.{IsJoined}

-- the first edge has the filled sides of the second one, and its data or data equal to it
pub record StandsFor {D : Type 0} (eq : D → D → Bool) (w v : DataVector D) : Type 0 where
  pub same_fill : w.fill ≡ v.fill
  pub same_data : (w.data_of ≡ v.data_of) ⊎ (eq w.data_of v.data_of ≡ true)

-- the edges lead from one point to another, each on from the one before it
abbrev pub LeadOn : {D : Type 0} → List (DataVector D) → Point → Point → Type 0
LeadOn [] a b = a ≡ b
LeadOn (v ∷ vs) a b = (v.a ≡ a) × LeadOn vs v.b b

-- the edge leads as these edges do, one after another, and stands for each of them
pub record Replaces {D : Type 0} (eq : D → D → Bool) (run : List (DataVector D)) (w : DataVector D) : Type 0 where
  pub some : 0 < length run
  pub leads : LeadOn run w.a w.b
  pub each : All (StandsFor eq w) run

-- the second one is the first, closed list, begun at one of its places
pub data IsBegunElsewhere {X : Type 0} : List X → List X → Type 0 where
  here : {xs : List X} → IsBegunElsewhere xs xs
  later : {x : X} {xs ys : List X} → IsBegunElsewhere (xs ++ x ∷ []) ys → IsBegunElsewhere (x ∷ xs) ys

-- each edge of the second list replaces a run of the first, closed list; the runs lie one behind another and are all of
-- it
pub record IsMadeOfRuns {D : Type 0} (eq : D → D → Bool) (vs ws : List (DataVector D)) : Type 0 where
  pub runs : List (List (DataVector D))
  pub replaced : AllZip (Replaces eq) runs ws
  pub all_of_it : IsBegunElsewhere vs (flat_map (λ run. run) runs)

-- what is joined is made of runs, each replaced by one edge that stands for all of them
abbrev pub JoinedEdgesStandForTheirs : {D : Type 0} → (D → D → Bool) → Type 0
JoinedEdgesStandForTheirs {D} eq = (vs ws : List (DataVector D)) → IsJoined eq vs ws → IsMadeOfRuns eq vs ws
