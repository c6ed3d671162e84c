-- A path in numbers of its own, cut at a place.
use Rattle.std.proofs.Common.{◌≡◌, ℕ, ◌<◌, ◌≤◌, ℤ, List, [], ◌∷◌, ◌++◌, length, take, drop}
use Rattle.std.proofs.Common.{sym, ap, ap₂, ◌∙◌, subst, arith}
use Rattle.std.proofs.lemmas.List.{length-map, map-append, take-map, drop-map}
use Rattle.overlay_geom.specs.Plane.{Point, Step}
use Rattle.overlay_extract.specs.ClosedWalks.{LeadsTo, IsClosedWalk, IsCutSoFar, NoneLeaves, IsCutIntoLoops}
use Rattle.overlay_extract.proofs.CutLoops.{cut_begun, cut_short_at, cut_loop_at, none_before}
use Rattle.overlay_walk.specs.Places.{step_at}
use Rattle.overlay_walk.specs.Steps.{plain_step, plain_steps}
use Rattle.overlay_walk.specs.declared.step.Step.{Step as StepTaken}

module _ {I : Type 0} (whole : I → ℤ) (start : Point) (walked : List Step) (path : List (StepTaken I))
    (loops : List (List Step)) (k : ℕ) (within : k < length path)
    (so_far : IsCutSoFar start (step_at (plain_steps whole path) k).from walked (plain_steps whole path) loops) where
  -- the point to which the walk comes back
  abbrev v : Point
  v = (step_at (plain_steps whole path) k).from

  inside : k < length (plain_steps whole path)
  inside = let same = length-map path (plain_step whole) in omega arith

  front : take k (plain_steps whole path) ≡ plain_steps whole (take k path)
  front = take-map (plain_step whole) k path

  tail : drop k (plain_steps whole path) ≡ plain_steps whole (drop k path)
  tail = drop-map (plain_step whole) k path

  tail_length : length (drop k (plain_steps whole path)) ≡ length (drop k path)
  tail_length = ap length tail ∙ length-map (drop k path) (plain_step whole)

  -- the loop, of which the first step of the tail stands last
  turned : (ts : List (StepTaken I)) → drop 1 (plain_steps whole ts) ++ take 1 (plain_steps whole ts)
      ≡ plain_steps whole (drop 1 ts ++ take 1 ts)
  turned ts = ap₂ (λ xs ys. xs ++ ys) (drop-map (plain_step whole) 1 ts) (take-map (plain_step whole) 1 ts)
      ∙ sym (map-append (plain_step whole) (drop 1 ts) (take 1 ts))

  pub short_cut : length (drop k path) < 3 → IsCutSoFar start v walked (plain_steps whole (take k path)) loops
  short_cut short = subst (λ p. IsCutSoFar start v walked p loops) front
      (cut_short_at start walked (plain_steps whole path) loops k inside so_far
      (let same = tail_length in omega arith))

  pub loop_cut : 3 ≤ length (drop k path) → IsCutSoFar start v walked (plain_steps whole (take k path))
      (loops ++ plain_steps whole (drop 1 (drop k path) ++ take 1 (drop k path)) ∷ [])
  loop_cut three = subst (λ l. IsCutSoFar start v walked (plain_steps whole (take k path)) (loops ++ l ∷ []))
      (ap (λ (p : List Step). drop 1 p ++ take 1 p) tail ∙ turned (drop k path))
      (subst (λ p. IsCutSoFar start v walked p
      (loops ++ (drop 1 (drop k (plain_steps whole path)) ++ take 1 (drop k (plain_steps whole path))) ∷ [])) front
      (cut_loop_at start walked (plain_steps whole path) loops k inside so_far
      (let same = tail_length in omega arith)))

  pub none_in_front : NoneLeaves v (plain_steps whole (take k path))
  none_in_front = subst (NoneLeaves v) front
      (none_before start walked (plain_steps whole path) loops k inside so_far)

-- ---- on the way

-- a closed walk of which a part is walked and cut; the rest of it leads from the point reached back to the start
pub record IsOnItsWay (walked rest path : List Step) (loops : List (List Step)) : Type 0 where
  pub start : Point
  pub reached : Point
  pub so_far : IsCutSoFar start reached walked path loops
  pub leads_back : LeadsTo reached rest start

-- before its first step
pub way_begun : (walk : List Step) → IsClosedWalk walk → IsOnItsWay [] walk [] []
way_begun walk closed = record {
  start = closed.start;
  reached = closed.start;
  so_far = cut_begun closed.start;
  leads_back = closed.leads_back;
}

-- the next step goes on from the point reached
pub way_goes_on : (walked : List Step) (s : Step) (rest path new_path : List Step)
    (loops new_loops : List (List Step)) →
    IsOnItsWay walked (s ∷ rest) path loops →
    ((start : Point) (walked : List Step) → IsCutSoFar start s.from walked path loops →
    IsCutSoFar start s.to (walked ++ s ∷ []) new_path new_loops) →
    IsOnItsWay (walked ++ s ∷ []) rest new_path new_loops
way_goes_on walked s rest path new_path loops new_loops way on = record {
  start = way.start;
  reached = s.to;
  so_far = on way.start walked
      (subst (λ p. IsCutSoFar way.start p walked path loops) (sym way.leads_back.0) way.so_far);
  leads_back = way.leads_back.1;
}

-- after its last step
pub way_ended : (walk path : List Step) (loops new_loops : List (List Step)) → IsOnItsWay walk [] path loops →
    ((start : Point) (walked : List Step) → IsCutSoFar start start walked path loops →
    IsCutIntoLoops walked new_loops) →
    IsCutIntoLoops walk new_loops
way_ended walk path loops new_loops way ends = ends way.start walk
    (subst (λ p. IsCutSoFar way.start p walk path loops) way.leads_back way.so_far)
