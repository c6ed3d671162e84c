-- The points of a loop in the opposite order are those of the loop turned round, so in either output direction they
-- have the steps of the loop, with the filled side on the left.
use Rattle.std.proofs.Common.{◌≡◌, Bool, List, [], ◌∷◌, ◌++◌, map, reverse, take, drop, refl, sym, ap, ap₂}
use Rattle.std.proofs.Common.{◌∙◌, subst}
use Rattle.std.specs.List.Sorted.{IsPermutation}
use Rattle.std.proofs.lemmas.List.{map-append, reverse-append}
use Rattle.std.proofs.lemmas.List.Sorted.{IsPermutation-refl, IsPermutation-trans, IsPermutation-map}
use Rattle.std.proofs.lemmas.List.Sorted.{IsPermutation-sym, IsPermutation-reverse, Contains-permutation}
use Rattle.overlay_geom.specs.Plane.{Point, Step, Edge, point_eq, steps_of, points_of, edge_of, reversed_step, backward}
use Rattle.overlay_geom.specs.declared.options.ContourDirection.{ContourDirection}
use Rattle.overlay_geom.specs.declared.options.ContourDirection.TheVariants.{CounterClockwise, Clockwise}
use Rattle.overlay_geom.proofs.Orders.{point_eq-same, point_eq-of_same}
use Rattle.overlay_plane.specs.Anchors.{IsAnchor}
use Rattle.overlay_plane.specs.Groups.{HasEachPointOnce, IsSimpleContour}
use Rattle.overlay_plane.specs.SelectedSteps.{step_with_left}
use Rattle.overlay_plane.proofs.ShuffledPairs.{pairs_shuffled}
use Rattle.overlay_extract.specs.Bound.{PassesAnchor}
use Rattle.overlay_extract.specs.ClosedWalks.{LeadsTo, IsClosedWalk, turned_loop}
use Rattle.overlay_extract.specs.Sliced.{in_direction, left_steps}
use Rattle.overlay_extract.specs.Tours.{LiesInOneOrbit}
use Rattle.overlay_extract.proofs.OrbitTours.{contour_closed}
use Rattle.overlay_extract.proofs.TurnedLoops.{again, backward_steps, ends_of_walk, turned_steps, turned_simple}

-- ---- points in the opposite order

-- the walk back begins its steps where the walk ends them
points_back : (ss : List Step) → points_of (backward ss) ≡ reverse (map (λ (s : Step). s.to) ss)
points_back [] = refl
points_back (s ∷ ss) = ap points_of (reverse-append (reversed_step s ∷ []) (map reversed_step ss))
    ∙ map-append (λ (t : Step). t.from) (backward ss) (reversed_step s ∷ [])
    ∙ ap (λ ps. ps ++ s.to ∷ []) (points_back ss)
    ∙ sym (reverse-append (s.to ∷ []) (map (λ (t : Step). t.to) ss))

-- the list with its first entry behind
abbrev turned : {X : Type 0} → List X → List X
turned xs = drop 1 xs ++ take 1 xs

turned-map : {X Y : Type 0} (f : X → Y) (xs : List X) → map f (turned xs) ≡ turned (map f xs)
turned-map f [] = refl
turned-map f (x ∷ xs) = map-append f xs (x ∷ [])

-- the points at which the loop turned round begins its steps
pub turned_points : (loop : List Step) → IsClosedWalk loop → points_of (turned_loop loop) ≡ reverse (points_of loop)
turned_points [] closed = refl
turned_points (s ∷ ss) closed = turned-map (λ (t : Step). t.from) (backward (s ∷ ss))
    ∙ ap turned (points_back (s ∷ ss)
    ∙ ap reverse (ends_of_walk s ss s.from
    (subst (LeadsTo s.to ss) (sym closed.leads_back.0) closed.leads_back.1))
    ∙ reverse-append (points_of ss) (s.from ∷ []))
    ∙ sym (reverse-append (s.from ∷ []) (points_of ss))

-- ---- in either output direction

module _ (loop : List Step) (simple : IsSimpleContour loop) where
  -- the steps of the points in the opposite order
  pub steps_turned : steps_of (reverse (points_of loop)) ≡ turned_loop loop
  steps_turned = ap steps_of (sym (turned_points loop (contour_closed loop simple.contour)))
      ∙ (turned_simple loop simple).contour.whole

  -- the steps with the filled side on the left are those of the loop
  pub left_again : (direction : ContourDirection) →
      IsPermutation loop (left_steps direction (in_direction direction (points_of loop)))
  left_again CounterClockwise = subst (IsPermutation loop) (sym simple.contour.whole) (IsPermutation-refl loop)
  left_again Clockwise = subst (λ ss. IsPermutation loop (backward ss)) (sym steps_turned)
      (IsPermutation-trans loop (map reversed_step (turned_loop loop)) (backward (turned_loop loop))
      (subst (λ ss. IsPermutation ss (map reversed_step (turned_loop loop))) (again loop)
      (IsPermutation-map reversed_step (map reversed_step loop) (turned_loop loop) (turned_steps loop)))
      (backward_steps (turned_loop loop)))

  -- no point stands twice
  pub points_once_in : (direction : ContourDirection) → HasEachPointOnce (in_direction direction (points_of loop))
  points_once_in CounterClockwise = simple.points_once
  points_once_in Clockwise = pairs_shuffled point_eq (λ p r same. point_eq-of_same r p (sym (point_eq-same p r same)))
      (points_of loop) (reverse (points_of loop)) (IsPermutation-reverse (points_of loop)) simple.points_once

-- ---- steps in another order

-- they have the same anchor
anchor_shuffled : (ss ts : List Step) → IsPermutation ss ts → (e : Edge) → IsAnchor ss e → IsAnchor ts e
anchor_shuffled ss ts moved e anchor = record {
  among = Contains-permutation (map edge_of ss) (map edge_of ts) e (IsPermutation-map edge_of ss ts moved) anchor.among;
  leftmost = λ s c. anchor.leftmost s (Contains-permutation ts ss s (IsPermutation-sym ss ts moved) c);
  lowest = λ s c. anchor.lowest s (Contains-permutation ts ss s (IsPermutation-sym ss ts moved) c);
}

-- and pass it alike
pub passes_shuffled : (above : Bool) (ss ts : List Step) → IsPermutation ss ts → PassesAnchor above ss →
    PassesAnchor above ts
passes_shuffled above ss ts moved passes = record {
  anchor = passes.anchor;
  is_anchor = anchor_shuffled ss ts moved passes.anchor passes.is_anchor;
  passes = Contains-permutation ss ts (step_with_left above passes.anchor) moved passes.passes;
}

-- and lie in one orbit alike
pub orbit_shuffled : (sides ss ts : List Step) → IsPermutation ss ts → LiesInOneOrbit sides ss → LiesInOneOrbit sides ts
orbit_shuffled sides ss ts moved lies s t c d =
    lies s t (Contains-permutation ts ss s (IsPermutation-sym ss ts moved) c)
    (Contains-permutation ts ss t (IsPermutation-sym ss ts moved) d)

-- ---- all contours of shapes

-- counterclockwise they stay as they are
pub all_same : (shapes : List (List (List Point))) → map (map (in_direction CounterClockwise)) shapes ≡ shapes
all_same [] = refl
all_same (s ∷ ss) = ap₂ (λ cs ds. cs ∷ ds) (each s) (all_same ss)
  where
    each : (cs : List (List Point)) → map (in_direction CounterClockwise) cs ≡ cs
    each [] = refl
    each (c ∷ cs) = ap (λ ds. c ∷ ds) (each cs)

-- and clockwise they are put in the opposite order
pub all_reversed : (shapes : List (List (List Point))) →
    map (map (in_direction Clockwise)) shapes ≡ map (map reverse) shapes
all_reversed [] = refl
all_reversed (s ∷ ss) = ap₂ (λ cs ds. cs ∷ ds) (each s) (all_reversed ss)
  where
    each : (cs : List (List Point)) → map (in_direction Clockwise) cs ≡ map reverse cs
    each [] = refl
    each (c ∷ cs) = ap (λ ds. reverse c ∷ ds) (each cs)
