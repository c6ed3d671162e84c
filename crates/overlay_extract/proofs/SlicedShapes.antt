-- The shapes to which loops of filled sides are bound, by the points of the loops in the output direction: what their
-- steps are, and how they wind.
use Rattle.std.proofs.Common.{◌≡◌, inl, inr, ⊎_elim, Bool, true, false, cond, ℤ, pos, negsuc, ◌*ℤ◌, List, []}
use Rattle.std.proofs.Common.{◌∷◌, ◌++◌, map, All, Contains, refl, sym, ap, ap₂, ◌∙◌, subst, append-nil}
use Rattle.std.specs.List.{flat_map}
use Rattle.std.specs.List.Sorted.{IsPermutation}
use Rattle.std.proofs.lemmas.Grind.{flat_map-append}
use Rattle.std.proofs.lemmas.List.Elements.{All-nil, All-cons, All-map, All-weaker}
use Rattle.std.proofs.lemmas.List.Elements.{All-contains}
use Rattle.std.proofs.lemmas.List.Folds.{flat_map-map}
use Rattle.std.proofs.lemmas.List.Sorted.{IsPermutation-refl, IsPermutation-append}
use Rattle.overlay_geom.specs.Plane.{Point, PlanePoint, Step, steps_of, points_of, reversed_step, total, winding}
use Rattle.overlay_geom.specs.declared.options.ContourDirection.{ContourDirection}
use Rattle.overlay_geom.specs.declared.options.ContourDirection.TheVariants.{CounterClockwise, Clockwise}
use Rattle.overlay_geom.proofs.Entries.{Contains-head, Contains-later}
use Rattle.overlay_geom.proofs.Identities.{solve, number, ◌⊗◌, ◌≗◌}
use Rattle.overlay_geom.proofs.Totals.{total-IsPermutation}
use Rattle.overlay_plane.specs.Contours.{all_steps}
use Rattle.overlay_plane.specs.ContourWindings.{once_round}
use Rattle.overlay_plane.specs.Groups.{IsSimpleContour}
use Rattle.overlay_plane.specs.Binding.{walks_of}
use Rattle.overlay_plane.specs.ShapesAlone.{WindsOnceOrNot, EachWindsOnceOrNot}
use Rattle.overlay_plane.specs.ShapeWindings.{points_of_shapes, steps_of_shapes}
use Rattle.overlay_plane.specs.Turn.Hand.{left}
use Rattle.overlay_plane.proofs.AlongLines.{winding_part}
use Rattle.overlay_plane.proofs.ContourSteps.{contour_long}
use Rattle.overlay_plane.proofs.Entries.{all_of_entries, All-first, All-rest}
use Rattle.overlay_plane.proofs.JoinedLists.{total-flat_map, total-map, total-times}
use Rattle.overlay_plane.proofs.Totals.{total-same}
use Rattle.overlay_walk.specs.Steps.{filled_hand}
use Rattle.overlay_extract.specs.Sliced.{in_direction, left_steps, left_steps_of_shapes}
use Rattle.overlay_extract.specs.ClosedWalks.{turned_loop}
use Rattle.overlay_extract.proofs.SideWindings.{part_back}
use Rattle.overlay_extract.proofs.TurnedLoops.{turned_steps}
use Rattle.overlay_extract.proofs.TurnedPoints.{steps_turned, left_again}

-- ---- all contours of shapes

-- what holds of all walks of shapes holds of those of each shape
in_each_shape : (P : List Step → Type 0) (shapes : List (List (List Step))) → All P (walks_of shapes) →
    All (All P) shapes
in_each_shape P [] all = All-nil (All P)
in_each_shape P (s ∷ ss) all = All-cons (All P) s ss (All-first P s (walks_of ss) all)
    (in_each_shape P ss (All-rest P s (walks_of ss) all))

-- lists made of the entries' parts, each in another order
parts_shuffled : {X Y : Type 0} (k m : X → List Y) (xs : List X) →
    ((x : X) → Contains xs x → IsPermutation (k x) (m x)) → IsPermutation (flat_map k xs) (flat_map m xs)
parts_shuffled k m [] each = IsPermutation-refl []
parts_shuffled k m (x ∷ xs) each = IsPermutation-append (k x) (m x) (flat_map k xs) (flat_map m xs)
    (each x (Contains-head x xs)) (parts_shuffled k m xs (λ y c. each y (Contains-later x xs y c)))

module _ (direction : ContourDirection) where
  -- the shapes by the points of their contours in the direction
  abbrev pub shown : List (List (List Step)) → List (List (List Point))
  shown shapes = map (map (in_direction direction)) (points_of_shapes shapes)

  -- those of a walk
  abbrev pub points_in : List Step → List Point
  points_in w = in_direction direction (points_of w)

  -- what holds of the points of each walk holds of those shown
  pub shown_each : (P : List Point → Type 0) (shapes : List (List (List Step))) →
      All (λ w. P (points_in w)) (walks_of shapes) → All (All P) (shown shapes)
  shown_each P shapes all =
      All-map (All P) (map (in_direction direction)) (points_of_shapes shapes)
      (All-map (λ ps. All P (map (in_direction direction) ps)) (map points_of) shapes
      (All-weaker (All (λ w. P (points_in w))) (λ s. All P (map (in_direction direction) (map points_of s)))
      (λ s h. All-map P (in_direction direction) (map points_of s)
      (All-map (λ ps. P (in_direction direction ps)) points_of s h))
      shapes (in_each_shape (λ w. P (points_in w)) shapes all)))

  -- and lists made of them are made of the walks
  pub shown_parts : {Y : Type 0} (g : List Point → List Y) (shapes : List (List (List Step))) →
      flat_map (flat_map g) (shown shapes) ≡ flat_map (λ w. g (points_in w)) (walks_of shapes)
  shown_parts g [] = refl
  shown_parts g (s ∷ ss) = ap₂ (λ xs ys. xs ++ ys)
      (flat_map-map g (in_direction direction) (map points_of s)
      ∙ flat_map-map (λ ps. g (in_direction direction ps)) points_of s)
      (shown_parts g ss)
      ∙ sym (flat_map-append (λ w. g (points_in w)) s (walks_of ss))

  -- so the steps shown, with the filled side on the left, are those of the walks
  pub left_shown : (shapes : List (List (List Step))) → All IsSimpleContour (walks_of shapes) →
      IsPermutation (all_steps (walks_of shapes)) (left_steps_of_shapes direction (shown shapes))
  left_shown shapes simple = subst (IsPermutation (all_steps (walks_of shapes)))
      (sym (shown_parts (left_steps direction) shapes))
      (parts_shuffled (λ w. w) (λ w. left_steps direction (points_in w)) (walks_of shapes)
      (λ w c. left_again w (All-contains IsSimpleContour (walks_of shapes) w simple c) direction))

-- ---- windings

module _ (p : PlanePoint) where
  -- a loop turned round winds the other way
  turned_winds : (loop : List Step) → IsSimpleContour loop →
      winding (turned_loop loop) p ≡ negsuc 0 *ℤ winding loop p
  turned_winds loop simple =
      total-IsPermutation (winding_part p) (map reversed_step loop) (turned_loop loop) (turned_steps loop)
      ∙ total-map (winding_part p) reversed_step loop
      ∙ total-same (λ s. winding_part p (reversed_step s)) (λ s. negsuc 0 *ℤ winding_part p s) loop
      (λ s c. part_back p s (contour_long loop simple.contour s c))
      ∙ total-times (negsuc 0) (winding_part p) loop

  -- in the output direction a loop winds once as often
  loop_winds : (direction : ContourDirection) (loop : List Step) → IsSimpleContour loop →
      winding (steps_of (in_direction direction (points_of loop))) p ≡
      once_round (filled_hand direction) *ℤ winding loop p
  loop_winds CounterClockwise loop simple = ap (total (winding_part p)) simple.contour.whole ∙ once (winding loop p)
    where
      once : (z : ℤ) → z ≡ pos 1 *ℤ z
      once z = sym (solve 1 (λ a. number (pos 1) ⊗ a ≗ a) tt z)
  loop_winds Clockwise loop simple = ap (total (winding_part p)) (steps_turned loop simple) ∙ turned_winds loop simple

  pub shown_winds : (direction : ContourDirection) (shapes : List (List (List Step))) →
      All IsSimpleContour (walks_of shapes) → winding (steps_of_shapes (shown direction shapes)) p ≡
      once_round (filled_hand direction) *ℤ winding (all_steps (walks_of shapes)) p
  shown_winds direction shapes simple = ap (total (winding_part p)) (shown_parts direction steps_of shapes)
      ∙ total-flat_map (winding_part p) (λ w. steps_of (in_direction direction (points_of w))) (walks_of shapes)
      ∙ total-same (λ w. winding (steps_of (in_direction direction (points_of w))) p)
      (λ w. once_round (filled_hand direction) *ℤ winding w p) (walks_of shapes)
      (λ w c. loop_winds direction w (All-contains IsSimpleContour (walks_of shapes) w simple c))
      ∙ total-times (once_round (filled_hand direction)) (λ w. winding w p) (walks_of shapes)
      ∙ ap (λ z. once_round (filled_hand direction) *ℤ z)
      (sym (total-flat_map (winding_part p) (λ (w : List Step). w) (walks_of shapes)))

-- what is filled or not, once round
pub once_where : (direction : ContourDirection) (t : Bool) →
    once_round (filled_hand direction) *ℤ cond t (pos 1) (pos 0) ≡ cond t (once_round (filled_hand direction)) (pos 0)
once_where CounterClockwise true = refl
once_where CounterClockwise false = refl
once_where Clockwise true = refl
once_where Clockwise false = refl

-- ---- each shape by itself

module _ (direction : ContourDirection) where
  -- a shape winds once in the output direction, or zero times, where its loops do so with the filled side on the left
  slice_shown_winds : (shape : List (List Step)) → All IsSimpleContour shape →
      WindsOnceOrNot left (all_steps shape) →
      WindsOnceOrNot (filled_hand direction) (flat_map steps_of (map (in_direction direction) (map points_of shape)))
  slice_shown_winds shape simple once p = ⊎_elim
      (λ is. inl (winds ∙ ap (λ z. once_round (filled_hand direction) *ℤ z) is ∙ once_where direction true))
      (λ is. inr (winds ∙ ap (λ z. once_round (filled_hand direction) *ℤ z) is ∙ once_where direction false))
      (once p)
    where
      alone : walks_of (shape ∷ []) ≡ shape
      alone = append-nil shape

      winds : winding (flat_map steps_of (map (in_direction direction) (map points_of shape))) p ≡
          once_round (filled_hand direction) *ℤ winding (all_steps shape) p
      winds = ap (λ ss. winding ss p)
          (sym (append-nil (flat_map steps_of (map (in_direction direction) (map points_of shape)))))
          ∙ shown_winds p direction (shape ∷ []) (subst (All IsSimpleContour) (sym alone) simple)
          ∙ ap (λ ws. once_round (filled_hand direction) *ℤ winding (all_steps ws) p) alone

  -- so it is with all shapes shown
  pub each_shown_winds : (shapes : List (List (List Step))) → All IsSimpleContour (walks_of shapes) →
      ((shape : List (List Step)) → Contains shapes shape → WindsOnceOrNot left (all_steps shape)) →
      EachWindsOnceOrNot (filled_hand direction) (shown direction shapes)
  each_shown_winds shapes simple once =
      All-map (λ ps. WindsOnceOrNot (filled_hand direction) (flat_map steps_of ps)) (map (in_direction direction))
      (points_of_shapes shapes)
      (All-map (λ ps. WindsOnceOrNot (filled_hand direction) (flat_map steps_of (map (in_direction direction) ps)))
      (map points_of) shapes
      (all_of_entries (λ s. WindsOnceOrNot (filled_hand direction)
      (flat_map steps_of (map (in_direction direction) (map points_of s)))) shapes
      (λ s c. slice_shown_winds s (All-contains (All IsSimpleContour) shapes s
      (in_each_shape IsSimpleContour shapes simple) c) (once s c))))
