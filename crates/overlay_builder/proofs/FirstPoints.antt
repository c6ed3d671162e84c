-- A path's steps, begun at its first point.
use Rattle.std.proofs.Common.{◌≡◌, ◌++◌, Bool, true, false, cond, List, [], ◌∷◌, Some, map, slice_get}
use Rattle.std.proofs.Common.{refl, sym, ap, subst, ◌∙◌}
use Rattle.std.proofs.lemmas.List.{append-nil}
use Rattle.overlay_geom.specs.Plane.{Point, Step, steps_between, steps_through}
use Rattle.overlay_geom.proofs.Orders.{point_eq-of_same}
use Rattle.overlay_builder.specs.Paths.{path_steps_of}
use Rattle.std.proofs.lemmas.Option.{same_Some}

-- no step leads from a point to itself
none_between : (p : Point) (ss : List Step) → steps_between p p ++ ss ≡ ss
none_between p ss = ap (λ t. cond t [] (record { from = p; to = p } ∷ []) ++ ss) (point_eq-of_same p p refl)

-- from the first point of a path through all of its points, and back to the first where it is closed: the path's steps
from_itself : (is_closed : Bool) (p : Point) (ps : List Point)
    → steps_through p ((p ∷ ps) ++ cond is_closed (p ∷ []) []) ≡ path_steps_of is_closed (p ∷ ps)
from_itself true p ps = none_between p (steps_through p (ps ++ p ∷ []))
from_itself false p ps = none_between p (steps_through p (ps ++ [])) ∙ ap (steps_through p) (append-nil ps)

pub steps_from_the_first : {X : Type 0} (see : X → Point) (is_closed : Bool) (xs : List X) (x : X) →
    Some x ≡ slice_get xs 0
    → steps_through (see x) (map see xs ++ cond is_closed (see x ∷ []) []) ≡ path_steps_of is_closed (map see xs)
steps_from_the_first see is_closed [] x first = absurd (cc)
steps_from_the_first see is_closed (y ∷ ys) x first =
    subst (λ z. steps_through (see z) ((see y ∷ map see ys) ++ cond is_closed (see z ∷ []) []) ≡ path_steps_of is_closed
    (see y ∷ map see ys))
    (sym (same_Some x y first)) (from_itself is_closed (see y) (map see ys))
