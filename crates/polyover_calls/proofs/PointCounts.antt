-- How many points coordinates are.
use Rattle.std.proofs.Common.{◌≡◌, ◌/◌, List, [], ◌∷◌, length, refl, arith}
use Rattle.polyover_calls.specs.Arrays.{points_of}

pub points_counted : {I : Type 0} (cs : List I) → length (points_of cs) ≡ length cs / 2
points_counted [] = refl
points_counted (x ∷ []) = refl
points_counted (x ∷ y ∷ cs) = omega (arith, points_counted cs)
