-- Each shape by itself winds once or zero times, and so do all together off the edges.
use Rattle.std.proofs.Common.{◌≡◌, ◌⊎◌, inl, inr, Bool, true, false, cond, ℤ, pos}
use Rattle.overlay_plane.proofs.NoTwoShapes.{no_two_wind_round_one_point}
use Rattle.overlay_extract.specs.Laws.{NoTwoShapesWindRoundOnePoint}
use Rattle.overlay_extract.specs.Results.{filled_asked}
use Rattle.overlay_extract.proofs.laws.no_two_shapes_wind_round_one_point.Goals as goal

-- a number chosen by a test is one of the two choices
one_or_other : (b : Bool) (once z : ℤ) → z ≡ cond b once (pos 0) → (z ≡ once) ⊎ (z ≡ pos 0)
one_or_other true once z is = inl is
one_or_other false once z is = inr is

of_results : NoTwoShapesWindRoundOnePoint
of_results q es result all is p off = no_two_wind_round_one_point (filled_asked q) result (is.each_alone all) p
    (one_or_other _ _ _ (is.winds all p off))

pub returns-clause-results : goal.returns-clause-results
returns-clause-results c = of_results

pub returns-clause-hierarchies : goal.returns-clause-hierarchies
returns-clause-hierarchies c = λ q es result links all is. of_results q es result all is.is_result
