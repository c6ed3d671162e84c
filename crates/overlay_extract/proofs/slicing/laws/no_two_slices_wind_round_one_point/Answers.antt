-- Each slice by itself winds once or zero times, and so do all together off the edges.
use Rattle.std.proofs.Common.{◌≡◌, ◌⊎◌, inl, inr, Bool, true, false, cond, ℤ, pos}
use Rattle.overlay_plane.proofs.NoTwoShapes.{no_two_wind_round_one_point}
use Rattle.overlay_walk.specs.Steps.{filled_hand}
use Rattle.overlay_extract.proofs.slicing.laws.no_two_slices_wind_round_one_point.Goals as goal

-- what is the one or the other, by a test
one_or_other : (b : Bool) (once z : ℤ) → z ≡ cond b once (pos 0) → (z ≡ once) ⊎ (z ≡ pos 0)
one_or_other true once z is = inl is
one_or_other false once z is = inr is

pub returns : goal.returns
returns c = λ width min fill direction es result all is p off.
    no_two_wind_round_one_point (filled_hand direction) result (is.each_alone all) p
    (one_or_other _ _ _ (is.winds all p off))
