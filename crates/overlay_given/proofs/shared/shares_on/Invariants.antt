-- The edge shares no place at a meeting point so far.
use Rattle.std.proofs.Common.{◌≡◌, ◌⊎◌, ℕ, ◌-◌, ◌<◌, ◌≤◌, true, length, get_or}
use Rattle.overlay_exact.specs.Along.{Met, plain_mets}
use Rattle.overlay_given.specs.Places.{IsMetOn, AllBorderClip, place_passes}
use Rattle.overlay_given.specs.declared.sides.SidesAtPlace.{SidesAtPlace}
use Rattle.overlay_given.specs.declared.sides.SideTest.TheVariants.{SubjectBorder, ClipBorder}
use Rattle.overlay_given.proofs.shared.shares_on.Given as goal

abbrev pub invariant-loop-k : goal.invariant-loop-k
invariant-loop-k g l =
    let ms = plain_mets g.W.WideIntNumber.whole l.met in record {
      after : get_or l.starts l.i 0 ≤ l.k;
      none : (k : ℕ) (m : Met) (a : SidesAtPlace) → IsMetOn l.starts ms l.places l.i k m a → k < l.k →
          place_passes SubjectBorder a ≡ true →
          (place_passes ClipBorder a ≡ true) ⊎ AllBorderClip l.starts ms l.places m.other l.i → ⊥;
    }

abbrev pub decreases-loop-k : goal.decreases-loop-k
decreases-loop-k g l = length l.met - l.k
