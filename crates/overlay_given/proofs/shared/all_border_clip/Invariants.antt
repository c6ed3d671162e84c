-- At each meeting point so far of the two edges a border of the clip alone ends.
use Rattle.std.proofs.Common.{◌≡◌, ℕ, ◌-◌, ◌<◌, ◌≤◌, true, length, get_or}
use Rattle.overlay_exact.specs.Along.{Met, plain_mets}
use Rattle.overlay_given.specs.Places.{IsMetOn, place_passes}
use Rattle.overlay_given.specs.declared.sides.SidesAtPlace.{SidesAtPlace}
use Rattle.overlay_given.specs.declared.sides.SideTest.TheVariants.{ClipBorder}
use Rattle.overlay_given.proofs.shared.all_border_clip.Given as goal

abbrev pub invariant-loop-k : goal.invariant-loop-k
invariant-loop-k g l = record {
  after : get_or l.starts l.j 0 ≤ l.k;
  all : (k : ℕ) (m : Met) (a : SidesAtPlace) →
      IsMetOn l.starts (plain_mets g.W.WideIntNumber.whole l.met) l.places l.j k m a → k < l.k → m.other ≡ l.i →
      place_passes ClipBorder a ≡ true;
}

abbrev pub decreases-loop-k : goal.decreases-loop-k
decreases-loop-k g l = length l.met - l.k
