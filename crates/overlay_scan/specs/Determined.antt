-- What a sweep holds after a call, and what a look-up answers, is determined: whatever keeps the edges.
use Rattle.std.specs.Prelude.{◌≡◌, ℤ, List, Some}
use Rattle.std.specs.declared.cmp.Ordering.{Ordering}
use Rattle.overlay_geom.specs.Plane.{Edge}
use Rattle.overlay_geom.specs.declared.point.IntPoint.{IntPoint}
use Rattle.overlay_scan.specs.Scan.{Entry, Sweep, live_at, IsPutIn, IsAnsweredBy, AnswersRise, value_up_to}

-- the sweep has moved to x, and the entry is put in among those that are live there
pub record PutsIn {V : Type 0} (x : ℤ) (n : Entry V) (old new : Sweep V) : Type 0 where
  pub put : IsPutIn x n (live_at x old.entries) new.entries
  pub reached : new.reached ≡ Some x

-- two sweeps after one insert are one
abbrev pub OneSweep : Type 0 → Type 0
OneSweep V = (x : ℤ) (n : Entry V) (old new newer : Sweep V) → PutsIn x n old new → PutsIn x n old newer → new ≡ newer

-- the value is the one that is looked up by an order which answers so, if its answers rise
abbrev pub IsLookedUpBy : {I V : Type 0} → (I → ℤ) → (List (IntPoint I) → Ordering → Type 0) → V → List (Entry V) →
    V → Type 0
IsLookedUpBy whole post default fs value = (answer : Edge → Ordering) → IsAnsweredBy whole post answer fs →
    AnswersRise answer fs → value ≡ value_up_to default answer fs

-- two values that are looked up by one order with these post, whose answers rise, are one
abbrev pub OneLookUp : {I : Type 0} → (I → ℤ) → (List (IntPoint I) → Ordering → Type 0) → Type 0 → Type 0
OneLookUp whole post V = (default : V) (fs : List (Entry V)) (answer : Edge → Ordering) →
    IsAnsweredBy whole post answer fs → AnswersRise answer fs → (first second : V) →
    IsLookedUpBy whole post default fs first → IsLookedUpBy whole post default fs second → first ≡ second
