-- A search between two places of a list in which some edges have ended.
use Rattle.std.specs.Prelude.{◌≡◌, Bool, true, false, ℕ, ◌-◌, ◌<◌, ◌≤◌, ℤ, int_lt, List, All, length, take, drop}
use Rattle.std.specs.Prelude.{get_or}
use Rattle.std.specs.declared.cmp.Ordering.{Ordering}
use Rattle.overlay_geom.specs.declared.point.IntPoint.{IntPoint}
use Rattle.overlay_scan.specs.Lists.{PassBefore}
use Rattle.overlay_scan.specs.Scan.{Entry}
use Rattle.overlay_scan.specs.HeldEntries.{live_of, Tells}
use Rattle.overlay_scan.specs.declared.list.LiveEdge.{LiveEdge}

-- the live entries before low pass, and those from high on do not; if there is an entry below low, it is live
pub record IsBetween {I V : Type 0} (whole : I → ℤ) (post : List (IntPoint I) → Ordering → Type 0) (x : ℤ)
    (es : List (LiveEdge I V)) (low high : ℕ) : Type 0 where
  pub ordered : low ≤ high
  pub within : high ≤ length es
  pub pass : (passes : Entry V → Bool) → Tells whole post passes (live_of whole x es) →
      PassBefore passes (live_of whole x es) → All (λ f. passes f ≡ true) (live_of whole x (take low es))
  pub fail : (passes : Entry V → Bool) → Tells whole post passes (live_of whole x es) →
      PassBefore passes (live_of whole x es) → All (λ f. passes f ≡ false) (live_of whole x (drop high es))
  pub live : (f : LiveEdge I V) → 0 < low → f ≡ get_or es (low - 1) f → int_lt x (whole f.b.x) ≡ true
