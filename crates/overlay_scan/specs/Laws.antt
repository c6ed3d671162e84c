-- Law of look-ups in a list from bottom to top.
use Rattle.std.specs.Prelude.{◌≡◌, ◌⊎◌, true, ℤ, pos, List, Contains, Some}
use Rattle.overlay_geom.specs.Plane.{Edge}
use Rattle.overlay_plane.specs.Anchors.{is_below_anchor}
use Rattle.overlay_plane.specs.Heights.{is_under}
use Rattle.overlay_scan.specs.Scan.{Entry, IsFromBottomToTop, entry_below}

-- f is an entry below the start of e, and every other entry below it is under f at x
pub record IsGreatestBelow {V : Type 0} (e : Edge) (x : ℤ) (fs : List (Entry V)) (f : Entry V) : Type 0 where
  pub entry : Contains fs f
  pub below : is_below_anchor e f.edge ≡ true
  pub greatest : (g : Entry V) → Contains fs g → is_below_anchor e g.edge ≡ true →
      (g ≡ f) ⊎ (is_under g.edge f.edge x (pos 1) ≡ true)

-- in a list from bottom to top, the last entry below an edge's start is the greatest below it
abbrev pub LookUpGivesTheGreatest : Type 0 → Type 0
LookUpGivesTheGreatest V = (fs : List (Entry V)) (e : Edge) (x : ℤ) → IsFromBottomToTop x fs →
    (f : Entry V) → entry_below e fs ≡ Some f →
    IsGreatestBelow e x fs f
