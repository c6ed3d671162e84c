-- A list that makes room for an edge, and the tree that it turns into.
use Rattle.std.specs.Prelude.{◌≡◌, ℕ, ◌+◌, ◌*◌, ◌^◌, ◌<◌, ◌≤◌, ℤ, true, false, List, length, Option, None, Some}
use Rattle.overlay_scan.specs.EitherScans.{EitherEdges, HasTurnedInto}
use Rattle.overlay_scan.specs.HeldEdges.{HeldEdges, held_sweep}
use Rattle.overlay_scan.specs.Lists.{plain_entries}
use Rattle.overlay_scan.specs.Scan.{Sweep, live_at, MayMoveTo, IsSweep}
use Rattle.overlay_scan.specs.declared.list.LiveEdge.{LiveEdge}

-- the sweep has the same live entries at x as before, and may move there
pub record IsReady {V : Type 0} (limit : ℕ) (x : ℤ) (old new : Sweep V) : Type 0 where
  pub live : live_at x new.entries ≡ live_at x old.entries
  pub state : IsSweep limit new
  pub moves : MayMoveTo x new

-- the tree holds just these edges, and was filled by few visits
pub record IsTreeOf {I V : Type 0} (whole : I → ℤ) (limit : ℕ) (x : ℤ) (es : List (LiveEdge I V))
    (t : HeldEdges I V) : Type 0 where
  pub entries : (held_sweep whole t).entries ≡ plain_entries whole es
  pub state : IsSweep limit (held_sweep whole t)
  pub moves : MayMoveTo x (held_sweep whole t)
  pub count : length t.entries ≡ length es
  pub few : (digits : ℕ) → length es < 2 ^ digits → t.visits ≤ 2 * length es * digits

-- a list has room where it holds less than half of the number, and else there is a tree of its edges
abbrev pub HasRoomOrTree : {I V : Type 0} → (I → ℤ) → ℕ → ℤ → ℕ → List (LiveEdge I V) → Option (HeldEdges I V) →
    Type 0
HasRoomOrTree whole limit x most es None = 2 * length es + 1 < most
HasRoomOrTree whole limit x most es (Some t) = IsTreeOf whole limit x es t × (most ≤ 2 * length es + 1)

-- a tree stays as it is. A list has room for an edge, perhaps since it has dropped edges, or it has turned
pub record HasRoom {I V : Type 0} (old new : EitherEdges I V) : Type 0 where
  pub same : new.most ≡ old.most
  pub tree : old.is_tree ≡ true → new ≡ old
  pub list : old.is_tree ≡ false → new.is_tree ≡ false → (length new.held.entries ≤ length old.held.entries)
      × (length new.held.entries < new.most) × (new.held.visits ≡ old.held.visits)
  pub turns : old.is_tree ≡ false → new.is_tree ≡ true → HasTurnedInto old new.held
