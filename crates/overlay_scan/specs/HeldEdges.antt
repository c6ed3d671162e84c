-- The model of a tree of live edges, and the sweep that it stands for.
use Rattle.std.specs.Prelude.{◌≡◌, ℕ, ◌+◌, ℤ, List, length, Option}
use Rattle.overlay_scan.specs.Forests.{AreFewVisits}
use Rattle.overlay_scan.specs.HeldEntries.{sweep_of}
use Rattle.overlay_scan.specs.Scan.{Sweep}
use Rattle.overlay_scan.specs.declared.list.LiveEdge.{LiveEdge}

-- the held edges from bottom to top, some of them perhaps ended; the x that the sweep has come to; and the number of
-- visits
pub record HeldEdges (I V : Type 0) : Type 0 where
  pub entries : List (LiveEdge I V)
  pub reached : Option I
  pub visits : ℕ

-- the sweep of a tree's edges
abbrev pub held_sweep : {I V : Type 0} → (I → ℤ) → HeldEdges I V → Sweep V
held_sweep whole s = sweep_of whole s.entries s.reached

-- a look-up or an insert drops some of the held edges, inserts `put` edges, and makes few visits
pub record IsQuick {I V : Type 0} (old new : HeldEdges I V) (put : ℕ) : Type 0 where
  pub dropped : ℕ
  pub count : length new.entries + dropped ≡ length old.entries + put
  pub visited : AreFewVisits old.visits new.visits (length old.entries) dropped
