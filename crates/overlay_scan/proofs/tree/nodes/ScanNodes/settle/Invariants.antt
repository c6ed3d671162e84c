-- The live entries are those of the start, and few entries were visited.
use Rattle.std.proofs.Common.{◌≡◌, ℕ, List, length}
use Rattle.overlay_scan.specs.Forests.{CanSettle, tree_at}
use Rattle.overlay_scan.specs.Trees.{Tree, items}
use Rattle.overlay_scan.proofs.Settling.{IsSettling}
use Rattle.overlay_scan.proofs.tree.nodes.ScanNodes.settle.Given as goal

abbrev pub invariant-loop-i : goal.invariant-loop-i
invariant-loop-i g l = ((t : Tree) → (unused : List ℕ) →
    CanSettle l.initial.self.links l.initial.root l.initial.free l.put t unused →
    IsSettling g.I.IntNumber.whole (goal.F-post g l.order) (g.I.IntNumber.whole l.x) l.initial.self.entries t
    l.initial.self.visits l.self.links l.root l.free l.put l.self.visits)
    × (l.self.entries ≡ l.initial.self.entries)
    × (length l.self.links ≡ length l.initial.self.links)

abbrev pub decreases-loop-i : goal.decreases-loop-i
decreases-loop-i g l = length (items (tree_at l.self.links l.root))
