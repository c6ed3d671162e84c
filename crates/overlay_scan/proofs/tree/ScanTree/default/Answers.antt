-- Nothing stands, and nothing is unused.
use Rattle.std.proofs.Common.{[], length, sym, ap, ◌∙◌}
use Rattle.overlay_scan.specs.Trees.{Leaf}
use Rattle.overlay_scan.proofs.LookedUp.{empty_forest}
use Rattle.overlay_scan.proofs.tree.ScanTree.default.Goals as goal

pub invariant_of-result : goal.invariant_of-result
invariant_of-result g c = (
  (Leaf, [], empty_forest c.new.result.links),
  ap length c.new.ensures.entries ∙ sym (ap length c.new.ensures.links),
)
