-- The height falls on the way down.
use Rattle.overlay_scan.specs.Trees.{stored_height}
use Rattle.overlay_scan.proofs.tree.nodes.ScanNodes.+descend.Given as goal

abbrev pub decreases-descend : goal.decreases-descend
decreases-descend g l = stored_height l.self.now.links l.root
