-- The height falls on the way down.
use Rattle.std.proofs.Common.{Some}
use Rattle.overlay_scan.specs.Trees.{stored_height}
use Rattle.overlay_scan.proofs.tree.nodes.ScanNodes.+take_first.Given as goal

abbrev pub decreases-take_first : goal.decreases-take_first
decreases-take_first g l = stored_height l.self.now.links (Some l.i)
