-- The first node on the right takes the place of the top.
use Rattle.std.proofs.Common.{subst}
use Rattle.overlay_scan.specs.Trees.{IsTreeAt}
use Rattle.overlay_scan.proofs.Replaced.{left_is, right_tree, out_parts, taken_out}
use Rattle.overlay_scan.proofs.tree.nodes.ScanNodes.take_out.Goals as goal

pub take_first-rest-requires : goal.take_first-rest-requires
take_first-rest-requires g c = (
  c.requires.1,
  subst (λ o. IsTreeAt c.args.self.now.links o c.requires.1) c.in-Some.is
      (right_tree c.requires.2 c.links-links.ensures),
)

pub balance-requires : goal.balance-requires
balance-requires g c =
    let at = c.requires.2 in
    let taken = c.take_first-rest.ensures.tree c.requires.1
    (subst (λ o. IsTreeAt c.args.self.now.links o c.requires.1) c.in-Some.is (right_tree at c.links-links.ensures)) in
    (_, _, out_parts at taken (left_is at c.links-links.ensures))

pub returns-clause-tree : goal.returns-clause-tree
returns-clause-tree g c l r at =
    let taken = c.take_first-rest.ensures.tree r
    (subst (λ o. IsTreeAt c.args.self.now.links o r) c.in-Some.is (right_tree at c.links-links.ensures)) in
    taken_out at taken (left_is at c.links-links.ensures)
    (c.balance.ensures.tree _ _ (out_parts at taken (left_is at c.links-links.ensures)))
