-- The tree is rotated where one side is too high by one, else only linked.
use Rattle.std.proofs.Common.{Some, sym, subst, arith}
use Rattle.overlay_scan.specs.Sides.{opposite}
use Rattle.overlay_scan.specs.Trees.{IsTooHigh, IsRebalanced}
use Rattle.overlay_scan.proofs.Balancing.{parts_exchanged, settled_exchanged, too_high, near_parts, settled_at_once}
use Rattle.overlay_scan.proofs.Standing.{top_inside}
use Rattle.overlay_scan.proofs.tree.nodes.ScanNodes.balance.Goals as goal

pub height-there-requires : goal.height-there-requires
height-there-requires g c =
    let parts = c.requires.2 in
    top_inside c.args.self.now.links c.requires.1 c.args.far parts.far_is parts.far_stands

pub returns-then-saturating_sub-gt1-2-clause-tree : goal.returns-then-saturating_sub-gt1-2-clause-tree
returns-then-saturating_sub-gt1-2-clause-tree g c a b parts =
    let ls = c.args.self.now.links in
    let i = c.args.i.place in
    let here = c.height-here.ensures a parts.near_is parts.near_stands in
    let there = c.height-there.ensures b parts.far_is parts.far_stands in
    let gap = c.saturating_sub-else-saturating_sub-gt1.ensures in
    let test = c.if-saturating_sub-gt1-2.true in
    let high = too_high ls (opposite c.args.side) c.args.far c.args.near i b a
    (parts_exchanged 2 ls c.args.side c.args.near c.args.far i a b parts) (omega arith) (omega arith) in
    settled_exchanged ls c.lower-then-saturating_sub-gt1-2.new.self.links c.lower-then-saturating_sub-gt1-2.result
    c.args.side i a b
    (subst (λ s. IsRebalanced ls c.lower-then-saturating_sub-gt1-2.new.self.links
    c.lower-then-saturating_sub-gt1-2.result s b i a)
    c.other.ensures
    (c.lower-then-saturating_sub-gt1-2.ensures.tree b a
    (subst (λ s. IsTooHigh ls s c.args.far i c.args.near b a) (sym c.other.ensures) high)))

pub returns-else-saturating_sub-gt1-2-clause-tree : goal.returns-else-saturating_sub-gt1-2-clause-tree
returns-else-saturating_sub-gt1-2-clause-tree g c a b parts =
    let ls = c.args.self.now.links in
    let i = c.args.i.place in
    let here = c.height-here.ensures a parts.near_is parts.near_stands in
    let there = c.height-there.ensures b parts.far_is parts.far_stands in
    let gap = c.saturating_sub.ensures in
    let test = c.if-saturating_sub-gt1.false in
    let other_gap = c.saturating_sub-else-saturating_sub-gt1.ensures in
    let other_test = c.if-saturating_sub-gt1-2.false in
    settled_at_once ls c.link.new.self.links (Some c.args.i) c.args.side i a b
    (c.link.ensures.tree a b (near_parts ls c.args.side c.args.near c.args.far i a b parts (omega arith) (omega arith)))
