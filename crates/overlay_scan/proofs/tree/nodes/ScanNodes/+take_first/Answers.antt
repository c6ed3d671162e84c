-- The first node of the left side, or the top where nothing is on its left.
use Rattle.std.proofs.Common.{Some, sym, subst, ◌∙◌, ◌<◌, rules}
use Rattle.overlay_scan.specs.Trees.{HasTree, IsTreeAt, IsFirstTaken, stored_height}
use Rattle.overlay_scan.proofs.Replaced.{top_opening, opened_at, top_is_inside, left_at, left_smaller}
use Rattle.overlay_scan.proofs.Replaced.{first_parts_left, first_taken, first_taken_kept}
use Rattle.overlay_scan.proofs.Standing.{top_inside}
use Rattle.overlay_scan.proofs.tree.nodes.ScanNodes.+take_first.Goals as goal

pub take_first-rest-requires : goal.take_first-rest-requires
take_first-rest-requires g t c =
    let ls = c.args.self.now.links in
    let at = c.requires.1 in
    let smaller : stored_height ls (Some c.in-Some.left) < stored_height ls (Some c.args.i) =
    subst (λ o. stored_height ls o < stored_height ls (Some c.args.i)) c.in-Some.is
    (left_smaller at c.links-links.ensures) in
    let tree : HasTree ls (Some c.in-Some.left) = (
      _,
      subst (λ o. IsTreeAt ls o (top_opening at c.links-links.ensures).near) c.in-Some.is
          (left_at at c.links-links.ensures),
    ) in
    search rules

pub is_kept-requires : goal.is_kept-requires
is_kept-requires g t c =
    let at = c.requires.1 in
    let ls = c.args.self.now.links in
    let read = c.links-links.ensures in
    let o = top_opening at read in
    let left = left_at at read in
    let taken = c.take_first-rest.ensures.tree o.near (subst (λ p. IsTreeAt ls p o.near) c.in-Some.is left) in
    let rest = taken.replaced.rebuilt.at_root in
    top_inside c.take_first-rest.new.self.links taken.replaced.tree c.take_first-rest.result.1 rest.is_root rest.stands

pub returns-then-is_kept-clause-tree : goal.returns-then-is_kept-clause-tree
returns-then-is_kept-clause-tree g t c u at =
    let ls = c.args.self.now.links in
    let read = c.links-links.ensures in
    let o = top_opening at read in
    let left = left_at at read in
    let taken = c.take_first-rest.ensures.tree o.near (subst (λ p. IsTreeAt ls p o.near) c.in-Some.is left) in
    let between = c.take_first-rest.new.self.links in
    let rest = taken.replaced.rebuilt.at_root in
    let high = c.height-height.ensures o.near o.near_is o.near_stands in
    let same = (c.is_kept.ensures taken.replaced.tree rest.is_root rest.stands).0 c.if-is_kept.true in
    subst (λ v. IsFirstTaken ls between v c.take_first-rest.result.0.place (Some c.args.i)) (sym o.is)
    (first_taken_kept (opened_at at read) taken o.far_is (top_is_inside at read)
    (same.0 ∙ o.near_is, same.1 ∙ high))

pub balance-root-requires : goal.balance-root-requires
balance-root-requires g t c =
    let at = c.requires.1 in
    let ls = c.args.self.now.links in
    let read = c.links-links.ensures in
    let o = top_opening at read in
    let left = left_at at read in
    let taken = c.take_first-rest.ensures.tree o.near (subst (λ p. IsTreeAt ls p o.near) c.in-Some.is left) in
    (_, _, first_parts_left (opened_at at read) taken o.far_is (top_is_inside at read))

pub returns-clause-tree : goal.returns-clause-tree
returns-clause-tree g t c u at =
    let ls = c.args.self.now.links in
    let read = c.links-links.ensures in
    let o = top_opening at read in
    let left = left_at at read in
    let taken = c.take_first-rest.ensures.tree o.near (subst (λ p. IsTreeAt ls p o.near) c.in-Some.is left) in
    subst (λ v. IsFirstTaken ls c.balance-root.new.self.links v c.take_first-rest.result.0.place c.balance-root.result)
    (sym o.is)
    (first_taken (opened_at at read) taken o.far_is (top_is_inside at read)
    (c.balance-root.ensures.tree _ _
    (first_parts_left (opened_at at read) taken o.far_is (top_is_inside at read))))
