-- The root is read: it has ended, or the descent goes on into one of its sides.
use Rattle.std.proofs.Common.{◌≡◌, ◌<◌, ◌++◌, Some, length, slice_get, refl, sym, ap, subst, ◌∙◌, arith, rules}
use Rattle.overlay_scan.specs.Scan.{IsCallableOn}
use Rattle.overlay_scan.specs.declared.tree.links.Side.TheVariants.{Left}
use Rattle.overlay_scan.specs.Sides.{on, opposite}
use Rattle.overlay_scan.specs.Descents.{live_entries, CanDescend}
use Rattle.overlay_scan.specs.Trees.{Tree, Fork, items, height, IsTreeAt, IsReplaced, stored_height}
use Rattle.overlay_scan.proofs.Descending.{nothing_there, split_top, top_ended, top_place, callable_here}
use Rattle.overlay_scan.proofs.GoingDown.{same_links, way, can_near, lower_near, higher, may_on}
use Rattle.overlay_scan.proofs.GoingDown.{parts_above, end_balanced, end_kept, same_end}
use Rattle.overlay_scan.proofs.Replaced.{no_top}
use Rattle.overlay_scan.proofs.Settling.{tree_at_is}
use Rattle.overlay_scan.proofs.Standing.{top_inside}
use Rattle.overlay_scan.proofs.tree.nodes.ScanNodes.+descend.Goals as goal
use Rattle.std.proofs.lemmas.Bool.{not-true, not-false}

pub returns-in_default-clause-end : goal.returns-in_default-clause-end
returns-in_default-clause-end g t c u can =
    nothing_there g.I.IntNumber.whole (goal.F-post g c.args.order.now) (g.I.IntNumber.whole c.args.x)
    c.args.self.now.entries
    c.args.self.now.links c.args.root c.args.put u (no_top u (sym c.in_default.is ∙ can.at.is_root)) can

pub visit-f-requires : goal.visit-f-requires
visit-f-requires g t c = top_place c.args.self.now.links c.args.root c.in-Some.i c.requires.tree.0 c.in-Some.is
    c.requires.tree.1.at

pub take_out-requires : goal.take_out-requires
take_out-requires g t c =
    let can = same_links c.args.self.now.links c.visit-f.new.self.links c.args.root c.args.put c.in-Some.i
    c.requires.tree.0
    c.visit-f.ensures.links c.in-Some.is c.requires.tree.1 in
    let split = split_top c.visit-f.new.self.links c.in-Some.i c.requires.tree.0 can.at in
    (split.0, split.1, subst (λ u. IsTreeAt c.visit-f.new.self.links (Some c.in-Some.i) u) split.2 can.at)

pub returns-then-has_ended-clause-end : goal.returns-then-has_ended-clause-end
returns-then-has_ended-clause-end g t c u given =
    let ls = c.args.self.now.links in
    let l1 = c.visit-f.new.self.links in
    let can = same_links ls l1 c.args.root c.args.put c.in-Some.i u c.visit-f.ensures.links c.in-Some.is given in
    let split = split_top l1 c.in-Some.i u can.at in
    let at = subst (λ v. IsTreeAt l1 (Some c.in-Some.i) v) split.2 can.at in
    top_ended g.I.IntNumber.whole (goal.F-post g c.args.order.now) (g.I.IntNumber.whole c.args.x)
    c.args.self.now.entries
    ls c.take_out.new.self.links c.args.put c.take_out.result c.in-Some.i.place split.0 split.1 u c.visit-f.result
    split.2 c.visit-f.ensures.entry (not-true _ (sym c.has_ended.ensures ∙ c.if-has_ended.true))
    (subst (λ n. IsReplaced (items (Fork split.0 c.in-Some.i.place split.1)) n c.take_out.new.self.links
    (Fork split.0 c.in-Some.i.place split.1) c.take_out.result (items split.0 ++ items split.1)) c.visit-f.ensures.links
    (c.take_out.ensures.tree split.0 split.1 at))

pub links-links-requires : goal.links-links-requires
links-links-requires g t c =
    let low = top_place c.args.self.now.links c.args.root c.in-Some.i c.requires.tree.0 c.in-Some.is
    c.requires.tree.1.at in
    let same = ap length c.visit-f.ensures.links in
    omega arith

pub side_for-side-requires : goal.side_for-side-requires
side_for-side-requires g t c =
    let whole = g.I.IntNumber.whole in
    let x = whole c.args.x in
    let split = split_top c.args.self.now.links c.in-Some.i c.requires.tree.0
    (subst (λ o. IsTreeAt c.args.self.now.links o c.requires.tree.0) c.in-Some.is c.requires.tree.1.at) in
    let live = not-false _ (sym c.has_ended.ensures ∙ c.if-has_ended.false) in
    callable_here whole x c.args.self.now.entries (goal.F-pre g c.args.order.now) c.in-Some.i.place c.visit-f.result
    c.visit-f.ensures.entry live Left split.0 split.1
    (subst (λ u. IsCallableOn whole (goal.F-pre g c.args.order.now)
    (live_entries whole x c.args.self.now.entries (items u)))
    split.2 (c.requires.callable c.requires.tree.0 c.requires.tree.1.at))

pub descend-below-requires : goal.descend-below-requires
descend-below-requires g t c =
    let whole = g.I.IntNumber.whole in
    let x = whole c.args.x in
    let ls = c.args.self.now.links in
    let l1 = c.visit-f.new.self.links in
    let es1 = c.visit-f.new.self.entries in
    let pre = goal.F-pre g c.args.order.now in
    let u = c.requires.tree.0 in
    let can = same_links ls l1 c.args.root c.args.put c.in-Some.i u c.visit-f.ensures.links c.in-Some.is
    c.requires.tree.1 in
    let side = c.side_for-side.result in
    let links = c.links-links.result in
    let live = not-false _ (sym c.has_ended.ensures ∙ c.if-has_ended.false) in
    let there : slice_get es1 c.in-Some.i.place ≡ Some c.visit-f.result =
    ap (λ e. slice_get e c.in-Some.i.place) c.visit-f.ensures.entries ∙ c.visit-f.ensures.entry in
    let smaller : stored_height l1 c.on-near.result < stored_height ls c.args.root =
    subst (λ h. stored_height l1 c.on-near.result < h)
    (ap (λ n. stored_height n (Some c.in-Some.i)) c.visit-f.ensures.links ∙ ap (stored_height ls) (sym c.in-Some.is))
    (lower_near l1 c.args.put c.in-Some.i side links u can c.links-links.ensures c.on-near.result c.on-near.ensures) in
    let tree : (v : Tree) × CanDescend l1 c.on-near.result c.args.put v =
    (_, can_near l1 c.args.put c.in-Some.i side links u can c.links-links.ensures c.on-near.result c.on-near.ensures) in
    let callable : (v : Tree) → IsTreeAt l1 c.on-near.result v → IsCallableOn whole pre
    (live_entries whole x es1 (items v)) =
    may_on l1 c.args.put c.in-Some.i side links u can c.links-links.ensures whole x es1 pre c.visit-f.result there live
    (subst (λ e. IsCallableOn whole pre (live_entries whole x e (items u))) (sym c.visit-f.ensures.entries)
    (c.requires.callable u c.requires.tree.1.at)) c.on-near.result c.on-near.ensures in
    search rules

pub is_kept-requires : goal.is_kept-requires
is_kept-requires g t c =
    let whole = g.I.IntNumber.whole in
    let x = whole c.args.x in
    let ls = c.args.self.now.links in
    let l1 = c.visit-f.new.self.links in
    let es1 = c.visit-f.new.self.entries in
    let post = goal.F-post g c.args.order.now in
    let i = c.in-Some.i in
    let put = c.args.put in
    let u = c.requires.tree.0 in
    let given = c.requires.tree.1 in
    let can = same_links ls l1 c.args.root put i u c.visit-f.ensures.links c.in-Some.is given in
    let side = c.side_for-side.result in
    let links = c.links-links.result in
    let read = c.links-links.ensures in
    let o = way l1 put i side links u can read in
    let near = can_near l1 put i side links u can read c.on-near.result c.on-near.ensures in
    let below = c.descend-below.ensures.end o.near near in
    let between = c.descend-below.new.self.links in
    let top = c.descend-below.result.root in
    let parts = parts_above l1 put i side links u can read whole post x es1 between top (on (opposite side) links) refl
    c.descend-below.result.end below in
    top_inside between parts.0 top parts.1.near_is parts.1.near_stands

pub returns-then-is_kept-clause-end : goal.returns-then-is_kept-clause-end
returns-then-is_kept-clause-end g t c u given =
    let whole = g.I.IntNumber.whole in
    let x = whole c.args.x in
    let ls = c.args.self.now.links in
    let l1 = c.visit-f.new.self.links in
    let es1 = c.visit-f.new.self.entries in
    let post = goal.F-post g c.args.order.now in
    let i = c.in-Some.i in
    let put = c.args.put in
    let can = same_links ls l1 c.args.root put i u c.visit-f.ensures.links c.in-Some.is given in
    let side = c.side_for-side.result in
    let links = c.links-links.result in
    let read = c.links-links.ensures in
    let o = way l1 put i side links u can read in
    let near = can_near l1 put i side links u can read c.on-near.result c.on-near.ensures in
    let below = c.descend-below.ensures.end o.near near in
    let between = c.descend-below.new.self.links in
    let top = c.descend-below.result.root in
    let live = not-false _ (sym c.has_ended.ensures ∙ c.if-has_ended.false) in
    let there : slice_get es1 i.place ≡ Some c.visit-f.result =
    ap (λ e. slice_get e i.place) c.visit-f.ensures.entries ∙ c.visit-f.ensures.entry in
    same_end whole post x c.args.self.now.entries es1 ls l1 between u put (Some i) c.above-end.result _
    c.visit-f.ensures.entries c.visit-f.ensures.links c.above-end.ensures
    (end_kept l1 put i side links u can read whole post x es1 between top (on (opposite side) links) refl
    c.descend-below.result.end below c.visit-f.result there live c.side_for-side.ensures c.on-near.result
    c.on-near.ensures c.height-height.result (c.height-height.ensures o.near near.at.is_root near.at.stands)
    (λ v root stands. (c.is_kept.ensures v root stands).0 c.if-is_kept.true))

pub balance-root-requires : goal.balance-root-requires
balance-root-requires g t c =
    let whole = g.I.IntNumber.whole in
    let x = whole c.args.x in
    let ls = c.args.self.now.links in
    let l1 = c.visit-f.new.self.links in
    let es1 = c.visit-f.new.self.entries in
    let post = goal.F-post g c.args.order.now in
    let i = c.in-Some.i in
    let put = c.args.put in
    let u = c.requires.tree.0 in
    let given = c.requires.tree.1 in
    let can = same_links ls l1 c.args.root put i u c.visit-f.ensures.links c.in-Some.is given in
    let side = c.side_for-side.result in
    let links = c.links-links.result in
    let read = c.links-links.ensures in
    let o = way l1 put i side links u can read in
    let near = can_near l1 put i side links u can read c.on-near.result c.on-near.ensures in
    let below = c.descend-below.ensures.end o.near near in
    let between = c.descend-below.new.self.links in
    let top = c.descend-below.result.root in
    let parts = parts_above l1 put i side links u can read whole post x es1 between top c.on.result
    (c.on.ensures ∙ ap (λ s. on s links) c.other.ensures) c.descend-below.result.end below in
    (parts.0, o.far, parts.1)

pub returns-clause-end : goal.returns-clause-end
returns-clause-end g t c u given =
    let whole = g.I.IntNumber.whole in
    let x = whole c.args.x in
    let ls = c.args.self.now.links in
    let l1 = c.visit-f.new.self.links in
    let es1 = c.visit-f.new.self.entries in
    let post = goal.F-post g c.args.order.now in
    let i = c.in-Some.i in
    let put = c.args.put in
    let can = same_links ls l1 c.args.root put i u c.visit-f.ensures.links c.in-Some.is given in
    let side = c.side_for-side.result in
    let links = c.links-links.result in
    let read = c.links-links.ensures in
    let o = way l1 put i side links u can read in
    let near = can_near l1 put i side links u can read c.on-near.result c.on-near.ensures in
    let below = c.descend-below.ensures.end o.near near in
    let between = c.descend-below.new.self.links in
    let top = c.descend-below.result.root in
    let live = not-false _ (sym c.has_ended.ensures ∙ c.if-has_ended.false) in
    let there : slice_get es1 i.place ≡ Some c.visit-f.result =
    ap (λ e. slice_get e i.place) c.visit-f.ensures.entries ∙ c.visit-f.ensures.entry in
    let new = c.balance-root.new.self.links in
    let root = c.balance-root.result in
    same_end whole post x c.args.self.now.entries es1 ls l1 new u put root c.above-end.result _
    c.visit-f.ensures.entries c.visit-f.ensures.links c.above-end.ensures
    (end_balanced l1 put i side links u can read whole post x es1 between top c.on.result
    (c.on.ensures ∙ ap (λ s. on s links) c.other.ensures) c.descend-below.result.end below c.visit-f.result there live
    c.side_for-side.ensures new root (λ v parts. c.balance-root.ensures.tree v o.far parts))

pub returns-then-is_kept-clause-visits : goal.returns-then-is_kept-clause-visits
returns-then-is_kept-clause-visits g t c u at =
    let ls = c.args.self.now.links in
    let l1 = c.visit-f.new.self.links in
    let i = c.in-Some.i in
    let put = c.args.put in
    let v = c.requires.tree.0 in
    let can = same_links ls l1 c.args.root put i v c.visit-f.ensures.links c.in-Some.is c.requires.tree.1 in
    let side = c.side_for-side.result in
    let links = c.links-links.result in
    let read = c.links-links.ensures in
    let o = way l1 put i side links v can read in
    let near = can_near l1 put i side links v can read c.on-near.result c.on-near.ensures in
    let high = higher l1 put i side links v can read in
    let same = ap height (sym (tree_at_is ls u c.args.root at) ∙ tree_at_is ls v c.args.root c.requires.tree.1.at) in
    let below = c.descend-below.ensures.visits o.near near.at in
    let one = c.visit-f.ensures.count in
    omega arith

pub returns-clause-visits : goal.returns-clause-visits
returns-clause-visits g t c u at =
    let ls = c.args.self.now.links in
    let l1 = c.visit-f.new.self.links in
    let i = c.in-Some.i in
    let put = c.args.put in
    let v = c.requires.tree.0 in
    let can = same_links ls l1 c.args.root put i v c.visit-f.ensures.links c.in-Some.is c.requires.tree.1 in
    let side = c.side_for-side.result in
    let links = c.links-links.result in
    let read = c.links-links.ensures in
    let o = way l1 put i side links v can read in
    let near = can_near l1 put i side links v can read c.on-near.result c.on-near.ensures in
    let high = higher l1 put i side links v can read in
    let same = ap height (sym (tree_at_is ls u c.args.root at) ∙ tree_at_is ls v c.args.root c.requires.tree.1.at) in
    let below = c.descend-below.ensures.visits o.near near.at in
    let one = c.visit-f.ensures.count in
    let last = c.balance-root.ensures.visits in
    omega arith

pub returns-clause-never_fall : goal.returns-clause-never_fall
returns-clause-never_fall g t c =
    let one = c.visit-f.ensures.count in
    let below = c.descend-below.ensures.never_fall in
    let last = c.balance-root.ensures.visits in
    omega arith
