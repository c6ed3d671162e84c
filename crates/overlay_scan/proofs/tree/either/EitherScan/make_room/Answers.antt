-- The list has dropped the edges that had ended, and perhaps turned.
use Rattle.std.proofs.Common.{rules, ◌≡◌, ◌≤◌, Some, length, sym, ap, subst, ◌∙◌}
use Rattle.overlay_scan.specs.EitherScans.{EitherEdges, either_sweep, in_list, in_tree}
use Rattle.overlay_scan.specs.HeldEntries.{plain_sweep}
use Rattle.overlay_scan.specs.Scan.{moved_to}
use Rattle.overlay_scan.specs.Turning.{IsReady, HasRoomOrTree, HasRoom}
use Rattle.overlay_scan.proofs.Turned.{ready_moved, ready_in_tree, has_turned}
use Rattle.overlay_scan.proofs.tree.either.EitherScan.make_room.Goals as goal

pub returns-in_default-2-clause-ready : goal.returns-in_default-2-clause-ready
returns-in_default-2-clause-ready g c =
    let whole = g.I.IntNumber.whole in
    let x = whole c.args.x in
    let old = either_sweep whole c.args.self.now in
    let new = plain_sweep whole c.tree_if_many.new.list in
    let moved : new ≡ moved_to x old = search rules in
    ready_moved g.I.IntNumber.limit x old new c.requires.state c.requires.moves moved

pub returns-in-Some-clause-ok : goal.returns-in-Some-clause-ok
returns-in-Some-clause-ok g c =
    let whole = g.I.IntNumber.whole in
    let limit = g.I.IntNumber.limit in
    let x = whole c.args.x in
    let most = c.self.inside.most in
    let old = c.in-Listed.list in
    let t = c.in-Some.tree in
    let es = c.tree_if_many.new.list.live in
    let made : HasRoomOrTree whole limit x most es (Some t) = subst (HasRoomOrTree whole limit x most es) c.in-Some.is
    c.in_ok-tree.ensures.ok in
    let full : most ≤ length old.live = search rules in
    let was : in_list old.live old.reached most ≡ c.args.self.now = search rules in
    let is : c.turn_into.new.self ≡ in_tree t most = search rules in
    subst (HasRoom c.args.self.now) (sym is)
    (subst (λ s. HasRoom s (in_tree t most)) was
    (has_turned whole limit x most es t made old.live old.reached full c.tree_if_many.ensures.no_more))

pub returns-in-Some-clause-ready : goal.returns-in-Some-clause-ready
returns-in-Some-clause-ready g c =
    let whole = g.I.IntNumber.whole in
    let limit = g.I.IntNumber.limit in
    let x = whole c.args.x in
    let most = c.self.inside.most in
    let old = either_sweep whole c.args.self.now in
    let t = c.in-Some.tree in
    let es = c.tree_if_many.new.list.live in
    let made : HasRoomOrTree whole limit x most es (Some t) = subst (HasRoomOrTree whole limit x most es) c.in-Some.is
    c.in_ok-tree.ensures.ok in
    let moved : plain_sweep whole c.tree_if_many.new.list ≡ moved_to x old = search rules in
    subst (λ (s : EitherEdges _ _). IsReady limit x old (either_sweep whole s)) (sym c.turn_into.ensures)
    (ready_in_tree whole limit x most es t made old
    (sym c.tree_if_many.ensures.entries ∙ ap (λ s. s.entries) moved))
