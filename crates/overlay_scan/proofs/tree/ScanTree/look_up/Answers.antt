-- The tree is gone down, and nothing is put in.
use Rattle.std.proofs.Common.{None, [], length, slice_get, refl, sym, ap, subst, ◌∙◌}
use Rattle.std.specs.List.{filter_map}
use Rattle.overlay_scan.specs.Forests.{AreFewVisits, tree_at}
use Rattle.overlay_scan.specs.Trees.{items}
use Rattle.overlay_scan.proofs.LookedUp.{nothing_put, looked_up, quick, callable_in_tree}
use Rattle.overlay_scan.proofs.tree.ScanTree.look_up.Goals as goal

pub settle-settled-requires-clause-forest : goal.settle-settled-requires-clause-forest
settle-settled-requires-clause-forest g c =
    let in_self = c.self.inside in
    let held = c.self.invariant.0 in
    (held.0, held.1, nothing_put in_self.nodes.links in_self.root in_self.free held.0 held.1 held.2)

pub settle-settled-requires-clause-callable : goal.settle-settled-requires-clause-callable
settle-settled-requires-clause-callable g c t at =
    let in_self = c.self.inside in
    callable_in_tree g.I.IntNumber.whole (goal.F-pre g c.args.order.now) (g.I.IntNumber.whole c.args.x)
    in_self.nodes.entries
    in_self.nodes.entries in_self.nodes.links in_self.root c.args.self.now.entries
    (ap (λ s. s.entries) (sym c.self.view_is)) c.requires t at (λ k there. refl)

pub invariant_of-self : goal.invariant_of-self
invariant_of-self g c =
    let held = c.self.invariant.0 in
    let nodes = c.self.inside.nodes in
    let s = c.settle-settled in
    let found = s.ensures.found held.0 held.1
    (nothing_put nodes.links c.self.inside.root c.self.inside.free held.0 held.1 held.2) in (
      (found.0.tree, found.0.unused, found.0.forest),
      ap length s.ensures.entries ∙ c.self.invariant.1 ∙ sym s.ensures.count,
    )

pub returns-clause-found : goal.returns-clause-found
returns-clause-found g c =
    let held = c.self.invariant.0 in
    let nodes = c.self.inside.nodes in
    let s = c.settle-settled in
    let found = s.ensures.found held.0 held.1
    (nothing_put nodes.links c.self.inside.root c.self.inside.free held.0 held.1 held.2) in
    looked_up g.I.IntNumber.whole (goal.F-post g c.args.order.now) (g.I.IntNumber.whole c.args.x) nodes.entries
    nodes.entries
    nodes.links s.new.self.links c.self.inside.root s.result.root s.result.free None held.0 s.result.value held.2.at
    (λ k there. refl) found.0 c.args.self.now.entries _ (ap (λ v. v.entries) (sym c.self.view_is))
    (ap (λ e. filter_map (slice_get e) (items (tree_at s.new.self.links s.result.root))) s.ensures.entries) [] refl

pub returns-clause-quick : goal.returns-clause-quick
returns-clause-quick g c =
    let held = c.self.invariant.0 in
    let nodes = c.self.inside.nodes in
    let s = c.settle-settled in
    let found = s.ensures.found held.0 held.1
    (nothing_put nodes.links c.self.inside.root c.self.inside.free held.0 held.1 held.2) in
    quick g.I.IntNumber.whole (goal.F-post g c.args.order.now) (g.I.IntNumber.whole c.args.x) nodes.entries
    nodes.entries
    nodes.links s.new.self.links c.self.inside.root s.result.root s.result.free None held.0 s.result.value held.2.at
    (λ k there. refl) found.0 c.args.self.now.entries _ (ap (λ v. v.entries) (sym c.self.view_is))
    (ap (λ e. filter_map (slice_get e) (items (tree_at s.new.self.links s.result.root))) s.ensures.entries)
    c.args.self.now _ refl refl 0 refl
    c.self.invariant.1 (c.self.invariant.1 ∙ sym s.ensures.count)
    (subst (λ v. AreFewVisits v s.new.self.visits (length (items held.0)) found.0.dropped)
    (ap (λ v. v.visits) c.self.view_is) found.1)
