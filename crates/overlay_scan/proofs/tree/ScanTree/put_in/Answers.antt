-- A node is made, the tree is gone down, and the node is put in.
use Rattle.std.proofs.Common.{Some, [], ◌∷◌, length, slice_get, refl, sym, ap, subst, ◌∙◌}
use Rattle.std.specs.List.{filter_map}
use Rattle.overlay_scan.specs.Lists.{plain_entry}
use Rattle.overlay_scan.specs.Scan.{IsCallableOn}
use Rattle.overlay_scan.specs.Descents.{live_entries}
use Rattle.overlay_scan.specs.Forests.{AreFewVisits, tree_at}
use Rattle.overlay_scan.specs.Trees.{items}
use Rattle.overlay_scan.proofs.LookedUp.{looked_up, quick, callable_in_tree, one_live}
use Rattle.overlay_scan.proofs.Settling.{tree_at_is}
use Rattle.overlay_scan.proofs.tree.ScanTree.put_in.Goals as goal

pub settle-settled-requires-clause-forest : goal.settle-settled-requires-clause-forest
settle-settled-requires-clause-forest g c =
    let held = c.self.invariant.0 in
    let f = c.in_ok-fresh.ensures.ok c.self.inside.root held.0 held.1 held.2 in
    (held.0, f.unused, f.can)

pub settle-settled-requires-clause-callable : goal.settle-settled-requires-clause-callable
settle-settled-requires-clause-callable g c u at =
    let whole = g.I.IntNumber.whole in
    let pre = goal.F-pre g c.args.order.now in
    let held = c.self.invariant.0 in
    let nodes = c.self.inside.nodes in
    let root = c.self.inside.root in
    let now = c.fresh.new.self in
    let f = c.in_ok-fresh.ensures.ok root held.0 held.1 held.2 in
    subst (λ t. IsCallableOn whole pre (live_entries whole (whole c.args.x) now.entries (items t)))
    (sym (tree_at_is now.links held.0 root f.can.can.at) ∙ tree_at_is now.links u root at)
    (callable_in_tree whole pre (whole c.args.x) nodes.entries now.entries nodes.links root c.args.self.now.entries
    (ap (λ s. s.entries) (sym c.self.view_is)) c.requires.callable held.0 held.2.at f.kept)

pub invariant_of-self-2 : goal.invariant_of-self-2
invariant_of-self-2 g c =
    let held = c.self.invariant.0 in
    let f = c.in_ok-fresh.ensures.ok c.self.inside.root held.0 held.1 held.2 in
    let found = c.settle-settled.ensures.found held.0 f.unused f.can in (
      (found.0.tree, found.0.unused, found.0.forest),
      ap length c.settle-settled.ensures.entries ∙ c.fresh.ensures.enough ∙ sym c.settle-settled.ensures.count,
    )

pub returns-clause-ok : goal.returns-clause-ok
returns-clause-ok g c =
    let whole = g.I.IntNumber.whole in
    let held = c.self.invariant.0 in
    let nodes = c.self.inside.nodes in
    let s = c.settle-settled in
    let now = c.fresh.new.self in
    let f = c.in_ok-fresh.ensures.ok c.self.inside.root held.0 held.1 held.2 in
    let found = s.ensures.found held.0 f.unused f.can in (
      s.result.value,
      looked_up whole (goal.F-post g c.args.order.now) (whole c.args.x) nodes.entries now.entries
          nodes.links s.new.self.links c.self.inside.root s.result.root s.result.free (Some c.in_ok-fresh.fresh.node)
          held.0
          s.result.value held.2.at f.kept found.0 c.args.self.now.entries _ (ap (λ v. v.entries) (sym c.self.view_is))
          (ap (λ e. filter_map (slice_get e) (items (tree_at s.new.self.links s.result.root))) s.ensures.entries)
          (plain_entry whole c.args.entry ∷ [])
          (one_live whole (whole c.args.x) now.entries c.in_ok-fresh.fresh.node c.args.entry f.there c.requires.live),
    )

pub returns-clause-quick : goal.returns-clause-quick
returns-clause-quick g c =
    let whole = g.I.IntNumber.whole in
    let held = c.self.invariant.0 in
    let nodes = c.self.inside.nodes in
    let s = c.settle-settled in
    let now = c.fresh.new.self in
    let f = c.in_ok-fresh.ensures.ok c.self.inside.root held.0 held.1 held.2 in
    let found = s.ensures.found held.0 f.unused f.can in
    quick whole (goal.F-post g c.args.order.now) (whole c.args.x) nodes.entries now.entries
    nodes.links s.new.self.links c.self.inside.root s.result.root s.result.free (Some c.in_ok-fresh.fresh.node) held.0
    s.result.value held.2.at f.kept found.0 c.args.self.now.entries _ (ap (λ v. v.entries) (sym c.self.view_is))
    (ap (λ e. filter_map (slice_get e) (items (tree_at s.new.self.links s.result.root))) s.ensures.entries)
    c.args.self.now _ refl refl 1 refl
    c.self.invariant.1 (c.fresh.ensures.enough ∙ sym s.ensures.count)
    (subst (λ v. AreFewVisits v s.new.self.visits (length (items held.0)) found.0.dropped)
    (c.fresh.ensures.visits ∙ ap (λ v. v.visits) c.self.view_is) found.1)
