-- Each way down drops an entry that has ended, or is the last.
use Rattle.std.proofs.Common.{Some, sym, subst, ◌∙◌, refl}
use Rattle.overlay_scan.specs.Scan.{IsCallableOn}
use Rattle.overlay_scan.specs.Descents.{live_entries, IsEndOf}
use Rattle.overlay_scan.specs.Trees.{items}
use Rattle.overlay_scan.proofs.Settling.{IsSettling, begun, may_still, settling_on, inside_dropped, smaller, settled_so}
use Rattle.overlay_scan.proofs.Settling.{count_dropped, count_passed}
use Rattle.overlay_scan.proofs.tree.nodes.ScanNodes.settle.Goals as goal

pub loop-i-init : goal.loop-i-init
loop-i-init g c = (
  (λ t unused can. begun g.I.IntNumber.whole (goal.F-post g c.args.order.now) (g.I.IntNumber.whole c.args.x)
      c.args.self.now.entries t unused c.args.self.now.links c.args.root c.args.free c.args.put c.args.self.now.visits
      can),
  refl,
  refl,
)

pub descend-descent-requires-clause-tree : goal.descend-descent-requires-clause-tree
descend-descent-requires-clause-tree g c =
    let s = c.loop-i.invariant.0 c.requires.forest.0 c.requires.forest.1 c.requires.forest.2 in
    (s.tree, s.can.can)

pub descend-descent-requires-clause-callable : goal.descend-descent-requires-clause-callable
descend-descent-requires-clause-callable g c u at =
    let whole = g.I.IntNumber.whole in
    let x = whole c.args.x in
    let l = c.loop-i in
    let s = l.invariant.0 c.requires.forest.0 c.requires.forest.1 c.requires.forest.2 in
    let pre = goal.F-pre g c.args.order.now in
    subst (λ e. IsCallableOn whole pre (live_entries whole x e (items u))) (sym l.invariant.1)
    (may_still whole (goal.F-post g c.args.order.now) x c.args.self.now.entries c.requires.forest.0
    c.args.self.now.visits
    l.self.links l.root l.free c.args.put l.self.visits s pre
    (c.requires.callable c.requires.forest.0 c.requires.forest.2.forest.at) u at)

pub set_unused-requires : goal.set_unused-requires
set_unused-requires g c =
    let whole = g.I.IntNumber.whole in
    let post = goal.F-post g c.args.order.now in
    let x = whole c.args.x in
    let es = c.args.self.now.entries in
    let l = c.loop-i in
    let d = c.descend-descent in
    let t = c.requires.forest.0 in
    let s = l.invariant.0 t c.requires.forest.1 c.requires.forest.2 in
    let h = subst (λ e. IsEndOf whole post x es l.self.links d.new.self.links s.tree c.args.put d.result.root e)
    c.in-Ended.is
    (subst (λ e. IsEndOf whole post x e l.self.links d.new.self.links s.tree c.args.put d.result.root d.result.end)
    l.invariant.1 (d.ensures.end s.tree s.can.can)) in
    inside_dropped whole post x es t c.args.self.now.visits l.self.links d.new.self.links l.root l.free c.args.put
    d.result.root l.self.visits d.new.self.visits s (d.ensures.visits s.tree s.can.can.at)
    d.ensures.never_fall c.in-Ended.i h

pub loop-i-smaller : goal.loop-i-smaller
loop-i-smaller g c =
    let whole = g.I.IntNumber.whole in
    let post = goal.F-post g c.args.order.now in
    let x = whole c.args.x in
    let es = c.args.self.now.entries in
    let l = c.loop-i in
    let d = c.descend-descent in
    let t = c.requires.forest.0 in
    let s = l.invariant.0 t c.requires.forest.1 c.requires.forest.2 in
    let h = subst (λ e. IsEndOf whole post x es l.self.links d.new.self.links s.tree c.args.put d.result.root e)
    c.in-Ended.is
    (subst (λ e. IsEndOf whole post x e l.self.links d.new.self.links s.tree c.args.put d.result.root d.result.end)
    l.invariant.1 (d.ensures.end s.tree s.can.can)) in
    smaller whole post x es t c.args.self.now.visits l.self.links d.new.self.links l.root l.free c.args.put
    d.result.root l.self.visits d.new.self.visits s (d.ensures.visits s.tree s.can.can.at)
    d.ensures.never_fall c.in-Ended.i h
    c.set_unused.new.self.links c.set_unused.ensures.links

pub loop-i-preserved : goal.loop-i-preserved
loop-i-preserved g c = (
  (λ t unused can.
      let whole = g.I.IntNumber.whole in
      let post = goal.F-post g c.args.order.now in
      let x = whole c.args.x in
      let es = c.args.self.now.entries in
      let l = c.loop-i in
      let d = c.descend-descent in
      let s = l.invariant.0 t unused can in
      let h = subst (λ e. IsEndOf whole post x es l.self.links d.new.self.links s.tree c.args.put d.result.root e)
      c.in-Ended.is
      (subst (λ e. IsEndOf whole post x e l.self.links d.new.self.links s.tree c.args.put d.result.root d.result.end)
      l.invariant.1 (d.ensures.end s.tree s.can.can)) in
      subst (λ v. IsSettling whole post x es t c.args.self.now.visits c.set_unused.new.self.links d.result.root
      (Some c.in-Ended.i) c.args.put v) (sym c.set_unused.ensures.visits)
      (settling_on whole post x es t c.args.self.now.visits l.self.links d.new.self.links l.root l.free c.args.put
      d.result.root l.self.visits d.new.self.visits s (d.ensures.visits s.tree s.can.can.at)
      d.ensures.never_fall c.in-Ended.i h
      c.set_unused.new.self.links c.set_unused.ensures.links)),
  c.set_unused.ensures.entries ∙ c.descend-descent.ensures.entries ∙ c.loop-i.invariant.1,
  (
      let whole = g.I.IntNumber.whole in
      let post = goal.F-post g c.args.order.now in
      let x = whole c.args.x in
      let es = c.args.self.now.entries in
      let l = c.loop-i in
      let d = c.descend-descent in
      let t = c.requires.forest.0 in
      let s = l.invariant.0 t c.requires.forest.1 c.requires.forest.2 in
      let h = subst (λ e. IsEndOf whole post x es l.self.links d.new.self.links s.tree c.args.put d.result.root e)
      c.in-Ended.is
      (subst (λ e. IsEndOf whole post x e l.self.links d.new.self.links s.tree c.args.put d.result.root d.result.end)
      l.invariant.1 (d.ensures.end s.tree s.can.can)) in
      count_dropped whole post x es t c.args.self.now.visits l.self.links d.new.self.links l.root l.free c.args.put
      d.result.root l.self.visits d.new.self.visits s (d.ensures.visits s.tree s.can.can.at) d.ensures.never_fall
      c.in-Ended.i h c.set_unused.new.self.links c.set_unused.ensures.links ∙ l.invariant.2),
)

pub returns-in-Found-clause-found : goal.returns-in-Found-clause-found
returns-in-Found-clause-found g c t unused can =
    let whole = g.I.IntNumber.whole in
    let post = goal.F-post g c.args.order.now in
    let x = whole c.args.x in
    let es = c.args.self.now.entries in
    let l = c.loop-i in
    let d = c.descend-descent in
    let s = l.invariant.0 t unused can in
    let h = subst (λ e. IsEndOf whole post x es l.self.links d.new.self.links s.tree c.args.put d.result.root e)
    c.in-Found.is
    (subst (λ e. IsEndOf whole post x e l.self.links d.new.self.links s.tree c.args.put d.result.root d.result.end)
    l.invariant.1 (d.ensures.end s.tree s.can.can)) in
    rw c.in-Found.value-is (settled_so whole post x es t c.args.self.now.visits l.self.links d.new.self.links l.root
    l.free c.args.put
    d.result.root l.self.visits d.new.self.visits s (d.ensures.visits s.tree s.can.can.at)
    d.ensures.never_fall c.in-Found.value h)

pub returns-in-Found-clause-count : goal.returns-in-Found-clause-count
returns-in-Found-clause-count g c =
    let whole = g.I.IntNumber.whole in
    let post = goal.F-post g c.args.order.now in
    let x = whole c.args.x in
    let es = c.args.self.now.entries in
    let l = c.loop-i in
    let d = c.descend-descent in
    let t = c.requires.forest.0 in
    let s = l.invariant.0 t c.requires.forest.1 c.requires.forest.2 in
    let h = subst (λ e. IsEndOf whole post x es l.self.links d.new.self.links s.tree c.args.put d.result.root e)
    c.in-Found.is
    (subst (λ e. IsEndOf whole post x e l.self.links d.new.self.links s.tree c.args.put d.result.root d.result.end)
    l.invariant.1 (d.ensures.end s.tree s.can.can)) in
    count_passed whole post x es t c.args.self.now.visits l.self.links d.new.self.links l.root l.free c.args.put
    d.result.root l.self.visits d.new.self.visits s (d.ensures.visits s.tree s.can.can.at) d.ensures.never_fall
    c.in-Found.value h ∙ l.invariant.2
