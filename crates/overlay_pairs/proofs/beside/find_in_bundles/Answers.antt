-- A bundle or a fan beside the edge is passed over, or some boxes are tested.
use Rattle.std.proofs.Common.{◌+◌, ◌<◌, List, inl, length, sym, subst, arith}
use Rattle.overlay_order.specs.Content.{plain_edge}
use Rattle.overlay_pairs.specs.Bundles.{IsPassed}
use Rattle.overlay_pairs.specs.Extents.{Extent, plain_extent, plain_extents}
use Rattle.overlay_pairs.specs.Near.{AreNearAdded, IsSearchedBy}
use Rattle.overlay_pairs.proofs.Searches.{searched_added, searched_before, searched_none, searched_past}
use Rattle.overlay_pairs.proofs.beside.find_in_bundles.Goals as goal

pub loop-at-init : goal.loop-at-init
loop-at-init g c =
    let whole = g.I.IntNumber.whole in
    let ss = plain_extents whole c.args.bundles.now.edges.items in
    let s = plain_extent whole c.args.of in (
      omega arith,
      (λ es of. let passed = IsPassed es (plain_edge whole g.C.EdgeCount.counts c.args.e.now) s in
          subst (IsSearchedBy passed ss s 0) (sym c.requires.empty) (searched_none passed ss s)),
    )

pub loop-at-preserved-then-at-next : goal.loop-at-preserved-then-at-next
loop-at-preserved-then-at-next g c =
    let whole = g.I.IntNumber.whole in
    let ss = plain_extents whole c.args.bundles.now.edges.items in
    let s = plain_extent whole c.args.of in
    let further = c.on_by-next.ensures.no_further in (
      (let up = c.on_by-next.ensures.up_to in let l = c.len-in-loop-at.ensures in omega (arith, up, l)),
      (λ es of. searched_past (IsPassed es (plain_edge whole g.C.EdgeCount.counts c.args.e.now) s) ss s c.loop-at.at
          c.on_by-next.result c.loop-at.near.items
          (λ k t past less at_t. c.count_skipped.ensures es of k t past (omega (arith, less, further)) at_t)
          (c.loop-at.invariant.1 es of)),
    )

pub loop-at-preserved : goal.loop-at-preserved
loop-at-preserved g c =
    let whole = g.I.IntNumber.whole in
    let s = plain_extent whole c.args.of in
    let at = c.loop-at.at in
    let end = c.on_by-end.result in
    let olds = c.loop-at.near.items in
    let news = c.push_near.new.near.items in
    let added = subst (λ (xs : List _). AreNearAdded (plain_extents whole xs) s at end olds news)
    c.deref.ensures.value c.in_ok-push_near.ensures.ok in (
      (let up = c.on_by-end.ensures.up_to in let l = c.len-else-at-next.ensures in omega (arith, up, l)),
      (λ es of. searched_added (IsPassed es (plain_edge whole g.C.EdgeCount.counts c.args.e.now) s)
          (plain_extents whole c.args.bundles.now.edges.items) s at end olds news (λ t apart. inl apart) added
          (c.loop-at.invariant.1 es of)),
    )

pub returns : goal.returns
returns g c = record {
  ok = λ es of.
      let whole = g.I.IntNumber.whole in
      let s = plain_extent whole c.args.of in
      let past = c.loop-at-test.false in
      let l = c.len.ensures in
      searched_before (IsPassed es (plain_edge whole g.C.EdgeCount.counts c.args.e.now) s)
      (plain_extents whole c.args.bundles.now.edges.items) s c.loop-at.at
      (length c.args.bundles.now.edges.items) c.loop-at.near.items (omega (arith, past, l))
      (c.loop-at.invariant.1 es of);
}
