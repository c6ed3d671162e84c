-- The boxes before and behind the strips of the run lie apart.
use Rattle.std.proofs.Common.{◌≡◌, ◌⊎◌, ⊎_elim, inl, inr, ◌+◌, ◌*◌, ◌/◌, List, [], length, sym, subst, arith}
use Rattle.std.proofs.lemmas.List.{length-map}
use Rattle.overlay_pairs.specs.Extents.{plain_extent, plain_extents, IsApart}
use Rattle.overlay_pairs.proofs.Searches.{searched_added, searched_before, searched_none, searched_past}
use Rattle.overlay_pairs.specs.Near.{AreNearAdded, IsSearchedTo}
use Rattle.overlay_pairs.proofs.StripOrder.{strips_before_apart, strips_behind_apart, strips_in_order}
use Rattle.overlay_pairs.proofs.near.find_by_blocks.Goals as goal

pub loop-at-init : goal.loop-at-init
loop-at-init g c =
    let width = c.args.strips.now.width in
    let ss = plain_extents g.I.IntNumber.whole c.args.strips.now.edges.items in
    let of = plain_extent g.I.IntNumber.whole c.args.of in
    let order = strips_in_order width c.requires.some c.args.of.first c.args.of.last c.requires.ordered in
    let from = c.on_by-stop.ensures.from in (
      omega (arith, order, from),
      subst (IsSearchedTo ss of (c.args.of.first / width * width)) (sym c.requires.empty)
          (searched_past (IsApart of) ss of 0 (c.args.of.first / width * width) []
          (strips_before_apart width c.requires.some ss of c.requires.strips) (searched_none (IsApart of) ss of)),
    )

pub loop-at-preserved : goal.loop-at-preserved
loop-at-preserved g c =
    let whole = g.I.IntNumber.whole in
    let of = plain_extent whole c.args.of in
    let at = c.loop-at.at in
    let end = c.on_by-end.result in
    let olds = c.loop-at.near.items in
    let news = c.push_block.new.near.items in
    let added = subst (λ (xs : List _). AreNearAdded (plain_extents whole xs) of at end olds news)
    c.deref.ensures.value c.in_ok-push_block.ensures.ok in (
      c.on_by-end.ensures.up_to,
      searched_added (IsApart of) (plain_extents whole c.args.strips.now.edges.items) of at end olds news
          (λ t apart. apart) added c.loop-at.invariant.1,
    )

pub returns : goal.returns
returns g c = record {
  ok = let width = c.args.strips.now.width in
      let extents = c.args.strips.now.edges.items in
      let ss = plain_extents g.I.IntNumber.whole extents in
      let of = plain_extent g.I.IntNumber.whole c.args.of in
      let stop = c.on_by-stop.result in
      let js = c.loop-at.near.items in
      let count : length ss ≡ length extents = length-map extents (plain_extent g.I.IntNumber.whole) in
      let ends : (stop ≡ length ss) ⊎ (stop ≡ c.args.of.last / width * width + width) = ⊎_elim
      (λ (all : stop ≡ c.len.result). inl (let l = c.len.ensures in omega (arith, all, l, count))) (λ next. inr next)
      c.on_by-stop.ensures.ends in
      subst (λ n. IsSearchedTo ss of n js) count
      (searched_past (IsApart of) ss of stop (length ss) js
      (strips_behind_apart width c.requires.some ss of c.requires.strips stop ends)
      (searched_before (IsApart of) ss of c.loop-at.at stop js c.loop-at-test.false c.loop-at.invariant.1));
}
