-- The boxes of a further block: their places are added to those of the blocks before.
use Rattle.std.proofs.Common.{◌≡◌, refl, subst, arith}
use Rattle.overlay_pairs.specs.Extents.{plain_extent, plain_extents}
use Rattle.overlay_pairs.specs.Near.{AreNearAdded}
use Rattle.overlay_pairs.proofs.Searches.{added_further, added_none}
use Rattle.overlay_pairs.proofs.near.push_near.Goals as goal

pub loop-at-init : goal.loop-at-init
loop-at-init g c = (
  omega arith,
  c.requires.ordered,
  added_none (plain_extents g.I.IntNumber.whole c.args.extents.now) (plain_extent g.I.IntNumber.whole c.args.of)
      c.args.from c.args.near.now.items,
)

pub loop-at-preserved : goal.loop-at-preserved
loop-at-preserved g c =
    let end = c.on_by-end in
    let past = c.loop-at.invariant.0 in
    let on = end.ensures.from in (
      omega (arith, past, on),
      end.ensures.up_to,
      added_further (plain_extents g.I.IntNumber.whole c.args.extents.now) (plain_extent g.I.IntNumber.whole c.args.of)
          c.args.from c.args.near.now.items c.loop-at.at end.result c.loop-at.near.items c.push_block.new.near.items
          c.loop-at.invariant.2 c.in_ok-push_block.ensures.ok,
    )

pub returns : goal.returns
returns g c = record {
  ok =
      let past = c.loop-at-test.false in
      let most = c.loop-at.invariant.1 in
      let same : c.loop-at.at ≡ c.args.to = omega (arith, past, most) in
      subst (λ n. AreNearAdded (plain_extents g.I.IntNumber.whole c.args.extents.now) (plain_extent
      g.I.IntNumber.whole c.args.of) c.args.from n c.args.near.now.items c.loop-at.near.items) same
      c.loop-at.invariant.2;
}
