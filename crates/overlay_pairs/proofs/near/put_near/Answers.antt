-- A further box: it lies apart, or its place is added.
use Rattle.std.proofs.Common.{◌≡◌, ◌<◌, [], take, length, subst, arith}
use Rattle.overlay_pairs.specs.Extents.{plain_extent, plain_extents}
use Rattle.overlay_pairs.specs.Near.{AreNearAdded}
use Rattle.overlay_pairs.proofs.Entries.{placed_in_mapped}
use Rattle.overlay_pairs.proofs.Searches.{added_none, added_put}
use Rattle.overlay_pairs.proofs.near.put_near.Goals as goal

pub loop-k-init : goal.loop-k-init
loop-k-init g c = (
  (let room = c.requires.room in omega (arith, room)),
  added_none (plain_extents g.I.IntNumber.whole c.args.extents.now) (plain_extent g.I.IntNumber.whole c.args.of)
      c.args.from [],
)

pub loop-k-preserved : goal.loop-k-preserved
loop-k-preserved g c =
    let plain = plain_extent g.I.IntNumber.whole in
    let extents = c.args.extents.now in
    let k = c.loop-k.k in
    let t = c.index-extents-k.result in
    let less = c.loop-k-test.true in
    let inside : k < length extents = (let within = c.requires.within in omega (arith, less, within)) in
    let put = c.put_unless-count in
    let room = c.loop-k.invariant.0 in
    let most = put.ensures.most in
    let same = put.ensures.length in (
      omega (arith, room, most, same, less),
      added_put (plain_extents g.I.IntNumber.whole extents) (plain c.args.of) c.args.from [] k (plain t)
          (placed_in_mapped plain extents k t inside c.index-extents-k.is)
          (take c.loop-k.count c.loop-k.places) c.loop-k.invariant.1 c.is_apart.result
          (take put.result put.new.near) c.is_apart.ensures put.ensures.passed put.ensures.put,
    )

pub returns : goal.returns
returns g c = record {
  most = let room = c.loop-k.invariant.0 in omega (arith, room);
  put =
      let past = c.loop-k-test.false in
      let up = c.loop-k.auto.k-end c.requires.ordered in
      let same : c.loop-k.k ≡ c.args.to = omega (arith, past, up) in
      subst (λ n. AreNearAdded (plain_extents g.I.IntNumber.whole c.args.extents.now) (plain_extent
      g.I.IntNumber.whole c.args.of) c.args.from n [] (take c.loop-k.count c.loop-k.places)) same c.loop-k.invariant.1;
}
