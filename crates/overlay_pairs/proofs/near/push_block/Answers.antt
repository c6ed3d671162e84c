-- The places in front are put behind the others.
use Rattle.std.proofs.Common.{sym, subst, take}
use Rattle.overlay_pairs.specs.Extents.{plain_extent, plain_extents}
use Rattle.overlay_pairs.specs.Near.{AreNearAdded}
use Rattle.overlay_pairs.proofs.Searches.{added_behind}
use Rattle.overlay_pairs.proofs.near.push_block.Goals as goal

pub returns-in_ok-extend_from_slice : goal.returns-in_ok-extend_from_slice
returns-in_ok-extend_from_slice g c =
    let ss = plain_extents g.I.IntNumber.whole c.args.extents.now in
    let of = plain_extent g.I.IntNumber.whole c.args.of in
    let olds = c.args.near.now.items in record {
      ok = subst (AreNearAdded ss of c.args.from c.args.to olds) (sym c.in_ok-extend_from_slice.ensures.items)
          (added_behind ss of c.args.from olds c.args.to (take c.put_near-count.result c.put_near-count.new.places)
          c.put_near-count.ensures.put);
    }
