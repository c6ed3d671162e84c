-- The blocks are made of the edges that are kept.
use Rattle.std.proofs.Common.{subst}
use Rattle.std.specs.List.{All}
use Rattle.overlay_geom.specs.Resolved.{plain_edges}
use Rattle.overlay_relate.specs.Blocks.{plain_blocks, IsBlockOf}
use Rattle.overlay_relate.proofs.prepared.PreparedShape.bounded_by.Goals as goal

pub invariant_of-result : goal.invariant_of-result
invariant_of-result g c =
    let whole = g.I.IntNumber.whole in record {
      long = c.requires;
      blocks_of = subst (λ es. All (IsBlockOf (plain_edges whole es)) (plain_blocks whole c.in_ok-blocks.blocks.items))
          c.deref.ensures.value c.in_ok-blocks.ensures.ok;
      groups_of = subst (λ es. All (IsBlockOf (plain_edges whole es)) (plain_blocks whole c.in_ok-groups.groups.items))
          c.deref-2.ensures.value c.in_ok-groups.ensures.ok;
    }
