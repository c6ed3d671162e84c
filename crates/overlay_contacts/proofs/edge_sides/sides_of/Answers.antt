-- The masks test the bits of the four sides.
use Rattle.overlay_order.proofs.DirectionBits.{has_bit-masked}
use Rattle.overlay_contacts.proofs.edge_sides.sides_of.Goals as goal

pub returns : goal.returns
returns c =
    let n = c.args.fill in
    λ i. record {
      subj_above = has_bit-masked n 0 i;
      subj_below = has_bit-masked n 1 i;
      clip_above = has_bit-masked n 2 i;
      clip_below = has_bit-masked n 3 i;
    }
