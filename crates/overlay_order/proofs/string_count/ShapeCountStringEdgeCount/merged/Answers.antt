-- The counts are summed, and a bit is set if either has it.
use Rattle.std.proofs.Common.{rules, ◌≡◌, ◌+ℤ◌, w32, pos, to_z, of_z}
use Rattle.overlay_order.proofs.DirectionBits.{has_bit-or}
use Rattle.overlay_order.proofs.string_count.ShapeCountStringEdgeCount.merged.Goals as goal

pub returns-clause-counts : goal.returns-clause-counts
returns-clause-counts c =
    let a = c.args.self in
    let b = c.args.other in
    let summed : to_z w32 (of_z w32 (to_z w32 (of_z w32 a.subj) +ℤ to_z w32 (of_z w32 b.subj))) ≡ a.subj +ℤ b.subj =
    search rules in
    λ i. record {
      subj = summed i;
      clip = pos 0;
      along = has_bit-or a.clip b.clip 0 i;
      against =
          has_bit-or a.clip b.clip 1 i;
    }
