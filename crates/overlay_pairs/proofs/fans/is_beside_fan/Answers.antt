-- The end that they share is the corner.
use Rattle.overlay_pairs.proofs.fans.is_beside_fan.Goals as goal

pub returns-then-shares_corner : goal.returns-then-shares_corner
returns-then-shares_corner g c = λ yes.
    let it = c.shares_corner.ensures c.if-shares_corner.true in
    record { corner = it.0; round = it.1; ends = it.2; aside = c.is_turned_aside.ensures yes }
