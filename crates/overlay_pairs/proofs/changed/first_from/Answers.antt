-- The search by halves finds the end of the front of earlier places.
use Rattle.std.proofs.Common.{◌≡◌, nat_lt, rules}
use Rattle.std.proofs.lemmas.List.Sorted.{IsPartitionPoint-from_clause}
use Rattle.overlay_pairs.proofs.NearChanged.{before-parted, first_from, is_before}
use Rattle.overlay_pairs.proofs.changed.first_from.Goals as goal

pub returns : goal.returns
returns c =
    let places = c.args.places.now in
    let i = c.args.i in
    first_from i places _ c.partition_point.ensures.bound
    (IsPartitionPoint-from_clause (is_before i) places _ c.partition_point.ensures.partitioned
    (before-parted i places c.requires) (λ a r q k.
    let answer : r ≡ nat_lt a.0.now i = search rules in
    (answer, search rules)))
