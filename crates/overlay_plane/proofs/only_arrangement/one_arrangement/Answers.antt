-- The laws are proved in proofs/OneArrangement.antt.
use Rattle.overlay_plane.proofs.OneArrangement.{one_arrangement, one_snapped_arrangement, one_arrangement_of_shuffled}
use Rattle.overlay_plane.proofs.OneArrangement.{one_whole_arrangement, light_snaps_are_not_heavy}
use Rattle.overlay_plane.proofs.only_arrangement.one_arrangement.Goals as goal

pub returns-clause-rounds : goal.returns-clause-rounds
returns-clause-rounds c = one_arrangement

pub returns-clause-snapped : goal.returns-clause-snapped
returns-clause-snapped c = one_snapped_arrangement

pub returns-clause-shuffled : goal.returns-clause-shuffled
returns-clause-shuffled c = one_arrangement_of_shuffled

pub returns-clause-light : goal.returns-clause-light
returns-clause-light c = light_snaps_are_not_heavy

pub returns-clause-whole : goal.returns-clause-whole
returns-clause-whole c = one_whole_arrangement
