-- The laws are proved in proofs/SnappedFar.antt.
use Rattle.i_overlay.proofs.SnappedFar.{winds_round_given, result_winds, hierarchy_winds, simplified_winds}
use Rattle.i_overlay.proofs.SnappedFar.{slices_wind, tiles_wind}
use Rattle.i_overlay.proofs.snapped_far.snapped_winds_far.Goals as goal

pub returns-clause-given : goal.returns-clause-given
returns-clause-given c = winds_round_given

pub returns-clause-result : goal.returns-clause-result
returns-clause-result c = result_winds

pub returns-clause-hierarchy : goal.returns-clause-hierarchy
returns-clause-hierarchy c = hierarchy_winds

pub returns-clause-simplified : goal.returns-clause-simplified
returns-clause-simplified c = simplified_winds

pub returns-clause-slices : goal.returns-clause-slices
returns-clause-slices c = slices_wind

pub returns-clause-tiles : goal.returns-clause-tiles
returns-clause-tiles c = tiles_wind
