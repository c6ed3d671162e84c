-- The laws are proved in proofs/OneLocation.antt.
use Rattle.overlay_relate.proofs.OneLocation.{one_location_in, one_location_among, one_location_under, one_location_by}
use Rattle.overlay_relate.proofs.only_relations.one_location.Goals as goal

pub returns-clause-shape : goal.returns-clause-shape
returns-clause-shape c = one_location_in

pub returns-clause-shapes : goal.returns-clause-shapes
returns-clause-shapes c = one_location_among

pub returns-clause-under : goal.returns-clause-under
returns-clause-under c = one_location_under

pub returns-clause-by_edges : goal.returns-clause-by_edges
returns-clause-by_edges c = one_location_by
