-- The laws are proved in proofs/OneVectorShapes.antt.
use Rattle.overlay_vector.proofs.OneVectorShapes.{vector_shapes_show_one_list, one_list_of_vector_shapes}
use Rattle.overlay_vector.proofs.laws.one_list_of_vector_shapes.Goals as goal

pub returns-clause-shown : goal.returns-clause-shown
returns-clause-shown g c = vector_shapes_show_one_list g.D.OverlayEdgeData.reverses g.D.PartialEq.eq

pub returns-clause-kept : goal.returns-clause-kept
returns-clause-kept g c = one_list_of_vector_shapes g.D.OverlayEdgeData.reverses g.D.PartialEq.eq
