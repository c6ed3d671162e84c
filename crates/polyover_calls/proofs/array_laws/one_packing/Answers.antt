-- The laws are proved in proofs/OnePacking.antt.
use Rattle.polyover_calls.proofs.OnePacking.{one_packing, one_packing_of_shapes}
use Rattle.polyover_calls.proofs.array_laws.one_packing.Goals as goal

pub returns-clause-paths : goal.returns-clause-paths
returns-clause-paths g c = one_packing g.I.IntNumber.whole g.met.I.IntNumber.same

pub returns-clause-shapes : goal.returns-clause-shapes
returns-clause-shapes g c = one_packing_of_shapes g.I.IntNumber.whole g.met.I.IntNumber.same
