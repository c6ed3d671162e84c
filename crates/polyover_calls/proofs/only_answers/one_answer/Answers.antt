-- The laws are proved in proofs/OneAnswer.antt.
use Rattle.polyover_calls.proofs.OneAnswer.{one_overlay, one_linked_overlay, one_listing, one_simplification_of_arrays}
use Rattle.polyover_calls.proofs.OneAnswer.{one_slicing, one_tiling, one_clip, one_relating}
use Rattle.polyover_calls.proofs.OneRelation.{one_relation_of_all}
use Rattle.polyover_calls.proofs.only_answers.one_answer.Goals as goal

pub returns-clause-overlay : goal.returns-clause-overlay
returns-clause-overlay g c = one_overlay g.I.IntNumber.whole g.I.IntNumber.limit g.met.I.IntNumber.same
    g.I.Wide.WideIntNumber.width g.I.WideUInt.UIntNumber.natural

pub returns-clause-hierarchy : goal.returns-clause-hierarchy
returns-clause-hierarchy g c = one_linked_overlay g.I.IntNumber.whole g.I.IntNumber.limit g.met.I.IntNumber.same
    g.I.Wide.WideIntNumber.width g.I.WideUInt.UIntNumber.natural

pub returns-clause-edges : goal.returns-clause-edges
returns-clause-edges g c = one_listing g.I.IntNumber.whole g.I.IntNumber.limit g.met.I.IntNumber.same

pub returns-clause-simplify : goal.returns-clause-simplify
returns-clause-simplify g c = one_simplification_of_arrays g.I.IntNumber.whole g.I.IntNumber.limit
    g.met.I.IntNumber.same g.I.Wide.WideIntNumber.width g.I.WideUInt.UIntNumber.natural

pub returns-clause-slice : goal.returns-clause-slice
returns-clause-slice g c = one_slicing g.I.IntNumber.whole g.I.IntNumber.limit g.met.I.IntNumber.same
    g.I.Wide.WideIntNumber.width

pub returns-clause-tiles : goal.returns-clause-tiles
returns-clause-tiles g c = one_tiling g.I.IntNumber.whole g.I.IntNumber.limit g.met.I.IntNumber.same
    g.I.Wide.WideIntNumber.width

pub returns-clause-clip : goal.returns-clause-clip
returns-clause-clip g c = one_clip g.I.IntNumber.whole g.I.IntNumber.limit g.met.I.IntNumber.same

pub returns-clause-relate : goal.returns-clause-relate
returns-clause-relate g c = one_relating g.I.IntNumber.whole g.I.IntNumber.limit

pub returns-clause-relate_one : goal.returns-clause-relate_one
returns-clause-relate_one g c = one_relation_of_all g.I.IntNumber.whole g.I.IntNumber.limit
