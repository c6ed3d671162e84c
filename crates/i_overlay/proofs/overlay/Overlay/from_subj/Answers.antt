-- The options are the default ones.
use Rattle.i_overlay.proofs.Builders.{made_new}
use Rattle.i_overlay.proofs.overlay.Overlay.from_subj.Goals as goal

pub returns-clause-made : goal.returns-clause-made
returns-clause-made g c =
    made_new g.I.WideUInt.UIntNumber.natural c.default.result c.default.ensures c.from_subj_custom.result
    c.from_subj_custom.ensures.made
