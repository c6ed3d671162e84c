-- The options are the default ones.
use Rattle.i_overlay.proofs.Builders.{made_empty}
use Rattle.i_overlay.proofs.overlay.Overlay.new.Goals as goal

pub returns-clause-made : goal.returns-clause-made
returns-clause-made g c =
    made_empty g.I.WideUInt.UIntNumber.natural c.default-options.result c.default-options.ensures c.new_custom.result
    c.new_custom.ensures.ok
