-- The law is proved in proofs/PlainRules.antt.
use Rattle.overlay_scaled.proofs.PlainRules.{plain_points_tell_rules}
use Rattle.overlay_scaled.proofs.plain.plain_points_tell_rules.Goals as goal

pub returns : goal.returns
returns c = plain_points_tell_rules
