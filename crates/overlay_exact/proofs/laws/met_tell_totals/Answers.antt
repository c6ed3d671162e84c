-- The places of a list are picked one by one.
use Rattle.overlay_exact.proofs.MetTotals.{totals_told}
use Rattle.overlay_exact.proofs.laws.met_tell_totals.Goals as goal

pub returns : goal.returns
returns c f es i e ms from end p given place of = totals_told es i e ms given from end p place f of
