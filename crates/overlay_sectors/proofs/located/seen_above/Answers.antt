-- The sector next above the edge is found where the edge leads from the point.
use Rattle.std.proofs.Common.{subst, ◌∙◌}
use Rattle.std.proofs.lemmas.Bool.{both_ways}
use Rattle.overlay_sectors.specs.Seen.{AddsFilling}
use Rattle.overlay_sectors.proofs.located.seen_above.Goals as goal

pub returns-then-leads_from-clause-ray : goal.returns-then-leads_from-clause-ray
returns-then-leads_from-clause-ray g c = λ leads.
    subst (λ t. AddsFilling t c.args.seen c.with.result) c.fills_sector-is_filled.ensures
    (record { filled = c.with.ensures.filled; empty = c.with.ensures.empty })

pub returns-then-leads_from-clause-other : goal.returns-then-leads_from-clause-other
returns-then-leads_from-clause-other g c = λ apart.
    absurd (both_ways c.leads_from.result (c.leads_from.ensures ∙ apart) c.if-leads_from.true)

pub returns-clause-ray : goal.returns-clause-ray
returns-clause-ray g c = λ leads.
    absurd (both_ways c.leads_from.result c.if-leads_from.false (c.leads_from.ensures ∙ leads))
