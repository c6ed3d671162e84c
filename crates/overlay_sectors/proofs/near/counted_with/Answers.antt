-- The count is added, or none.
use Rattle.std.proofs.Common.{cond, pos, ◌+ℤ◌, sym, ap, ◌∙◌}
use lib.IntN.{+ℤ_idr}
use Rattle.overlay_sectors.proofs.near.counted_with.Goals as goal

pub returns-then-is_below_near : goal.returns-then-is_below_near
returns-then-is_below_near g c = c.with.ensures
    ∙ ap (λ b. c.args.counted.sum +ℤ cond b (g.C.EdgeCount.counts c.args.e.now.count).subj (pos 0))
    (sym c.if-is_below_near.true ∙ c.is_below_near.ensures)

pub returns : goal.returns
returns g c = sym (+ℤ_idr c.args.counted.sum)
    ∙ ap (λ b. c.args.counted.sum +ℤ cond b (g.C.EdgeCount.counts c.args.e.now.count).subj (pos 0))
    (sym c.if-is_below_near.false ∙ c.is_below_near.ensures)
