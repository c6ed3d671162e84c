-- The widened product is exact.
use Rattle.std.proofs.Common.{sym, subst}
use Rattle.overlay_geom.specs.Numbers.{Within}
use Rattle.overlay_given.proofs.StepBounds.{within_32, times_small, widened_times}
use Rattle.overlay_given.proofs.steps.times.Goals as goal

pub returns-clause-value : goal.returns-clause-value
returns-clause-value c = widened_times c.args.count c.args.steps _ _ c.ranges.count c.ranges.steps c.from.ensures
    c.from-2.ensures

pub returns-clause-near : goal.returns-clause-near
returns-clause-near c = subst (Within 4294967296) (sym (widened_times c.args.count c.args.steps _ _ c.ranges.count
    c.ranges.steps c.from.ensures c.from-2.ensures))
    (times_small 2147483648 c.args.count c.args.steps (within_32 c.args.count c.ranges.count) c.requires)
