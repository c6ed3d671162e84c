-- The comparison answers `Less` for the smaller number.
use Rattle.std.proofs.Common.{ap, ◌∙◌}
use Rattle.std.specs.Ordering.{is_lt}
use Rattle.overlay_geom.proofs.Comparisons.{is_lt-int_cmp}
use Rattle.overlay_pairs.proofs.extents.is_less.Goals as goal

pub returns : goal.returns
returns g c =
    let whole = g.I.IntNumber.whole in
    c.is_lt.ensures ∙ ap is_lt c.compare.ensures ∙ is_lt-int_cmp (whole c.args.y) (whole c.args.z)
