-- From one point the cross product tells.
use Rattle.std.proofs.Common.{ap, sym, ◌∙◌}
use Rattle.std.specs.Ordering.{is_lt}
use Rattle.overlay_plane.proofs.TiedStarts.{tied_before}
use Rattle.overlay_relate.specs.Sweeps.{wide_edge}
use Rattle.overlay_relate.proofs.starts.compare_starts.Goals as goal

pub returns-in-Equal : goal.returns-in-Equal
returns-in-Equal g c =
    let whole = g.I.IntNumber.whole in
    ap is_lt c.sign.ensures
    ∙ tied_before (wide_edge whole c.args.e.now) (wide_edge whole c.args.f.now) _ (sym c.in-Equal.ensures)
    c.cross_at.ensures.value
