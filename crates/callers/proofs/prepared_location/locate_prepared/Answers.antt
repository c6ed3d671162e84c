-- The boundary that is kept is that of an arrangement, in which the point lies so.
use Rattle.overlay_geom.specs.Rules.{is_filled}
use Rattle.callers.proofs.prepared_location.locate_prepared.Goals as goal

pub returns : goal.returns
returns g c =
    let prepared = c.in_ok-shape.ensures.ok in (
      prepared.edges,
      (
        prepared.arranged,
        c.locate.ensures.located (is_filled c.args.fill_rule) prepared.edges
            prepared.bounds,
      ),
    )
