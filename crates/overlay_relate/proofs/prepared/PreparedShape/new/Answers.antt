-- The paths are added, arranged and bounded, or one of these is refused.
use Rattle.std.proofs.Common.{sym, subst}
use Rattle.std.proofs.lemmas.Result.{err_from_is_err_and}
use Rattle.overlay_geom.specs.Resolved.{plain_edges}
use Rattle.overlay_geom.specs.Rules.{is_filled}
use Rattle.overlay_geom.specs.declared.options.ShapeType.TheVariants.{Subject}
use Rattle.overlay_builder.specs.GivenPaths.{paths_for}
use Rattle.overlay_plane.specs.Balance.{HasBalancedCounts}
use Rattle.overlay_relate.specs.Bounded.{Bounds}
use Rattle.overlay_relate.specs.Prepared.{IsPreparedOf}
use Rattle.overlay_relate.proofs.PreparedOf.{paths_refused, arranging_refused, prepared}
use Rattle.overlay_relate.proofs.prepared.PreparedShape.new.Goals as goal

pub boundary_of-requires : goal.boundary_of-requires
boundary_of-requires g c = subst HasBalancedCounts (sym c.in_ok-graph.ensures.edges) c.in_ok-graph.ensures.balanced

pub returns-in_err-add_source : goal.returns-in_err-add_source
returns-in_err-add_source g c =
    let paths = paths_for Subject (g.R0.IntShapeResource.paths c.args.resource.now) in
    let p = err_from_is_err_and c.from_residual-in_err-add_source.result c.from_residual-in_err-add_source.ensures.1 in
    rw (p.1, p.2) (record {
      ok = tt;
      err = paths_refused c.args.solver c.args.fill_rule paths _ _ c.in_ok-overlay.ensures.ok
          c.in_err-add_source.field-0.0 c.in_err-add_source.ensures;
    })

pub returns-in_err-arrange : goal.returns-in_err-arrange
returns-in_err-arrange g c =
    let paths = paths_for Subject (g.R0.IntShapeResource.paths c.args.resource.now) in
    let p = err_from_is_err_and c.from_residual-in_err-arrange.result c.from_residual-in_err-arrange.ensures.1 in
    rw (p.1, p.2) (record {
      ok = tt;
      err = arranging_refused c.args.solver c.args.fill_rule paths _ _ c.in_ok-overlay.ensures.ok
          c.in_ok-add_source.field-0 c.in_ok-add_source.ensures g.I.IntNumber.limit c.in_err-arrange.field-0.0
          c.arrange.new.self
          c.in_err-arrange.ensures.query;
    })

pub returns-clause-ok : goal.returns-clause-ok
returns-clause-ok g c =
    let whole = g.I.IntNumber.whole in
    let paths = paths_for Subject (g.R0.IntShapeResource.paths c.args.resource.now) in
    let boundary = plain_edges whole c.in_ok-edges.edges.items in
    let arranged = c.arrange.new.self in
    let bounds : Bounds (is_filled arranged.fill_rule) arranged.edges boundary =
    subst (λ r. Bounds (is_filled r) arranged.edges boundary) c.in_ok-graph.ensures.rule
    (subst (λ es. Bounds (is_filled c.in_ok-graph.graph.fill_rule) es boundary) c.in_ok-graph.ensures.edges
    c.in_ok-edges.ensures.bounds) in
    subst (IsPreparedOf c.args.solver c.args.fill_rule paths) (sym c.in_ok-shape.ensures.ok)
    (prepared c.args.solver c.args.fill_rule paths _ _ c.in_ok-overlay.ensures.ok
    c.in_ok-add_source.field-0 c.in_ok-add_source.ensures c.in_ok-arrange.field-0 g.I.IntNumber.limit arranged
    c.in_ok-arrange.ensures.query c.in_ok-arrange.ensures.kept boundary bounds)
