-- One contour more.
use Rattle.std.proofs.Common.{◌++◌, ◌∷◌, [], take, sym, ap, ◌∙◌, subst}
use Rattle.std.proofs.lemmas.Grind.{flat_map-append}
use Rattle.std.proofs.lemmas.List.{append-nil}
use Rattle.overlay_geom.specs.Paths.{paths_of_shape}
use Rattle.overlay_geom.specs.Points.{plain_points, AllInRange}
use Rattle.overlay_geom.specs.Resolved.{plain_edges, edges_of}
use Rattle.overlay_geom.proofs.Mapped.{All-mapped_at, mapped_more, mapped_whole}
use Rattle.overlay_relate.specs.Locations.{shape_edges}
use Rattle.overlay_located.proofs.contour_edges.shape_edges.Goals as goal

pub push_contour-requires-clause-contour : goal.push_contour-requires-clause-contour
push_contour-requires-clause-contour g c =
    let whole = g.I.IntNumber.whole in
    subst (λ xs. AllInRange g.I.IntNumber.limit (plain_points whole xs)) (sym c.deref.ensures.value)
    (All-mapped_at (AllInRange g.I.IntNumber.limit) (λ x. plain_points g.I.IntNumber.whole x.items) c.args.contours.now
    c.loop-contour.contour-index c.contour-item.result
    c.loop-contour-test.true c.contour-item.is c.requires)

pub loop-contour-preserved : goal.loop-contour-preserved
loop-contour-preserved g c =
    let whole = g.I.IntNumber.whole in
    let seen = paths_of_shape whole (take c.loop-contour.contour-index c.args.contours.now) in
    let here = plain_points whole c.contour-item.result.items in (
      c.in_ok-push_contour.ensures.ok
          ∙ ap (λ ps. plain_edges whole c.loop-contour.edges.items ++ edges_of (plain_points whole ps))
          c.deref.ensures.value
          ∙ ap (λ es. es ++ edges_of here) c.loop-contour.invariant.0
          ∙ sym (ap shape_edges (mapped_more (λ x. plain_points g.I.IntNumber.whole x.items) c.args.contours.now
          c.loop-contour.contour-index c.contour-item.result c.loop-contour-test.true c.contour-item.is)
          ∙ flat_map-append edges_of seen (here ∷ [])
          ∙ ap (λ es. shape_edges seen ++ es) (append-nil (edges_of here))),
      c.push_contour.ensures.long,
    )

pub returns-clause-edges : goal.returns-clause-edges
returns-clause-edges g c =
    c.loop-contour.invariant.0 ∙ ap shape_edges (mapped_whole (λ x. plain_points g.I.IntNumber.whole x.items)
    c.args.contours.now c.loop-contour.contour-index c.loop-contour-test.false)

pub returns-clause-long : goal.returns-clause-long
returns-clause-long g c = c.loop-contour.invariant.1
