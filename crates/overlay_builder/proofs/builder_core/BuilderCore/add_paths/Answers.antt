-- Each path is added after those before it; if one is refused, those before it stay.
use Rattle.std.proofs.Common.{◌≡◌, false, rules}
use Rattle.std.proofs.lemmas.Result.{err_from_is_err_and}
use Rattle.overlay_geom.specs.Points.{plain_points, AllInRange}
use Rattle.overlay_geom.proofs.ReadInOrder.{All-read}
use Rattle.overlay_builder.specs.PathLists.{carried_weight}
use Rattle.overlay_builder.specs.Paths.{passed_edge}
use Rattle.overlay_builder.proofs.SourcePaths.{none_added_first, next_added, next_refused}
use Rattle.overlay_builder.proofs.builder_core.BuilderCore.add_paths.Goals as goal

pub loop-index-init : goal.loop-index-init
loop-index-init g c =
    let ready : c.args.self.now.failed ≡ false = search rules in (
      none_added_first carried_weight c.args.kind (passed_edge g.C.EdgeCount.counts c.args.passing)
          (g.R0.IntShapeResource.paths c.args.resource.now) c.args.self.now ready
          c.check_usable.ensures.content.light,
      tt,
    )

pub add_path-requires-clause-points : goal.add_path-requires-clause-points
add_path-requires-clause-points g c =
    All-read (g.R0.IntShapeResource.paths c.args.resource.now) c.loop-index.index
    (plain_points g.I.IntNumber.whole c.path_at.result.now)
    c.path_at.ensures.path (AllInRange g.I.IntNumber.limit) c.requires.points

pub loop-index-preserved : goal.loop-index-preserved
loop-index-preserved g c = (
  next_added carried_weight c.args.kind (passed_edge g.C.EdgeCount.counts c.args.passing)
      (g.R0.IntShapeResource.paths c.args.resource.now) c.loop-index.index
      (plain_points g.I.IntNumber.whole c.path_at.result.now) c.path_at.ensures.path
      c.args.self.now c.loop-index.self c.loop-index.invariant.0 c.add_path.new.self c.in_ok-add_path.field-0
      c.in_ok-add_path.ensures.added,
  c.path_at.ensures.next,
)

pub returns-in_err-add_path : goal.returns-in_err-add_path
returns-in_err-add_path g c =
    let p = err_from_is_err_and c.from_residual-in_err-add_path.result c.from_residual-in_err-add_path.ensures.1 in
    rw (p.1, p.2)
    (next_refused carried_weight c.args.kind (passed_edge g.C.EdgeCount.counts c.args.passing)
    (g.R0.IntShapeResource.paths c.args.resource.now) c.loop-index.index
    (plain_points g.I.IntNumber.whole c.path_at.result.now) c.path_at.ensures.path
    c.args.self.now c.loop-index.self c.loop-index.invariant.0 c.add_path.new.self c.in_err-add_path.field-0.0
    c.in_err-add_path.ensures.added)
