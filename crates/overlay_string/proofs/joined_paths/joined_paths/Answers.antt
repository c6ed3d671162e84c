-- Each path is that of the first piece that is open, and stands behind those before it.
use Rattle.std.proofs.Common.{[], ◌∷◌, ◌++◌, ap, sym, ◌∙◌, subst, subst₂}
use Rattle.overlay_geom.specs.Flat.{paths_in}
use Rattle.overlay_geom.specs.Packed.{IsPacked}
use Rattle.overlay_geom.specs.Points.{plain_points}
use Rattle.overlay_geom.proofs.PackedPaths.{packed_none, packed_inside, packed_more}
use Rattle.overlay_string.specs.Pieces.{plain_piece}
use Rattle.overlay_string.proofs.JoinedPaths.{AreJoinedSoFar, none_joined, one_more_joined, all_joined}
use Rattle.overlay_string.proofs.JoinedPaths.{path_leaves_fewer}
use Rattle.overlay_string.proofs.joined_paths.joined_paths.Goals as goal

pub loop-piece-init : goal.loop-piece-init
loop-piece-init g c =
    let points = c.new.result.items in
    let ranges = c.new-2.result.items in (
      subst (AreJoinedSoFar c.args.pieces.now c.args.pieces.now)
          (sym (ap (paths_in g.I.IntNumber.whole points) c.new-2.ensures.items)) (none_joined c.args.pieces.now),
      packed_none points ranges c.new.ensures.items c.new-2.ensures.items,
    )

pub loop-piece-smaller : goal.loop-piece-smaller
loop-piece-smaller g c =
    let whole = g.I.IntNumber.whole in
    path_leaves_fewer c.loop-piece.pieces c.take_first.new.self (plain_piece whole c.in-Some.piece) c.in-Some.ensures
    c.write_path.new.pieces (plain_points whole c.write_path.new.path.items) c.in_ok-write_path.ensures.ok

pub loop-piece-preserved : goal.loop-piece-preserved
loop-piece-preserved g c =
    let whole = g.I.IntNumber.whole in
    let l = c.loop-piece in
    let points = l.paths.points.items in
    let ranges = l.paths.ranges.items in
    let path = c.deref.result.now in
    let added = c.in-Ok.ensures in
    let packed = l.invariant.1 in (
      one_more_joined c.args.pieces.now l.pieces c.take_first.new.self (paths_in whole points ranges) l.invariant.0
          (plain_piece whole c.in-Some.piece) c.in-Some.ensures c.write_path.new.pieces
          (plain_points whole c.write_path.new.path.items) c.in_ok-write_path.ensures.ok
          (paths_in whole c.add_contour.new.self.points.items c.add_contour.new.self.ranges.items)
          (added.paths (packed_inside points ranges packed)
          ∙ ap (λ ps. paths_in whole points ranges ++ plain_points whole ps ∷ []) c.deref.ensures.value),
      subst₂ (λ ps rs. IsPacked ps rs) (sym added.points) (sym added.ranges) (packed_more points path ranges packed),
    )

pub returns-clause-paths : goal.returns-clause-paths
returns-clause-paths g c =
    let l = c.loop-piece in
    all_joined c.args.pieces.now l.pieces c.take_first.new.self
    (paths_in g.I.IntNumber.whole l.paths.points.items l.paths.ranges.items) l.invariant.0 c.in_default.ensures

pub returns-clause-packed : goal.returns-clause-packed
returns-clause-packed g c = c.loop-piece.invariant.1
