-- Each path is one list more, and at the end all are.
use Rattle.std.proofs.Common.{◌++◌, [], ◌∷◌, ap, ap₂, sym, ◌∙◌, length, arith}
use Rattle.std.proofs.lemmas.List.{map-append, take_all}
use Rattle.overlay_geom.specs.Flat.{paths_in}
use Rattle.overlay_geom.specs.Paths.{paths_of_shape}
use Rattle.overlay_geom.specs.Points.{plain_points}
use Rattle.overlay_geom.proofs.ReadInOrder.{take_read}
use Rattle.overlay_string.proofs.string_overlay.clip.listed.Goals as goal

pub loop-index-preserved : goal.loop-index-preserved
loop-index-preserved g c =
    let whole = g.I.IntNumber.whole in
    let l = c.loop-index in
    ap (paths_of_shape whole) c.in_ok-push.ensures.items
    ∙ map-append (λ v. plain_points whole v.items) l.list.items (c.in_ok-copied.field-0 ∷ [])
    ∙ ap₂ (λ ps p. ps ++ p ∷ []) l.invariant (ap (plain_points whole) c.in_ok-copied.ensures.ok)
    ∙ sym (take_read (paths_in whole c.args.paths.now.points.items c.args.paths.now.ranges.items) l.index
    (plain_points whole c.path.result.now) c.path.ensures)

pub returns : goal.returns
returns g c =
    let paths = paths_in g.I.IntNumber.whole c.args.paths.now.points.items c.args.paths.now.ranges.items in
    c.loop-index.invariant ∙ take_all c.loop-index.index paths
    (omega (arith, c.path_count-index-end.ensures, c.loop-index-test.false))
