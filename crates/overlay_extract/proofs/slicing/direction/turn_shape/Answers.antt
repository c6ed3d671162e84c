-- One contour more is turned.
use Rattle.std.proofs.Common.{◌≡◌, ◌+◌, suc, [], reverse, length, set, get_or, sym, ap, ◌∙◌, arith}
use Rattle.std.proofs.lemmas.List.{length-map, map-set}
use Rattle.overlay_geom.proofs.Mapped.{read_mapped}
use Rattle.overlay_geom.specs.Paths.{paths_of_shape}
use Rattle.overlay_geom.specs.Points.{plain_point, plain_points}
use Rattle.overlay_extract.proofs.ChangedLists.{map-reverse, changed, changed_all, changed_more, length-changed}
use Rattle.overlay_extract.proofs.ChangedLists.{read_changed}
use Rattle.overlay_extract.proofs.slicing.direction.turn_shape.Goals as goal

pub index_mut-requires : goal.index_mut-requires
index_mut-requires g c =
    let whole = g.I.IntNumber.whole in
    let l = c.loop-i in
    let now = length-map l.shape.items (λ (v : _). plain_points whole v.items) in
    let old = length-map c.args.shape.now.items (λ (v : _). plain_points whole v.items) in
    let same = ap length l.invariant in
    let as_long = length-changed reverse l.i (paths_of_shape whole c.args.shape.now.items) in
    let inside = c.loop-i-test.true in
    omega arith

pub loop-i-preserved : goal.loop-i-preserved
loop-i-preserved g c =
    let whole = g.I.IntNumber.whole in
    let l = c.loop-i in
    let contour = c.index_mut.result.now in
    let before = paths_of_shape whole c.args.shape.now.items in
    let now = length-map l.shape.items (λ (v : _). plain_points whole v.items) in
    let old = length-map c.args.shape.now.items (λ (v : _). plain_points whole v.items) in
    let same = ap length l.invariant in
    let as_long = length-changed reverse l.i before in
    let next : suc l.i ≡ l.i + 1 = omega arith in
    let inside = c.loop-i-test.true in
    map-set (λ (v : _). plain_points whole v.items) l.shape.items l.i c.reverse.new.self
    ∙ ap (set (paths_of_shape whole l.shape.items) l.i)
    (ap (plain_points whole) c.reverse.ensures.items ∙ map-reverse (plain_point whole) contour.items
    ∙ ap reverse (sym (read_mapped (λ (v : _). plain_points whole v.items) l.shape.items l.i contour [] (omega arith)
    c.index_mut.ensures.value)
    ∙ ap (λ ps. get_or ps l.i []) l.invariant ∙ read_changed reverse l.i before []))
    ∙ ap (λ ps. set ps l.i (reverse (get_or before l.i []))) l.invariant
    ∙ changed_more reverse l.i before [] (omega arith)
    ∙ ap (λ k. changed reverse k before) next

pub returns : goal.returns
returns g c =
    let whole = g.I.IntNumber.whole in
    let l = c.loop-i in
    let before = paths_of_shape whole c.args.shape.now.items in
    let past = c.loop-i-test.false in
    let old = length-map c.args.shape.now.items (λ (v : _). plain_points whole v.items) in
    l.invariant ∙ changed_all reverse l.i before (omega arith)
