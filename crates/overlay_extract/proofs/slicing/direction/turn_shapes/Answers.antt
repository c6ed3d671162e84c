-- One shape more is turned.
use Rattle.std.proofs.Common.{◌≡◌, ◌+◌, suc, [], map, reverse, length, set, get_or, sym, ap, ◌∙◌, arith}
use Rattle.std.proofs.lemmas.List.{length-map, map-set}
use Rattle.overlay_geom.proofs.Mapped.{read_mapped}
use Rattle.overlay_geom.specs.Paths.{paths_of_shape, plain_shapes}
use Rattle.overlay_extract.proofs.ChangedLists.{changed, changed_all, changed_more, length-changed, read_changed}
use Rattle.overlay_extract.proofs.slicing.direction.turn_shapes.Goals as goal

pub index_mut-requires : goal.index_mut-requires
index_mut-requires g c =
    let whole = g.I.IntNumber.whole in
    let l = c.loop-i in
    let now = length-map l.shapes.items (λ (v : _). paths_of_shape whole v.items) in
    let old = length-map c.args.shapes.now.items (λ (v : _). paths_of_shape whole v.items) in
    let same = ap length l.invariant in
    let as_long = length-changed (map reverse) l.i (plain_shapes whole c.args.shapes.now.items) in
    let inside = c.loop-i-test.true in
    omega arith

pub loop-i-preserved : goal.loop-i-preserved
loop-i-preserved g c =
    let whole = g.I.IntNumber.whole in
    let l = c.loop-i in
    let shape = c.index_mut.result.now in
    let before = plain_shapes whole c.args.shapes.now.items in
    let now = length-map l.shapes.items (λ (v : _). paths_of_shape whole v.items) in
    let old = length-map c.args.shapes.now.items (λ (v : _). paths_of_shape whole v.items) in
    let same = ap length l.invariant in
    let as_long = length-changed (map reverse) l.i before in
    let next : suc l.i ≡ l.i + 1 = omega arith in
    let inside = c.loop-i-test.true in
    map-set (λ (v : _). paths_of_shape whole v.items) l.shapes.items l.i c.turn_shape.new.shape
    ∙ ap (set (plain_shapes whole l.shapes.items) l.i)
    (c.turn_shape.ensures
    ∙ ap (map reverse) (sym (read_mapped (λ (v : _). paths_of_shape whole v.items) l.shapes.items l.i shape []
    (omega arith) c.index_mut.ensures.value)
    ∙ ap (λ ss. get_or ss l.i []) l.invariant ∙ read_changed (map reverse) l.i before []))
    ∙ ap (λ ss. set ss l.i (map reverse (get_or before l.i []))) l.invariant
    ∙ changed_more (map reverse) l.i before [] (omega arith)
    ∙ ap (λ k. changed (map reverse) k before) next

pub returns : goal.returns
returns g c =
    let whole = g.I.IntNumber.whole in
    let l = c.loop-i in
    let before = plain_shapes whole c.args.shapes.now.items in
    let past = c.loop-i-test.false in
    let old = length-map c.args.shapes.now.items (λ (v : _). paths_of_shape whole v.items) in
    l.invariant ∙ changed_all (map reverse) l.i before (omega arith)
