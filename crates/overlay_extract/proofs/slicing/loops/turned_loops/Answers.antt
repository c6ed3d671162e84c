-- One more loop is turned round.
use Rattle.std.proofs.Common.{rules, [], ◌∷◌, ◌++◌, List, map, take, drop, sym, ap, ap₂, ◌∙◌, arith}
use Rattle.std.proofs.lemmas.List.{map-append}
use Rattle.overlay_geom.specs.Plane.{Step}
use Rattle.overlay_geom.proofs.Mapped.{All-mapped_at, mapped_more, mapped_whole}
use Rattle.overlay_plane.specs.Groups.{IsSimpleContour}
use Rattle.overlay_extract.specs.ClosedWalks.{turned_loop}
use Rattle.overlay_extract.proofs.LoopsFound.{some_back}
use Rattle.overlay_extract.proofs.TourSplits.{rotated_plain}
use Rattle.overlay_walk.specs.Steps.{plain_steps}
use Rattle.overlay_walk.specs.Walks.{plain_walks}
use Rattle.overlay_extract.proofs.slicing.loops.turned_loops.Goals as goal

pub rotate_left-requires : goal.rotate_left-requires
rotate_left-requires g c =
    let whole = g.I.IntNumber.whole in
    let loop = c.index-loops-i.result in
    let is = rw c.deref.ensures.value at c.in_ok-back.ensures.back in
    let some = some_back whole (plain_steps whole loop.items)
    (All-mapped_at IsSimpleContour (λ (w : _). plain_steps whole w.items) c.args.loops.now c.loop-i.i loop
    c.loop-i-test.true c.index-loops-i.is c.requires) c.in_ok-back.back.items is in
    search (rules, some)

pub loop-i-preserved : goal.loop-i-preserved
loop-i-preserved g c =
    let whole = g.I.IntNumber.whole in
    let l = c.loop-i in
    let loops = c.args.loops.now in
    let loop = c.index-loops-i.result in
    let back = c.in_ok-back.back.items in
    let is = rw c.deref.ensures.value at c.in_ok-back.ensures.back in
    rw (c.in_ok-push.ensures.items, map-append, c.rotate_left.ensures.items)
    (ap₂ (λ xs y. xs ++ y ∷ []) l.invariant (rotated_plain whole 1 back
    ∙ ap (λ (ss : List Step). drop 1 ss ++ take 1 ss) is)
    ∙ sym (map-append turned_loop (plain_walks whole (take l.i loops)) (plain_steps whole loop.items ∷ []))
    ∙ ap (map turned_loop) (sym (mapped_more (λ (w : _). plain_steps whole w.items) loops l.i loop c.loop-i-test.true
    c.index-loops-i.is)))

pub returns : goal.returns
returns g c = record {
  turned = let whole = g.I.IntNumber.whole in
      let past = c.loop-i-test.false in
      c.loop-i.invariant ∙ ap (map turned_loop)
      (mapped_whole (λ (w : _). plain_steps whole w.items) c.args.loops.now c.loop-i.i (omega arith));
}
