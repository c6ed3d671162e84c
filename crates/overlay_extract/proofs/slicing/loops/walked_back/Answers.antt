-- One more step back; in the end they are put in the opposite order.
use Rattle.std.proofs.Common.{[], ◌∷◌, ◌++◌, map, reverse, take, sym, ap, ap₂, ◌∙◌, arith}
use Rattle.std.proofs.lemmas.List.{map-append}
use Rattle.overlay_geom.specs.Plane.{reversed_step}
use Rattle.overlay_geom.proofs.Mapped.{mapped_more, mapped_whole}
use Rattle.overlay_extract.proofs.ChangedLists.{map-reverse}
use Rattle.overlay_walk.specs.Steps.{plain_step, plain_steps}
use Rattle.overlay_extract.proofs.slicing.loops.walked_back.Goals as goal

pub loop-place-preserved : goal.loop-place-preserved
loop-place-preserved g c =
    let whole = g.I.IntNumber.whole in
    let l = c.loop-place in
    let walk = c.args.walk.now in
    let step = c.index-walk-place.result in
    let walked = plain_steps whole (take l.place walk) in
    rw (c.in_ok-push.ensures.items, map-append)
    (ap₂ (λ xs y. xs ++ y ∷ []) l.invariant c.step_back.ensures
    ∙ sym (map-append reversed_step walked (plain_step whole step ∷ []))
    ∙ ap (map reversed_step)
    (sym (mapped_more (plain_step whole) walk l.place step c.loop-place-test.true c.index-walk-place.is)))

pub returns : goal.returns
returns g c = record {
  back = let whole = g.I.IntNumber.whole in
      let l = c.loop-place in
      let past = c.loop-place-test.false in
      rw c.reverse.ensures.items
      (map-reverse (plain_step whole) l.back.items ∙ ap reverse (l.invariant
      ∙ ap (map reversed_step) (mapped_whole (plain_step whole) c.args.walk.now l.place (omega arith))));
}
