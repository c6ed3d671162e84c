-- Each multiple that is pushed is the next one.
use Rattle.std.proofs.Common.{◌∷◌, [], map, sym, subst, ap, ◌∙◌}
use Rattle.std.proofs.lemmas.List.{map-append}
use Rattle.overlay_geom.proofs.Signs.{linear}
use Rattle.overlay_tiles.specs.Spans.{plain_span}
use Rattle.overlay_tiles.proofs.FrontMultiples.{AreFirst, none_first, one_more_first}
use Rattle.overlay_tiles.proofs.multiples.grid_multiples.Goals as goal

pub loop-next-init : goal.loop-next-init
loop-next-init g c =
    let whole = g.I.IntNumber.whole in
    let w = whole c.args.step in
    let s = plain_span whole c.args.span in
    rw c.new-multiples.ensures.items (none_first whole w s c.first_multiple-next.result c.first_multiple-next.ensures)

pub loop-next-preserved : goal.loop-next-preserved
loop-next-preserved g c =
    let whole = g.I.IntNumber.whole in
    let w = whole c.args.step in
    let s = plain_span whole c.args.span in
    let positive = c.requires.step.positive in
    let old = c.loop-next.multiples.items in
    let multiple = c.in-Some.multiple in
    subst (λ zs. AreFirst whole w s zs c.multiple_after-next.result)
    (sym (ap (map whole) c.in_ok-push.ensures.items ∙ map-append whole old (multiple ∷ [])))
    (one_more_first w s (omega linear) (map whole old) (whole multiple)
    (subst (AreFirst whole w s (map whole old)) c.in-Some.is c.loop-next.invariant) whole
    c.multiple_after-next.result c.multiple_after-next.ensures)
