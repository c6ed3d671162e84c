-- The multiples are counted up to the most that there may be.
use Rattle.std.proofs.Common.{◌+◌, ◌∷◌, ◌++◌, [], refl, ap, subst, ◌∙◌, arith}
use Rattle.std.proofs.lemmas.Bool.{false≢true}
use Rattle.std.proofs.lemmas.List.{length_push}
use Rattle.overlay_geom.proofs.Signs.{linear}
use Rattle.overlay_tiles.specs.Spans.{plain_span}
use Rattle.overlay_tiles.proofs.FrontMultiples.{AreFirst, none_first, one_more_first, too_many}
use Rattle.overlay_tiles.proofs.multiples.are_few.Goals as goal

pub loop-next-init : goal.loop-next-init
loop-next-init g c =
    let whole = g.I.IntNumber.whole in
    let first = none_first whole (whole c.args.step) (plain_span whole c.args.span) c.first_multiple-next.result
    c.first_multiple-next.ensures in (omega arith, ([], refl, first))

pub returns-then-count-eq-MOST_LINES : goal.returns-then-count-eq-MOST_LINES
returns-then-count-eq-MOST_LINES g c =
    let whole = g.I.IntNumber.whole in
    let w = whole c.args.step in
    let s = plain_span whole c.args.span in
    let positive = c.requires.step.positive in
    let counted = c.loop-next.invariant.1 in
    let before = subst (AreFirst whole w s counted.0) c.in-Some.is counted.2 in (
      λ no. absurd (false≢true no),
      λ few. absurd (too_many w s (omega linear) counted.0 (whole c.in-Some.multiple) before
          (counted.1 ∙ c.if-count-eq-MOST_LINES.true) few),
    )

pub loop-next-preserved : goal.loop-next-preserved
loop-next-preserved g c =
    let whole = g.I.IntNumber.whole in
    let w = whole c.args.step in
    let s = plain_span whole c.args.span in
    let positive = c.requires.step.positive in
    let at_most = c.loop-next.invariant.0 in
    let counted = c.loop-next.invariant.1 in
    let not_yet = c.if-count-eq-MOST_LINES.false in
    let multiple = whole c.in-Some.multiple in
    let before = subst (AreFirst whole w s counted.0) c.in-Some.is counted.2 in (
      omega arith,
      (
        counted.0 ++ multiple ∷ [],
        length_push counted.0 multiple ∙ ap (λ n. n + 1) counted.1,
        one_more_first w s (omega linear) counted.0 multiple before whole c.multiple_after-next.result
            c.multiple_after-next.ensures,
      ),
    )
