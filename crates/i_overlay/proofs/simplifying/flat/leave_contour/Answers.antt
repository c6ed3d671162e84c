-- The points of the contour are written over by themselves reversed, and its range stays where it is; or they are
-- dropped.
use Rattle.std.proofs.Common.{sym, ap, ◌∙◌, length, arith}
use Rattle.std.specs.Prelude.{reverse}
use Rattle.overlay_geom.specs.Flat.{part_in, first_range}
use Rattle.overlay_geom.specs.Points.{plain_points}
use Rattle.i_overlay.specs.Outcome.{contours_left}
use Rattle.i_overlay.proofs.TurnedParts.{contour_turned}
use Rattle.i_overlay.proofs.simplifying.flat.leave_contour.Goals as goal

pub returns-in-Reversed-clause-left : goal.returns-in-Reversed-clause-left
returns-in-Reversed-clause-left g c =
    let whole = g.I.IntNumber.whole in
    let b = c.args.buffer.now in
    contour_turned whole b.points b.ranges.items c.requires c.reverse.new.self
    (c.reverse.ensures.after ∙ ap reverse c.as_first_contour_mut.ensures.value)
    ∙ ap (λ o. contours_left o (plain_points whole (part_in b.points.items (first_range b.ranges.items))))
    (sym c.in-Reversed.is)

pub returns-in-AsGiven-clause-no_points : goal.returns-in-AsGiven-clause-no_points
returns-in-AsGiven-clause-no_points g c = λ none.
    let one = c.requires in
    let long = ap length none in
    absurd (omega (arith, one, long))

pub returns-in-Reversed-clause-no_points : goal.returns-in-Reversed-clause-no_points
returns-in-Reversed-clause-no_points g c = λ none.
    let one = c.requires in
    let long = ap length none in
    absurd (omega (arith, one, long))

pub returns-in-NotSimple-clause-no_points : goal.returns-in-NotSimple-clause-no_points
returns-in-NotSimple-clause-no_points g c = λ none. c.clear.ensures.items
