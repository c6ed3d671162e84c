-- Each live edge is in range, and its line is answered by its side.
use Rattle.std.proofs.Common.{sym, subst, ◌∙◌}
use Rattle.overlay_geom.specs.Points.{plain_point, InRange}
use Rattle.overlay_scan.proofs.LinesFit.{line_fits}
use Rattle.overlay_relate.specs.Sweeps.{side_answer}
use Rattle.overlay_relate.proofs.Swept.{live_are}
use Rattle.overlay_relate.proofs.sweep.highest_up_to.Goals as goal

pub first_less_or_equal_by-requires-clause-callable : goal.first_less_or_equal_by-requires-clause-callable
first_less_or_equal_by-requires-clause-callable g c = λ k d lt a b is_a is_b.
    let limit = g.I.IntNumber.limit in
    let live = (live_are limit (g.I.IntNumber.whole c.args.p.x) (g.S.Scan.content c.args.scan.now) c.requires.state
    c.requires.moves).over k d lt in (
      line_fits _ _ g.met.I.IntNumber.small.align_bound g.met.I.IntNumber.small.size_bound,
      (
        subst (InRange limit) (sym is_a) live.a_in_range,
        (subst (InRange limit) (sym is_b) live.b_in_range, c.requires.point),
      ),
    )

pub returns-clause-value : goal.returns-clause-value
returns-clause-value g c = λ rise.
    let whole = g.I.IntNumber.whole in
    let p = plain_point whole c.args.p in
    c.first_less_or_equal_by.ensures.value (side_answer p)
    (λ k d lt a b is_a is_b o answered. answered.1 ∙ (λ i. side_answer p (record { a = is_a i; b = is_b i })))
    rise
