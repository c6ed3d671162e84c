-- What the walk back is cut into is turned round.
use Rattle.std.proofs.Common.{sym, ◌∙◌, subst}
use Rattle.std.proofs.lemmas.Result.{IfOk-weaker}
use Rattle.overlay_extract.specs.ClosedWalks.{IsCutIntoLoops}
use Rattle.overlay_extract.proofs.TourParts.{along_loops, back_loops}
use Rattle.overlay_extract.proofs.TurnedLoops.{cut_turned, backward_closed, backward_long}
use Rattle.overlay_walk.specs.Steps.{plain_steps}
use Rattle.overlay_walk.specs.Walks.{plain_walks}
use Rattle.overlay_extract.proofs.slicing.loops.loops_of_tour.Goals as goal

pub cut_loops-requires-2-clause-closed : goal.cut_loops-requires-2-clause-closed
cut_loops-requires-2-clause-closed g c = rw (c.deref.ensures.value, c.in_ok-back.ensures.back)
    (backward_closed (plain_steps g.I.IntNumber.whole c.args.tour.now) c.requires.closed)

pub cut_loops-requires-2-clause-long : goal.cut_loops-requires-2-clause-long
cut_loops-requires-2-clause-long g c = rw (c.deref.ensures.value, c.in_ok-back.ensures.back)
    (backward_long (plain_steps g.I.IntNumber.whole c.args.tour.now) c.requires.long)

pub turned_loops-requires : goal.turned_loops-requires
turned_loops-requires g c =
    let cut = rw (c.deref.ensures.value, c.in_ok-back.ensures.back) at c.in_ok-loops.ensures.cut in
    rw c.deref-2.ensures.value cut.simple

pub returns-clause-loops : goal.returns-clause-loops
returns-clause-loops g c =
    let whole = g.I.IntNumber.whole in
    let tour = plain_steps whole c.args.tour.now in
    let cut = rw (c.deref.ensures.value, c.in_ok-back.ensures.back) at c.in_ok-loops.ensures.cut in
    IfOk-weaker c.turned_loops.result _ _
    (λ ls is. subst (IsCutIntoLoops tour) (sym is) (cut_turned tour (plain_walks whole c.in_ok-loops.loops.items) cut))
    (rw c.deref-2.ensures.value at c.turned_loops.ensures.turned)

pub returns-then-is_walked_along-clause-order : goal.returns-then-is_walked_along-clause-order
returns-then-is_walked_along-clause-order g c =
    let whole = g.I.IntNumber.whole in
    IfOk-weaker c.cut_loops.result _ _
    (λ ls cut. along_loops (plain_steps whole c.args.tour.now) (plain_walks whole ls.items)
    (sym c.is_walked_along.ensures ∙ c.if-is_walked_along.true) cut)
    c.cut_loops.ensures.order

pub returns-clause-order : goal.returns-clause-order
returns-clause-order g c =
    let whole = g.I.IntNumber.whole in
    let tour = plain_steps whole c.args.tour.now in
    let cut = rw (c.deref.ensures.value, c.in_ok-back.ensures.back) at c.in_ok-loops.ensures.order in
    IfOk-weaker c.turned_loops.result _ _
    (λ ls is. back_loops tour (plain_walks whole c.in_ok-loops.loops.items) (plain_walks whole ls.items)
    (sym c.is_walked_along.ensures ∙ c.if-is_walked_along.false) cut is)
    (rw c.deref-2.ensures.value at c.turned_loops.ensures.turned)
