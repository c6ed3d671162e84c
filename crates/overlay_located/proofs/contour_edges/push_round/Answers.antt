-- The next step moves from what is to come to what stands.
use Rattle.std.proofs.Common.{◌≡◌, ◌++◌, ◌∷◌, [], ◌+◌, drop, sym, ◌∙◌, subst, append-nil}
use Rattle.std.proofs.lemmas.List.{drop_all}
use Rattle.std.proofs.lemmas.Result.{on_ok_weaker}
use Rattle.overlay_geom.specs.Points.{plain_point, plain_points, InRange}
use Rattle.overlay_geom.specs.Resolved.{plain_edges, edges_through}
use Rattle.overlay_geom.proofs.Mapped.{All-mapped_at, mapped_rest}
use Rattle.overlay_relate.proofs.Pushed.{edges_next}
use Rattle.overlay_located.proofs.contour_edges.push_round.Goals as goal

pub push_step-requires-clause-from : goal.push_step-requires-clause-from
push_step-requires-clause-from g c = c.loop-to.invariant.0

pub push_step-requires-clause-to : goal.push_step-requires-clause-to
push_step-requires-clause-to g c =
    All-mapped_at (InRange g.I.IntNumber.limit) (plain_point g.I.IntNumber.whole) c.args.contour.now c.loop-to.to-index
    c.to-item.result
    c.loop-to-test.true c.to-item.is c.requires.contour

pub push_step-requires-clause-long : goal.push_step-requires-clause-long
push_step-requires-clause-long g c = c.loop-to.invariant.1

pub loop-to-preserved : goal.loop-to-preserved
loop-to-preserved g c =
    let whole = g.I.IntNumber.whole in
    let first = plain_point whole c.args.first in
    let from = plain_point whole c.loop-to.from in
    let to = plain_point whole c.to-item.result in
    let rest = plain_points whole (drop (c.loop-to.to-index + 1) c.args.contour.now) ++ first ∷ [] in
    let old = plain_edges whole c.loop-to.edges.items in
    let all = plain_edges whole c.args.edges.now.items ++ edges_through first
    (plain_points whole c.args.contour.now ++ first ∷ []) in
    let next = mapped_rest (plain_point whole) c.args.contour.now c.loop-to.to-index c.to-item.result
    c.loop-to-test.true c.to-item.is in
    let left : old ++ edges_through from (to ∷ rest) ≡ all = rw next at c.loop-to.invariant.2 in (
      All-mapped_at (InRange g.I.IntNumber.limit) (plain_point whole) c.args.contour.now c.loop-to.to-index
          c.to-item.result
          c.loop-to-test.true c.to-item.is c.requires.contour,
      c.push_step.ensures.long,
      edges_next from to rest old _ all left c.in_ok-push_step.ensures.ok,
    )

pub returns-clause-ok : goal.returns-clause-ok
returns-clause-ok g c =
    let whole = g.I.IntNumber.whole in
    let first = plain_point whole c.args.first in
    let from = plain_point whole c.loop-to.from in
    let old = plain_edges whole c.loop-to.edges.items in
    let new = plain_edges whole c.push_step-2.new.edges.items in
    let all = plain_edges whole c.args.edges.now.items
    ++ edges_through first (plain_points whole c.args.contour.now ++ first ∷ []) in
    let none = drop_all c.loop-to.to-index c.args.contour.now c.loop-to-test.false in
    let left : old ++ edges_through from (first ∷ []) ≡ all =
    subst (λ ps. old ++ edges_through from (plain_points whole ps ++ first ∷ []) ≡ all) none c.loop-to.invariant.2 in
    on_ok_weaker c.push_step-2.result
    (λ is. sym (append-nil new) ∙ edges_next from first [] old new all left is) c.push_step-2.ensures.ok
