-- Each step so far is apart from the later steps, or the answer is no.
use Rattle.std.proofs.Common.{refl, subst, IsTrue, ◌↔◌, ◌++◌, ◌∷◌, [], ◌+◌, All, drop, length}
use Rattle.std.proofs.lemmas.Bool.{iff_false, false≢true}
use Rattle.std.proofs.lemmas.List.{drop_all}
use Rattle.overlay_geom.specs.Points.{plain_point, plain_points, InRange}
use Rattle.overlay_geom.specs.Resolved.{edges_between, edges_through, AreApart}
use Rattle.overlay_geom.specs.Settled.{MeetInEnds}
use Rattle.overlay_geom.proofs.Mapped.{All-mapped_at, All-mapped_range, mapped_rest, mapped_from}
use Rattle.overlay_geom.proofs.ResolvedSteps.{step_is_apart, step_is_not_apart, one_step_apart}
use Rattle.overlay_geom.proofs.resolved.is_round_resolved.Goals as goal

pub step_meets_later-requires-clause-from : goal.step_meets_later-requires-clause-from
step_meets_later-requires-clause-from g c = c.loop-i.invariant.0

pub step_meets_later-requires-clause-to : goal.step_meets_later-requires-clause-to
step_meets_later-requires-clause-to g c =
    All-mapped_at (InRange g.I.IntNumber.limit) (plain_point g.I.IntNumber.whole) c.args.contour.now c.loop-i.i
    c.index-contour-i.result
    c.loop-i-test.true c.index-contour-i.is c.requires.contour

pub step_meets_later-requires-clause-later : goal.step_meets_later-requires-clause-later
step_meets_later-requires-clause-later g c =
    All-mapped_range (InRange g.I.IntNumber.limit) (plain_point g.I.IntNumber.whole) c.args.contour.now
    (c.loop-i.i + 1) (length c.args.contour.now) c.requires.contour

pub returns-then-not-step_meets_later : goal.returns-then-not-step_meets_later
returns-then-not-step_meets_later g c =
    let whole = g.I.IntNumber.whole in
    let first = plain_point whole c.args.first in
    let from = plain_point whole c.loop-i.from in
    let to = plain_point whole c.index-contour-i.result in
    let rest = plain_points whole (drop (c.loop-i.i + 1) c.args.contour.now) ++ first ∷ [] in
    let next = mapped_rest (plain_point whole) c.args.contour.now c.loop-i.i c.index-contour-i.result c.loop-i-test.true
    c.index-contour-i.is in
    let apart : AreApart (edges_through from (to ∷ rest)) ↔ AreApart
    (edges_through first (plain_points whole c.args.contour.now ++ first ∷ []))
    = rw next at c.loop-i.invariant.1 in
    let same = mapped_from (plain_point whole) c.args.contour.now (c.loop-i.i + 1) in
    let later : IsTrue c.step_meets_later.result ↔ All (λ e. All (MeetInEnds e) (edges_through to rest))
    (edges_between from to)
    = rw same at c.step_meets_later.ensures in (
      λ no. absurd (false≢true no),
      λ all. absurd (step_is_not_apart from to rest apart (iff_false later c.if-not-step_meets_later.true) all),
    )

pub loop-i-preserved : goal.loop-i-preserved
loop-i-preserved g c =
    let whole = g.I.IntNumber.whole in
    let first = plain_point whole c.args.first in
    let from = plain_point whole c.loop-i.from in
    let to = plain_point whole c.index-contour-i.result in
    let rest = plain_points whole (drop (c.loop-i.i + 1) c.args.contour.now) ++ first ∷ [] in
    let next = mapped_rest (plain_point whole) c.args.contour.now c.loop-i.i c.index-contour-i.result c.loop-i-test.true
    c.index-contour-i.is in
    let apart : AreApart (edges_through from (to ∷ rest)) ↔ AreApart
    (edges_through first (plain_points whole c.args.contour.now ++ first ∷ []))
    = rw next at c.loop-i.invariant.1 in
    let same = mapped_from (plain_point whole) c.args.contour.now (c.loop-i.i + 1) in
    let later : IsTrue c.step_meets_later.result ↔ All (λ e. All (MeetInEnds e) (edges_through to rest))
    (edges_between from to)
    = rw same at c.step_meets_later.ensures in (
      All-mapped_at (InRange g.I.IntNumber.limit) (plain_point whole) c.args.contour.now c.loop-i.i
          c.index-contour-i.result
          c.loop-i-test.true c.index-contour-i.is c.requires.contour,
      step_is_apart from to rest apart (later.0 c.if-not-step_meets_later.false),
    )

pub returns : goal.returns
returns g c =
    let whole = g.I.IntNumber.whole in
    let first = plain_point whole c.args.first in
    let from = plain_point whole c.loop-i.from in
    let end = drop_all c.loop-i.i c.args.contour.now c.loop-i-test.false in
    let apart = subst (λ ps. AreApart (edges_through from (plain_points whole ps ++ first ∷ []))
    ↔ AreApart (edges_through first (plain_points whole c.args.contour.now ++ first ∷ []))) end c.loop-i.invariant.1 in
    (λ _. apart.0 (one_step_apart from first), λ _. refl)
