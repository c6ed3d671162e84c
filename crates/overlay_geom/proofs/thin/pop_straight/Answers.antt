-- A popped point is collinear with its two neighbours, and the rest is bent before the next point.
use Rattle.std.proofs.Common.{◌∷◌, ◌++◌, length, ◌≡◌, ◌+◌, ◌-◌, take, refl, sym, ◌∙◌, ap, subst, arith}
use Rattle.std.proofs.lemmas.Bool.{false≢true}
use Rattle.std.proofs.lemmas.List.{length-map, take-map}
use Rattle.std.proofs.lemmas.List.Elements.{All-take}
use Rattle.overlay_geom.specs.Points.{plain_point, plain_points, InRange, AllInRange}
use Rattle.overlay_geom.specs.Thinned.{IsOnOneLine}
use Rattle.overlay_geom.specs.Narrowed.{IsNarrowed, IsBentInside}
use Rattle.overlay_geom.proofs.NarrowedLists.{point_at, IsNarrowed-trans, IsBentInside-run}
use Rattle.overlay_geom.proofs.BentStack.{IsNarrowed-pop, IsBentInside-push}
use Rattle.overlay_geom.proofs.PlainPoints.{cross-read_top}
use Rattle.overlay_geom.proofs.Mapped.{All-mapped_at}
use Rattle.overlay_geom.proofs.thin.pop_straight.Goals as goal

pub is_straight-requires-clause-first : goal.is_straight-requires-clause-first
is_straight-requires-clause-first g c =
    All-mapped_at (InRange g.I.IntNumber.limit) (plain_point g.I.IntNumber.whole) _ _ _
    (omega (arith, c.loop-bent.bent.ok.0)) c.index.ensures c.loop-bent.invariant.in_range

pub is_straight-requires-clause-second : goal.is_straight-requires-clause-second
is_straight-requires-clause-second g c =
    All-mapped_at (InRange g.I.IntNumber.limit) (plain_point g.I.IntNumber.whole) _ _ _
    (omega (arith, c.loop-bent.bent.ok.0)) c.index-in-loop-bent.ensures c.loop-bent.invariant.in_range

pub loop-bent-preserved : goal.loop-bent-preserved
loop-bent-preserved g c =
    let whole = g.I.IntNumber.whole in
    let next = plain_point whole c.args.next in
    let xs = c.loop-bent.bent.items in
    let ps = plain_points whole xs in
    let given = plain_points whole c.args.bent.now.items in
    let k = c.len-in-loop-bent.result - 2 in
    let two : k + 2 ≡ length xs = omega (arith, c.loop-bent.bent.ok.0) in
    let size : length ps ≡ k + 2 = length-map xs (plain_point whole) ∙ sym two in
    let turn = cross-read_top whole xs k (c.len-in-loop-bent-2.result - 1) c.index.result.now
    c.index-in-loop-bent.result.now next two (omega arith) c.index.ensures c.index-in-loop-bent.ensures in
    let straight : IsOnOneLine (point_at ps k) (point_at ps (k + 1)) next = turn ∙ c.if-is_straight.ensures.0 refl in
    let shorter : c.loop-bent.bent.len - 1 ≡ k + 1 = omega arith in
    let front : plain_points whole c.pop.new.self.items ≡ take (k + 1) ps =
    ap (plain_points whole) (c.pop.ensures.rest ∙ ap (λ n. take n xs) shorter)
    ∙ sym (take-map (plain_point whole) (k + 1) xs) in
    record {
      narrowed = λ rest.
          let popped = IsNarrowed-pop ps next rest k size straight in
          subst (λ qs. IsNarrowed (given ++ next ∷ rest) (qs ++ next ∷ rest)) (sym front)
          (IsNarrowed-trans (given ++ next ∷ rest) (ps ++ next ∷ rest) (take (k + 1) ps ++ next ∷ rest)
          (c.loop-bent.invariant.narrowed rest) popped);
      bent = subst IsBentInside (sym front) (IsBentInside-run ps 0 (k + 1) (omega arith) c.loop-bent.invariant.bent);
      in_range = subst (AllInRange g.I.IntNumber.limit) (sym front)
          (All-take (InRange g.I.IntNumber.limit) (k + 1) ps c.loop-bent.invariant.in_range);
    }

pub returns-else-is_straight-clause-bent : goal.returns-else-is_straight-clause-bent
returns-else-is_straight-clause-bent g c =
    let whole = g.I.IntNumber.whole in
    let xs = c.loop-bent.bent.items in
    let k = c.len-in-loop-bent.result - 2 in
    let two : k + 2 ≡ length xs = omega (arith, c.loop-bent.bent.ok.0) in
    let next = plain_point whole c.args.next in
    let size : length (plain_points whole xs) ≡ k + 2 = length-map xs (plain_point whole) ∙ sym two in
    let turn = cross-read_top whole xs k (c.len-in-loop-bent-2.result - 1) c.index.result.now
    c.index-in-loop-bent.result.now next two (omega arith) c.index.ensures c.index-in-loop-bent.ensures in
    IsBentInside-push (plain_points whole xs) next k size c.loop-bent.invariant.bent
    (λ straight. false≢true (c.if-is_straight.ensures.1 (sym turn ∙ straight)))
