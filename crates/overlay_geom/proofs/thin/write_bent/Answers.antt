-- Each next point pops the collinear points before it, and is pushed.
use Rattle.std.proofs.Common.{[], ◌∷◌, ◌++◌, ◌≡◌, ◌+◌, drop, sym, ◌∙◌, ap, subst, arith}
use Rattle.std.proofs.lemmas.Grind.{common_steps}
use Rattle.std.proofs.lemmas.List.{append_assoc, map_push}
use Rattle.std.proofs.lemmas.List.Elements.{All-push}
use Rattle.overlay_geom.specs.Points.{plain_point, plain_points, InRange, AllInRange}
use Rattle.overlay_geom.specs.Narrowed.{IsNarrowed, IsBentInside}
use Rattle.overlay_geom.proofs.NarrowedLists.{IsNarrowed-trans}
use Rattle.overlay_geom.proofs.Mapped.{mapped_rest, All-mapped_at}
use Rattle.overlay_geom.proofs.thin.write_bent.Goals as goal

pub pop_straight-requires-clause-next : goal.pop_straight-requires-clause-next
pop_straight-requires-clause-next g c = All-mapped_at (InRange g.I.IntNumber.limit) (plain_point g.I.IntNumber.whole) _
    _ _ (omega arith) c.point-item.is c.requires

pub loop-point-preserved : goal.loop-point-preserved
loop-point-preserved g c =
    let whole = g.I.IntNumber.whole in
    let xs = c.args.points.now in
    let i = c.loop-point.point-index in
    let x = c.point-item.result in
    let next = plain_point whole x in
    let rest = plain_points whole (drop (i + 1) xs) in
    let before = plain_points whole c.loop-point.bent.items in
    let popped = plain_points whole c.pop_straight.new.bent.items in
    let pushed = plain_points whole c.push.new.self.items in
    let left : plain_points whole (drop i xs) ≡ next ∷ rest = mapped_rest (plain_point whole) xs i x
    (omega arith) c.point-item.is in
    let top : pushed ≡ popped ++ next ∷ [] = ap (plain_points whole)
    c.in_ok-push.ensures.items
    ∙ map_push (plain_point whole) c.pop_straight.new.bent.items x in
    let split : popped ++ next ∷ rest ≡ pushed ++ rest = sym (append_assoc popped (next ∷ []) rest)
    ∙ ap (λ ps. ps ++ rest) (sym top) in
    let given : IsNarrowed (plain_points whole xs) (before ++ next ∷ rest) = subst
    (λ ps. IsNarrowed (plain_points whole xs) (before ++ ps)) left c.loop-point.invariant.narrowed in
    record {
      narrowed = subst (IsNarrowed (plain_points whole xs)) split
          (IsNarrowed-trans (plain_points whole xs) (before ++ next ∷ rest) (popped ++ next ∷ rest) given
          (c.pop_straight.ensures.narrowed rest));
      bent = subst IsBentInside (sym top) c.pop_straight.ensures.bent;
      in_range = subst (AllInRange g.I.IntNumber.limit) (sym top)
          (All-push (InRange g.I.IntNumber.limit) popped next c.pop_straight.ensures.in_range
          (All-mapped_at (InRange g.I.IntNumber.limit) (plain_point whole) xs i x (omega arith) c.point-item.is
          c.requires));
    }

pub returns-clause-narrowed : goal.returns-clause-narrowed
returns-clause-narrowed g c = grind (arith, common_steps)

pub returns-clause-bent : goal.returns-clause-bent
returns-clause-bent g c = grind (arith, common_steps)

pub returns-clause-in_range : goal.returns-clause-in_range
returns-clause-in_range g c = grind (arith, common_steps)
