-- A range of the points is left: ends are dropped where they are collinear with their neighbours, and no inner point
-- is.
use Rattle.std.proofs.Common.{List, [], length, ◌≡◌, ℕ, ◌+◌, ◌-◌, ◌≤◌, take, drop, slice_range, refl, sym, ◌∙◌, ap}
use Rattle.std.proofs.lemmas.Grind.{common_steps}
use Rattle.std.proofs.Common.{subst, arith}
use Rattle.std.specs.Prelude.{ℤ}
use Rattle.std.proofs.lemmas.Bool.{false≢true}
use Rattle.std.proofs.lemmas.List.{length-map}
use Rattle.std.proofs.lemmas.List.Edits.{length-between}
use Rattle.std.proofs.Math.Nat.{sub_self}
use Rattle.overlay_geom.specs.declared.point.IntPoint.{IntPoint}
use Rattle.overlay_geom.specs.Points.{plain_point, plain_points, InRange}
use Rattle.overlay_geom.specs.Thinned.{IsThinned}
use Rattle.overlay_geom.specs.Narrowed.{IsNarrowed}
use Rattle.overlay_geom.proofs.NarrowedLists.{IsNarrowed-trans}
use Rattle.overlay_geom.proofs.BentPart.{IsNarrowed-part_last, IsNarrowed-part_first, IsThinned-part, IsThinned-few}
use Rattle.overlay_geom.proofs.PlainPoints.{cross-read}
use Rattle.overlay_geom.proofs.Mapped.{All-mapped_at, mapped_range}
use Rattle.overlay_geom.proofs.thin.bent_part.Goals as goal

pub is_straight-requires-clause-first : goal.is_straight-requires-clause-first
is_straight-requires-clause-first g c = All-mapped_at (InRange g.I.IntNumber.limit) (plain_point g.I.IntNumber.whole) _
    _ _ (omega arith) c.index-points-to.is c.requires.in_range

pub is_straight-requires-clause-second : goal.is_straight-requires-clause-second
is_straight-requires-clause-second g c = All-mapped_at (InRange g.I.IntNumber.limit) (plain_point g.I.IntNumber.whole) _
    _ _ (omega arith) c.index-points-to-in-loop-to.is c.requires.in_range

pub is_straight-requires-clause-third : goal.is_straight-requires-clause-third
is_straight-requires-clause-third g c = All-mapped_at (InRange g.I.IntNumber.limit) (plain_point g.I.IntNumber.whole) _
    _ _ (omega arith) c.index-points-from.is c.requires.in_range

pub is_straight-requires-else-is_straight-clause-first : goal.is_straight-requires-else-is_straight-clause-first
is_straight-requires-else-is_straight-clause-first g c =
    All-mapped_at (InRange g.I.IntNumber.limit) (plain_point g.I.IntNumber.whole) _ _ _
    (omega arith) c.index-points-to-else-is_straight.is c.requires.in_range

pub is_straight-requires-else-is_straight-clause-second : goal.is_straight-requires-else-is_straight-clause-second
is_straight-requires-else-is_straight-clause-second g c =
    All-mapped_at (InRange g.I.IntNumber.limit) (plain_point g.I.IntNumber.whole) _ _ _
    (omega arith) c.index-points-from-else-is_straight.is c.requires.in_range

pub is_straight-requires-else-is_straight-clause-third : goal.is_straight-requires-else-is_straight-clause-third
is_straight-requires-else-is_straight-clause-third g c =
    All-mapped_at (InRange g.I.IntNumber.limit) (plain_point g.I.IntNumber.whole) _ _ _
    (omega arith) c.index-points-from-else-is_straight-2.is c.requires.in_range

-- a list narrowed to a part of it, and that part to a further part
IsNarrowed-range : {I : Type 0} (whole : I → ℤ) (xs : List (IntPoint I)) (i j m n : ℕ) →
    IsNarrowed (plain_points whole xs) (plain_points whole (slice_range xs i j)) →
    IsNarrowed (slice_range (plain_points whole xs) i j) (slice_range (plain_points whole xs) m n) →
    IsNarrowed (plain_points whole xs) (plain_points whole (slice_range xs m n))
IsNarrowed-range whole xs i j m n before after =
    rw (mapped_range (plain_point whole) xs m n)
    (IsNarrowed-trans (plain_points whole xs) (slice_range (plain_points whole xs) i j)
    (slice_range (plain_points whole xs) m n) (rw (mapped_range (plain_point whole) xs i j) at before) after)

pub loop-to-preserved-then-is_straight : goal.loop-to-preserved-then-is_straight
loop-to-preserved-then-is_straight g c =
    let whole = g.I.IntNumber.whole in
    let i = c.loop-to.from in
    let j = c.loop-to.to in
    let size = length-map c.args.points.now (plain_point whole) in
    let three : i + 3 ≤ j = omega arith in
    let turn = cross-read whole c.args.points.now (j - 2) (j - 1) i c.index-points-to.result
    c.index-points-to-in-loop-to.result c.index-points-from.result (omega arith) (omega arith)
    (omega arith) c.index-points-to.is c.index-points-to-in-loop-to.is c.index-points-from.is in
    let straight = turn ∙ c.if-is_straight.ensures.0 refl in
    record {
      narrowed = IsNarrowed-range whole c.args.points.now i j i (j - 1) c.loop-to.invariant.narrowed
          (IsNarrowed-part_last (plain_points whole c.args.points.now) i j three (omega arith) straight);
      ordered = omega arith;
      within = omega arith;
    }

pub loop-to-preserved : goal.loop-to-preserved
loop-to-preserved g c =
    let whole = g.I.IntNumber.whole in
    let i = c.loop-to.from in
    let j = c.loop-to.to in
    let size = length-map c.args.points.now (plain_point whole) in
    let three : i + 3 ≤ j = omega arith in
    let turn = cross-read whole c.args.points.now (j - 1) i (i + 1) c.index-points-to-else-is_straight.result
    c.index-points-from-else-is_straight.result c.index-points-from-else-is_straight-2.result (omega arith)
    (omega arith) (omega arith) c.index-points-to-else-is_straight.is c.index-points-from-else-is_straight.is
    c.index-points-from-else-is_straight-2.is in
    let straight = turn ∙ c.if-is_straight-2.ensures.0 refl in
    record {
      narrowed = IsNarrowed-range whole c.args.points.now i j (i + 1) j c.loop-to.invariant.narrowed
          (IsNarrowed-part_first (plain_points whole c.args.points.now) i j three (omega arith) straight);
      ordered = omega arith;
      within = omega arith;
    }

pub returns-else-is_straight-2-clause-thinned : goal.returns-else-is_straight-2-clause-thinned
returns-else-is_straight-2-clause-thinned g c =
    let whole = g.I.IntNumber.whole in
    let xs = c.args.points.now in
    let i = c.loop-to.from in
    let j = c.loop-to.to in
    let size = length-map xs (plain_point whole) in
    let three : i + 3 ≤ j = omega arith in
    let last = cross-read whole xs (j - 2) (j - 1) i _ _ _ (omega arith) (omega arith)
    (omega arith) c.index-points-to.is c.index-points-to-in-loop-to.is c.index-points-from.is in
    let first = cross-read whole xs (j - 1) i (i + 1) _ _ _ (omega arith) (omega arith)
    (omega arith) c.index-points-to-else-is_straight.is c.index-points-from-else-is_straight.is
    c.index-points-from-else-is_straight-2.is in
    let thin = IsThinned-part (plain_points whole xs) i j three (omega arith) c.requires.bent
    (λ straight. false≢true (c.if-is_straight.ensures.1 (sym last ∙ straight)))
    (λ straight. false≢true (c.if-is_straight-2.ensures.1 (sym first ∙ straight))) in
    c.loop-to.invariant.narrowed.thins _
    (subst (λ ps. IsThinned ps ps) (sym (mapped_range (plain_point whole) xs i j)) thin)

pub returns-clause-thinned : goal.returns-clause-thinned
returns-clause-thinned g c =
    let whole = g.I.IntNumber.whole in
    let xs = c.args.points.now in
    let i = c.loop-to.from in
    let j = c.loop-to.to in
    let part = slice_range xs i j in
    let few : length (plain_points whole part) ≤ 2 = rw (length-map, length-between xs i j c.loop-to.invariant.within)
    (omega arith) in
    let none : slice_range xs i i ≡ [] = ap (λ n. take n (drop i xs)) (sub_self i) in
    c.loop-to.invariant.narrowed.thins _ (subst (λ ys. IsThinned (plain_points whole part) (plain_points whole ys))
    (sym none) (IsThinned-few (plain_points whole part) few))

pub returns-else-is_straight-2-clause-ordered : goal.returns-else-is_straight-2-clause-ordered
returns-else-is_straight-2-clause-ordered g c = grind (arith, common_steps)

pub returns-else-is_straight-2-clause-within : goal.returns-else-is_straight-2-clause-within
returns-else-is_straight-2-clause-within g c = grind (arith, common_steps)

pub returns-clause-ordered : goal.returns-clause-ordered
returns-clause-ordered g c = grind (arith, common_steps)

pub returns-clause-within : goal.returns-clause-within
returns-clause-within g c = grind (arith, common_steps)
