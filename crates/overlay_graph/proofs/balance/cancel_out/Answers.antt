-- A further end, at the last point or at another point.
use Rattle.std.proofs.Common.{◌≡◌, ◌+◌, ◌<◌, ◌≤◌, false, ◌+ℤ◌, length, drop, get_or, refl, sym, ap, ◌∙◌, subst, rules}
use Rattle.std.specs.List.{All}
use Rattle.std.proofs.lemmas.Bool.{false≢true}
use Rattle.std.proofs.lemmas.List.{length-map}
use Rattle.overlay_geom.specs.Plane.{point_lt}
use Rattle.overlay_geom.specs.Points.{plain_point}
use Rattle.overlay_geom.proofs.Mapped.{read_mapped}
use Rattle.overlay_geom.proofs.PointComparisons.{point_cmp-is_less}
use Rattle.overlay_graph.specs.Ends.{plain_end, plain_ends}
use Rattle.overlay_graph.proofs.EndSums.{SumsUpAt, neither_before, first_here, nothing_summed, none_before}
use Rattle.overlay_graph.proofs.EndSums.{none_before_after, same_point, next_point, sum_within, none_so_far}
use Rattle.overlay_graph.proofs.EndSums.{all_cancel, sum_cancels, subj_near, clip_near}
use Rattle.overlay_graph.proofs.balance.cancel_out.Goals as goal
use Rattle.overlay_graph.proofs.balance.cancel_out.Goals.{then-is_lt+else-not-is_zero, else-is_lt}

pub loop-end-init : goal.loop-end-init
loop-end-init g c =
    let whole = g.I.IntNumber.whole in
    let ns = plain_ends whole c.args.ends.now in
    let n = plain_end whole c.index-ends-0.result in
    let some : 0 < length c.args.ends.now = search rules in
    let lt : 0 < length ns = rw length-map some in
    let is : get_or ns 0 n ≡ n = read_mapped (plain_end whole) c.args.ends.now 0 c.index-ends-0.result n some
    c.index-ends-0.is in (
      nothing_summed (λ n. n.subj) ns n.point,
      nothing_summed (λ n. n.clip) ns n.point,
      none_before ns c.requires.order 0 n lt is,
    )

pub returns-then-not-is_zero : goal.returns-then-not-is_zero
returns-then-not-is_zero g c =
    let whole = g.I.IntNumber.whole in
    let ns = plain_ends whole c.args.ends.now in
    let i = c.loop-end.end-index in
    let n = plain_end whole c.end-item.result in
    let lt : i < length ns = rw length-map c.loop-end-test.true in
    let is : get_or ns i n ≡ n = read_mapped (plain_end whole) c.args.ends.now i c.end-item.result n
    c.loop-end-test.true c.end-item.is in
    let p = plain_point whole c.loop-end.point in
    let test : c.is_lt.result ≡ point_lt p n.point = rw (c.is_lt.ensures, c.compare_points.ensures)
    (point_cmp-is_less p n.point) in
    let before = sym test ∙ c.if-is_lt.true in (
      λ t. absurd (false≢true t),
      λ cancel. c.if-not-is_zero.ensures.1 (
        none_so_far (λ n. n.subj) ns i p c.loop-end.sum.subj c.loop-end.invariant.0 n lt is c.requires.order before
            cancel.subj,
        none_so_far (λ n. n.clip) ns i p c.loop-end.sum.clip c.loop-end.invariant.1 n lt is c.requires.order before
            cancel.clip,
      ),
    )

pub with_end-sum-requires-clause-subj : goal.with_end-sum-requires-clause-subj
with_end-sum-requires-clause-subj g c =
    let whole = g.I.IntNumber.whole in
    let ns = plain_ends whole c.args.ends.now in
    let i = c.loop-end.end-index in
    let n = plain_end whole c.end-item.result in
    let lt : i < length ns = rw length-map c.loop-end-test.true in
    let is : get_or ns i n ≡ n = read_mapped (plain_end whole) c.args.ends.now i c.end-item.result n
    c.loop-end-test.true c.end-item.is in
    let p = plain_point whole c.loop-end.point in
    sum_within (λ n. n.subj) ns i p c.loop-end.sum.subj c.loop-end.invariant.0 n lt is subj_near c.requires.light

pub with_end-sum-requires-clause-clip : goal.with_end-sum-requires-clause-clip
with_end-sum-requires-clause-clip g c =
    let whole = g.I.IntNumber.whole in
    let ns = plain_ends whole c.args.ends.now in
    let i = c.loop-end.end-index in
    let n = plain_end whole c.end-item.result in
    let lt : i < length ns = rw length-map c.loop-end-test.true in
    let is : get_or ns i n ≡ n = read_mapped (plain_end whole) c.args.ends.now i c.end-item.result n
    c.loop-end-test.true c.end-item.is in
    let p = plain_point whole c.loop-end.point in
    sum_within (λ n. n.clip) ns i p c.loop-end.sum.clip c.loop-end.invariant.1 n lt is clip_near c.requires.light

pub loop-end-preserved : goal.loop-end-preserved
loop-end-preserved g c =
    let whole = g.I.IntNumber.whole in
    let ns = plain_ends whole c.args.ends.now in
    let i = c.loop-end.end-index in
    let n = plain_end whole c.end-item.result in
    let lt : i < length ns = rw length-map c.loop-end-test.true in
    let is : get_or ns i n ≡ n = read_mapped (plain_end whole) c.args.ends.now i c.end-item.result n
    c.loop-end-test.true c.end-item.is in
    let p = plain_point whole c.loop-end.point in
    let test : c.is_lt.result ≡ point_lt p n.point = rw (c.is_lt.ensures, c.compare_points.ensures)
    (point_cmp-is_less p n.point) in
    let q = plain_point whole c.if-is_lt.point in
    let after = none_before_after ns c.requires.order i n lt is in
    let least : point_lt n.point p ≡ false = first_here ns i n lt is p c.loop-end.invariant.2 in
    let here : q ≡ n.point = elim c.if-is_lt.branch [
      | then-is_lt+else-not-is_zero w ↦ ap (plain_point whole) w.point-is
      | else-is_lt w ↦ ap (plain_point whole) w.point-is ∙ neither_before p n.point (sym test ∙ w.if-is_lt.false) least
    ] in
    let subj : SumsUpAt (λ n. n.subj) ns (i + 1) n.point (c.loop-end.sum.subj +ℤ n.subj) = elim c.if-is_lt.branch [
      | then-is_lt+else-not-is_zero w ↦ next_point (λ n. n.subj) ns i p c.loop-end.sum.subj c.loop-end.invariant.0 n lt
          is (w.if-not-is_zero.ensures.0 refl).0
      | else-is_lt w ↦ same_point (λ n. n.subj) ns i p c.loop-end.sum.subj c.loop-end.invariant.0 n lt is
          (neither_before p n.point (sym test ∙ w.if-is_lt.false) least)
    ] in
    let clip : SumsUpAt (λ n. n.clip) ns (i + 1) n.point (c.loop-end.sum.clip +ℤ n.clip) = elim c.if-is_lt.branch [
      | then-is_lt+else-not-is_zero w ↦ next_point (λ n. n.clip) ns i p c.loop-end.sum.clip c.loop-end.invariant.1 n lt
          is (w.if-not-is_zero.ensures.0 refl).1
      | else-is_lt w ↦ same_point (λ n. n.clip) ns i p c.loop-end.sum.clip c.loop-end.invariant.1 n lt is
          (neither_before p n.point (sym test ∙ w.if-is_lt.false) least)
    ] in (
      subst (λ s. SumsUpAt (λ n. n.subj) ns (i + 1) q s) (sym c.with_end-sum.ensures.subj)
          (subst (λ r. SumsUpAt (λ n. n.subj) ns (i + 1) r (c.loop-end.sum.subj +ℤ n.subj)) (sym here) subj),
      subst (λ s. SumsUpAt (λ n. n.clip) ns (i + 1) q s) (sym c.with_end-sum.ensures.clip)
          (subst (λ r. SumsUpAt (λ n. n.clip) ns (i + 1) r (c.loop-end.sum.clip +ℤ n.clip)) (sym here) clip),
      subst (λ r. All (λ m. point_lt m.point r ≡ false) (drop (i + 1) ns)) (sym here) after,
    )

pub returns : goal.returns
returns g c =
    let whole = g.I.IntNumber.whole in
    let ns = plain_ends whole c.args.ends.now in
    let i = c.loop-end.end-index in
    let p = plain_point whole c.loop-end.point in
    let past : length ns ≤ i = rw length-map c.loop-end-test.false in (
      λ t. let zeros = c.is_zero-2.ensures.0 t in record {
        subj = all_cancel (λ n. n.subj) ns i p c.loop-end.sum.subj c.loop-end.invariant.0 past zeros.0;
        clip = all_cancel (λ n. n.clip) ns i p c.loop-end.sum.clip c.loop-end.invariant.1 past zeros.1;
      },
      λ cancel. c.is_zero-2.ensures.1 (
        sum_cancels (λ n. n.subj) ns i p c.loop-end.sum.subj c.loop-end.invariant.0 past cancel.subj,
        sum_cancels (λ n. n.clip) ns i p c.loop-end.sum.clip c.loop-end.invariant.1 past cancel.clip,
      ),
    )
