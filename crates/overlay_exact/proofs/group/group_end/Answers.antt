-- A loop over the points that are equal to the first. Where the next is not, all later ones are greater.
use Rattle.std.proofs.Common.{◌*ℤ◌, get_or, refl, arith}
use Rattle.std.proofs.lemmas.List.{length-map}
use Rattle.std.proofs.lemmas.List.Elements.{AllWithin-more, AllWithin-none}
use Rattle.overlay_geom.proofs.Comparisons.{same_from_compared}
use Rattle.overlay_exact.specs.Along.{plain_met, plain_mets}
use Rattle.overlay_exact.specs.Parts.{AreEqual}
use Rattle.overlay_exact.proofs.GroupEnds.{All-positive, at_place, from_place, different_from_compared, group_ends}
use Rattle.overlay_exact.proofs.group.group_end.Goals as goal

pub loop-end-init : goal.loop-end-init
loop-end-init g c =
    let met = plain_met g.I.Wide.WideIntNumber.whole in
    let ms = c.args.met.now in
    let from = c.args.from in
    let s = (met (get_or ms from c.index-met-from.result)).part in
    let within = c.requires.within in (
      omega arith,
      omega arith,
      AllWithin-more (λ n. AreEqual s n.part) (plain_mets g.I.Wide.WideIntNumber.whole ms) from from
          (AllWithin-none (λ n. AreEqual s n.part) (plain_mets g.I.Wide.WideIntNumber.whole ms) from)
          (λ d. at_place met ms from c.index-met-from.result within (λ n. AreEqual s n.part) d refl),
    )

pub loop-end-preserved : goal.loop-end-preserved
loop-end-preserved g c =
    let met = plain_met g.I.Wide.WideIntNumber.whole in
    let ms = c.args.met.now in
    let from = c.args.from in
    let end = c.loop-end.end in
    let s = (met (get_or ms from c.index-met-from.result)).part in
    let t = (met (get_or ms end c.index-met-end.result)).part in
    let some = c.loop-end.invariant.0 in
    let within = c.loop-end-test.true in (
      omega arith,
      omega arith,
      AllWithin-more (λ n. AreEqual s n.part) (plain_mets g.I.Wide.WideIntNumber.whole ms) from end
          c.loop-end.invariant.2
          (λ d. at_place met ms end c.index-met-end.result within (λ n. AreEqual s n.part) d
          (same_from_compared (s.n *ℤ t.d) (t.n *ℤ s.d) c.compare_parts.result c.is_eq.result c.compare_parts.ensures
          c.is_eq.ensures c.if-is_eq.true)),
    )

pub returns-else-is_eq : goal.returns-else-is_eq
returns-else-is_eq g c =
    let met = plain_met g.I.Wide.WideIntNumber.whole in
    let ms = c.args.met.now in
    let from = c.args.from in
    let end = c.loop-end.end in
    let first = get_or ms from c.index-met-from.result in
    let s = (met first).part in
    let t = (met (get_or ms end c.index-met-end.result)).part in
    let l = length-map ms met in
    let within = c.loop-end.invariant.1 in
    group_ends (plain_mets g.I.Wide.WideIntNumber.whole ms) (All-positive met (λ m. m.part.positive) ms)
    c.requires.order s from end first.part.positive c.loop-end.invariant.0 (omega arith) c.loop-end.invariant.2
    (λ d more equal. different_from_compared s t c.compare_parts.result c.is_eq.result c.compare_parts.ensures
    c.is_eq.ensures c.if-is_eq.false
    (from_place met ms end c.index-met-end.result c.loop-end-test.true (λ n. AreEqual s n.part) d equal))

pub returns-after-loop-end : goal.returns-after-loop-end
returns-after-loop-end g c =
    let met = plain_met g.I.Wide.WideIntNumber.whole in
    let ms = c.args.met.now in
    let from = c.args.from in
    let first = get_or ms from c.index-met-from.result in
    let l = length-map ms met in
    let within = c.loop-end.invariant.1 in
    let past = c.loop-end-test.false in
    group_ends (plain_mets g.I.Wide.WideIntNumber.whole ms) (All-positive met (λ m. m.part.positive) ms)
    c.requires.order (met first).part from c.loop-end.end first.part.positive c.loop-end.invariant.0 (omega arith)
    c.loop-end.invariant.2 (λ d more. absurd (omega arith))
