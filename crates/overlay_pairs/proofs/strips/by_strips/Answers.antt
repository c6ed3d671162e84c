-- A further box: a full strip is finished, and at last the strip so far is.
use Rattle.std.proofs.Common.{◌≡◌, ◌+◌, ◌++◌, ◌∷◌, [], ◌<◌, ◌≤ℤ◌, List, length, take, sym, ap, ◌∙◌, subst, arith}
use Rattle.std.specs.List.Sorted.{IsPermutation}
use Rattle.std.proofs.lemmas.List.{length-map, map-append, length-take-le}
use Rattle.std.proofs.lemmas.List.Sorted.{IsPermutation-map}
use Rattle.overlay_geom.proofs.Mapped.{mapped_more, mapped_whole, AllPairs-map}
use Rattle.overlay_pairs.specs.Extents.{Extent, plain_extent, plain_extents, AreByHeights, AreInStrips}
use Rattle.overlay_pairs.proofs.Entries.{placed_in_mapped}
use Rattle.overlay_pairs.proofs.StripOrder.{StripsSoFar, so_far_pushed, so_far_closed, all_by_heights}
use Rattle.overlay_pairs.proofs.StripOrder.{all_in_strips, all_there}
use Rattle.overlay_pairs.proofs.strips.by_strips.Goals as goal
use Rattle.overlay_pairs.proofs.strips.by_strips.Goals.{then-len-width+in_ok-close_strip, else-len-width}

pub loop-extent-preserved : goal.loop-extent-preserved
loop-extent-preserved g c =
    let plain = plain_extents g.I.IntNumber.whole in
    let plain_one = plain_extent g.I.IntNumber.whole in
    let extents = c.args.extents.now in
    let i = c.loop-extent.extent-index in
    let s = plain_one c.extent-item.result in
    let given = plain (take i extents) in
    let more = plain (take (i + 1) extents) in
    let xs = plain c.loop-extent.sorted.items in
    let ys = plain c.loop-extent.strip.items in
    let pushed_items = c.push.new.self.items in
    let less = c.loop-extent.invariant.1 in
    let counted : i ≡ length given = let a = length-map (take i extents) plain_one in
    let b = length-take-le i extents (let t = c.loop-extent-test.true in omega arith) in omega arith in
    let own = c.requires.places i s (placed_in_mapped plain_one extents i c.extent-item.result c.loop-extent-test.true
    c.extent-item.is) in
    let room : length ys < c.args.width =
    (let l = length-map c.loop-extent.strip.items plain_one in omega (arith, l, less)) in
    let items : plain pushed_items ≡ ys ++ s ∷ [] =
    ap plain c.in_ok-push.ensures.items ∙ map-append plain_one c.loop-extent.strip.items (c.extent-item.result ∷ []) in
    let pushed : StripsSoFar c.args.width more xs (plain pushed_items) =
    subst (λ (ss : List Extent). StripsSoFar c.args.width ss xs (plain pushed_items))
    (sym (mapped_more plain_one extents i c.extent-item.result c.loop-extent-test.true c.extent-item.is))
    (subst (StripsSoFar c.args.width (given ++ s ∷ []) xs) (sym items)
    (so_far_pushed c.args.width given xs ys c.loop-extent.invariant.0 s (own.0 ∙ counted) (own.1 ∙ counted) room)) in
    let count = length-map pushed_items plain_one in
    elim c.if-len-width.branch [
      | then-len-width+in_ok-close_strip w ↦
          let closed = w.in_ok-close_strip.ensures.ok in
          let sorted = ap (λ v. plain v.items) w.sorted-is ∙ ap plain closed.3
          ∙ map-append plain_one c.loop-extent.sorted.items closed.0 in
          let strip = ap (λ v. v.items) w.strip-is ∙ w.in_ok-close_strip.ensures.emptied in (
            subst (λ zs. StripsSoFar c.args.width more zs (plain c.if-len-width.strip.items)) (sym sorted)
                (subst (λ zs. StripsSoFar c.args.width more (xs ++ plain closed.0) (plain zs)) (sym strip)
                (so_far_closed c.args.width more xs (plain pushed_items) pushed c.requires.some (plain closed.0)
                (IsPermutation-map plain_one pushed_items closed.0 closed.1)
                (AllPairs-map (λ (t u : Extent). t.low ≤ℤ u.low) plain_one closed.0 closed.2)
                (let l = c.len.ensures in let full = w.if-len-width.true in omega (arith, count, l, full)))),
            subst (λ zs. length zs < c.args.width) (sym strip) (let some = c.requires.some in omega (arith, some)),
          )
      | else-len-width w ↦
          let sorted = ap (λ v. plain v.items) w.sorted-is in
          let strip = ap (λ v. v.items) w.strip-is in (
            subst (λ zs. StripsSoFar c.args.width more zs (plain c.if-len-width.strip.items)) (sym sorted)
                (subst (λ zs. StripsSoFar c.args.width more xs (plain zs)) (sym strip) pushed),
            subst (λ zs. length zs < c.args.width) (sym strip)
                (let l = c.len.ensures in let unfilled = w.if-len-width.false in let few = pushed.few in
                omega (arith, count, l, unfilled, few)),
          )
    ]

pub returns-clause-permutation : goal.returns-clause-permutation
returns-clause-permutation g c =
    let plain = plain_extents g.I.IntNumber.whole in
    let plain_one = plain_extent g.I.IntNumber.whole in
    let xs = plain c.loop-extent.sorted.items in
    let ys = plain c.loop-extent.strip.items in
    let closed = c.in_ok-close_strip-2.ensures.ok in
    let all = mapped_whole plain_one c.args.extents.now c.loop-extent.extent-index c.loop-extent-test.false in
    subst (IsPermutation (plain c.args.extents.now))
    (sym (ap plain closed.3 ∙ map-append plain_one c.loop-extent.sorted.items closed.0))
    (subst (λ (ss : List Extent). IsPermutation ss (xs ++ plain closed.0)) all
    (all_there c.args.width _ xs ys c.loop-extent.invariant.0 c.requires.some (plain closed.0)
    (IsPermutation-map plain_one c.loop-extent.strip.items closed.0 closed.1)
    (AllPairs-map (λ (s t : Extent). s.low ≤ℤ t.low) plain_one closed.0 closed.2)))

pub returns-clause-strips : goal.returns-clause-strips
returns-clause-strips g c =
    let plain = plain_extents g.I.IntNumber.whole in
    let plain_one = plain_extent g.I.IntNumber.whole in
    let xs = plain c.loop-extent.sorted.items in
    let ys = plain c.loop-extent.strip.items in
    let closed = c.in_ok-close_strip-2.ensures.ok in
    subst (AreInStrips c.args.width)
    (sym (ap plain closed.3 ∙ map-append plain_one c.loop-extent.sorted.items closed.0))
    (all_in_strips c.args.width _ xs ys c.loop-extent.invariant.0 c.requires.some (plain closed.0)
    (IsPermutation-map plain_one c.loop-extent.strip.items closed.0 closed.1)
    (AllPairs-map (λ (s t : Extent). s.low ≤ℤ t.low) plain_one closed.0 closed.2))

pub returns-clause-heights : goal.returns-clause-heights
returns-clause-heights g c =
    let plain = plain_extents g.I.IntNumber.whole in
    let plain_one = plain_extent g.I.IntNumber.whole in
    let xs = plain c.loop-extent.sorted.items in
    let ys = plain c.loop-extent.strip.items in
    let closed = c.in_ok-close_strip-2.ensures.ok in
    subst (AreByHeights c.args.width)
    (sym (ap plain closed.3 ∙ map-append plain_one c.loop-extent.sorted.items closed.0))
    (all_by_heights c.args.width _ xs ys c.loop-extent.invariant.0 c.requires.some (plain closed.0)
    (IsPermutation-map plain_one c.loop-extent.strip.items closed.0 closed.1)
    (AllPairs-map (λ (s t : Extent). s.low ≤ℤ t.low) plain_one closed.0 closed.2))
