-- The sort puts the strip by its least heights, and it is moved behind the others.
use Rattle.std.proofs.Common.{◌≡◌, ap, ◌∙◌, rules}
use Rattle.std.specs.Ordering.{int_cmp, is_lt}
use Rattle.std.proofs.lemmas.List.Sorted.{answers_always}
use Rattle.overlay_geom.proofs.Comparisons.{is_lt-int_cmp}
use Rattle.overlay_pairs.proofs.HeightOrder.{by_height-from_sorted, is_lower, is_lower-order}
use Rattle.overlay_pairs.proofs.strips.close_strip.Goals as goal

pub returns-clause-ok : goal.returns-clause-ok
returns-clause-ok g c =
    let whole = g.I.IntNumber.whole in (
      c.sort_by.new.self.items,
      c.sort_by.ensures.permutation,
      by_height-from_sorted whole c.sort_by.new.self.items
          (c.in_ok-sort_by.ensures.sorted (is_lower whole) (is_lower-order whole) (answers_always _ _ _ (λ f a r h k.
          let answer : r ≡ int_cmp (whole a.0.now.low) (whole a.1.0.now.low) = search rules in
          ap is_lt answer ∙ is_lt-int_cmp (whole a.0.now.low) (whole a.1.0.now.low)))),
      c.in_ok-append.ensures.items,
    )
