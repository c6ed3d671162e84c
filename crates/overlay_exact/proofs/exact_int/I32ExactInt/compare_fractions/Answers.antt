-- The widened products are exact.
use Rattle.std.proofs.Common.{pos, ◌≤ℤ◌, ap₂, lit<, lit≤, ◌∙◌}
use Rattle.std.specs.Ordering.{int_cmp}
use Rattle.overlay_geom.proofs.Signs.{linear}
use Rattle.overlay_exact.proofs.WidenedProducts.{widened_product}
use Rattle.overlay_exact.proofs.exact_int.I32ExactInt.compare_fractions.Goals as goal
use mir.Syntax.{w64, w128}

pub returns : goal.returns
returns c =
    let d_nonneg : pos 0 ≤ℤ c.args.d = omega (linear, c.requires.d) in
    let c_nonneg : pos 0 ≤ℤ c.args.c = omega (linear, c.requires.c) in
    c.cmp.ensures ∙ ap₂ int_cmp
    (widened_product w64 w128 9223372036854775808 c.args.n c.args.c _ _ (lit≤ tt) (lit< tt) (lit< tt) c.requires.n
    c_nonneg c.ranges.n c.ranges.c c.from.ensures c.from-2.ensures)
    (widened_product w64 w128 9223372036854775808 c.args.m c.args.d _ _ (lit≤ tt) (lit< tt) (lit< tt) c.requires.m
    d_nonneg c.ranges.m c.ranges.d c.from-3.ensures c.from-4.ensures)
