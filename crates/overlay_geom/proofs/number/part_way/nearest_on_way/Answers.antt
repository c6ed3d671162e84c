-- The coordinate is the start of the way plus or minus the rounded distance, and both fit.
use Rattle.std.proofs.Common.{◌≡◌, pos, ◌+ℤ◌, ◌-ℤ◌, ◌≤ℤ◌, lit<, ap, ap₂, sym, subst, ◌∙◌, arith, FitsSigned, to_z, of_z}
use Rattle.std.proofs.lemmas.Int.{ints, to_z-of_z, to_z_pos}
use Rattle.std.specs.Int.RustNames.{unsigned_abs}
use Rattle.overlay_geom.specs.Numbers.{Within, greatest_of_64_bits}
use Rattle.overlay_geom.proofs.Widths.{Within-fits}
use Rattle.overlay_geom.proofs.OnWay.{place, Counted, rises, falls, part_way-within}
use Rattle.overlay_geom.proofs.number.part_way.nearest_on_way.Goals as goal
use mir.Syntax.{w64, w128}

-- the numbers are read back from their bits as they were, on the way up
counted_up : (c : goal.After-half_up) →
    Counted c.args.from c.args.to c.args.t c.args.d c.abs_diff.result
    (unsigned_abs (to_z w128 (of_z w128 c.args.t))) (unsigned_abs (to_z w128 (of_z w128 c.args.d)))
counted_up c = record {
  begun = c.requires.begun;
  divides = c.requires.divides;
  steps = c.abs_diff.ensures ∙ ap₂ (λ a b. unsigned_abs (a -ℤ b)) (to_z-of_z w64 c.args.to c.ranges.to)
      (to_z-of_z w64 c.args.from c.ranges.from);
  part = ap unsigned_abs (to_z-of_z w128 c.args.t c.ranges.t);
  whole = ap unsigned_abs (to_z-of_z w128 c.args.d c.ranges.d);
}

-- the numbers of the way down
counted_down : (c : goal.After-half_down) →
    Counted c.args.from c.args.to c.args.t c.args.d c.abs_diff.result
    (unsigned_abs (to_z w128 (of_z w128 c.args.t))) (unsigned_abs (to_z w128 (of_z w128 c.args.d)))
counted_down c = record {
  begun = c.requires.begun;
  divides = c.requires.divides;
  steps = c.abs_diff.ensures ∙ ap₂ (λ a b. unsigned_abs (a -ℤ b)) (to_z-of_z w64 c.args.to c.ranges.to)
      (to_z-of_z w64 c.args.from c.ranges.from);
  part = ap unsigned_abs (to_z-of_z w128 c.args.t c.ranges.t);
  whole = ap unsigned_abs (to_z-of_z w128 c.args.d c.ranges.d);
}

-- the place that is wanted is a coordinate in range, on the way up
within_up : (c : goal.After-half_up) → Within greatest_of_64_bits (place c.args.from c.args.to c.args.t c.args.d)
within_up c =
    part_way-within greatest_of_64_bits c.args.from c.args.to c.args.t c.args.d
    c.requires.from c.requires.to c.requires.begun c.requires.part c.requires.divides

-- the place on the way down is within the range
within_down : (c : goal.After-half_down) → Within greatest_of_64_bits (place c.args.from c.args.to c.args.t c.args.d)
within_down c =
    part_way-within greatest_of_64_bits c.args.from c.args.to c.args.t c.args.d
    c.requires.from c.requires.to c.requires.begun c.requires.part c.requires.divides

-- it is the number from which the way begins with the rounded distance added, on the way up
risen : (c : goal.After-half_up) → c.args.from +ℤ pos c.half_up.result ≡ place c.args.from c.args.to c.args.t c.args.d
risen c = rises c.args.from c.args.to c.args.t c.args.d _ _ _ _ _ rising (counted_up c) c.times_quotient-q.ensures.value
    c.half_up.ensures
  where
    rising : c.args.from ≤ℤ c.args.to
    rising = rw (← to_z-of_z w64 c.args.from c.ranges.from, ← to_z-of_z w64 c.args.to c.ranges.to)
        (omega (arith, ints, c.if-from-to.true))

-- the distance is taken away on the way down
fallen : (c : goal.After-half_down) → c.args.from -ℤ pos c.half_down.result ≡ place c.args.from c.args.to
    c.args.t c.args.d
fallen c = falls c.args.from c.args.to c.args.t c.args.d _ _ _ _ _ falling
    (counted_down c) c.times_quotient-q.ensures.value c.half_down.ensures
  where
    falling : c.args.to ≤ℤ c.args.from
    falling = rw (← to_z-of_z w64 c.args.from c.ranges.from, ← to_z-of_z w64 c.args.to c.ranges.to)
        (omega (arith, ints, c.if-from-to.false))

-- the rounded distance is at most that of two coordinates in range, on the way up
far_up : (c : goal.After-half_up) → Within 9223372036854775806 (pos c.half_up.result)
far_up c = record {
  low = omega (arith, ints);
  high = omega (
    arith,
    ints,
    risen c,
    c.requires.from.low,
    (within_up c).high,
  );
}

-- the distance on the way down is in range
far_down : (c : goal.After-half_down) → Within 9223372036854775806 (pos c.half_down.result)
far_down c = record {
  low = omega (arith, ints);
  high = omega (
    arith,
    ints,
    fallen c,
    c.requires.from.high,
    (within_down c).low,
  );
}

-- the program computes the place, on the way up
computed_up : (c : goal.After-half_up) → to_z w64 (of_z w64 c.args.from) +ℤ to_z w64 c.half_up.result ≡ place
    c.args.from c.args.to c.args.t c.args.d
computed_up c =
    ap₂ (λ a b. a +ℤ b) (to_z-of_z w64 c.args.from c.ranges.from)
    (to_z_pos w64 c.half_up.result (omega (arith, ints, (far_up c).high))) ∙ risen c

-- the program computes the place, on the way down
computed_down : (c : goal.After-half_down) → to_z w64 (of_z w64 c.args.from) -ℤ to_z w64 c.half_down.result ≡ place
    c.args.from c.args.to c.args.t c.args.d
computed_down c =
    ap₂ (λ a b. a -ℤ b) (to_z-of_z w64 c.args.from c.ranges.from)
    (to_z_pos w64 c.half_down.result (omega (arith, ints, (far_down c).high))) ∙ fallen c

pub overflow_cast-result : goal.overflow_cast-result
overflow_cast-result c = Within-fits w64 9223372036854775806 _ (lit< tt) (far_up c)

pub overflow_cast-result-else-from-to : goal.overflow_cast-result-else-from-to
overflow_cast-result-else-from-to c = Within-fits w64 9223372036854775806 _ (lit< tt) (far_down c)

pub overflow_add-result : goal.overflow_add-result
overflow_add-result c = subst (FitsSigned w64) (sym (computed_up c))
    (Within-fits w64 greatest_of_64_bits _ (lit< tt) (within_up c))

pub overflow_sub-result : goal.overflow_sub-result
overflow_sub-result c = subst (FitsSigned w64) (sym (computed_down c))
    (Within-fits w64 greatest_of_64_bits _ (lit< tt) (within_down c))

pub returns-then-from-to : goal.returns-then-from-to
returns-then-from-to c = to_z-of_z w64 _ (overflow_add-result c) ∙ computed_up c

pub returns-else-from-to : goal.returns-else-from-to
returns-else-from-to c = to_z-of_z w64 _ (overflow_sub-result c) ∙ computed_down c
