-- The counts of the two types of counts.
use Rattle.std.specs.Prelude.{ℕ, ◌+◌, ◌*◌, Bool, false, ◌==◌, pos}
use Rattle.std.specs.Int.{bit_at}
use Rattle.overlay_geom.specs.Counts.{Counts}
use Rattle.overlay_order.specs.declared.count.ShapeCountBoolean.{ShapeCountBoolean}
use Rattle.overlay_order.specs.declared.string_count.ShapeCountString.{ShapeCountString}

-- the counts of the subject and of the clip
abbrev pub boolean_counts : ShapeCountBoolean → Counts
boolean_counts c = record { subj = c.subj; clip = c.clip; along = false; against = false }

-- bit i of a number is set
abbrev pub has_bit : ℕ → ℕ → Bool
has_bit n i = bit_at n i == 1

-- the counts of the shape, and the directions of a string: bit 0 along the edge, bit 1 against it
abbrev pub string_counts : ShapeCountString → Counts
string_counts c = record { subj = c.subj; clip = pos 0; along = has_bit c.clip 0; against = has_bit c.clip 1 }

-- the directions of a piece that runs against its edge: the two bits change places, and higher bits are dropped
abbrev pub reversed_directions : ℕ → ℕ
reversed_directions n = 2 * bit_at n 0 + bit_at n 1
