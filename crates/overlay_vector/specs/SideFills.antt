-- The filled sides of an edge as bits, and as they are seen on the way back.
use Rattle.std.specs.Prelude.{◌≡◌, ℕ, ◌+◌, ◌%◌}
use Rattle.overlay_order.specs.Counts.{has_bit}
use Rattle.overlay_geom.specs.Rules.{bit}

-- left and right exchanged, for the subject (bits 0 and 1) and for the clip (bits 2 and 3), without higher bits
abbrev pub turned_fill : ℕ → ℕ
turned_fill n = bit (has_bit n 1) 1 + bit (has_bit n 0) 2 + bit (has_bit n 3) 4 + bit (has_bit n 2) 8

-- turned twice the filled sides are what they were, without higher bits
abbrev pub TurningTwiceKeepsFills : Type 0
TurningTwiceKeepsFills = (n : ℕ) → turned_fill (turned_fill n) ≡ n % 16
