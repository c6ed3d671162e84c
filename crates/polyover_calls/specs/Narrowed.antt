-- Coordinates of arrays taken at 32 bits.
use Rattle.std.specs.Prelude.{◌≡◌, ℕ, ℤ, List, All, map}
use Rattle.overlay_geom.specs.Numbers.{Within}
use Rattle.polyover_calls.specs.Reading.{AreWithin}
use Rattle.polyover_calls.specs.declared.numbers.OptionNumbers.{OptionNumbers}

-- the greatest coordinate in range at 32 bits
abbrev pub greatest_of_32_bits : ℕ
greatest_of_32_bits = 1073741823

-- the coordinates stand for these numbers, which are in range at 32 bits, and so in that of the coordinates
pub record AreNarrowed {I : Type 0} (whole : I → ℤ) (limit : ℕ) (cs : List I) (narrowed : List ℤ) : Type 0 where
  pub same : map whole cs ≡ narrowed
  pub narrow : All (Within greatest_of_32_bits) narrowed
  pub wide : AreWithin whole limit cs

-- the numbers of options at 32 bits, with the smallest area zero
abbrev pub without_minimum : {U : Type 0} → OptionNumbers U → OptionNumbers ℕ
without_minimum o = record {
  direction = o.direction;
  keep = o.keep;
  touching = o.touching;
  solver = o.solver;
  min_area = 0;
}
