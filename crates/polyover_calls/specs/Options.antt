-- The numbers of options as C passes them.
use Rattle.std.specs.Prelude.{ℕ, ◌+◌, ◌*◌, ◌^◌}
use Rattle.polyover_calls.specs.declared.numbers.OptionNumbers.{OptionNumbers}
use Rattle.polyover_calls.specs.declared.options.Options32.{Options32}
use Rattle.polyover_calls.specs.declared.options.Options64.{Options64}

-- those at 64 bits; the smallest area has two parts
abbrev pub options_64 : Options64 → OptionNumbers ℕ
options_64 o = record {
  direction = o.direction;
  keep = o.keep;
  touching = o.touching;
  solver = o.solver;
  min_area = o.min_area_high * 2 ^ 64 + o.min_area_low;
}

-- those at 32 bits
abbrev pub options_32 : Options32 → OptionNumbers ℕ
options_32 o = record {
  direction = o.direction;
  keep = o.keep;
  touching = o.touching;
  solver = o.solver;
  min_area = o.min_area;
}
