-- The numbers of options of slices as C passes them. Those that slices do not have are 0.
use Rattle.std.specs.Prelude.{ℕ, ◌+◌, ◌*◌, ◌^◌}
use Rattle.polyover_calls.specs.declared.numbers.OptionNumbers.{OptionNumbers}
use Rattle.polyover_slices.specs.declared.options.SliceOptions32.{SliceOptions32}
use Rattle.polyover_slices.specs.declared.options.SliceOptions64.{SliceOptions64}

-- those at 64 bits; the smallest area has two parts
abbrev pub slice_options_64 : SliceOptions64 → OptionNumbers ℕ
slice_options_64 o = record {
  direction = o.direction;
  keep = 0;
  touching = 0;
  solver = o.solver;
  min_area = o.min_area_high * 2 ^ 64 + o.min_area_low;
}

-- those at 32 bits
abbrev pub slice_options_32 : SliceOptions32 → OptionNumbers ℕ
slice_options_32 o = record {
  direction = o.direction;
  keep = 0;
  touching = 0;
  solver = o.solver;
  min_area = o.min_area;
}
