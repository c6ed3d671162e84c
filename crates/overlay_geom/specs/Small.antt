-- Types with small values, so that an array of structs of a few of them fits in memory.
use Rattle.std.specs.Prelude.{◌≤◌}
use prog.Memory.{size, align}
use denote.Memory.{lone}
use denote.RattleType.{RattleType}

-- a value takes at most 8 bytes, at a multiple of at most 8
pub record IsSmall (R : RattleType) : Type 0 where
  pub size_bound : size (lone R.mir) ≤ 8
  pub align_bound : align (lone R.mir) ≤ 8
