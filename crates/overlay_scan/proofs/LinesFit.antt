-- A line, of two points of small coordinates, fits in memory.
use Rattle.std.proofs.Common.{ℕ, ◌+◌, ◌-◌, ◌*◌, ◌%◌, ◌≤◌, ◌<◌, max, arith}
use Rattle.std.proofs.Math.Nat.{mod-le, max-le}
use prog.Memory.{up}

-- rounded up to a multiple
up_within : (k e : ℕ) → up k e ≤ e + k
up_within k e = let part = mod-le (k - e % k) k in omega arith

-- two points
pub line_fits : (a s : ℕ) → a ≤ 8 → s ≤ 8 → 2 * up (max a (max a 1)) (up a (up a 0 + s) + s) < 9223372036854775808
line_fits a s le_a le_s =
    let most : max a (max a 1) ≤ 8 = max-le le_a (max-le le_a (omega arith)) in
    let first = up_within a 0 in
    let second = up_within a (up a 0 + s) in
    let whole = up_within (max a (max a 1)) (up a (up a 0 + s) + s) in
    omega arith
