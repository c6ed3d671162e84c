-- Filled sides that are turned twice.
use Rattle.std.proofs.Common.{◌≡◌, ℕ, ◌+◌, ◌*◌, ◌/◌, ◌%◌, ◌<◌, ◌==◌, ap, ap₂, ◌∙◌, arith}
use Rattle.std.specs.Int.{bit_at}
use Rattle.std.proofs.lemmas.Nat.Bits.{bit_at-lt}
use Rattle.overlay_order.specs.Counts.{has_bit}
use Rattle.overlay_geom.specs.Rules.{Fills, bit}
use Rattle.overlay_order.proofs.DirectionBits.{by_bit}
use Rattle.overlay_graph.proofs.SideBits.{bits_show_sides}
use Rattle.overlay_vector.specs.SideFills.{TurningTwiceKeepsFills}

-- the sides that the turned bits stand for
abbrev turned_sides : ℕ → Fills
turned_sides n = record {
  subj_above = has_bit n 1;
  subj_below = has_bit n 0;
  clip_above = has_bit n 3;
  clip_below = has_bit n 2;
}

-- a bit, times its place
bit_times : (b place : ℕ) → b < 2 → bit (b == 1) place ≡ b * place
bit_times b place small = by_bit (λ b. bit (b == 1) place ≡ b * place) b small none one
  where
    none : 0 ≡ 0 * place
    none = omega arith

    one : place ≡ 1 * place
    one = omega arith

bit_of : (n i place : ℕ) → bit (has_bit n i) place ≡ bit_at n i * place
bit_of n i place = bit_times (bit_at n i) place (bit_at-lt n i)

four_bits : (n : ℕ) → n / 1 % 2 * 1 + n / 2 % 2 * 2 + n / 4 % 2 * 4 + n / 8 % 2 * 8 ≡ n % 16
four_bits n = omega arith

pub turned_twice : TurningTwiceKeepsFills
turned_twice n =
    let shown = bits_show_sides (turned_sides n) in
    ap₂ (λ s t. s + t)
    (ap₂ (λ s t. s + t)
    (ap₂ (λ s t. s + t) (ap (λ b. bit b 1) shown.subj_below ∙ bit_of n 0 1)
    (ap (λ b. bit b 2) shown.subj_above ∙ bit_of n 1 2))
    (ap (λ b. bit b 4) shown.clip_below ∙ bit_of n 2 4))
    (ap (λ b. bit b 8) shown.clip_above ∙ bit_of n 3 8)
    ∙ four_bits n
