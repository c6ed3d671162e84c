-- The coordinate part of the way between two others, computed from widened numbers, is that of the original numbers.
use Rattle.std.proofs.Common.{◌≡◌, ℕ, ◌<◌, ◌^◌, ℤ, pos, ◌<ℤ◌, ◌≤ℤ◌, ◌∙◌, refl, arith, to_z, of_z, FitsSigned}
use Rattle.std.proofs.lemmas.Int.{ints, to_z-of_z}
use Rattle.overlay_geom.specs.Numbers.{Within}
use Rattle.overlay_geom.proofs.Widths.{Exact, Exact-widened, Exact-stored, Within-fits}
use Rattle.overlay_geom.proofs.OnWay.{place, part_way-within}
use mir.Syntax.{Width, w64, w128}
use mir.Val.{hbits}

-- a way between coordinates of a width n, with a part of the width k
pub record Way (n k : Width) (m b : ℕ) (u v t d : ℤ) : Type 0 where
  pub from : Within m u
  pub to : Within m v
  pub begun : pos 0 ≤ℤ t
  pub part : t ≤ℤ d
  pub divides : pos 0 <ℤ d
  pub limit : Within b d
  pub from_fits : FitsSigned n u
  pub to_fits : FitsSigned n v
  pub part_fits : FitsSigned k t
  pub whole_fits : FitsSigned k d

-- a part is within the limit of the whole
part-within : (b : ℕ) (t d : ℤ) → pos 0 ≤ℤ t → t ≤ℤ d → Within b d → Within b t
part-within b t d begun part limit = record {
  low = omega (arith, ints, limit.low, limit.high);
  high = omega (arith, ints, limit.high);
}

-- the number computed from the widened numbers is the place on the way, and lies within the coordinates' limit
pub Exact-part_way : (n k : Width) (m b : ℕ) (u v t d from to part whole result : ℤ) → m < 2 ^ hbits w64 →
    b < 2 ^ hbits w128 → Way n k m b u v t d →
    from ≡ to_z n (of_z n u) → to ≡ to_z n (of_z n v) → part ≡ to_z k (of_z k t) → whole ≡ to_z k (of_z k d) →
    result ≡ place (to_z w64 (of_z w64 from)) (to_z w64 (of_z w64 to)) (to_z w128 (of_z w128 part))
    (to_z w128 (of_z w128 whole)) →
    Exact m (place u v t d) (to_z w64 (of_z w64 result))
Exact-part_way n k m b u v t d from to part whole result room wide_room way a e f g h =
    Exact-stored w64 m (place u v t d) result room
    (part_way-within m u v t d way.from way.to way.begun way.part way.divides)
    (h ∙ rw (read_from.same, read_to.same, read_part.same, read_whole.same) refl)
  where
    read_from : Exact m u (to_z w64 (of_z w64 from))
    read_from = Exact-widened n w64 m u from room way.from_fits way.from a

    read_to : Exact m v (to_z w64 (of_z w64 to))
    read_to = Exact-widened n w64 m v to room way.to_fits way.to e

    read_part : Exact b t (to_z w128 (of_z w128 part))
    read_part = Exact-widened k w128 b t part wide_room way.part_fits (part-within b t d way.begun way.part way.limit) f

    read_whole : Exact b d (to_z w128 (of_z w128 whole))
    read_whole = Exact-widened k w128 b d whole wide_room way.whole_fits way.limit g

-- the number fits the coordinates' width
pub Exact-fits : (w : Width) (m : ℕ) (z computed : ℤ) → m < 2 ^ hbits w → Exact m z computed → FitsSigned w computed
Exact-fits w m z computed room e = rw e.same (Within-fits w m z room e.within)

-- the number comes back from its bits unchanged
pub Exact-narrowed : (w : Width) (m : ℕ) (z computed : ℤ) → m < 2 ^ hbits w → Exact m z computed →
    to_z w (of_z w computed) ≡ z
Exact-narrowed w m z computed room e = to_z-of_z w computed (Exact-fits w m z computed room e) ∙ e.same
