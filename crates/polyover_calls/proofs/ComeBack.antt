-- Points and coordinates, and ranges and ends, one by one.
use Rattle.std.proofs.Common.{◌≡◌, ◌%◌, ℕ, suc, [], ◌∷◌, length, refl, sym, ap, ◌∙◌, arith}
use Rattle.polyover_calls.specs.Arrays.{ranges_from, ends_of}
use Rattle.polyover_calls.specs.ArrayLaws.{PointsComeBack, CoordinatesComeBack, EndsComeBack, RangesComeBack}

pub points_come_back : (I : Type 0) → PointsComeBack I
points_come_back I [] = refl
points_come_back I (p ∷ ps) = ap (λ qs. p ∷ qs) (points_come_back I ps)

-- an even count of coordinates without its first two is even
two_less : (n : ℕ) → suc (suc n) % 2 ≡ 0 → n % 2 ≡ 0
two_less n even = omega (arith, even)

pub coordinates_come_back : (I : Type 0) → CoordinatesComeBack I
coordinates_come_back I [] even = refl
coordinates_come_back I (x ∷ []) even = absurd (omega (arith, even))
coordinates_come_back I (x ∷ y ∷ cs) even =
    ap (λ ds. x ∷ y ∷ ds) (coordinates_come_back I cs (two_less (length cs) even))

pub ends_come_back : EndsComeBack
ends_come_back n [] = refl
ends_come_back n (end ∷ ends) = ap (λ es. end ∷ es) (ends_come_back end ends)

pub ranges_come_back : RangesComeBack
ranges_come_back n [] follow = refl
ranges_come_back n (r ∷ rs) follow =
    ap (λ k. record { start = k; end = r.end } ∷ ranges_from r.end (ends_of rs)) (sym follow.0)
    ∙ ap (λ others. r ∷ others) (ranges_come_back r.end rs follow.1)
