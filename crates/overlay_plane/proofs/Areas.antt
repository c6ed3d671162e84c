-- The double area of a closed list of points, summed from its end on in a type that wraps.
use Rattle.std.proofs.Common.{◌≡◌, ℕ, ◌+◌, ◌<◌, List, [], ◌∷◌, length, get_or, drop, refl, ap, sym, ◌∙◌, arith, rules}
use Rattle.std.specs.Prelude.{ℤ, pos, ◌+ℤ◌}
use Rattle.std.specs.Int.{Width, int_wrap}
use Rattle.std.proofs.lemmas.Int.{ints, int_wrap_fits, int_wrap-add_right}
use Rattle.std.proofs.lemmas.List.{at_drop_more}
use Rattle.overlay_geom.specs.Plane.{Point}
use Rattle.overlay_geom.specs.Points.{cross_of}
use Rattle.overlay_plane.specs.MinimumArea.{cross_sum}

-- the point at which the rest of a closed list goes on: its own first one, or after the last point the first of the
-- list
abbrev pub next_in : Point → List Point → Point
next_in first [] = first
next_in first (p ∷ ps) = p

-- the part of the sum that the rest of the list has
abbrev pub rest_sum : Point → List Point → ℤ
rest_sum first [] = pos 0
rest_sum first (p ∷ ps) = cross_sum first p ps

-- one point more at the beginning of the rest
rest_sum_more : (first p : Point) (ps : List Point) → rest_sum first (p ∷ ps) ≡ cross_of p
    (next_in first ps) +ℤ rest_sum first ps
rest_sum_more first p [] = omega (arith, ints)
rest_sum_more first p (q ∷ qs) = refl

-- the wrapped sum goes on
pub wrapped_rest_more : (w : Width) (first : Point) (ps : List Point) (i : ℕ) (p : Point) → i < length ps →
    get_or ps i p ≡ p →
    int_wrap w (cross_of p (next_in first (drop (i + 1) ps)) +ℤ int_wrap w (rest_sum first (drop (i + 1) ps)))
    ≡ int_wrap w (rest_sum first (drop i ps))
wrapped_rest_more w first ps i p inside is =
    int_wrap-add_right w (cross_of p (next_in first (drop (i + 1) ps))) (rest_sum first (drop (i + 1) ps))
    ∙ ap (int_wrap w) (sym (at_drop_more (rest_sum first) ps i p inside
    ∙ ap (λ q. rest_sum first (q ∷ drop (i + 1) ps)) is
    ∙ rest_sum_more first p (drop (i + 1) ps)))

-- and the point
pub next_in_more : (first : Point) (ps : List Point) (i : ℕ) (p : Point) → i < length ps → get_or ps i p ≡ p →
    next_in first (drop i ps) ≡ p
next_in_more first ps i p inside is = at_drop_more (next_in first) ps i p inside ∙ is

-- of no points there is nothing
pub wrapped_nothing : (w : Width) → int_wrap w (pos 0) ≡ pos 0
wrapped_nothing w = int_wrap_fits w (pos 0) (search rules)
