-- Lists, of which the last entry or the first one is taken off.
use Rattle.std.proofs.Common.{◌≡◌, ℕ, zero, suc, ◌+◌, ◌≤◌, List, [], ◌∷◌, ◌++◌, map, length, get_or, take, sym}
use Rattle.std.proofs.Common.{ap, ◌∙◌, arith}
use Rattle.std.specs.List.{remove}
use Rattle.overlay_geom.proofs.Mapped.{mapped_more, mapped_whole}

-- the last one
pub last_off : {X Y : Type 0} (f : X → Y) (xs : List X) (k : ℕ) (x : X) → length xs ≡ k + 1 → x ≡ get_or xs k x →
    map f xs ≡ map f (take k xs) ++ f x ∷ []
last_off f xs k x long is = sym (mapped_whole f xs (k + 1) (omega (arith, long)))
    ∙ mapped_more f xs k x (omega (arith, long)) is

-- the first one of what is left
pub first_off : {X Y : Type 0} (f : X → Y) (xs : List X) (k : ℕ) (x : X) → length xs ≡ k + 1 → 1 ≤ k →
    x ≡ get_or xs 0 x → map f (take k xs) ≡ f x ∷ map f (remove (take k xs) 0)
first_off f [] k x long more is = absurd (omega (arith, long))
first_off f (y ∷ ys) zero x long more is = absurd (omega (arith, more))
first_off f (y ∷ ys) (suc k) x long more is = ap (λ z. f z ∷ map f (take k ys)) (sym is)
