-- A balanced tree of n nodes is at most twice as high as the number of binary digits of n + 1.
use Rattle.std.proofs.Common.{◌≡◌, ⊎_elim, ℕ, zero, suc, ◌+◌, ◌*◌, ◌^◌, ◌<◌, ◌≤◌, ◌∷◌, length, arith}
use Rattle.std.proofs.lemmas.Bool.{cases_lt}
use Rattle.std.proofs.lemmas.List.{length-append}
use Rattle.overlay_scan.specs.Trees.{Tree, Leaf, Fork, items, height, IsHeightBalanced}

pow_next : (n : ℕ) → 2 ^ suc n ≡ 2 * 2 ^ n
pow_next n = omega arith

pub low_height : (digits : ℕ) (t : Tree) → IsHeightBalanced t → length (items t) + 1 < 2 ^ digits →
    height t ≤ 2 * digits
low_height digits Leaf bal few = omega arith
low_height zero (Fork l i r) bal few = absurd (omega arith)
low_height (suc digits) (Fork l i r) bal few =
    let count = length-append (items l) (i ∷ items r) in
    let differ = bal.2 in
    let double = pow_next digits in
    ⊎_elim
    (λ less. let low = low_height digits l bal.0 (omega arith) in omega (arith, differ.0, differ.1))
    (λ more. let low = low_height digits r bal.1 (omega arith) in omega (arith, differ.0, differ.1))
    (cases_lt (length (items l)) (length (items r)))
