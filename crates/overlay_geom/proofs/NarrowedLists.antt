-- Points dropped from a closed list where they are collinear with their two neighbours.
use Rattle.std.proofs.Common.{suc, ◌≡◌, ℕ, ◌+◌, ◌-◌, ◌%◌, ◌<◌, ◌≤◌, List, ◌++◌, length, get_or, take, drop, remove, sym}
use Rattle.std.proofs.Common.{◌∙◌, ap, subst, arith}
use Rattle.std.specs.Prelude.{ℤ, pos}
use Rattle.std.proofs.lemmas.List.{append-nil, drop_all, get_or-take, get_or-drop, length-take-le, length-drop}
use Rattle.std.proofs.Math.Nat.{add-mod_right, mod-eq_of_lt, mod_self}
use Rattle.overlay_geom.specs.Plane.{Point, cross_at}
use Rattle.overlay_geom.specs.Thinned.{IsOnOneLine, point_round}
use Rattle.overlay_geom.specs.Thinned.IsThinned.{drop_one}
use Rattle.overlay_geom.specs.Narrowed.{IsNarrowed, IsBentInside}

-- the point at a place of a list
abbrev pub point_at : List Point → ℕ → Point
point_at ps k = get_or ps k (record { x = pos 0; y = pos 0 })

-- the cross product that is 0 by IsStraightAt
abbrev pub turn_at : List Point → ℕ → ℤ
turn_at ps k = cross_at (point_round ps (k + length ps - 1)) (point_round ps k) (point_round ps (k + 1))

-- the cross product of equal points
pub cross_along : {u v w p q r : Point} → u ≡ p → v ≡ q → w ≡ r → cross_at u v w ≡ cross_at p q r
cross_along {u} {v} {w} {p} {q} {r} first second third = ap (λ z. cross_at z v w) first
    ∙ ap (λ z. cross_at p z w) second ∙ ap (λ z. cross_at p q z) third

-- the place before place k + 1 is place k
before_place : (k n : ℕ) → k < n → (k + 1 + n - 1) % n ≡ k
before_place k n h = let e : k + 1 + n - 1 ≡ k + n = omega arith in ap (λ m. m % n) e ∙ add-mod_right k n
    ∙ mod-eq_of_lt h

-- the turn at place k is that of the place before, k itself, and the place after
turn_at-places : (ps : List Point) (i k j : ℕ) → (k + length ps - 1) % length ps ≡ i → k < length ps →
    (k + 1) % length ps ≡ j → turn_at ps k ≡ cross_at (point_at ps i) (point_at ps k) (point_at ps j)
turn_at-places ps i k j before here after =
    let same : k % length ps ≡ k = mod-eq_of_lt here in
    cross_along (ap (point_at ps) before) (ap (point_at ps) same) (ap (point_at ps) after)

-- the turn between two ends is that of three places in a row
pub turn_at-inside : (ps : List Point) (k : ℕ) → k + 2 < length ps → turn_at ps (k + 1) ≡ cross_at (point_at ps k)
    (point_at ps (k + 1)) (point_at ps (k + 2))
turn_at-inside ps k h =
    let n : k + 1 < length ps = omega arith in
    let e : k + 1 + 1 ≡ k + 2 = omega arith in
    turn_at-places ps k (k + 1) (k + 2) (before_place k (length ps) (omega arith)) n (ap (λ m. m % length ps) e
    ∙ mod-eq_of_lt h)

-- the first point comes after the last
pub turn_at-last : (ps : List Point) (k : ℕ) → length ps ≡ k + 2 → turn_at ps (k + 1) ≡ cross_at (point_at ps k)
    (point_at ps (k + 1)) (point_at ps 0)
turn_at-last ps k n =
    let here : k + 1 < length ps = omega arith in
    let e : k + 1 + 1 ≡ length ps = omega arith in
    turn_at-places ps k (k + 1) 0 (before_place k (length ps) (omega arith)) here (ap (λ m. m % length ps) e
    ∙ mod_self (length ps))

-- the last point comes before the first
pub turn_at-first : (ps : List Point) (k : ℕ) → length ps ≡ k + 2 → turn_at ps 0 ≡ cross_at (point_at ps (k + 1))
    (point_at ps 0) (point_at ps 1)
turn_at-first ps k n =
    let last : k + 1 < length ps = omega arith in
    let second : 1 < length ps = omega arith in
    let e : 0 + length ps - 1 ≡ k + 1 = omega arith in
    turn_at-places ps (k + 1) 0 1 (ap (λ m. m % length ps) e ∙ mod-eq_of_lt last) (omega arith) (mod-eq_of_lt second)

-- a list narrowed twice
pub IsNarrowed-trans : (ps qs rs : List Point) → IsNarrowed ps qs → IsNarrowed qs rs → IsNarrowed ps rs
IsNarrowed-trans ps qs rs g h = record { thins = λ ts t. g.thins ts (h.thins ts t) }

-- a point may be dropped that is collinear with its two neighbours
pub IsNarrowed-drop : (ps : List Point) (k : ℕ) → k < length ps → turn_at ps k ≡ pos 0 → IsNarrowed ps (remove ps k)
IsNarrowed-drop ps k h straight = record { thins = λ rs t. drop_one k h straight t }

-- the last item is taken out
pub remove_last : {X : Type 0} (xs : List X) (k : ℕ) → length xs ≡ k + 1 → remove xs k ≡ take k xs
remove_last xs k n =
    let past : length xs ≤ suc k = omega arith in
    ap (λ ys. take k xs ++ ys) (drop_all (suc k) xs past) ∙ append-nil (take k xs)

-- in a list that is bent inside no three places in a row are collinear
pub IsBentInside-at : (ps : List Point) (k : ℕ) → IsBentInside ps → k + 2 < length ps →
    ¬ (IsOnOneLine (point_at ps k) (point_at ps (k + 1)) (point_at ps (k + 2)))
IsBentInside-at ps k b h straight =
    let inner : 0 < k + 1 = omega arith in
    let next : k + 1 + 1 < length ps = omega arith in
    b.bent (k + 1) inner next (turn_at-inside ps k h ∙ straight)

-- a list is bent inside if no three places in a row are collinear
pub IsBentInside-by_places : (ps : List Point) →
    ((k : ℕ) → k + 2 < length ps → ¬ (IsOnOneLine (point_at ps k) (point_at ps (k + 1)) (point_at ps (k + 2)))) →
    IsBentInside ps
IsBentInside-by_places ps f = record {
  bent = λ k inner next straight.
      let e : k ≡ k - 1 + 1 = omega arith in
      let h : k - 1 + 2 < length ps = omega arith in
      f (k - 1) h (sym (turn_at-inside ps (k - 1) h) ∙ subst (λ m. turn_at ps m ≡ pos 0) e straight);
}

-- a run of places of a list that is bent inside
pub IsBentInside-run : (ps : List Point) (i n : ℕ) → i + n ≤ length ps → IsBentInside ps →
    IsBentInside (take n (drop i ps))
IsBentInside-run ps i n within b =
    let run = take n (drop i ps) in
    let at : (m : ℕ) → m < n → point_at run m ≡ point_at ps (i + m) = λ m h. get_or-take n (drop i ps) m _ h
    ∙ get_or-drop i ps m _ in
    let size : length run ≡ n = length-take-le n (drop i ps) (rw length-drop (omega arith)) in
    IsBentInside-by_places run (λ k h straight.
    let third : k + 2 < n = omega arith in
    let e : cross_at (point_at run k) (point_at run (k + 1)) (point_at run (k + 2)) ≡ cross_at (point_at ps (i + k))
    (point_at ps (i + k + 1)) (point_at ps (i + k + 2)) =
    cross_along (at k (omega arith)) (at (k + 1) (omega arith) ∙ ap (point_at ps) (omega arith))
    (at (k + 2) third ∙ ap (point_at ps) (omega arith)) in
    IsBentInside-at ps (i + k) b (omega arith) (sym e ∙ straight))
