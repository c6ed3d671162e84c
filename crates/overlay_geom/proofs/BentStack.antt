-- A stack of points before the next: its last point is dropped where it is collinear with its two neighbours.
use Rattle.std.proofs.Common.{◌≡◌, ℕ, suc, ◌+◌, ◌<◌, List, [], ◌∷◌, ◌++◌, length, take, remove, sym, ◌∙◌, ap, subst}
use Rattle.std.proofs.Common.{⊎_elim, arith}
use Rattle.std.specs.Prelude.{pos}
use Rattle.std.proofs.lemmas.Bool.{cases_lt}
use Rattle.std.proofs.lemmas.List.{get_or_append_left, get_or_at, length-append}
use Rattle.std.proofs.lemmas.List.Edits.{remove-append_left}
use Rattle.overlay_geom.specs.Plane.{Point, cross_at}
use Rattle.overlay_geom.specs.Thinned.{IsOnOneLine}
use Rattle.overlay_geom.specs.Narrowed.{IsNarrowed, IsBentInside}
use Rattle.overlay_geom.proofs.NarrowedLists.{point_at, turn_at, cross_along, turn_at-inside, remove_last}
use Rattle.overlay_geom.proofs.NarrowedLists.{IsNarrowed-drop, IsBentInside-at, IsBentInside-by_places}

-- the last two points of a stack and the next stand in a row
row_at_top : (ps : List Point) (w : Point) (rest : List Point) (k : ℕ) → length ps ≡ k + 2 →
    cross_at (point_at (ps ++ w ∷ rest) k) (point_at (ps ++ w ∷ rest) (k + 1)) (point_at (ps ++ w ∷ rest) (k + 2))
    ≡ cross_at (point_at ps k) (point_at ps (k + 1)) w
row_at_top ps w rest k n =
    cross_along (get_or_append_left ps (w ∷ rest) _ k (omega arith))
    (get_or_append_left ps (w ∷ rest) _ (k + 1) (omega arith)) (get_or_at ps w rest _ (k + 2) n)

-- the last point of a stack may be dropped if it is collinear with the point before it and the next
pub IsNarrowed-pop : (ps : List Point) (w : Point) (rest : List Point) (k : ℕ) → length ps ≡ k + 2 →
    IsOnOneLine (point_at ps k) (point_at ps (k + 1)) w → IsNarrowed (ps ++ w ∷ rest) (take (k + 1) ps ++ w ∷ rest)
IsNarrowed-pop ps w rest k n straight =
    let all = ps ++ w ∷ rest in
    let size : length all ≡ length ps + suc (length rest) = length-append ps (w ∷ rest) in
    let h : k + 2 < length all = omega arith in
    let turn : turn_at all (k + 1) ≡ pos 0 = turn_at-inside all k h ∙ row_at_top ps w rest k n ∙ straight in
    let last : k + 1 < length ps = omega arith in
    let whole : length ps ≡ k + 1 + 1 = omega arith in
    let left : remove all (k + 1) ≡ take (k + 1) ps ++ w ∷ rest =
    remove-append_left ps (w ∷ rest) (k + 1) last ∙ ap (λ qs. qs ++ w ∷ rest) (remove_last ps (k + 1) whole) in
    subst (λ qs. IsNarrowed all qs) left (IsNarrowed-drop all (k + 1) (omega arith) turn)

-- a stack stays bent inside under the next point where its last point is bent before it
pub IsBentInside-push : (ps : List Point) (w : Point) (k : ℕ) → length ps ≡ k + 2 → IsBentInside ps →
    ¬ (IsOnOneLine (point_at ps k) (point_at ps (k + 1)) w) → IsBentInside (ps ++ w ∷ [])
IsBentInside-push ps w k n b bent =
    let all = ps ++ w ∷ [] in
    let size : length all ≡ length ps + 1 = length-append ps (w ∷ []) in
    let below : (m : ℕ) → m < length ps → point_at all m ≡ point_at ps m = λ m h. get_or_append_left ps
    (w ∷ []) _ m h in
    IsBentInside-by_places all (λ j h straight. ⊎_elim
    (λ lt. let e : cross_at (point_at all j) (point_at all (j + 1)) (point_at all (j + 2)) ≡ cross_at (point_at ps j)
    (point_at ps (j + 1)) (point_at ps (j + 2)) = cross_along (below j (omega arith)) (below (j + 1) (omega arith))
    (below (j + 2) lt) in
    IsBentInside-at ps j b lt (sym e ∙ straight))
    (λ ge. let e : j ≡ k = omega arith in
    bent (sym (row_at_top ps w [] k n)
    ∙ subst (λ m. cross_at (point_at all m) (point_at all (m + 1)) (point_at all (m + 2)) ≡ pos 0) e straight))
    (cases_lt (j + 2) (length ps)))
