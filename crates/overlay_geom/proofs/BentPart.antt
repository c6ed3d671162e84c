-- A part of a list that is bent inside, as a closed list: its two ends are dropped where they are straight, until none
-- is.
use Rattle.std.proofs.Common.{◌≡◌, ℕ, ◌+◌, ◌-◌, ◌<◌, ◌≤◌, List, [], ◌∷◌, length, take, drop, slice_range, remove, refl}
use Rattle.std.proofs.Common.{sym, ◌∙◌, ap, subst, ⊎_elim, arith}
use Rattle.std.specs.Prelude.{pos}
use Rattle.std.proofs.lemmas.Bool.{cases_lt}
use Rattle.std.proofs.lemmas.List.{take-take, drop-take, drop-drop}
use Rattle.std.proofs.lemmas.List.Edits.{length-between, get_or-between}
use Rattle.overlay_geom.specs.Plane.{Point, cross_at}
use Rattle.overlay_geom.specs.Thinned.{IsOnOneLine, IsThinned}
use Rattle.overlay_geom.specs.Thinned.IsThinned.{thin, drop_one}
use Rattle.overlay_geom.proofs.Cross.{cross_at_first}
use Rattle.overlay_geom.specs.Narrowed.{IsNarrowed, IsBentInside}
use Rattle.overlay_geom.proofs.NarrowedLists.{point_at, turn_at, cross_along, turn_at-first, turn_at-last}
use Rattle.overlay_geom.proofs.NarrowedLists.{remove_last, IsNarrowed-drop, IsBentInside-run}

-- nothing is left of a closed list of at most two points
pub IsThinned-few : (ps : List Point) → length ps ≤ 2 → IsThinned ps []
IsThinned-few [] few = thin (λ k h. absurd (omega arith))
IsThinned-few (p ∷ []) few = drop_one 0 (omega arith) (cross_at_first p p) (IsThinned-few [] (omega arith))
IsThinned-few (p ∷ q ∷ []) few = drop_one 0 (omega arith) (cross_at_first q p) (IsThinned-few (q ∷ []) (omega arith))
IsThinned-few (p ∷ q ∷ r ∷ ps) few = absurd (omega arith)

-- the point at a place of a part
at_part : (ps : List Point) (i j m k : ℕ) → i + m ≡ k → k < j → point_at (slice_range ps i j) m ≡ point_at ps k
at_part ps i j m k e h = get_or-between ps i j m _ (omega arith) ∙ ap (point_at ps) e

-- the turn at a part's last point
turn_at-part_last : (ps : List Point) (i j : ℕ) → i + 3 ≤ j → j ≤ length ps →
    turn_at (slice_range ps i j) (j - i - 1) ≡ cross_at (point_at ps (j - 2)) (point_at ps (j - 1)) (point_at ps i)
turn_at-part_last ps i j three within =
    let part = slice_range ps i j in
    let size : length part ≡ j - i = length-between ps i j within in
    let k = j - i - 2 in
    let e : j - i - 1 ≡ k + 1 = omega arith in
    let n : length part ≡ k + 2 = omega arith in
    ap (turn_at part) e ∙ turn_at-last part k n ∙ cross_along (at_part ps i j k (j - 2) (omega arith) (omega arith))
    (at_part ps i j (k + 1) (j - 1) (omega arith) (omega arith)) (at_part ps i j 0 i (omega arith) (omega arith))

-- the turn at a part's first point
turn_at-part_first : (ps : List Point) (i j : ℕ) → i + 3 ≤ j → j ≤ length ps → turn_at (slice_range ps i j) 0 ≡ cross_at
    (point_at ps (j - 1)) (point_at ps i) (point_at ps (i + 1))
turn_at-part_first ps i j three within =
    let part = slice_range ps i j in
    let size : length part ≡ j - i = length-between ps i j within in
    let k = j - i - 2 in
    let n : length part ≡ k + 2 = omega arith in
    turn_at-first part k n ∙ cross_along (at_part ps i j (k + 1) (j - 1) (omega arith) (omega arith))
    (at_part ps i j 0 i (omega arith) (omega arith)) (at_part ps i j 1 (i + 1) refl (omega arith))

-- a part's last point may be dropped where it is straight
pub IsNarrowed-part_last : (ps : List Point) (i j : ℕ) → i + 3 ≤ j → j ≤ length ps →
    IsOnOneLine (point_at ps (j - 2)) (point_at ps (j - 1)) (point_at ps i) →
    IsNarrowed (slice_range ps i j) (slice_range ps i (j - 1))
IsNarrowed-part_last ps i j three within straight =
    let part = slice_range ps i j in
    let size : length part ≡ j - i = length-between ps i j within in
    let k = j - i - 1 in
    let turn : turn_at part k ≡ pos 0 = turn_at-part_last ps i j three within ∙ straight in
    let e : k ≡ j - 1 - i = omega arith in
    let shorter : k ≤ j - i = omega arith in
    let left : remove part k ≡ slice_range ps i (j - 1) =
    remove_last part k (omega arith) ∙ take-take k (j - i) (drop i ps) shorter ∙ ap (λ m. take m (drop i ps)) e in
    subst (λ qs. IsNarrowed part qs) left (IsNarrowed-drop part k (omega arith) turn)

-- a part's first point may be dropped where it is straight
pub IsNarrowed-part_first : (ps : List Point) (i j : ℕ) → i + 3 ≤ j → j ≤ length ps →
    IsOnOneLine (point_at ps (j - 1)) (point_at ps i) (point_at ps (i + 1)) →
    IsNarrowed (slice_range ps i j) (slice_range ps (i + 1) j)
IsNarrowed-part_first ps i j three within straight =
    let part = slice_range ps i j in
    let size : length part ≡ j - i = length-between ps i j within in
    let turn : turn_at part 0 ≡ pos 0 = turn_at-part_first ps i j three within ∙ straight in
    let rest = j - (i + 1) in
    let e : j - i ≡ 1 + rest = omega arith in
    let left : remove part 0 ≡ slice_range ps (i + 1) j =
    ap (λ m. drop 1 (take m (drop i ps))) e ∙ drop-take 1 rest (drop i ps) ∙ ap (take rest) (drop-drop 1 i ps) in
    subst (λ qs. IsNarrowed part qs) left (IsNarrowed-drop part 0 (omega arith) turn)

-- a part that is bent inside and at both ends is thin
pub IsThinned-part : (ps : List Point) (i j : ℕ) → i + 3 ≤ j → j ≤ length ps → IsBentInside ps →
    ¬ (IsOnOneLine (point_at ps (j - 2)) (point_at ps (j - 1)) (point_at ps i)) →
    ¬ (IsOnOneLine (point_at ps (j - 1)) (point_at ps i) (point_at ps (i + 1))) →
    IsThinned (slice_range ps i j) (slice_range ps i j)
IsThinned-part ps i j three within b last first =
    let part = slice_range ps i j in
    let size : length part ≡ j - i = length-between ps i j within in
    let inside : IsBentInside part = IsBentInside-run ps i (j - i) (omega arith) b in
    let at_first : (k : ℕ) → k ≡ 0 → ¬ (turn_at part k ≡ pos 0) = λ k e straight.
    first (sym (turn_at-part_first ps i j three within) ∙ subst (λ m. turn_at part m ≡ pos 0) e straight) in
    let at_last : (k : ℕ) → k ≡ j - i - 1 → ¬ (turn_at part k ≡ pos 0) = λ k e straight.
    last (sym (turn_at-part_last ps i j three within) ∙ subst (λ m. turn_at part m ≡ pos 0) e straight) in
    thin (λ k h. ⊎_elim
    (λ inner. ⊎_elim (λ next. inside.bent k inner next) (λ end. at_last k (omega arith))
    (cases_lt (k + 1) (length part)))
    (λ low. at_first k (omega arith))
    (cases_lt 0 k))
