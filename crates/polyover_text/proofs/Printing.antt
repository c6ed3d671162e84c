-- The text of all items of a list, and the line of a contour.
use Rattle.std.proofs.Common.{◌≡◌, ℕ, ◌≤◌, List, [], ◌∷◌, ◌++◌, ℤ, codes, map, take, length, sym, ap, ◌∙◌, append_assoc}
use Rattle.std.proofs.Common.{Result, Ok, Err}
use Rattle.std.specs.Prelude.{OnOk, if◌then◌else◌}
use Rattle.std.specs.Result.{is_ok}
use Rattle.std.specs.List.{flat_map}
use Rattle.std.proofs.lemmas.List.{take_all, nil_from_length}
use Rattle.overlay_geom.specs.Points.{plain_point, plain_points}
use Rattle.overlay_geom.specs.declared.point.IntPoint.{IntPoint}
use Rattle.polyover_text.specs.Printed.{point_text, contour_line}

module _ {X Y : Type 0} (line : Y → List ℕ) (plain : X → Y) (xs : List X) where
  -- where none is left, all are there
  pub all_items : (i : ℕ) (begun new : List ℕ) → length xs ≤ i → new ≡ begun ++ flat_map line (map plain (take i xs)) →
      new ≡ begun ++ flat_map line (map plain xs)
  all_items i begun new done h = h ∙ ap (λ l. begun ++ flat_map line (map plain l)) (take_all i xs done)

-- LF comes to a text
pub line_ended : {V E : Type 0} (r : Result V E) (new mid all : List ℕ) →
    new ≡ (if is_ok r then mid ++ 10 ∷ [] else mid) → mid ++ 10 ∷ [] ≡ all
    → OnOk r (new ≡ all)
line_ended (Ok v) new mid all pushed h = pushed ∙ h
line_ended (Err e) new mid all pushed h = tt

-- the first point, the others with a space before each, and LF
pub contour_written : (contour rest : List (IntPoint ℤ)) (first : IntPoint ℤ) (i : ℕ) (old begun mid : List ℕ) →
    contour ≡ first ∷ rest → length rest ≤ i
    → begun ≡ old ++ point_text (plain_point (λ z. z) first)
    → mid ≡ begun ++ flat_map (λ q. codes " " ++ point_text q) (map (plain_point (λ z. z)) (take i rest))
    → mid ++ 10 ∷ [] ≡ old ++ contour_line (plain_points (λ z. z) contour)
contour_written contour rest first i old begun mid parts done start h =
    let p = point_text (plain_point (λ z. z) first) in
    let others = flat_map (λ q. codes " " ++ point_text q) (map (plain_point (λ z. z)) rest) in
    ap (λ l. l ++ 10 ∷ []) (all_items (λ q. codes " " ++ point_text q) (plain_point (λ z. z)) rest i begun mid done h
    ∙ ap (λ l. l ++ others) start)
    ∙ ap (λ l. l ++ 10 ∷ []) (append_assoc old p others) ∙ append_assoc old (p ++ others) (10 ∷ [])
    ∙ ap (λ l. old ++ contour_line (plain_points (λ z. z) l)) (sym parts)

pub no_points_written : (contour : List (IntPoint ℤ)) (old : List ℕ) → length contour ≡ 0 →
    old ++ 10 ∷ [] ≡ old ++ contour_line (plain_points (λ z. z) contour)
no_points_written contour old none = ap (λ l. old ++ contour_line (plain_points (λ z. z) l))
    (sym (nil_from_length contour none))

-- what is added where room is found is added on a success
pub line_added : {V E : Type 0} (r : Result V E) (new old line : List ℕ) →
    new ≡ (if is_ok r then old ++ line else old) → OnOk r (new ≡ old ++ line)
line_added (Ok x) new old line is = is
line_added (Err e) new old line is = tt
