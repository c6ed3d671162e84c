-- A part of a list that is written over is read back; so the one contour of a flat buffer is turned where it stands.
use Rattle.std.proofs.Common.{◌≡◌, ℕ, ℤ, ◌-◌, ◌≤◌, List, [], ◌∷◌, ◌++◌, length, take, drop, slice_range}
use Rattle.std.proofs.Common.{Bool, true, false, cond, leb, ◌&&◌, Vec, refl, sym, ◌∙◌, ap, arith}
use Rattle.std.specs.Prelude.{reverse}
use Rattle.std.specs.Vec.{with_items_from}
use Rattle.std.specs.declared.ops.Range.{Range}
use Rattle.std.proofs.lemmas.Bool.{leb-true}
use Rattle.std.proofs.lemmas.List.{length-append, length-drop, length-take-le, length-reverse, with_items_is}
use Rattle.std.proofs.lemmas.List.{drop_all, drop-append-le, take-append-le, take_all}
use Rattle.overlay_geom.specs.declared.point.IntPoint.{IntPoint}
use Rattle.overlay_geom.specs.Points.{plain_point, plain_points}
use Rattle.overlay_geom.specs.Flat.{no_range, range_within, part_in, paths_in, first_range, IsInside}
use Rattle.overlay_geom.proofs.Mapped.{map-reverse}

module _ {X : Type 0} where
  -- a list with others written over its items from one on
  abbrev written : List X → ℕ → List X → List X
  written xs at ws = take at xs ++ (ws ++ drop (length ws) (drop at xs))

  -- it is as long as it was
  length-written : (xs ws : List X) (at : ℕ) → at ≤ length xs → length ws ≤ length xs - at →
      length (written xs at ws) ≡ length xs
  length-written xs ws at begins fits =
      let whole = length-append (take at xs) (ws ++ drop (length ws) (drop at xs)) in
      let first = length-take-le at xs begins in
      let others = length-append ws (drop (length ws) (drop at xs)) in
      let rest = length-drop (length ws) (drop at xs) in
      let behind = length-drop at xs in
      omega (arith, whole, first, others, rest, behind, begins, fits)

  -- and what was written is read back
  read_back : (xs ws : List X) (at end : ℕ) → at ≤ length xs → length ws ≡ end - at →
      slice_range (written xs at ws) at end ≡ ws
  read_back xs ws at end begins size =
      let first = length-take-le at xs begins in
      let others = ws ++ drop (length ws) (drop at xs) in
      ap (take (end - at)) (drop-append-le at (take at xs) others (omega (arith, first))
      ∙ ap (λ zs. zs ++ others) (drop_all at (take at xs) (omega (arith, first))))
      ∙ take-append-le (end - at) ws (drop (length ws) (drop at xs)) (omega (arith, size))
      ∙ take_all (end - at) ws (omega (arith, size))

-- a range as it is read of a list is inside it
within_is_inside : (n : ℕ) (r : Range ℕ) → IsInside n (range_within n r)
within_is_inside n r = by (leb r.start r.end) (leb r.end n) (λ rises. leb-true r.start r.end rises)
    (λ ends. leb-true r.end n ends)
  where
    by : (a b : Bool) → (a ≡ true → r.start ≤ r.end) → (b ≡ true → r.end ≤ n) →
        IsInside n (cond (a && b) r no_range)
    by true true rises ends = record { rises = rises refl; ends = ends refl }
    by true false rises ends = record { rises = omega arith; ends = omega arith }
    by false b rises ends = record { rises = omega arith; ends = omega arith }

module _ {I A : Type 0} (whole : I → ℤ) (points : Vec (IntPoint I) A) where
  -- the one contour of a buffer, written over by its points reversed, is reversed
  pub contour_turned : (ranges : List (Range ℕ)) → length ranges ≡ 1 → (ws : List (IntPoint I)) →
      ws ≡ reverse (part_in points.items (first_range ranges)) →
      paths_in whole (with_items_from points (range_within (length points.items) (first_range ranges)).start ws).items
      ranges ≡ reverse (plain_points whole (part_in points.items (first_range ranges))) ∷ []
  contour_turned [] none ws is = absurd (omega (arith, none))
  contour_turned (r ∷ s ∷ ranges) many ws is = absurd (omega (arith, many))
  contour_turned (r ∷ []) one ws is =
      let w = range_within (length points.items) r in
      let part = part_in points.items r in
      let inside = within_is_inside (length points.items) r in
      let rises = inside.rises in
      let ends = inside.ends in
      let begins : w.start ≤ length points.items = omega (arith, rises, ends) in
      let left = length-drop w.start points.items in
      let taken = length-take-le (w.end - w.start) (drop w.start points.items) (omega (arith, rises, ends, left)) in
      let size : length ws ≡ w.end - w.start = ap length is ∙ length-reverse part ∙ taken in
      let new = written points.items w.start ws in
      let long : length new ≡ length points.items = length-written points.items ws w.start begins
      (omega (arith, size, rises, ends)) in
      ap (λ xs. plain_points whole (part_in xs r) ∷ [])
      (with_items_is points new (long ∙ sym points.ok.0))
      ∙ ap (λ n. plain_points whole (slice_range new (range_within n r).start (range_within n r).end) ∷ []) long
      ∙ ap (λ xs. plain_points whole xs ∷ []) (read_back points.items ws w.start w.end begins size ∙ is)
      ∙ ap (λ ps. ps ∷ []) (map-reverse (plain_point whole) part)
