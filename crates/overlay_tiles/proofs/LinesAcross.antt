-- The lines of a grid across a box: they are in the coordinate range where the box is, and which grids fit.
use Rattle.std.proofs.Common.{◌≡◌, ℕ, ℤ, List, [], ◌∷◌, ◌++◌, map, All, refl, subst}
use Rattle.std.proofs.Common.{ap, ap₂, ◌∙◌, arith}
use Rattle.std.specs.Prelude.{Option, Some, None, IfSome}
use Rattle.std.proofs.lemmas.List.Elements.{All-nil, All-cons, All-append, All-head, All-tail, All-map, All-weaker}
use Rattle.std.proofs.lemmas.List.Elements.{All-contains}
use Rattle.overlay_geom.specs.Numbers.{Within}
use Rattle.overlay_geom.specs.Plane.{Point}
use Rattle.overlay_geom.specs.Points.{InRange, AllInRange}
use Rattle.overlay_geom.proofs.Signs.{linear}
use Rattle.overlay_tiles.specs.Grids.{IsGridMultiple, AreGridMultiples, AreFewMultiples, upright, level}
use Rattle.overlay_tiles.specs.Grids.{IsGridStep, FitsGrid, HasFewLines}
use Rattle.overlay_tiles.specs.Spans.{Span, Bounds, IsBoxOf, IsBoxFound, AreBoundsInRange, plain_bounds}
use Rattle.overlay_tiles.specs.Spans.{points_of_paths}
use Rattle.overlay_tiles.specs.declared.span.IntBounds.{IntBounds}
use Rattle.overlay_tiles.proofs.Boxes.{one_span}

-- to map twice is to map once
pub mapped_twice : {X Y Z : Type 0} (f : Y → Z) (g : X → Y) (xs : List X) → map (λ x. f (g x)) xs ≡ map f (map g xs)
mapped_twice f g [] = refl
mapped_twice f g (x ∷ xs) = ap (λ zs. f (g x) ∷ zs) (mapped_twice f g xs)

-- lines at multiples are the upright ones and then the level ones
pub one_after_another : {I : Type 0} (whole : I → ℤ) (b : Bounds) (xs ys : List I) (all : List (List Point)) →
    all ≡ map (λ x. upright b (whole x)) xs ++ map (λ y. level b (whole y)) ys →
    all ≡ map (upright b) (map whole xs) ++ map (level b) (map whole ys)
one_after_another whole b xs ys all are =
    are ∙ ap₂ (λ ls ms. ls ++ ms) (mapped_twice (upright b) whole xs) (mapped_twice (level b) whole ys)

-- the points of paths in range are
pub points_in_range : (limit : ℕ) (paths : List (List Point)) → All (AllInRange limit) paths →
    All (InRange limit) (points_of_paths paths)
points_in_range limit [] all = All-nil (InRange limit)
points_in_range limit (path ∷ paths) all =
    All-append (InRange limit) path (points_of_paths paths) (All-head (AllInRange limit) path paths all)
    (points_in_range limit paths (All-tail (AllInRange limit) path paths all))

-- and so is their box
pub box_in_range : (limit : ℕ) (ps : List Point) (b : Bounds) → All (InRange limit) ps → IsBoxOf ps b →
    AreBoundsInRange limit b
box_in_range limit ps b all box = record {
  x_least = All-contains (Within limit) (map (λ (p : Point). p.x) ps) b.x.least xs box.x.has_least;
  x_greatest = All-contains (Within limit) (map (λ (p : Point). p.x) ps) b.x.greatest xs box.x.has_greatest;
  y_least = All-contains (Within limit) (map (λ (p : Point). p.y) ps) b.y.least ys box.y.has_least;
  y_greatest = All-contains (Within limit) (map (λ (p : Point). p.y) ps) b.y.greatest ys box.y.has_greatest;
}
  where
    xs : All (Within limit) (map (λ (p : Point). p.x) ps)
    xs = All-map (Within limit) (λ (p : Point). p.x) ps (All-weaker (InRange limit) (λ p. Within limit p.x)
        (λ p here. here.x) ps all)

    ys : All (Within limit) (map (λ (p : Point). p.y) ps)
    ys = All-map (Within limit) (λ (p : Point). p.y) ps (All-weaker (InRange limit) (λ p. Within limit p.y)
        (λ p here. here.y) ps all)

-- where one was found
pub found_in_range : {I : Type 0} (whole : I → ℤ) (limit : ℕ) (ps : List Point) (bounds : Option (IntBounds I)) →
    All (InRange limit) ps → IsBoxFound whole ps bounds →
    IfSome bounds (λ b. AreBoundsInRange limit (plain_bounds whole b))
found_in_range whole limit ps None all found = tt
found_in_range whole limit ps (Some b) all found = box_in_range limit ps (plain_bounds whole b) all found

-- ---- lines in range

-- a multiple within a span in range
multiple_in_range : (limit : ℕ) (w : ℤ) (s : Span) (z : ℤ) → Within limit s.least → Within limit s.greatest →
    IsGridMultiple w s z → Within limit z
multiple_in_range limit w s z low high at =
    let least = low.low in
    let greatest = high.high in
    let above = at.above in
    let below = at.below in
    record { low = omega linear; high = omega linear }

-- two points in range
two_in_range : (limit : ℕ) (p q : Point) → InRange limit p → InRange limit q → AllInRange limit (p ∷ q ∷ [])
two_in_range limit p q here there =
    All-cons (InRange limit) p (q ∷ []) here (All-cons (InRange limit) q [] there (All-nil (InRange limit)))

module _ (limit : ℕ) (w h : ℤ) (b : Bounds) (xs ys : List ℤ) (at_xs : AreGridMultiples w b.x xs)
    (at_ys : AreGridMultiples h b.y ys) (within : AreBoundsInRange limit b) where
  upright_in_range : (x : ℤ) → IsGridMultiple w b.x x → AllInRange limit (upright b x)
  upright_in_range x at =
      let here = multiple_in_range limit w b.x x within.x_least within.x_greatest at in
      two_in_range limit (record { x = x; y = b.y.least }) (record { x = x; y = b.y.greatest })
      (record { x = here; y = within.y_least }) (record { x = here; y = within.y_greatest })

  level_in_range : (y : ℤ) → IsGridMultiple h b.y y → AllInRange limit (level b y)
  level_in_range y at =
      let here = multiple_in_range limit h b.y y within.y_least within.y_greatest at in
      two_in_range limit (record { x = b.x.least; y = y }) (record { x = b.x.greatest; y = y })
      (record { x = within.x_least; y = here }) (record { x = within.x_greatest; y = here })

  -- the lines across a box in range are in range
  pub lines_in_range : All (AllInRange limit) (map (upright b) xs ++ map (level b) ys)
  lines_in_range =
      All-append (AllInRange limit) (map (upright b) xs) (map (level b) ys)
      (All-map (AllInRange limit) (upright b) xs
      (All-weaker (IsGridMultiple w b.x) (λ x. AllInRange limit (upright b x)) upright_in_range xs at_xs.each))
      (All-map (AllInRange limit) (level b) ys
      (All-weaker (IsGridMultiple h b.y) (λ y. AllInRange limit (level b y)) level_in_range ys at_ys.each))

-- ---- which grids fit

-- without points there is no box
pub no_box : (b : Bounds) → ¬ (IsBoxOf [] b)
no_box b box = let within = box.x.has_least.1 in
    absurd (omega arith)

module _ {I : Type 0} (whole : I → ℤ) (limit : ℕ) (w h : ℤ) (ps : List Point) (bounds : Option (IntBounds I))
    (found : IsBoxFound whole ps bounds) where
  -- a grid fits where there are few lines across the box that was found
  pub fits_where_few : IsGridStep limit w → IsGridStep limit h → HasFewLines w h whole bounds → FitsGrid limit w h ps
  fits_where_few wide high = by bounds found
    where
      by : (o : Option (IntBounds I)) → IsBoxFound whole ps o → HasFewLines w h whole o → FitsGrid limit w h ps
      by None none few = record {
        width_fits = wide;
        height_fits = high;
        few_uprights = λ b box. absurd (no_box b (subst (λ qs. IsBoxOf qs b) none box));
        few_levels = λ b box. absurd (no_box b (subst (λ qs. IsBoxOf qs b) none box));
      }
      by (Some c) of few = record {
        width_fits = wide;
        height_fits = high;
        few_uprights = λ b box. subst (AreFewMultiples w)
            (one_span (map (λ (p : Point). p.x) ps) (plain_bounds whole c).x b.x of.x box.x) few.0;
        few_levels = λ b box. subst (AreFewMultiples h)
            (one_span (map (λ (p : Point). p.y) ps) (plain_bounds whole c).y b.y of.y box.y) few.1;
      }

  -- and there are few across it where it fits
  pub few_where_fits : FitsGrid limit w h ps → HasFewLines w h whole bounds
  few_where_fits fits = by bounds found
    where
      by : (o : Option (IntBounds I)) → IsBoxFound whole ps o → HasFewLines w h whole o
      by None none = tt
      by (Some c) of = (fits.few_uprights (plain_bounds whole c) of, fits.few_levels (plain_bounds whole c) of)
