-- The multiples of a step in a span are one ascending list, and points have one box; tiles are slices along its lines.
use Rattle.std.proofs.Common.{◌≡◌, inl, inr, ℤ, ◌<ℤ◌, List, ◌++◌, map, refl, sym, ap₂, subst, ◌∙◌}
use Rattle.std.specs.List.{Contains}
use Rattle.std.proofs.lemmas.List.Elements.{All-weaker}
use Rattle.overlay_geom.specs.Plane.{Point}
use Rattle.overlay_geom.specs.declared.error.OverlayError.{OverlayError}
use Rattle.overlay_geom.specs.declared.error.OverlayError.TheVariants.{Memory, NotSettled, TooManyEdges, Failed}
use Rattle.overlay_geom.specs.declared.options.ContourDirection.TheVariants.{CounterClockwise}
use Rattle.overlay_geom.specs.declared.solver.Solver.TheVariants.{Snapping}
use Rattle.overlay_geom.proofs.Signs.{linear}
use Rattle.overlay_extract.proofs.SameAscending.{same_ascending}
use Rattle.overlay_extract.proofs.OneSlicing.{one_slicing}
use Rattle.overlay_extract.specs.Sliced.{IsSliced}
use Rattle.overlay_string.specs.OneAnswer.{OneSlicingAlongStrings, AnsweredStringsAreRefusedByMemoryAlone}
use Rattle.overlay_string.specs.OneShot.{MayRefusePaths, shape_and_strings}
use Rattle.overlay_string.specs.StringSlices.{AreSlicedOfPaths}
use Rattle.overlay_tiles.specs.Grids.{IsGridMultiple, AreGridMultiples, AreLinesAcross, upright, level}
use Rattle.overlay_tiles.specs.OneGrid.{OneGrid, OneTiling, OneTilingOfPaths, TiledPathsAreRefusedByMemoryAlone}
use Rattle.overlay_tiles.specs.Spans.{Span, Bounds, IsBoxOf, points_of_paths}
use Rattle.overlay_tiles.specs.Tiles.{MayRefuseLines, MayRefuseTiles}
use Rattle.overlay_tiles.proofs.Boxes.{one_span}
use Rattle.overlay_tiles.proofs.LinesAcross.{no_box}

-- ---- multiples

one_list_of_multiples : (step : ℤ) (s : Span) (multiples others : List ℤ) → AreGridMultiples step s multiples →
    AreGridMultiples step s others → multiples ≡ others
one_list_of_multiples step s multiples others a b =
    same_ascending (λ y z. y <ℤ z) (λ z lt. omega linear) (λ x y z lt more. omega linear) multiples others a.ascending
    b.ascending
    (All-weaker (IsGridMultiple step s) (Contains others) (λ z is. b.all z is) multiples a.each)
    (All-weaker (IsGridMultiple step s) (Contains multiples) (λ z is. a.all z is) others b.each)

-- ---- lines

one_list_across : (wide high : ℤ) (b : Bounds) (lines others : List (List Point)) → AreLinesAcross wide high b lines →
    AreLinesAcross wide high b others → lines ≡ others
one_list_across wide high b lines others first second =
    first.are ∙ ap₂ (λ xs ys. map (upright b) xs ++ map (level b) ys)
    (one_list_of_multiples wide b.x first.xs second.xs first.at_xs second.at_xs)
    (one_list_of_multiples high b.y first.ys second.ys first.at_ys second.at_ys)
    ∙ sym second.are

-- points have one box
one_box : (ps : List Point) (b c : Bounds) → IsBoxOf ps b → IsBoxOf ps c → b ≡ c
one_box ps b c of of' = ap₂ {C = Bounds} (λ x y. record { x = x; y = y })
    (one_span (map (λ (p : Point). p.x) ps) b.x c.x of.x of'.x)
    (one_span (map (λ (p : Point). p.y) ps) b.y c.y of.y of'.y)

pub one_grid : OneGrid
one_grid wide high ps lines others (inl (none, no_line)) (inl (none', no_line')) = no_line ∙ sym no_line'
one_grid wide high ps lines others (inl (none, no_line)) (inr (b, of, across)) =
    absurd (no_box b (subst (λ qs. IsBoxOf qs b) none of))
one_grid wide high ps lines others (inr (b, of, across)) (inl (none, no_line)) =
    absurd (no_box b (subst (λ qs. IsBoxOf qs b) none of))
one_grid wide high ps lines others (inr (b, of, across)) (inr (c, of', across')) =
    one_list_across wide high b lines others across
    (subst (λ d. AreLinesAcross wide high d others) (sym (one_box ps b c of of')) across')

-- ---- tiles

pub one_tiling : OneTiling
one_tiling solver width fill wide high paths first second a b same =
    one_slicing width 0 fill CounterClockwise b.sliced.sliced.arrangement first second
    (subst (λ es. IsSliced width 0 fill CounterClockwise es first) same a.sliced.sliced.sliced)
    b.sliced.sliced.sliced

-- by snap rounding they are slices along the same lines, so one where slices are
pub one_tiling_of_paths : OneSlicingAlongStrings → OneTilingOfPaths
one_tiling_of_paths one_slicing_along width fill wide high paths first second a b =
    one_slicing_along width fill paths b.lines first second
    (subst (λ ls. AreSlicedOfPaths Snapping width fill (shape_and_strings paths ls) first)
    (one_grid wide high (points_of_paths paths) a.lines b.lines a.are_lines b.are_lines) a.sliced) b.sliced

-- ---- refusals

pub tiled_paths_are_refused_by_memory_alone : AnsweredStringsAreRefusedByMemoryAlone →
    TiledPathsAreRefusedByMemoryAlone
tiled_paths_are_refused_by_memory_alone refused width fill wide high paths result tiles = by
  where
    along : (e : OverlayError) → MayRefuseLines Snapping wide high paths e → e ≡ Memory
    along e may = refused.slices width fill paths tiles.lines result tiles.sliced e
        (subst (λ ls. MayRefusePaths Snapping (shape_and_strings paths ls) e)
        (one_grid wide high (points_of_paths paths) may.lines tiles.lines may.are_lines tiles.are_lines) may.refused)

    by : (e : OverlayError) → MayRefuseTiles Snapping wide high paths e → e ≡ Memory
    by Memory may = refl
    by NotSettled may = along NotSettled may
    by TooManyEdges may = along TooManyEdges may
    by Failed may = absurd may
