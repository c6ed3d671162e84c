-- What the answer of a tiling says of the arrays, and its refusals.
use Rattle.std.proofs.Common.{◌≡◌, ◌==◌, ◌<◌, ◌≤◌, ◌/◌, ◌%◌, inr, true, leb, ℕ, ℤ, List, [], ◌∷◌, length, refl, sym}
use Rattle.std.proofs.Common.{subst, arith}
use Rattle.std.proofs.lemmas.Bool.{and_parts, eqb-true, leb-true}
use Rattle.std.specs.Int.{Width}
use Rattle.overlay_geom.specs.Packed.{AreBehind}
use Rattle.overlay_geom.specs.Packed.AreBehind.{no_range, next}
use Rattle.overlay_geom.specs.Points.{plain_points}
use Rattle.overlay_geom.specs.declared.fill_rule.FillRule.{FillRule}
use Rattle.overlay_geom.specs.Plane.{Point}
use Rattle.overlay_geom.specs.declared.error.OverlayError.{OverlayError}
use Rattle.overlay_geom.specs.declared.error.OverlayError.TheVariants as error
use Rattle.overlay_geom.specs.declared.solver.Solver.{Solver}
use Rattle.overlay_tiles.specs.Grids.{FitsGrid, IsGridStep}
use Rattle.overlay_tiles.specs.Spans.{points_of_paths}
use Rattle.overlay_tiles.specs.Tiles.{AreTiles, MayRefuseTiles}
use Rattle.polyover_calls.specs.Arrays.{points_of, ranges_from, rise_from}
use Rattle.polyover_calls.specs.Asked.{fill_of, solver_of}
use Rattle.polyover_calls.specs.Given.{Contours, paths_of, AreGiven, IsFaulty}
use Rattle.polyover_calls.specs.Statuses.{status_of_fault, status_of_error}
use Rattle.polyover_calls.specs.Tiled.{AreTileChoices, AreTileNumbers, AreTilesOfContours, IsTilingRefused}
use Rattle.polyover_calls.specs.Written.{Flat, AreFlattened, IsFlat}
use Rattle.polyover_calls.specs.declared.fault.Fault.{Fault}
use Rattle.polyover_calls.specs.declared.fault.Fault.TheVariants as fault
use Rattle.polyover_calls.specs.declared.status.Status.{Status}
use Rattle.polyover_calls.specs.declared.status.Status.TheVariants.{Memory, BadOption}
use Rattle.polyover_calls.proofs.OnePacking.{all_points}
use Rattle.polyover_calls.proofs.OneTest.{no_fault}
use Rattle.polyover_calls.proofs.PointCounts.{points_counted}

-- ---- points

-- ranges up to ends that rise to a count are packed
rise_behind : (n : ℕ) (ends : List ℕ) (count : ℕ) → rise_from n ends count ≡ true →
    AreBehind n (ranges_from n ends) count
rise_behind n [] count is = subst (λ m. AreBehind n [] m) (eqb-true n count is) no_range
rise_behind n (end ∷ ends) count is =
    let parts = and_parts (leb n end) (rise_from end ends count) is in
    next (leb-true n end parts.0) (rise_behind end ends count parts.1)

module _ {I : Type 0} (whole : I → ℤ) (limit : ℕ) (subject : Contours I) where
  abbrev points : List Point
  points = plain_points whole (points_of subject.coordinates)

  -- the points of all contours, one contour after another, are those of the coordinates
  pub points_of_contours : AreGiven whole limit subject → points_of_paths (paths_of whole subject) ≡ points
  points_of_contours given = all_points whole (points_of subject.coordinates) (ranges_from 0 subject.ends)
      (subst (AreBehind 0 (ranges_from 0 subject.ends)) (sym (points_counted subject.coordinates))
      (rise_behind 0 subject.ends (length subject.coordinates / 2)
      (and_parts (length subject.coordinates % 2 == 0)
      (rise_from 0 subject.ends (length subject.coordinates / 2)) given.fit).1))

  module _ (fill solver : ℕ) (wide high : ℤ) where
    abbrev are_known : Type 0
    are_known = AreTileNumbers whole limit fill solver wide high subject

    abbrev refused : Status → Type 0
    refused = IsTilingRefused whole limit fill solver wide high subject

    -- ---- numbers

    no_choices : fill < 4 → ¬ (AreTileChoices whole limit solver wide high subject) → refused BadOption
    no_choices known none = inr (refl, (known, none))

    pub solver_unknown : (s : Status) → fill < 4 → s ≡ BadOption → 2 ≤ solver → refused s
    solver_unknown s known is more = subst refused (sym is) (no_choices known (λ are.
        let less = are.solver in
        omega (arith, more, less)))

    pub without_cells : fill < 4 → ¬ (IsGridStep limit wide × IsGridStep limit high) → refused BadOption
    without_cells known none = no_choices known (λ are. none (are.width_fits, are.height_fits))

    pub too_many_lines : fill < 4 → AreGiven whole limit subject → ¬ (FitsGrid limit wide high points) →
        refused BadOption
    too_many_lines known given none = no_choices known (λ are. none (subst (FitsGrid limit wide high)
        (points_of_contours given) (are.few_lines given)))

    -- ---- contours

    pub contours_untiled : (f : Fault) → fill < 4 → solver < 2 → IsGridStep limit wide × IsGridStep limit high →
        IsFaulty whole limit subject f → refused (status_of_fault f)
    contours_untiled f known_fill known cells = by f
      where
        faulty : (g : Fault) → IsFaulty whole limit subject g → are_known
        faulty g own = (
          known_fill,
          record {
            solver = known;
            width_fits = cells.0;
            height_fits = cells.1;
            few_lines = λ given. absurd (no_fault whole limit subject.coordinates subject.ends given g own);
          },
        )

        by : (g : Fault) → IsFaulty whole limit subject g → refused (status_of_fault g)
        by fault.Memory own = absurd own
        by fault.Ends own = (faulty fault.Ends own, own)
        by fault.Range own = (faulty fault.Range own, own)

    -- ---- tiles

    module _ (known_fill : fill < 4) (known : solver < 2) (given : AreGiven whole limit subject)
        (fits : FitsGrid limit wide high points) where
      all_known : are_known
      all_known = (
        known_fill,
        record {
          solver = known;
          width_fits = fits.width_fits;
          height_fits = fits.height_fits;
          few_lines = λ _. subst (FitsGrid limit wide high) (sym (points_of_contours given)) fits;
        },
      )

      pub memory_refused : (s : Status) → s ≡ Memory → refused s
      memory_refused s is = subst refused (sym is) (all_known, (given, tt))

      -- what the query refuses, of what is read
      read_refused : (e : OverlayError) (t : Solver) (p : List (List Point)) → t ≡ solver_of solver →
          p ≡ paths_of whole subject → MayRefuseTiles t wide high p e →
          MayRefuseTiles (solver_of solver) wide high (paths_of whole subject) e
      read_refused e t p same_t same_p may =
          subst (λ y. MayRefuseTiles y wide high (paths_of whole subject) e) same_t
          (subst (λ q. MayRefuseTiles t wide high q e) same_p may)

      pub tiling_refused : (e : OverlayError) (t : Solver) (p : List (List Point)) → t ≡ solver_of solver →
          p ≡ paths_of whole subject → MayRefuseTiles t wide high p e → refused (status_of_error e)
      tiling_refused error.Memory t p same_t same_p may = (all_known, (given, tt))
      tiling_refused error.NotSettled t p same_t same_p may =
          (all_known, (given, read_refused error.NotSettled t p same_t same_p may))
      tiling_refused error.TooManyEdges t p same_t same_p may =
          (all_known, (given, read_refused error.TooManyEdges t p same_t same_p may))
      tiling_refused error.Failed t p same_t same_p may = absurd may

      pub subject_tiled : (width : Width) (f : FillRule) (t : Solver) (p : List (List Point))
          (shapes : List (List (List Point))) (flat : Flat I) → f ≡ fill_of fill → t ≡ solver_of solver →
          p ≡ paths_of whole subject → AreTiles t width f wide high p shapes → AreFlattened whole shapes flat →
          IsFlat (AreTilesOfContours whole limit width fill solver wide high subject) whole flat
      subject_tiled width f t p shapes flat same_f same_t same_p are flattened = record {
        shapes = shapes;
        answer = record {
          known = all_known;
          subject_given = given;
          tiles = subst (λ y. AreTiles y width (fill_of fill) wide high (paths_of whole subject) shapes) same_t
              (subst (λ y. AreTiles t width y wide high (paths_of whole subject) shapes) same_f
              (subst (λ q. AreTiles t width f wide high q shapes) same_p are));
        };
        flattened = flattened;
      }
