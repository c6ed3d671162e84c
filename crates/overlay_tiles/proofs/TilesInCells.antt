-- Tiles: each contour lies in one cell, and no filled side along a line of the grid is missing.
use Rattle.std.proofs.Common.{◌≡◌, ◌⊎◌, inl, inr, ⊎_elim, Bool, true, false, ℤ, pos, neg_ℤ, ◌<ℤ◌, ◌≤ℤ◌, List, []}
use Rattle.std.proofs.Common.{◌∷◌}
use Rattle.std.proofs.Common.{Contains, map, flat_map, refl, sym, ◌∙◌, subst}
use Rattle.std.specs.List.{All}
use Rattle.std.specs.Int.{Width}
use Rattle.std.proofs.lemmas.Bool.{false≢true}
use Rattle.std.proofs.lemmas.Int.{by_lt_z}
use Rattle.std.proofs.lemmas.List.Elements.{All-nil, All-weaker}
use Rattle.std.proofs.lemmas.List.Elements.{All-contains, Contains-append_left, Contains-append_right}
use Rattle.overlay_geom.specs.Plane.{Point, Step, point_lt, reversed_step, steps_of}
use Rattle.overlay_geom.specs.Edges.{CountedEdge, subj_of}
use Rattle.overlay_geom.specs.declared.solver.Solver.{Solver}
use Rattle.overlay_geom.specs.Rules.{is_filled}
use Rattle.overlay_geom.specs.declared.fill_rule.FillRule.{FillRule}
use Rattle.overlay_geom.specs.declared.options.ContourDirection.TheVariants.{CounterClockwise}
use Rattle.overlay_geom.proofs.PointOrder.{Decides-point_lt}
use Rattle.overlay_geom.proofs.Signs.{linear}
use Rattle.overlay_plane.specs.HalfPlanes.{IsEdgeInHalf}
use Rattle.overlay_plane.specs.HalfPlanes.HalfPlane.{left_of, right_of, below, above}
use Rattle.overlay_plane.specs.Turn.{IsNextStep, IsOrbit}
use Rattle.overlay_plane.specs.Turn.Hand.{left}
use Rattle.overlay_plane.proofs.Entries.{all_of_entries, Contains-map, Contains-flat_map}
use Rattle.overlay_plane.proofs.LaterEntries.{Contains-cases}
use Rattle.overlay_plane.proofs.OrbitsApart.{is_step_of_decides}
use Rattle.overlay_plane.specs.Orbits.{is_step_of}
use Rattle.overlay_order.proofs.RuledContents.{zero_is_empty}
use Rattle.overlay_extract.specs.Bound.{PassesAnchor}
use Rattle.overlay_extract.specs.FilledSides.{AreFilledSides, IsInOneOrbit}
use Rattle.overlay_extract.specs.Sliced.{IsOutlineWithHoles, left_steps, left_steps_of_shapes, sides_under}
use Rattle.overlay_extract.specs.Tours.{LiesInOneOrbit}
use Rattle.overlay_extract.proofs.NextSides.{next_is_neighbour}
use Rattle.overlay_extract.proofs.SideLists.{filled_sides_of_edges}
use Rattle.overlay_string.specs.OneShot.{shape_and_strings}
use Rattle.overlay_string.specs.StringSlices.{AreSlicedOfPaths, IsSlicedWhole}
use Rattle.overlay_tiles.specs.Cells.{LieInOneCell, RunsAlongGrid}
use Rattle.overlay_tiles.specs.Grids.{IsGridMultiple, AreLinesAcross, AreGridLines, upright, level}
use Rattle.overlay_tiles.specs.Spans.{Span, Bounds, IsIn, IsBoxOf, points_of_paths}
use Rattle.overlay_tiles.specs.Tiles.{AreTiles}
use Rattle.overlay_tiles.proofs.Axes.{of_uprights, of_levels}
use Rattle.overlay_tiles.proofs.Boxes.{one_span}
use Rattle.overlay_tiles.proofs.ContentOfPaths.{IsGood, content_good, line_edge}
use Rattle.overlay_tiles.proofs.CoveredByGrid.{AreInBox, stay_in_box, upright_covered, level_covered}
use Rattle.overlay_tiles.proofs.CoveredLines.{IsCovered}
use Rattle.overlay_tiles.proofs.InBounds.{IsInBounds, of_each_path, unmapped, lines_in_bounds, good_in_box}
use Rattle.overlay_tiles.proofs.InOneCell.{lie_in_one_cell}
use Rattle.overlay_tiles.proofs.LinesAcross.{no_box}
use Rattle.overlay_tiles.proofs.NoneUpward.{no_orbit_on_line}
use Rattle.overlay_tiles.proofs.OneSideOfLines.{IsFirstMet, ShareOrbit, on_one_side, parted}
use Rattle.overlay_tiles.proofs.PointsOnSteps.{of_points}
use Rattle.overlay_tiles.proofs.StaysBeyond.{IsFilled, of_both}

-- a contour of a shape has a step
has_step : (shape : List (List Point)) → IsOutlineWithHoles CounterClockwise shape → (ps : List Point) →
    Contains shape ps → (s : Step) × Contains (steps_of ps) s
has_step [] is ps c = absurd is
has_step (outline ∷ holes) is ps c = ⊎_elim
    (λ same. subst (λ qs. (s : Step) × Contains (steps_of qs) s) same (_, is.0.passes))
    (λ later. (_, (All-contains (λ h. PassesAnchor false (left_steps CounterClockwise h)) holes ps is.1 later).passes))
    (Contains-cases outline holes ps c)

module _ (solver : Solver) (width : Width) (fill : FillRule) (wide high : ℤ) (some_wide : pos 0 <ℤ wide)
    (some_high : pos 0 <ℤ high) (paths lines : List (List Point)) (result : List (List (List Point)))
    (are : AreSlicedOfPaths solver width fill (shape_and_strings paths lines) result) where
  abbrev es : List CountedEdge
  es = are.sliced.arrangement

  sliced : IsSlicedWhole width fill es result
  sliced = are.sliced.sliced

  abbrev sides : List Step
  sides = sides_under fill es

  sides_are : AreFilledSides (is_filled fill) subj_of es left sides
  sides_are = filled_sides_of_edges (is_filled fill) subj_of es sliced.balanced

  filled : (s : Step) → Contains sides s → IsFilled (is_filled fill) (zero_is_empty fill) subj_of es sliced.balanced s
  filled s c = let is = sides_are.sides s c in record { edge = is.edge; along_it = is.along; filled = is.filled }

  first_met : (s t : Step) → Contains sides s → IsNextStep sides left s t → IsFirstMet es s t
  first_met s t c next =
      let near = next_is_neighbour (is_filled fill) subj_of es sliced.balanced left sides sides_are s t c next in
      record { leaves = near.leaves; none = near.none }

  -- ---- a contour of the result

  -- its steps are filled sides of one orbit, and there is one
  record IsTileContour (ps : List Point) : Type 0 where
    pub step : Step
    pub among : Contains (steps_of ps) step
    pub are_sides : (s : Step) → Contains (steps_of ps) s → Contains sides s
    pub share : (s t : Step) → Contains (steps_of ps) s → Contains (steps_of ps) t → ShareOrbit sides s t

  each_contour : (shape : List (List Point)) → Contains result shape → (ps : List Point) → Contains shape ps →
      IsTileContour ps
  each_contour shape at ps in_shape =
      let some = has_step shape (All-contains (IsOutlineWithHoles CounterClockwise) result shape sliced.roles at) ps
      in_shape in
      let one = All-contains (λ c. LiesInOneOrbit sides (left_steps CounterClockwise c)) shape ps
      (All-contains (All (λ c. LiesInOneOrbit sides (left_steps CounterClockwise c))) result shape sliced.one_orbit at)
      in_shape in record {
        step = some.0;
        among = some.1;
        are_sides = λ s c. All-contains (Contains sides) (left_steps_of_shapes CounterClockwise result) s
            sliced.are_sides
            (Contains-flat_map (flat_map (left_steps CounterClockwise)) result shape s at
            (Contains-flat_map (left_steps CounterClockwise) shape ps s in_shape c));
        share = λ s t c d. let is = one s t c d in
            record { walk = is.walk; orbit = is.orbit; has_one = is.has_one; has_other = is.has_other };
      }

  -- ---- the box

  module _ (b : Bounds) (in_paths : All (IsInBounds b) (points_of_paths paths))
      (in_lines : All (All (IsInBounds b)) lines)
    where
      good : All (IsGood (IsInBounds b)) are.content
      good = content_good (IsInBounds b) paths lines are.content are.holds (of_each_path (IsInBounds b) paths in_paths)
          in_lines

      forward : All (λ e. point_lt e.a e.b ≡ true) are.content
      forward = All-weaker (IsGood (IsInBounds b)) (λ e. point_lt e.a e.b ≡ true) (λ e h. h.forward) are.content good

      in_box : AreInBox b es
      in_box = stay_in_box b solver are.sliced.arranged.rounds are.content es are.sliced.arranged.reached forward
          are.sliced.arranged.chains.keep_ends (good_in_box b are.content good)

      -- where the box has no height, or no width, there is no orbit
      no_orbit_level : b.y.greatest ≤ℤ b.y.least → (walk : List Step) → ¬ (IsOrbit sides left walk)
      no_orbit_level flat walk orbit = no_orbit_on_line (is_filled fill) (zero_is_empty fill) subj_of es sliced.balanced
          b.y.least (inl (λ e at. let low = All-contains (IsEdgeInHalf (above b.y.least)) es e in_box.low_y at in
          let high = All-contains (IsEdgeInHalf (below b.y.greatest)) es e in_box.high_y at in
          let a = low.0 in
          let c = low.1 in
          let d = high.0 in
          let f = high.1 in
          (omega linear, omega linear))) sides walk orbit filled

      no_orbit_upright : b.x.greatest ≤ℤ b.x.least → (walk : List Step) → ¬ (IsOrbit sides left walk)
      no_orbit_upright flat walk orbit = no_orbit_on_line (is_filled fill) (zero_is_empty fill)
          subj_of es sliced.balanced
          b.x.least (inr (λ e at. let low = All-contains (IsEdgeInHalf (right_of b.x.least)) es e in_box.low_x at in
          let high = All-contains (IsEdgeInHalf (left_of b.x.greatest)) es e in_box.high_x at in
          let a = low.0 in
          let c = low.1 in
          let d = high.0 in
          let f = high.1 in
          (omega linear, omega linear))) sides walk orbit filled

      -- the ends of a side lie in the box
      side_in_x : (s : Step) → Contains sides s → IsIn b.x s.from.x × IsIn b.x s.to.x
      side_in_x s c =
          let f = filled s c in
          let low = All-contains (IsEdgeInHalf (right_of b.x.least)) es f.edge in_box.low_x f.along_it.entry in
          let high = All-contains (IsEdgeInHalf (left_of b.x.greatest)) es f.edge in_box.high_x f.along_it.entry in
          ⊎_elim (λ both. both) (λ both. both)
          (of_both (is_filled fill) (zero_is_empty fill) subj_of es sliced.balanced s f
          (λ p. IsIn b.x p.x) (λ p. IsIn b.x p.x)
          (inl (record { low = low.0; high = high.0 }, record { low = low.1; high = high.1 })))

      side_in_y : (s : Step) → Contains sides s → IsIn b.y s.from.y × IsIn b.y s.to.y
      side_in_y s c =
          let f = filled s c in
          let low = All-contains (IsEdgeInHalf (above b.y.least)) es f.edge in_box.low_y f.along_it.entry in
          let high = All-contains (IsEdgeInHalf (below b.y.greatest)) es f.edge in_box.high_y f.along_it.entry in
          ⊎_elim (λ both. both) (λ both. both)
          (of_both (is_filled fill) (zero_is_empty fill) subj_of es sliced.balanced s f
          (λ p. IsIn b.y p.y) (λ p. IsIn b.y p.y)
          (inl (record { low = low.0; high = high.0 }, record { low = low.1; high = high.1 })))

      -- ---- the lines of the grid

      module _ (across : AreLinesAcross wide high b lines) where
        upright_line : (c : ℤ) → IsGridMultiple wide b.x c → Contains lines (upright b c)
        upright_line c at = subst (λ ls. Contains ls (upright b c)) (sym across.are)
            (Contains-append_left (map (upright b) across.xs) (map (level b) across.ys) (upright b c)
            (Contains-map (upright b) across.xs c (across.at_xs.all c at)))

        level_line : (c : ℤ) → IsGridMultiple high b.y c → Contains lines (level b c)
        level_line c at = subst (λ ls. Contains ls (level b c)) (sym across.are)
            (Contains-append_right (map (upright b) across.xs) (map (level b) across.ys) (level b c)
            (Contains-map (level b) across.ys c (across.at_ys.all c at)))

        covered_upright : (c : ℤ) → IsGridMultiple wide b.x c → b.y.least <ℤ b.y.greatest →
            IsCovered of_uprights c es (neg_ℤ b.y.greatest) (neg_ℤ b.y.least)
        covered_upright c at some = upright_covered b solver are.sliced.arranged.rounds are.content es
            are.sliced.arranged.reached forward are.sliced.arranged.chains.keep_ends (good_in_box b are.content good) c
            some
            (line_edge paths lines are.content are.holds (record { x = c; y = b.y.least })
            (record { x = c; y = b.y.greatest }) (upright_line c at)
            ((Decides-point_lt (record { x = c; y = b.y.least }) (record { x = c; y = b.y.greatest })).1
            (record { x = omega linear; y = λ le. some })))

        covered_level : (c : ℤ) → IsGridMultiple high b.y c → b.x.least <ℤ b.x.greatest →
            IsCovered of_levels c es b.x.least b.x.greatest
        covered_level c at some = level_covered b solver are.sliced.arranged.rounds are.content es
            are.sliced.arranged.reached forward are.sliced.arranged.chains.keep_ends (good_in_box b are.content good) c
            some
            (line_edge paths lines are.content are.holds (record { x = b.x.least; y = c })
            (record { x = b.x.greatest; y = c }) (level_line c at)
            ((Decides-point_lt (record { x = b.x.least; y = c }) (record { x = b.x.greatest; y = c })).1
            (record { x = omega linear; y = λ le. absurd (omega linear) })))

        -- the points of a contour lie on one side of each line
        beside_upright : (ps : List Point) → IsTileContour ps → (c : ℤ) → IsGridMultiple wide b.x c →
            All (λ q. c ≤ℤ q.x) ps ⊎ All (λ q. q.x ≤ℤ c) ps
        beside_upright ps tile c at = by_lt_z b.y.least b.y.greatest
            (λ some. ⊎_elim (λ beyond. inl (of_points (λ q. c ≤ℤ q.x) ps tile.step tile.among beyond))
            (λ before. inr (of_points (λ q. q.x ≤ℤ c) ps tile.step tile.among before))
            (on_one_side (is_filled fill) (zero_is_empty fill) subj_of es sliced.balanced sides filled first_met
            of_uprights
            c (neg_ℤ b.y.greatest) (neg_ℤ b.y.least) (covered_upright c at some) (steps_of ps) tile.are_sides
            tile.share))
            (λ flat. let shared = tile.share tile.step tile.step tile.among tile.among in
            absurd (no_orbit_level flat shared.walk shared.orbit))

        beside_level : (ps : List Point) → IsTileContour ps → (c : ℤ) → IsGridMultiple high b.y c →
            All (λ q. c ≤ℤ q.y) ps ⊎ All (λ q. q.y ≤ℤ c) ps
        beside_level ps tile c at = by_lt_z b.x.least b.x.greatest
            (λ some. ⊎_elim (λ beyond. inl (of_points (λ q. c ≤ℤ q.y) ps tile.step tile.among beyond))
            (λ before. inr (of_points (λ q. q.y ≤ℤ c) ps tile.step tile.among before))
            (on_one_side (is_filled fill) (zero_is_empty fill) subj_of es sliced.balanced sides
            filled first_met of_levels
            c b.x.least b.x.greatest (covered_level c at some) (steps_of ps) tile.are_sides tile.share))
            (λ flat. let shared = tile.share tile.step tile.step tile.among tile.among in
            absurd (no_orbit_upright flat shared.walk shared.orbit))

        -- so they lie in one cell
        in_cell : (ps : List Point) → IsTileContour ps → LieInOneCell wide high ps
        in_cell [] tile = absurd (elim tile.among.1 [ ])
        in_cell (p ∷ ps) tile = lie_in_one_cell wide high some_wide some_high b p ps
            (of_points (λ q. IsIn b.x q.x) (p ∷ ps) tile.step tile.among
            (all_of_entries (λ s. IsIn b.x s.from.x × IsIn b.x s.to.x) (steps_of (p ∷ ps))
            (λ s c. side_in_x s (tile.are_sides s c))))
            (of_points (λ q. IsIn b.y q.y) (p ∷ ps) tile.step tile.among
            (all_of_entries (λ s. IsIn b.y s.from.y × IsIn b.y s.to.y) (steps_of (p ∷ ps))
            (λ s c. side_in_y s (tile.are_sides s c))))
            (beside_upright (p ∷ ps) tile) (beside_level (p ∷ ps) tile)

        -- no orbit passes a side along a line of the grid and the step back
        not_both_ways : (s : Step) → Contains sides s → RunsAlongGrid wide high b s →
            ¬ (IsInOneOrbit sides s (reversed_step s))
        not_both_ways s c (inl (at, to)) is = by_lt_z b.y.least b.y.greatest
            (λ some. parted (is_filled fill) (zero_is_empty fill) subj_of es sliced.balanced sides filled first_met
            of_uprights
            s.from.x (neg_ℤ b.y.greatest) (neg_ℤ b.y.least) (covered_upright s.from.x at some) s c refl to
            (record { walk = is.walk; orbit = is.orbit; has_one = is.has_one; has_other = is.has_other }))
            (λ flat. no_orbit_level flat is.walk is.orbit)
        not_both_ways s c (inr (at, to)) is = by_lt_z b.x.least b.x.greatest
            (λ some. parted (is_filled fill) (zero_is_empty fill) subj_of es sliced.balanced sides filled first_met
            of_levels
            s.from.y b.x.least b.x.greatest (covered_level s.from.y at some) s c refl to
            (record { walk = is.walk; orbit = is.orbit; has_one = is.has_one; has_other = is.has_other }))
            (λ flat. no_orbit_upright flat is.walk is.orbit)

  -- a side that is not in one orbit with the step back stands in the result
  stands : (s : Step) → Contains sides s → ¬ (IsInOneOrbit sides s (reversed_step s)) →
      Contains (left_steps_of_shapes CounterClockwise result) s
  stands s c not = by (is_step_of all s) refl
    where
      all : List Step
      all = left_steps_of_shapes CounterClockwise result

      by : (t : Bool) → is_step_of all s ≡ t → Contains all s
      by true e = (is_step_of_decides all s).0 e
      by false e = absurd (not ((sliced.missing refl s c).0
          (λ there. false≢true (sym e ∙ (is_step_of_decides all s).1 there))))

  -- ---- the theorem

  each_in_cell : ((ps : List Point) → IsTileContour ps → LieInOneCell wide high ps) →
      All (All (LieInOneCell wide high)) result
  each_in_cell cells = all_of_entries (All (LieInOneCell wide high)) result
      (λ shape at. all_of_entries (LieInOneCell wide high) shape
      (λ ps in_shape. cells ps (each_contour shape at ps in_shape)))

  pub are_tiles : AreGridLines wide high (points_of_paths paths) lines →
      AreTiles solver width fill wide high paths result
  are_tiles of_grid = record {
    lines = lines;
    are_lines = of_grid;
    sliced = are;
    winds = sliced.winds refl;
    far = are.winds paths lines refl;
    one_cell = ⊎_elim (λ none. each_in_cell (λ ps tile. absurd (nothing none.0 none.1 ps tile)))
        (λ some. each_in_cell (in_cell some.0 (points_in some.0 some.1) (lines_in some.0 some.1 some.2) some.2))
        of_grid;
    seams = λ b box s c runs. stands s c (⊎_elim
        (λ none. absurd (no_box b (subst (λ qs. IsBoxOf qs b) none.0 box)))
        (λ some. not_both_ways some.0 (points_in some.0 some.1) (lines_in some.0 some.1 some.2) some.2 s c
        (same_grid b box some.0 some.1 s runs)) of_grid);
    at_most_once = sliced.at_most_once;
  }
    where
      points_in : (b : Bounds) → IsBoxOf (points_of_paths paths) b → All (IsInBounds b) (points_of_paths paths)
      points_in b box k d lt = record {
        x = unmapped (IsIn b.x) (λ p. p.x) (points_of_paths paths) box.x.all k d lt;
        y = unmapped (IsIn b.y) (λ p. p.y) (points_of_paths paths) box.y.all k d lt;
      }

      lines_in : (b : Bounds) → IsBoxOf (points_of_paths paths) b → AreLinesAcross wide high b lines →
          All (All (IsInBounds b)) lines
      lines_in b box across = lines_in_bounds wide high b lines across
          (All-contains (IsIn b.x) (map (λ (p : Point). p.x) (points_of_paths paths)) b.x.least box.x.all
          box.x.has_least).high
          (All-contains (IsIn b.y) (map (λ (p : Point). p.y) (points_of_paths paths)) b.y.least box.y.all
          box.y.has_least).high

      nothing : points_of_paths paths ≡ [] → lines ≡ [] → (ps : List Point) → IsTileContour ps → ⊥
      nothing no_points no_lines ps tile =
          let b : Bounds = record {
            x = record { least = pos 0; greatest = pos 0 };
            y = record { least = pos 0; greatest = pos 0 };
          } in
          let shared = tile.share tile.step tile.step tile.among tile.among in
          no_orbit_level b (subst (All (IsInBounds b)) (sym no_points) (All-nil (IsInBounds b)))
          (subst (All (All (IsInBounds b))) (sym no_lines) (All-nil (All (IsInBounds b)))) (omega linear) shared.walk
          shared.orbit

      same_grid : (b : Bounds) → IsBoxOf (points_of_paths paths) b → (c : Bounds) → IsBoxOf (points_of_paths paths) c →
          (s : Step) → RunsAlongGrid wide high b s → RunsAlongGrid wide high c s
      same_grid b box c other s (inl (at, to)) = inl (
        subst (λ (t : Span). IsGridMultiple wide t s.from.x)
            (one_span (map (λ (p : Point). p.x) (points_of_paths paths)) b.x c.x box.x other.x) at,
        to,
      )
      same_grid b box c other s (inr (at, to)) = inr (
        subst (λ (t : Span). IsGridMultiple high t s.from.y)
            (one_span (map (λ (p : Point). p.y) (points_of_paths paths)) b.y c.y box.y other.y) at,
        to,
      )
