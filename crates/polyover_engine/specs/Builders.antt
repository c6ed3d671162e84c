-- A builder that holds the contours of an input.
use Rattle.std.specs.Prelude.{◌≡◌, ℕ, false, List, unwrap_or}
use Rattle.std.specs.Int.{w128}
use Rattle.overlay_extract.specs.Results.{Asked, asked}
use Rattle.i_overlay.specs.Builder.{Builder, IsNewBuilder}
use Rattle.overlay_builder.specs.GivenPaths.{GivenPath, added_paths}
use Rattle.overlay_builder.specs.PathLists.{HoldsPaths}
use Rattle.polyover_text.specs.declared.query.OverlayQuery.{OverlayQuery}
use Rattle.overlay_geom.specs.declared.solver.Solver.TheVariants.{Rounds}

-- a builder as the constructors without settings make it holds just the contours
pub record HasAdded (cs : List GivenPath) (b : Builder ℕ) : Type 0 where
  pub holds : HoldsPaths (added_paths false cs) b.edges
  pub made : IsNewBuilder (λ n. n) b

-- what the query asks of an overlay; areas at i64 are summed in i128
abbrev pub asked_by : OverlayQuery → Asked
asked_by q = record {
  fill = q.fill_rule;
  rule = q.overlay_rule;
  output_direction = q.output.output_direction;
  preserve_output_collinear = q.output.preserve_output_collinear;
  ogc = q.output.ogc;
  min_output_area = unwrap_or q.output.min_output_area 0;
  area_width = w128;
}

-- a builder that holds just the contours, and has the default solver and the options that the query sets
pub record IsAskedBuilder (cs : List GivenPath) (query : OverlayQuery) (b : Builder ℕ) : Type 0 where
  pub holds : HoldsPaths (added_paths false cs) b.edges
  pub ready : b.failed ≡ false
  pub by : b.solver ≡ Rounds
  pub asked : asked w128 (λ n. n) query.fill_rule query.overlay_rule b.options ≡ asked_by query
