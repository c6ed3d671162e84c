-- The query of an overlay, and the steps that it selects.
use Rattle.std.specs.Prelude.{ℕ, Bool, ℤ, List}
use Rattle.std.specs.Int.{Width}
use Rattle.overlay_geom.specs.Plane.{Step}
use Rattle.overlay_geom.specs.Edges.{CountedEdge, subj_of, clip_of}
use Rattle.overlay_geom.specs.Rules.{rules_hold}
use Rattle.overlay_geom.specs.declared.fill_rule.FillRule.{FillRule}
use Rattle.overlay_geom.specs.declared.overlay_rule.OverlayRule.{OverlayRule}
use Rattle.overlay_geom.specs.declared.options.ContourDirection.{ContourDirection}
use Rattle.overlay_geom.specs.declared.options.IntOverlayOptions.{IntOverlayOptions}
use Rattle.overlay_plane.specs.SelectedSteps.{selected_steps}
use Rattle.overlay_plane.specs.MinimumArea.{reaches}
use Rattle.overlay_plane.specs.Turn.{Hand}
use Rattle.overlay_walk.specs.Steps.{filled_hand}

-- the query of an overlay: the rules, the options of the output, and the number of bits of the type in which areas are
-- summed
pub record Asked : Type 0 where
  pub fill : FillRule
  pub rule : OverlayRule
  pub output_direction : ContourDirection
  pub preserve_output_collinear : Bool
  pub ogc : Bool
  pub min_output_area : ℕ
  pub area_width : Width

-- the query by these rules and options
abbrev pub asked : {U : Type 0} → Width → (U → ℕ) → FillRule → OverlayRule → IntOverlayOptions U → Asked
asked area_width natural fill rule options = record {
  fill = fill;
  rule = rule;
  output_direction = options.output_direction;
  preserve_output_collinear = options.preserve_output_collinear;
  ogc = options.ogc;
  min_output_area = natural options.min_output_area;
  area_width = area_width;
}

-- the two rules hold of a winding of the subject and a winding of the clip. The region asked for is where they hold of
-- the windings
abbrev pub region_asked : Asked → ℤ → ℤ → Bool
region_asked q = rules_hold q.fill q.rule

-- the hand by which contours have the region: the left hand where the output is counterclockwise, the right hand where
-- it is clockwise
abbrev pub filled_asked : Asked → Hand
filled_asked q = filled_hand q.output_direction

-- the selected steps of the edges: the steps along edges with the region on exactly one side, each with that side by
-- that hand
abbrev pub selected_of : Asked → List CountedEdge → List Step
selected_of q es = selected_steps (region_asked q) subj_of clip_of (filled_asked q) es

-- the contour has three points or more, and reaches the minimum area
abbrev pub is_kept : Asked → List Step → Bool
is_kept q walk = reaches q.area_width q.min_output_area walk
