-- By how much the windings beside an edge change where other edges meet it.
use Rattle.std.specs.Prelude.{◌≡◌, Bool, not, ◌&&◌, ℤ, pos, ◌+ℤ◌, ◌-ℤ◌, ◌*ℤ◌, int_lt, List}
use Rattle.std.specs.Ordering.{int_eq}
use Rattle.overlay_geom.specs.Edges.{CountedEdge, ends_of, subj_of, clip_of}
use Rattle.overlay_geom.specs.Plane.{Point, Edge, cross_at, point_eq}
use Rattle.overlay_plane.specs.Regions.{one_if}
use Rattle.overlay_scaled.specs.BesidePieces.{is_right_of}
use Rattle.overlay_exact.specs.Along.{Met}
use Rattle.overlay_exact.specs.MetTotals.{total_met}
use Rattle.overlay_exact.specs.WindingSteps.{winding_step}
use Rattle.overlay_given.specs.declared.beside.Beside.{Beside}
use Rattle.overlay_given.specs.declared.steps.Stop.{Stop}
use Rattle.overlay_given.specs.declared.steps.Stop.TheVariants.{First, Later}

-- v lies strictly to the left of the line from e.a to e.b
abbrev pub is_left_of : Edge → Point → Bool
is_left_of e v = int_lt (pos 0) (cross_at e.a e.b v)

-- f, which goes through e's start, leads on along e's line
abbrev pub leads_on : Edge → Edge → Bool
leads_on e f = int_eq (cross_at e.a e.b f.b) (pos 0) && not (point_eq f.b e.a)

-- how many times f's counts are added to the winding below e
abbrev pub below_by : Stop → Edge → Edge → ℤ
below_by First e f = one_if (is_right_of e f.b)
below_by Later e f = winding_step e f

-- and to the winding above it
abbrev pub above_by : Stop → Edge → Edge → ℤ
above_by First e f = one_if (is_right_of e f.b) +ℤ one_if (leads_on e f)
above_by Later e f = one_if (is_left_of e f.a) -ℤ one_if (is_left_of e f.b)

-- the sums, over the edges met at these points of e, of each count times its number of steps
pub record Rises (at : Stop) (es : List CountedEdge) (e : CountedEdge) (met : List Met)
    (b : Beside) : Type 0 where
  pub subj_below : b.subj_below ≡ total_met (λ f. subj_of f *ℤ below_by at (ends_of e) (ends_of f)) es e met
  pub subj_above : b.subj_above ≡ total_met (λ f. subj_of f *ℤ above_by at (ends_of e) (ends_of f)) es e met
  pub clip_below : b.clip_below ≡ total_met (λ f. clip_of f *ℤ below_by at (ends_of e) (ends_of f)) es e met
  pub clip_above : b.clip_above ≡ total_met (λ f. clip_of f *ℤ above_by at (ends_of e) (ends_of f)) es e met
