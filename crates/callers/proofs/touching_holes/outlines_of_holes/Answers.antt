-- The contours are what binding asks for.
use Rattle.std.proofs.Common.{sym, subst}
use Rattle.overlay_plane.specs.BoundContours.{walks_in}
use Rattle.overlay_plane.specs.KeptContours.{CanBeBound}
use Rattle.overlay_plane.specs.Turn.{left}
use Rattle.overlay_walk.specs.GroupedContours.{plain_contours}
use Rattle.callers.proofs.touching_holes.outlines_of_holes.Goals as goal

pub bind_contours-requires-clause-bindable : goal.bind_contours-requires-clause-bindable
bind_contours-requires-clause-bindable c =
    subst (λ cs. CanBeBound left (walks_in (plain_contours (λ z. z) cs))) (sym c.deref.ensures.value) (record {
      contours = c.in_ok-contours.ensures.contours;
      single = c.in_ok-contours.ensures.single;
      distinct_above = c.in_ok-contours.ensures.distinct_above;
      distinct_below = c.in_ok-contours.ensures.distinct_below;
      settled = c.in_ok-contours.ensures.settled;
    })
