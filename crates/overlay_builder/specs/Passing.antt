-- The counts of an edge that a contour of the subject or of the clip passes once.
use Rattle.std.specs.Prelude.{pos, negsuc}
use Rattle.overlay_order.specs.Content.{count_for}
use Rattle.overlay_order.specs.declared.count.ShapeCountBoolean.{ShapeCountBoolean}
use Rattle.overlay_order.specs.declared.data.CountWithData.{CountWithData}
use Rattle.overlay_geom.specs.declared.options.ShapeType.{ShapeType}
use Rattle.overlay_builder.specs.declared.path.StepCounts.{StepCounts}

-- 1 where the step runs from the edge's smaller to its larger end, and -1 where it runs back
abbrev pub passing : ShapeType → StepCounts ShapeCountBoolean
passing shape_type = record { along = count_for shape_type (pos 1); back = count_for shape_type (negsuc 0) }

-- the counts without data
abbrev pub without_data : ShapeCountBoolean → CountWithData (Unit {0})
without_data k = record { count = k; edge_data = tt }

-- those counts without data, for edges that may carry data
abbrev pub passing_without_data : ShapeType → StepCounts (CountWithData (Unit {0}))
passing_without_data shape_type =
    record { along = without_data (passing shape_type).along; back = without_data (passing shape_type).back }
