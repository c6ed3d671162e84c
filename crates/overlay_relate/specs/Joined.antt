-- Locations in parts, joined place by place to those in the whole.
use Rattle.std.specs.Prelude.{◌≡◌, ℕ, ◌+◌, ◌<◌, List, length, slice_index_or}
use Rattle.overlay_relate.specs.Locations.{joined_contours, joined_shapes}
use Rattle.overlay_relate.specs.declared.joined.Parts.{Parts}
use Rattle.overlay_relate.specs.declared.joined.Parts.TheVariants.{Contours, Shapes}
use Rattle.overlay_relate.specs.Runs.{IsPastRun}
use Rattle.overlay_relate.specs.declared.location.PointLocation.{PointLocation}

-- where a point lies in the whole that lies so in two parts
abbrev pub joined_by : Parts → PointLocation → PointLocation → PointLocation
joined_by Contours l m = joined_contours l m
joined_by Shapes l m = joined_shapes l m

-- to the items from the start on, as many as the count, those of the other list are joined by f
pub record AreJoined {X Y : Type 0} (f : X → Y → X) (start count : ℕ) (more : List Y) (old new : List X) : Type 0 where
  pub counted : length new ≡ length old
  pub joined : (k : ℕ) (d : X) (e : Y) → k < count →
      slice_index_or new (start + k) d ≡ f (slice_index_or old (start + k) d) (slice_index_or more k e)
  pub kept : (n : ℕ) (d : X) → IsPastRun start (start + count) n → slice_index_or new n d ≡ slice_index_or old n d
