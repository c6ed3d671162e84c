-- The paths stand in the points, packed, and the coordinates and ends are those of all.
use Rattle.std.proofs.Common.{refl, ap, ◌∙◌}
use Rattle.polyover_calls.specs.Arrays.{coordinates_of, ends_of}
use Rattle.polyover_calls.proofs.path_answer.flattened_paths.Goals as goal

pub returns-clause-flattened : goal.returns-clause-flattened
returns-clause-flattened g c = record {
  points = c.args.paths.now.points.items;
  ranges = c.args.paths.now.ranges.items;
  these = refl;
  packed = c.requires.packed;
  coordinates = c.in_ok-coordinates.ensures.coordinates ∙ ap coordinates_of c.deref.ensures.value;
  ends = c.in_ok-ends.ensures.ends ∙ ap ends_of c.deref-2.ensures.value;
}
