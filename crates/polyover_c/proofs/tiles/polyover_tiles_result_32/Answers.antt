-- The contours and the sides of a cell that are handed on are those of C, and so is the answer.
use Rattle.std.specs.Int.{w32}
use Rattle.std.proofs.lemmas.Int.{to_z-of_z}
use Rattle.polyover_c.proofs.tiles.polyover_tiles_result_32.Goals as goal

pub returns : goal.returns
returns c = record {
  status = c.tiles_held.result.status;
  so = rw c.give.ensures.held (rw (
    c.given.ensures.coordinates,
    c.given.ensures.ends,
    to_z-of_z w32 c.args.width c.ranges.width,
    to_z-of_z w32 c.args.height c.ranges.height,
  ) at c.tiles_held.ensures);
  told = c.give.ensures.code;
}
