-- The places that are put are kept.
use Rattle.std.proofs.Common.{length, sym, subst, rules}
use Rattle.std.specs.Prelude.{IsTrue}
use Rattle.overlay_walk.specs.Places.{HasPlaces}
use Rattle.overlay_walk.proofs.StartPlaces.{places_kept}
use Rattle.overlay_walk.proofs.leftmost.all_places.Goals as goal

pub returns-then-put_by_edges : goal.returns-then-put_by_edges
returns-then-put_by_edges g c = record {
  ok = let n = length c.args.steps.now in
      let is_told : IsTrue c.put_by_edges.result = search rules in
      subst (HasPlaces n) (sym c.keep_below.ensures)
      (places_kept n c.put_by_edges.new.places.items (c.put_by_edges.ensures is_told));
}
