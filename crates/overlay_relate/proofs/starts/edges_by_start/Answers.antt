-- What is not vertical, sorted.
use Rattle.std.proofs.Common.{◌≡◌, rules}
use Rattle.std.specs.Ordering.{is_lt}
use Rattle.std.proofs.lemmas.List.Sorted.{answers_always, IsPermutation-map}
use Rattle.overlay_geom.specs.Resolved.{plain_edges}
use Rattle.overlay_plane.proofs.SortedStarts.{starts_before-order}
use Rattle.overlay_relate.specs.Sweeps.{wide_edge, wide_edges}
use Rattle.overlay_relate.proofs.ByStart.{by_start_sorted, by_start, held_before, leads}
use Rattle.overlay_relate.proofs.starts.edges_by_start.Goals as goal

pub returns : goal.returns
returns g c = record {
  order = let whole = g.I.IntNumber.whole in
      by_start_sorted (plain_edges whole c.args.edges.now) c.requires.contour (wide_edges whole c.in_ok-wide.wide.items)
      (wide_edges whole c.sort_by.new.self.items)
      c.in_ok-wide.ensures.ok (IsPermutation-map (wide_edge whole) c.in_ok-wide.wide.items c.sort_by.new.self.items
      c.in_ok-sort_by.ensures.permutation)
      (by_start _ _ _ c.sort_by.new.self.items
      (c.in_ok-sort_by.ensures.sorted (held_before _ _ _) (starts_before-order (wide_edge whole) (leads _ _ _))
      (answers_always _ _ _ (λ f a r h k.
      let answer : is_lt r ≡ held_before _ _ _ a.0.now a.1.0.now = search rules in answer))));
}
