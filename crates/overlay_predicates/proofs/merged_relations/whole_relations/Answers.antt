-- The arrangement keeps the points off the edges of each content that merges to them.
use Rattle.overlay_geom.specs.declared.solver.Solver.TheVariants.{Snapping}
use Rattle.overlay_plane.specs.Carried.{edges_in}
use Rattle.overlay_predicates.proofs.WholeArrangements.{whole_kept}
use Rattle.overlay_predicates.proofs.merged_relations.whole_relations.Goals as goal

pub settled_relations-requires-clause-ascending : goal.settled_relations-requires-clause-ascending
settled_relations-requires-clause-ascending g c = c.in_ok-arranged.ensures.ok.reached.merged.ascending

pub settled_relations-requires-clause-settled : goal.settled_relations-requires-clause-settled
settled_relations-requires-clause-settled g c = c.in_ok-arranged.ensures.ok.reached.settled

pub settled_relations-requires-clause-balanced : goal.settled_relations-requires-clause-balanced
settled_relations-requires-clause-balanced g c = c.in_ok-arranged.ensures.ok.balanced c.requires.balanced

pub returns : goal.returns
returns g c = record {
  ok = λ given merged. c.in_ok-settled_relations.ensures.ok given
      (whole_kept Snapping given (edges_in c.args.merged.now) (edges_in c.in_ok-arranged.arranged) merged
      c.requires.whole c.in_ok-arranged.ensures.ok);
}
