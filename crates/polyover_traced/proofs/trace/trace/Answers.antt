-- All is given rightly, and the edges that are asked for stand in the arrays.
use Rattle.std.proofs.Common.{ap, ◌∙◌, subst, map}
use Rattle.overlay_traced.specs.Given.{plain_given}
use Rattle.overlay_traced.specs.Told.{traced_arrays}
use Rattle.overlay_traced.specs.Traced.{AreTraced}
use Rattle.polyover_calls.specs.Asked.{fill_of}
use Rattle.polyover_traced.specs.EdgeLists.{edge_list, sided_edges}
use Rattle.polyover_traced.specs.Traced.{wanted_of}
use Rattle.polyover_traced.proofs.trace.trace.Goals as goal

pub returns : goal.returns
returns g c =
    let whole = g.I.IntNumber.whole in
    let t = c.in_ok-traced.traced in
    let arrays = traced_arrays t.coordinates.items t.fills.items t.source_ends.items t.sources.items in
    let solver = c.in_ok-solver.solver in
    let fill = c.in_ok-fill.fill in
    let es = sided_edges whole (edge_list c.args.edges.now.coordinates.now c.args.edges.now.sides.now) in
    record {
      asked = record {
        known = record {
          known_rule = c.in_ok-wanted.ensures.0;
          known_fill = c.in_ok-fill.ensures.0;
          choices = record {
            known_solver = c.in_ok-solver.ensures.0;
            known_sides = c.are_sides.ensures.0 c.if-not-are_sides.false;
          };
        };
        given = c.in_ok-test_edges.ensures;
      };
      traced = subst (λ s. AreTraced whole s (fill_of c.args.fill) (wanted_of c.args.rule) es arrays)
          c.in_ok-solver.ensures.1
          (subst (λ f. AreTraced whole solver f (wanted_of c.args.rule) es arrays) c.in_ok-fill.ensures.1
          (subst (λ w. AreTraced whole solver fill w es arrays) c.in_ok-wanted.ensures.1
          (subst (λ xs. AreTraced whole solver fill c.in_ok-wanted.wanted xs arrays)
          (ap (map (plain_given whole)) c.deref.ensures.value ∙ c.in_ok-given.ensures.read)
          c.in_ok-traced.ensures.traced)));
    }
