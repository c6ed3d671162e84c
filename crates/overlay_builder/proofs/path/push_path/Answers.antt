-- The first point belongs to the path; a refused path leaves the content as it was.
use Rattle.std.proofs.Common.{◌^◌, ◌≤◌, ◌++◌, map, take, ap, sym, ◌∙◌, subst}
use Rattle.std.proofs.lemmas.List.Elements.{All-contains}
use Rattle.overlay_geom.specs.Edges.{weight}
use Rattle.overlay_geom.specs.Points.{plain_point, plain_points, InRange}
use Rattle.overlay_geom.proofs.ResolvedSteps.{first_mapped}
use Rattle.overlay_plane.specs.Carried.{edges_in}
use Rattle.overlay_order.specs.Content.{IsContent}
use Rattle.overlay_builder.specs.Paths.{passed_edge}
use Rattle.overlay_builder.proofs.Fronts.{on_refusal}
use Rattle.overlay_builder.proofs.FirstPoints.{steps_from_the_first}
use Rattle.overlay_builder.proofs.path.push_path.Goals as goal

pub push_through-pushed-requires-clause-first : goal.push_through-pushed-requires-clause-first
push_through-pushed-requires-clause-first g c =
    All-contains (InRange g.I.IntNumber.limit) (plain_points g.I.IntNumber.whole c.args.points.now)
    (plain_point g.I.IntNumber.whole c.in-Some.first.now)
    c.requires.points (first_mapped (plain_point g.I.IntNumber.whole) c.args.points.now c.in-Some.first.now
    (c.in-Some.ensures).value)

pub returns-then-is_err-clause-err : goal.returns-then-is_err-clause-err
returns-then-is_err-clause-err g c =
    on_refusal c.push_through-pushed.result
    (c.truncate.ensures ∙ ap (λ n. take n c.push_through-pushed.new.content) c.len-held.ensures
    ∙ c.push_through-pushed.ensures.front)

pub returns-then-is_err-clause-limits : goal.returns-then-is_err-clause-limits
returns-then-is_err-clause-limits g c = λ before.
    subst (λ es. IsContent g.I.IntNumber.limit (edges_in es))
    (sym (c.truncate.ensures ∙ ap (λ n. take n c.push_through-pushed.new.content) c.len-held.ensures
    ∙ c.push_through-pushed.ensures.front)) before

pub returns-then-is_err-clause-too_many : goal.returns-then-is_err-clause-too_many
returns-then-is_err-clause-too_many g c = λ refused.
    let passed = passed_edge g.C.EdgeCount.counts c.args.passing in
    subst (λ ss. 2 ^ 31 ≤ weight (edges_in (c.args.content.now ++ map passed ss)))
    (steps_from_the_first (plain_point g.I.IntNumber.whole) c.args.is_closed c.args.points.now c.in-Some.first.now
    (c.in-Some.ensures).value)
    (c.push_through-pushed.ensures.too_many refused)
