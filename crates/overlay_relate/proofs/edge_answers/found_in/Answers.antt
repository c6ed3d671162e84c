-- What the tests tell answers the predicates.
use Rattle.std.proofs.Common.{◌≡◌, Bool, map, subst}
use Rattle.std.specs.List.{list_any}
use Rattle.std.specs.Prelude.{◌↔◌, IsTrue}
use Rattle.overlay_graph.specs.Graphs.{graph_edges}
use Rattle.overlay_geom.specs.Rules.{is_filled}
use Rattle.overlay_plane.specs.EdgePredicates.{SomeEdge}
use Rattle.overlay_relate.specs.EdgeTests.{bits_pass, edge_passes}
use Rattle.overlay_relate.specs.Found.{IsFoundUnder}
use Rattle.overlay_relate.specs.declared.edge_test.EdgeTest.{EdgeTest}
use Rattle.overlay_relate.specs.declared.edge_test.EdgeTest.TheVariants.{BothShapes, CommonSide, SubjectSide}
use Rattle.overlay_relate.specs.declared.edge_test.EdgeTest.TheVariants.{SubjectOutside, ClipSide, ClipOutside}
use Rattle.overlay_relate.specs.declared.found.Found.{Found}
use Rattle.overlay_relate.proofs.BitsTell.{told_by_vectors}
use Rattle.overlay_relate.proofs.ToldByEdges.{is_found}
use Rattle.overlay_relate.proofs.edge_answers.found_in.Goals as goal

pub returns-clause-ok : goal.returns-clause-ok
returns-clause-ok g c =
    let es = graph_edges c.args.graph.now in
    let found : Found = record {
      fill_rule = c.args.fill_rule;
      meet = c.in_ok-meet.field-0;
      has_both = c.some_passes.result;
      has_common_side = c.some_passes-2.result;
      has_subject = c.some_passes-3.result;
      subject_pokes_out = c.some_passes-4.result;
      has_clip = c.some_passes-5.result;
      clip_pokes_out = c.some_passes-6.result;
    } in
    let told : (test : EdgeTest) (b : Bool) →
    b ≡ list_any (bits_pass test) (map (λ v. v.fill) c.edges-edges.result.now) →
    IsTrue b ↔ SomeEdge (edge_passes test (is_filled c.args.graph.now.fill_rule) es) es =
    λ test b is. told_by_vectors g.I.IntNumber.whole test c.args.graph.now.fill_rule es
    c.edges-edges.result.now c.edges-edges.ensures.filled b is in
    subst (λ rule. IsFoundUnder rule es found) c.requires.rule
    (is_found g.I.IntNumber.limit es c.edges-edges.ensures.arranged c.requires.balanced c.args.graph.now.fill_rule found
    c.in_ok-meet.ensures.ok (told BothShapes found.has_both c.some_passes.ensures)
    (told CommonSide found.has_common_side c.some_passes-2.ensures)
    (told SubjectSide found.has_subject c.some_passes-3.ensures)
    (told SubjectOutside found.subject_pokes_out c.some_passes-4.ensures)
    (told ClipSide found.has_clip c.some_passes-5.ensures)
    (told ClipOutside found.clip_pokes_out c.some_passes-6.ensures))
