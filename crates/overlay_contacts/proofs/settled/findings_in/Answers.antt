-- What the tests tell answers the relations.
use Rattle.std.proofs.Common.{◌≡◌, Bool, map}
use Rattle.std.specs.List.{list_any}
use Rattle.std.specs.Prelude.{◌↔◌, IsTrue}
use Rattle.overlay_graph.specs.Graphs.{graph_edges}
use Rattle.overlay_geom.specs.Rules.{is_filled}
use Rattle.overlay_plane.specs.EdgePredicates.{SomeEdge}
use Rattle.overlay_given.specs.declared.sides.SideTest.{SideTest}
use Rattle.overlay_given.specs.declared.sides.SideTest.TheVariants.{BothShapes, CommonSide, SubjectSide}
use Rattle.overlay_given.specs.declared.sides.SideTest.TheVariants.{SubjectOutside, ClipSide, ClipOutside}
use Rattle.overlay_relate.proofs.ToldByEdges.{fillable_arrangement, is_found, relations_found}
use Rattle.overlay_contacts.specs.EdgeSides.{bits_pass, edge_passes}
use Rattle.overlay_contacts.proofs.EdgeSides.{told_by_vectors}
use Rattle.overlay_contacts.proofs.settled.findings_in.Goals as goal

pub returns : goal.returns
returns g c =
    let rule = c.args.graph.now.fill_rule in
    let es = graph_edges c.args.graph.now in
    let told : (test : SideTest) (b : Bool) →
    b ≡ list_any (bits_pass test) (map (λ v. v.fill) c.edges-edges.result.now) →
    IsTrue b ↔ SomeEdge (edge_passes test (is_filled rule) es) es =
    λ test b is. told_by_vectors g.I.IntNumber.whole test rule es c.edges-edges.result.now
    c.edges-edges.ensures.filled b is in
    let limit = g.I.IntNumber.limit in
    let arranged = c.edges-edges.ensures.arranged in
    let balanced = c.requires.balanced in
    record {
      ok = record {
        fillable = fillable_arrangement limit es arranged balanced rule;
        relations = relations_found rule es _ (is_found limit es arranged balanced rule
            (record {
              fill_rule = rule;
              meet = c.in_ok-meet.meet;
              has_both = c.some_edge_passes.result;
              has_common_side = c.some_edge_passes-2.result;
              has_subject = c.some_edge_passes-3.result;
              subject_pokes_out = c.some_edge_passes-4.result;
              has_clip = c.some_edge_passes-5.result;
              clip_pokes_out = c.some_edge_passes-6.result;
            }) c.in_ok-meet.ensures.ok
            (told BothShapes c.some_edge_passes.result c.some_edge_passes.ensures)
            (told CommonSide c.some_edge_passes-2.result c.some_edge_passes-2.ensures)
            (told SubjectSide c.some_edge_passes-3.result c.some_edge_passes-3.ensures)
            (told SubjectOutside c.some_edge_passes-4.result c.some_edge_passes-4.ensures)
            (told ClipSide c.some_edge_passes-5.result c.some_edge_passes-5.ensures)
            (told ClipOutside c.some_edge_passes-6.result c.some_edge_passes-6.ensures));
      };
    }
