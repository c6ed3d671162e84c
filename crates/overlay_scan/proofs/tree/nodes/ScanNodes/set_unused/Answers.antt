-- Only the links of one node are set.
use Rattle.std.proofs.Common.{slice_set, ap, ◌∙◌}
use Rattle.std.proofs.Math.Seq.{map-set_same}
use Rattle.std.proofs.lemmas.List.{map-set}
use Rattle.overlay_scan.specs.Sides.{unused_before}
use Rattle.overlay_scan.proofs.tree.nodes.ScanNodes.set_unused.Goals as goal

pub returns-clause-links : goal.returns-clause-links
returns-clause-links g c =
    map-set (λ n. n.links) c.self.inside.nodes.items c.args.i.place _
    ∙ ap (λ s. slice_set s.links c.args.i.place (unused_before c.args.next)) c.self.view_is

pub returns-clause-entries : goal.returns-clause-entries
returns-clause-entries g c =
    map-set_same (λ n. n.entry) c.self.inside.nodes.items c.args.i.place _ c.index_mut.result.now
    (ap (λ n. n.entry) c.index_mut.ensures.value)
    ∙ ap (λ s. s.entries) c.self.view_is
