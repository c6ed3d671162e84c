-- Only one node is set.
use Rattle.std.proofs.Common.{slice_set, ap, ◌∙◌}
use Rattle.std.proofs.lemmas.List.{map-set}
use Rattle.overlay_scan.specs.declared.tree.links.TheConstants.{ALONE}
use Rattle.overlay_scan.proofs.tree.nodes.ScanNodes.use_again.Goals as goal

pub returns-clause-entries : goal.returns-clause-entries
returns-clause-entries g c =
    map-set (λ n. n.entry) c.self.inside.nodes.items c.args.i.place _
    ∙ ap (λ s. slice_set s.entries c.args.i.place c.args.entry) c.self.view_is

pub returns-clause-links : goal.returns-clause-links
returns-clause-links g c =
    map-set (λ n. n.links) c.self.inside.nodes.items c.args.i.place _
    ∙ ap (λ s. slice_set s.links c.args.i.place ALONE) c.self.view_is
