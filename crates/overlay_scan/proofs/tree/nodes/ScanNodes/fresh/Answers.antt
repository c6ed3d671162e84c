-- A new node, or the first reusable node.
use Rattle.std.proofs.Common.{◌+◌, ◌∷◌, [], length, sym, ap, ◌∙◌}
use Rattle.std.proofs.lemmas.List.{length-append, length-set}
use Rattle.overlay_scan.specs.declared.tree.links.TheConstants.{ALONE}
use Rattle.overlay_scan.proofs.Freshness.{fresh_pushed, fresh_again, first_inside}
use Rattle.overlay_scan.proofs.tree.nodes.ScanNodes.fresh.Goals as goal

pub links-free-requires : goal.links-free-requires
links-free-requires g c = first_inside c.args.self.now.links c.requires.0 c.args.free c.requires.1 c.requires.2
    c.requires.3
    c.in-Some.node (sym c.in-Some.is)

pub use_again-requires : goal.use_again-requires
use_again-requires g c = first_inside c.args.self.now.links c.requires.0 c.args.free c.requires.1 c.requires.2
    c.requires.3
    c.in-Some.node (sym c.in-Some.is)

pub returns-clause-ok : goal.returns-clause-ok
returns-clause-ok g c root t unused forest =
    fresh_again c.args.self.now.entries c.args.self.now.links root c.args.free t unused forest c.args.entry
    c.use_again.ensures.enough c.in-Some.node (sym c.in-Some.is) c.links-free.result c.links-free.ensures
    c.use_again.new.self.links c.use_again.ensures.links c.use_again.new.self.entries c.use_again.ensures.entries

pub returns-in_default-clause-ok : goal.returns-in_default-clause-ok
returns-in_default-clause-ok g c root t unused forest =
    fresh_pushed c.args.self.now.entries c.args.self.now.links root c.args.free t unused forest c.args.entry
    c.push.ensures.enough (sym c.in_default.is) c.in_ok-node.node c.in_ok-node.ensures.place c.push.new.self.links
    c.in_ok-node.ensures.ok c.push.new.self.entries c.in_ok-node.ensures.entries

pub returns-clause-enough : goal.returns-clause-enough
returns-clause-enough g c =
    ap length c.use_again.ensures.entries ∙ length-set c.args.self.now.entries c.in-Some.node.place c.args.entry
    ∙ c.use_again.ensures.enough ∙ sym (ap length c.use_again.ensures.links
    ∙ length-set c.args.self.now.links c.in-Some.node.place ALONE)

pub returns-in_default-clause-enough : goal.returns-in_default-clause-enough
returns-in_default-clause-enough g c =
    ap length c.in_ok-node.ensures.entries ∙ length-append c.args.self.now.entries (c.args.entry ∷ [])
    ∙ ap (λ n. n + 1) c.push.ensures.enough ∙ sym (ap length c.in_ok-node.ensures.ok
    ∙ length-append c.args.self.now.links (ALONE ∷ []))
