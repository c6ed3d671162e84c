-- The entry that is read is the entry at the node's place.
use Rattle.std.proofs.Common.{length, slice_get, refl, sym, ap, ◌∙◌, arith}
use Rattle.std.specs.Option.{option_map}
use Rattle.std.proofs.lemmas.List.{length-map}
use Rattle.std.proofs.lemmas.Option.{slice_get-map, slice_get_read}
use Rattle.overlay_scan.proofs.tree.nodes.ScanNodes.entry.Goals as goal

pub returns-clause-entry : goal.returns-clause-entry
returns-clause-entry g c =
    let i = c.args.i.place in
    let nodes = c.self.inside.nodes.items in
    let inside = length-map nodes (λ n. n.links) in
    let same = ap (λ s. length s.links) c.self.view_is in
    record {
      entry = c.index.result.now.entry;
      there = ap (λ s. slice_get s.entries i) (sym c.self.view_is) ∙ slice_get-map (λ n. n.entry) nodes i
          ∙ ap (option_map (λ n. n.entry))
          (slice_get_read nodes (length nodes) i c.index.result.now refl (let within = c.requires in omega arith)
          c.index.ensures);
      is = refl;
    }
