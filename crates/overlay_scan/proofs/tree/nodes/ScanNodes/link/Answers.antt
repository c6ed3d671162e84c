-- The stored height is at most the number of nodes, and the links of a single node change.
use Rattle.std.proofs.Common.{◌+◌, length, slice_set, ap, ap₂, ◌∙◌, arith, max}
use Rattle.std.proofs.Math.Seq.{map-set_same}
use Rattle.std.proofs.lemmas.List.{map-set, length-map}
use Rattle.overlay_scan.proofs.Standing.{top_inside, room, now_linked}
use Rattle.overlay_scan.proofs.tree.nodes.ScanNodes.link.Goals as goal

pub height-requires-2 : goal.height-requires-2
height-requires-2 g c =
    let parts = c.requires.2 in
    top_inside c.args.self.now.links c.requires.1 c.args.far parts.far_is parts.far_stands

pub overflow_add-height : goal.overflow_add-height
overflow_add-height g c =
    let parts = c.requires.2 in
    let nodes = c.self.inside.nodes in
    let low = c.height.ensures c.requires.0 parts.near_is parts.near_stands in
    let high = c.height-2.ensures c.requires.1 parts.far_is parts.far_stands in
    let larger = c.max-height.ensures in
    let most = room c.args.self.now.links c.args.side c.args.i.place 1 c.args.near c.args.far c.requires.0
    c.requires.1 parts in
    let same = ap (λ s. length s.links) c.self.view_is in
    let count = length-map nodes.items (λ n. n.links) in
    let fits = nodes.ok in
    let small = nodes.small in
    omega arith

pub returns-clause-tree : goal.returns-clause-tree
returns-clause-tree g c a b parts =
    now_linked c.args.self.now.links c.args.side c.args.i.place c.args.near c.args.far a b parts
    (c.max-height.result + 1)
    (ap (λ n. n + 1) (c.max-height.ensures ∙ ap₂ max (c.height.ensures a parts.near_is parts.near_stands)
    (c.height-2.ensures b parts.far_is parts.far_stands))) _
    (map-set (λ n. n.links) c.self.inside.nodes.items c.args.i.place _
    ∙ (λ j. slice_set (c.self.view_is j).links c.args.i.place (c.new.ensures j)))

pub returns-clause-entries : goal.returns-clause-entries
returns-clause-entries g c =
    map-set_same (λ n. n.entry) c.self.inside.nodes.items c.args.i.place _ c.index_mut.result.now
    (ap (λ n. n.entry) c.index_mut.ensures.value)
    ∙ ap (λ s. s.entries) c.self.view_is
