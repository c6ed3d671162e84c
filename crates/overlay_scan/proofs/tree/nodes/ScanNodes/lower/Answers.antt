-- One turn where the outer side is at least as high as the inner, and else two.
use Rattle.std.proofs.Common.{refl, sym, ap, ◌∙◌, arith}
use Rattle.overlay_scan.specs.Sides.{on}
use Rattle.overlay_scan.proofs.Lowering.{lowering, opening, outer_root, inner_root, first_parts, second_parts}
use Rattle.overlay_scan.proofs.Lowering.{settled_once, twice, inside_middle, twice_first, twice_second}
use Rattle.overlay_scan.proofs.Lowering.{twice_third, settled_twice}
use Rattle.overlay_scan.proofs.tree.nodes.ScanNodes.lower.Goals as goal

pub link-requires : goal.link-requires
link-requires g c =
    let w = lowering c.requires.2 (sym c.in-Some.is) c.links-top.ensures c.on-outer.ensures
    (c.on-inner.ensures ∙ ap (λ s. on s c.links-top.result) c.other.ensures) in
    let o = opening w in
    let low = c.height.ensures o.near (outer_root w) o.near_stands in
    let high = c.height-2.ensures o.far (inner_root w) o.far_stands in
    let test = c.if-height.true in
    (o.far, c.requires.1, first_parts w (omega arith))

pub link-requires-then-height : goal.link-requires-then-height
link-requires-then-height g c =
    let w = lowering c.requires.2 (sym c.in-Some.is) c.links-top.ensures c.on-outer.ensures
    (c.on-inner.ensures ∙ ap (λ s. on s c.links-top.result) c.other.ensures) in
    let o = opening w in
    let low = c.height.ensures o.near (outer_root w) o.near_stands in
    let high = c.height-2.ensures o.far (inner_root w) o.far_stands in
    let test = c.if-height.true in
    let first = c.link.ensures.tree _ _ (first_parts w (omega arith)) in
    (o.near, _, second_parts w (omega arith) _ first)

pub returns-then-height-clause-tree : goal.returns-then-height-clause-tree
returns-then-height-clause-tree g c a b h =
    let w = lowering h (sym c.in-Some.is) c.links-top.ensures c.on-outer.ensures
    (c.on-inner.ensures ∙ ap (λ s. on s c.links-top.result) c.other.ensures) in
    let o = opening w in
    let low = c.height.ensures o.near (outer_root w) o.near_stands in
    let high = c.height-2.ensures o.far (inner_root w) o.far_stands in
    let test = c.if-height.true in
    let first = c.link.ensures.tree _ _ (first_parts w (omega arith)) in
    let second = c.link-then-height.ensures.tree _ _ (second_parts w (omega arith) _ first) in
    settled_once w (omega arith) _ first _ second

pub links-middle-requires : goal.links-middle-requires
links-middle-requires g c =
    let w = lowering c.requires.2 (sym c.in-Some.is) c.links-top.ensures c.on-outer.ensures
    (c.on-inner.ensures ∙ ap (λ s. on s c.links-top.result) c.other.ensures) in
    let o = opening w in
    inside_middle w c.in-Some-inner.k (sym c.in-Some-inner.is)

pub link-requires-2 : goal.link-requires-2
link-requires-2 g c =
    let w = lowering c.requires.2 (sym c.in-Some.is) c.links-top.ensures c.on-outer.ensures
    (c.on-inner.ensures ∙ ap (λ s. on s c.links-top.result) c.other.ensures) in
    let o = opening w in
    let low = c.height.ensures o.near (outer_root w) o.near_stands in
    let high = c.height-2.ensures o.far (inner_root w) o.far_stands in
    let test = c.if-height.false in
    let v = twice w (sym c.in-Some-inner.is) c.links-middle.ensures c.on.ensures
    (ap (λ s. on s c.links-middle.result) refl) (omega arith) in
    (_, _, twice_first w v)

pub link-requires-3 : goal.link-requires-3
link-requires-3 g c =
    let w = lowering c.requires.2 (sym c.in-Some.is) c.links-top.ensures c.on-outer.ensures
    (c.on-inner.ensures ∙ ap (λ s. on s c.links-top.result) c.other.ensures) in
    let o = opening w in
    let low = c.height.ensures o.near (outer_root w) o.near_stands in
    let high = c.height-2.ensures o.far (inner_root w) o.far_stands in
    let test = c.if-height.false in
    let v = twice w (sym c.in-Some-inner.is) c.links-middle.ensures c.on.ensures
    (c.on-2.ensures ∙ ap (λ s. on s c.links-middle.result) c.other-2.ensures) (omega arith) in
    let first = c.link-2.ensures.tree _ _ (twice_first w v) in
    (_, _, twice_second w v _ first)

pub link-requires-4 : goal.link-requires-4
link-requires-4 g c =
    let w = lowering c.requires.2 (sym c.in-Some.is) c.links-top.ensures c.on-outer.ensures
    (c.on-inner.ensures ∙ ap (λ s. on s c.links-top.result) c.other.ensures) in
    let o = opening w in
    let low = c.height.ensures o.near (outer_root w) o.near_stands in
    let high = c.height-2.ensures o.far (inner_root w) o.far_stands in
    let test = c.if-height.false in
    let v = twice w (sym c.in-Some-inner.is) c.links-middle.ensures c.on.ensures
    (c.on-2.ensures ∙ ap (λ s. on s c.links-middle.result) c.other-2.ensures) (omega arith) in
    let first = c.link-2.ensures.tree _ _ (twice_first w v) in
    let second = c.link-3.ensures.tree _ _ (twice_second w v _ first) in
    (_, _, twice_third w v _ first _ second)

pub returns-clause-tree : goal.returns-clause-tree
returns-clause-tree g c a b h =
    let w = lowering h (sym c.in-Some.is) c.links-top.ensures c.on-outer.ensures
    (c.on-inner.ensures ∙ ap (λ s. on s c.links-top.result) c.other.ensures) in
    let o = opening w in
    let low = c.height.ensures o.near (outer_root w) o.near_stands in
    let high = c.height-2.ensures o.far (inner_root w) o.far_stands in
    let test = c.if-height.false in
    let v = twice w (sym c.in-Some-inner.is) c.links-middle.ensures c.on.ensures
    (c.on-2.ensures ∙ ap (λ s. on s c.links-middle.result) c.other-2.ensures) (omega arith) in
    let first = c.link-2.ensures.tree _ _ (twice_first w v) in
    let second = c.link-3.ensures.tree _ _ (twice_second w v _ first) in
    let third = c.link-4.ensures.tree _ _ (twice_third w v _ first _ second) in
    settled_twice w v _ first _ second _ third
