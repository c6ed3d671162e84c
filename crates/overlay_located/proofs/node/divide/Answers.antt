-- One line more is divided.
use Rattle.std.proofs.Common.{◌≡◌, List, ◌∷◌, ◌++◌, [], map, take, ◌∙◌, sym, ap, subst, rules}
use Rattle.std.proofs.lemmas.List.{map-append}
use Rattle.overlay_geom.proofs.Mapped.{mapped_more, mapped_whole}
use Rattle.overlay_geom.specs.Edges.{CountedEdge}
use Rattle.overlay_located.specs.Slabs.{plain_line, plain_lines, plain_slab, AreDivided}
use Rattle.overlay_located.proofs.DividedEdges.{divided_as, divided_spanning, divided_beside, divided_kept}
use Rattle.overlay_located.proofs.Slabs.{spans_from_test, beside_from_test}
use Rattle.overlay_located.proofs.node.divide.Goals as goal
use Rattle.overlay_located.proofs.node.divide.Goals.{then-spans+in_ok-push}
use Rattle.overlay_located.proofs.node.divide.Goals.{else-spans+then-not-is_beside+in_ok-push-2}
use Rattle.overlay_located.proofs.node.divide.Goals.{else-spans+else-not-is_beside}

pushed : {X Y : Type 0} (f : X → Y) (new old : List X) (x : X) → new ≡ old ++ x ∷ [] → map f new ≡ map f old ++ f x ∷ []
pushed f new old x is = ap (map f) is ∙ map-append f old (x ∷ [])

pub loop-line-preserved : goal.loop-line-preserved
loop-line-preserved g c =
    let whole = g.I.IntNumber.whole in
    let counts = g.C.EdgeCount.counts in
    let line = plain_line whole counts in
    let s = plain_slab whole c.args.slab in
    let e = line c.line-item.result in
    let es = plain_lines whole counts (take c.loop-line.line-index c.args.lines.now) in
    let spanning = plain_lines whole counts c.loop-line.spanning.items in
    let kept = plain_lines whole counts c.loop-line.kept.items in
    subst (λ (fs : List CountedEdge). AreDivided s fs (plain_lines whole counts c.if-spans.spanning.items)
    (plain_lines whole counts c.if-spans.kept.items))
    (sym (mapped_more line c.args.lines.now c.loop-line.line-index c.line-item.result c.loop-line-test.true
    c.line-item.is))
    (elim c.if-spans.branch [
      | then-spans+in_ok-push w ↦ divided_as s (es ++ e ∷ []) _ _ _ _
          (ap (λ v. plain_lines whole counts v.items) w.spanning-is
          ∙ pushed line _ c.loop-line.spanning.items _ w.in_ok-push.ensures.items)
          (ap (λ v. plain_lines whole counts v.items) w.kept-is)
          (divided_spanning s es spanning kept c.loop-line.invariant e
          (spans_from_test s e (sym c.spans.ensures ∙ w.if-spans.true)))
      | else-spans+then-not-is_beside+in_ok-push-2 w ↦ divided_as s (es ++ e ∷ []) _ _ _ _
          (ap (λ v. plain_lines whole counts v.items) w.spanning-is)
          (ap (λ v. plain_lines whole counts v.items) w.kept-is
          ∙ pushed line _ c.loop-line.kept.items _ w.in_ok-push-2.ensures.items)
          (divided_kept s es spanning kept c.loop-line.invariant e)
      | else-spans+else-not-is_beside w ↦ divided_as s (es ++ e ∷ []) _ _ _ _
          (ap (λ v. plain_lines whole counts v.items) w.spanning-is)
          (ap (λ v. plain_lines whole counts v.items) w.kept-is)
          (divided_beside s es spanning kept c.loop-line.invariant e
          (beside_from_test s e (sym w.is_beside.ensures ∙ search rules)))
    ])

pub returns : goal.returns
returns g c =
    let whole = g.I.IntNumber.whole in
    let counts = g.C.EdgeCount.counts in
    subst (λ (es : List CountedEdge). AreDivided (plain_slab whole c.args.slab) es
    (plain_lines whole counts c.loop-line.spanning.items) (plain_lines whole counts c.loop-line.kept.items))
    (mapped_whole (plain_line whole counts) c.args.lines.now c.loop-line.line-index c.loop-line-test.false)
    c.loop-line.invariant
