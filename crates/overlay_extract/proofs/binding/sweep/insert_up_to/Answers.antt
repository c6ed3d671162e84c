-- An edge is put in, or has ended, or starts right of x, as do all after it.
use Rattle.std.proofs.Common.{◌≡◌, ◌∷◌, ◌++◌, ◌+◌, [], ◌<◌, int_lt, ℕ, length, take, sym, ap, ◌∙◌, subst}
use Rattle.std.proofs.lemmas.List.{length-map, take_more}
use Rattle.overlay_geom.proofs.Comparisons.{is_lt-int_cmp}
use Rattle.overlay_geom.proofs.Mapped.{read_mapped}
use Rattle.overlay_scan.specs.Scan.{Entry}
use Rattle.overlay_scan.proofs.LinesFit.{line_fits}
use Rattle.overlay_extract.specs.Parents.{IsSwept}
use Rattle.overlay_walk.specs.WalkEdges.{numbered_entry, numbered_entries}
use Rattle.overlay_scan.proofs.EntriesByStart.{new_among_live, meets_live, over_x, right_of_order}
use Rattle.overlay_scan.proofs.SweptEntries.{ended, put_in}
use Rattle.overlay_extract.proofs.binding.sweep.insert_up_to.Goals as goal
use Rattle.overlay_extract.proofs.binding.sweep.insert_up_to.Goals.{then-is_lt-2+in-Ok, else-is_lt-2}

pub returns-then-is_lt-clause-rest : goal.returns-then-is_lt-clause-rest
returns-then-is_lt-clause-rest g c =
    let whole = g.I.IntNumber.whole in
    let x = whole c.args.x in
    let e = numbered_entry whole c.index-edges-i.result in
    let es = numbered_entries whole c.args.edges.now in
    let inside : c.loop-i.i < length es = rw length-map c.loop-i-test.true in
    let here = sym (read_mapped (numbered_entry whole) c.args.edges.now c.loop-i.i c.index-edges-i.result e
    c.loop-i-test.true c.index-edges-i.is) in
    let test : c.is_lt.result ≡ int_lt x e.edge.a.x = rw (c.is_lt.ensures, c.compare.ensures)
    (is_lt-int_cmp x e.edge.a.x) in
    right_of_order es c.loop-i.i e inside here x c.requires.order (sym test ∙ c.if-is_lt.true)

pub insert-requires : goal.insert-requires
insert-requires g c =
    let whole = g.I.IntNumber.whole in
    let x = whole c.args.x in
    let limit = g.I.IntNumber.limit in
    let e = numbered_entry whole c.index-edges-i.result in
    let es = numbered_entries whole c.args.edges.now in
    let s = g.S.Scan.content c.loop-i.scan in
    let swept = c.loop-i.invariant in
    let inside : c.loop-i.i < length es = rw length-map c.loop-i-test.true in
    let here = sym (read_mapped (numbered_entry whole) c.args.edges.now c.loop-i.i c.index-edges-i.result e
    c.loop-i-test.true c.index-edges-i.is) in
    let starts : c.is_lt.result ≡ int_lt x e.edge.a.x = rw (c.is_lt.ensures, c.compare.ensures)
    (is_lt-int_cmp x e.edge.a.x) in
    let ends : c.is_lt-in-loop-i.result ≡ int_lt x e.edge.b.x =
    rw (c.is_lt-in-loop-i.ensures, c.compare-in-loop-i.ensures) (is_lt-int_cmp x e.edge.b.x) in (
      line_fits _ _ g.met.I.IntNumber.small.align_bound g.met.I.IntNumber.small.size_bound,
      (
        swept.state,
        (
          swept.moves,
          (
            over_x limit x e.edge (c.index-edges-i.result).a_in_range (c.index-edges-i.result).b_in_range
                (sym starts ∙ c.if-is_lt.false) (sym ends ∙ c.if-is_lt-2.true),
            (
              meets_live es c.loop-i.i e inside here limit x s swept c.requires.settled,
              new_among_live es c.loop-i.i e inside here limit x s swept c.requires.distinct,
            ),
          ),
        ),
      ),
    )

pub loop-i-preserved : goal.loop-i-preserved
loop-i-preserved g c =
    let whole = g.I.IntNumber.whole in
    let x = whole c.args.x in
    let limit = g.I.IntNumber.limit in
    let content = g.S.Scan.content in
    let e = numbered_entry whole c.index-edges-i.result in
    let es = numbered_entries whole c.args.edges.now in
    let i = c.loop-i.i in
    let inside : i < length es = rw length-map c.loop-i-test.true in
    let here = sym (read_mapped (numbered_entry whole) c.args.edges.now i c.index-edges-i.result e c.loop-i-test.true
    c.index-edges-i.is) in
    let more : take (i + 1) es ≡ take i es ++ e ∷ [] = take_more es i e inside
    ∙ ap (λ (f : Entry ℕ). take i es ++ f ∷ []) (sym here) in
    let ends : c.is_lt-in-loop-i.result ≡ int_lt x e.edge.b.x =
    rw (c.is_lt-in-loop-i.ensures, c.compare-in-loop-i.ensures) (is_lt-int_cmp x e.edge.b.x) in
    subst (λ fs. IsSwept limit x fs (content c.if-is_lt-2.scan)) (sym more) (elim c.if-is_lt-2.branch [
      | then-is_lt-2+in-Ok w ↦ subst (λ s. IsSwept limit x (take i es ++ e ∷ []) (content s)) (sym w.scan-is)
          (put_in limit x (take i es) (content c.loop-i.scan) c.loop-i.invariant e (sym ends ∙ w.if-is_lt-2.true)
          (content w.insert.new.self)
          w.in-Ok.ensures.ok w.in-Ok.ensures.reached w.in-Ok.ensures.state)
      | else-is_lt-2 w ↦ subst (λ s. IsSwept limit x (take i es ++ e ∷ []) (content s)) (sym w.scan-is)
          (ended limit x (take i es) (content c.loop-i.scan) c.loop-i.invariant e (sym ends ∙ w.if-is_lt-2.false))
    ])
