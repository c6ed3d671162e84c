-- The next edge is put in, or starts right of x, as do all after it.
use Rattle.std.proofs.Common.{◌≡◌, ◌<◌, ◌≤◌, ◌<ℤ◌, ◌≤ℤ◌, int_lt, get_or, length, sym, ap, ◌∙◌, subst, arith}
use Rattle.std.specs.List.{All}
use Rattle.std.specs.Option.{IfSome}
use Rattle.std.proofs.lemmas.List.{length-map, drop_all}
use Rattle.std.proofs.lemmas.List.Elements.{All-nil}
use Rattle.overlay_geom.specs.Plane.{Edge}
use Rattle.overlay_geom.proofs.Comparisons.{is_lt-int_cmp}
use Rattle.overlay_geom.proofs.Mapped.{read_mapped}
use Rattle.overlay_plane.proofs.Tests.{ge_from_test}
use Rattle.overlay_relate.specs.Sweeps.{wide_edge, wide_edges}
use Rattle.overlay_relate.proofs.Swept.{right_of}
use Rattle.overlay_relate.proofs.sweep.put_up_to.Goals as goal

pub put_next-requires-clause-within : goal.put_next-requires-clause-within
put_next-requires-clause-within g c = let a = c.loop-i.invariant.0 in let t = c.loop-i-test.true in omega arith

pub put_next-requires-clause-swept : goal.put_next-requires-clause-swept
put_next-requires-clause-swept g c = c.loop-i.invariant.3

pub loop-i-preserved : goal.loop-i-preserved
loop-i-preserved g c =
    let whole = g.I.IntNumber.whole in
    let x = whole c.args.x in
    let fs = wide_edges whole c.args.edges.now in
    let e = wide_edge whole c.index-edges-i.result in
    let n = length c.loop-i.inside.items in
    let within : n < length c.args.edges.now = let a = c.loop-i.invariant.0 in let t = c.loop-i-test.true in
    omega arith in
    let lt : n < length fs = rw length-map within in
    let is : get_or fs n e ≡ e = ap (λ m. get_or fs m e) c.loop-i.invariant.0
    ∙ read_mapped (wide_edge whole) c.args.edges.now c.loop-i.i c.index-edges-i.result e c.loop-i-test.true
    c.index-edges-i.is in
    let test : c.is_lt.result ≡ int_lt x e.a.x = rw (c.is_lt.ensures, c.compare.ensures) (is_lt-int_cmp x e.a.x) in
    let counted = c.in_ok-put_next.ensures.counted in
    let same = c.loop-i.invariant.0 in (
      omega (arith, counted, same),
      omega (arith, counted, within),
      subst (λ o. IfSome o (λ r. r ≤ℤ x)) (sym (c.in_ok-put_next.ensures.reached e is))
          (ge_from_test x e.a.x (sym test ∙ c.if-is_lt.false)),
      c.in_ok-put_next.ensures.swept,
      λ es of by told. c.in_ok-put_next.ensures.told es of by (c.loop-i.invariant.4 es of by told),
    )

pub returns-then-is_lt-clause-rest : goal.returns-then-is_lt-clause-rest
returns-then-is_lt-clause-rest g c =
    let whole = g.I.IntNumber.whole in
    let x = whole c.args.x in
    let fs = wide_edges whole c.args.edges.now in
    let e = wide_edge whole c.index-edges-i.result in
    let n = length c.loop-i.inside.items in
    let within : n < length c.args.edges.now = let a = c.loop-i.invariant.0 in let t = c.loop-i-test.true in
    omega arith in
    let lt : n < length fs = rw length-map within in
    let is : get_or fs n e ≡ e = ap (λ m. get_or fs m e) c.loop-i.invariant.0
    ∙ read_mapped (wide_edge whole) c.args.edges.now c.loop-i.i c.index-edges-i.result e c.loop-i-test.true
    c.index-edges-i.is in
    let test : c.is_lt.result ≡ int_lt x e.a.x = rw (c.is_lt.ensures, c.compare.ensures) (is_lt-int_cmp x e.a.x) in
    right_of fs c.requires.edges n e lt is x (sym test ∙ c.if-is_lt.true)

pub returns-clause-rest : goal.returns-clause-rest
returns-clause-rest g c =
    let whole = g.I.IntNumber.whole in
    let x = whole c.args.x in
    let fs = wide_edges whole c.args.edges.now in
    let past : length c.args.edges.now ≤ length c.loop-i.inside.items = let a = c.loop-i.invariant.0 in
    let t = c.loop-i-test.false in omega arith in
    let all : length fs ≤ length c.loop-i.inside.items = rw length-map past in
    subst (All (λ (e : Edge). x <ℤ e.a.x)) (sym (drop_all (length c.loop-i.inside.items) fs all))
    (All-nil (λ e. x <ℤ e.a.x))
