-- The next edge is looked for, and put in above what is under it.
use Rattle.std.proofs.Common.{◌≡◌, ◌+◌, false, not, Some, get_or, length, sym, ap, ◌∙◌, subst, arith}
use Rattle.std.proofs.lemmas.List.{length_push, get_or_default}
use Rattle.overlay_geom.specs.Plane.{Edge}
use Rattle.overlay_scan.proofs.LinesFit.{line_fits}
use Rattle.overlay_relate.specs.Sweeps.{wide_edge, wide_edges, AreTold, IsSwept}
use Rattle.overlay_relate.proofs.NextEdge.{next_read, next_moved}
use Rattle.overlay_relate.proofs.Swept.{is_asked, is_over, may_move, meets, fresh, put_in}
use Rattle.overlay_relate.proofs.Told.{next_told, told_more}
use Rattle.overlay_relate.proofs.sweep.put_next.Goals as goal

pub first_less-below-requires : goal.first_less-below-requires
first_less-below-requires g c =
    let limit = g.I.IntNumber.limit in
    let fs = wide_edges g.I.IntNumber.whole c.args.edges.now in
    let n = c.len-place.result in
    let e = wide_edge g.I.IntNumber.whole c.index-edges-place.result in
    let s = g.S.Scan.content c.args.scan.now in
    let held = c.args.inside.now.ok.0 in
    let counted = c.len-place.ensures in
    let at : n ≡ length c.args.inside.now.items = omega arith in
    let next = next_read (wide_edge g.I.IntNumber.whole) limit c.args.edges.now (length c.args.inside.now.items) n
    c.index-edges-place.result (g.S.Scan.content c.args.scan.now) at c.requires.within c.index-edges-place.is
    c.requires.swept in (
      line_fits _ _ g.met.I.IntNumber.small.align_bound g.met.I.IntNumber.small.size_bound,
      (
        next.swept.state,
        (
          may_move fs c.requires.edges n e next.within next.read limit s next.swept,
          (
            is_asked fs c.requires.edges n e next.within next.read limit (c.index-edges-place.result).a_in_range
                (c.index-edges-place.result).b_in_range,
            meets fs c.requires.edges n e next.within next.read limit s next.swept,
          ),
        ),
      ),
    )

pub insert-requires : goal.insert-requires
insert-requires g c =
    let limit = g.I.IntNumber.limit in
    let fs = wide_edges g.I.IntNumber.whole c.args.edges.now in
    let n = c.len-place.result in
    let e = wide_edge g.I.IntNumber.whole c.index-edges-place.result in
    let held = c.args.inside.now.ok.0 in
    let counted = c.len-place.ensures in
    let at : n ≡ length c.args.inside.now.items = omega arith in
    let next = next_read (wide_edge g.I.IntNumber.whole) limit c.args.edges.now (length c.args.inside.now.items) n
    c.index-edges-place.result (g.S.Scan.content c.args.scan.now) at c.requires.within c.index-edges-place.is
    c.requires.swept in
    let t = g.S.Scan.content c.first_less-below.new.self in
    let moved = next_moved limit fs c.requires.edges n e (g.S.Scan.content c.args.scan.now) t next
    c.first_less-below.ensures.content c.first_less-below.ensures.state in (
      line_fits _ _ g.met.I.IntNumber.small.align_bound g.met.I.IntNumber.small.size_bound,
      (
        moved.swept.state,
        (
          may_move fs c.requires.edges n e next.within next.read limit t moved.swept,
          (
            is_over fs c.requires.edges n e next.within next.read limit (c.index-edges-place.result).a_in_range
                (c.index-edges-place.result).b_in_range,
            (
              meets fs c.requires.edges n e next.within next.read limit t moved.swept,
              fresh fs c.requires.edges n e next.within next.read limit t moved.swept,
            ),
          ),
        ),
      ),
    )

pub returns-clause-counted : goal.returns-clause-counted
returns-clause-counted g c = ap length c.in_ok-push.ensures.items ∙ length_push c.args.inside.now.items _

pub returns-clause-swept : goal.returns-clause-swept
returns-clause-swept g c =
    let limit = g.I.IntNumber.limit in
    let fs = wide_edges g.I.IntNumber.whole c.args.edges.now in
    let n = c.len-place.result in
    let e = wide_edge g.I.IntNumber.whole c.index-edges-place.result in
    let held = c.args.inside.now.ok.0 in
    let counted = c.len-place.ensures in
    let at : n ≡ length c.args.inside.now.items = omega arith in
    let next = next_read (wide_edge g.I.IntNumber.whole) limit c.args.edges.now (length c.args.inside.now.items) n
    c.index-edges-place.result (g.S.Scan.content c.args.scan.now) at c.requires.within c.index-edges-place.is
    c.requires.swept in
    let t = g.S.Scan.content c.first_less-below.new.self in
    let moved = next_moved limit fs c.requires.edges n e (g.S.Scan.content c.args.scan.now) t next
    c.first_less-below.ensures.content c.first_less-below.ensures.state in
    let pushed : n + 1 ≡ length c.push.new.self.items = ap (λ m. m + 1) at
    ∙ sym (ap length c.in_ok-push.ensures.items ∙ length_push c.args.inside.now.items _) in
    subst (λ m. IsSwept limit fs m (g.S.Scan.content c.insert.new.self)) pushed
    (put_in fs c.requires.edges n e next.within next.read limit t moved.swept (g.S.Scan.content c.insert.new.self)
    c.in-Ok.ensures.ok
    c.in-Ok.ensures.reached
    c.in-Ok.ensures.state)

pub returns-clause-reached : goal.returns-clause-reached
returns-clause-reached g c = λ f here.
    let limit = g.I.IntNumber.limit in
    let fs = wide_edges g.I.IntNumber.whole c.args.edges.now in
    let n = c.len-place.result in
    let e = wide_edge g.I.IntNumber.whole c.index-edges-place.result in
    let held = c.args.inside.now.ok.0 in
    let counted = c.len-place.ensures in
    let at : n ≡ length c.args.inside.now.items = omega arith in
    let next = next_read (wide_edge g.I.IntNumber.whole) limit c.args.edges.now (length c.args.inside.now.items) n
    c.index-edges-place.result (g.S.Scan.content c.args.scan.now) at c.requires.within c.index-edges-place.is
    c.requires.swept in
    c.in-Ok.ensures.reached
    ∙ ap (λ (k : Edge). Some k.a.x) (sym next.read ∙ get_or_default fs n e f next.within ∙ ap (λ m. get_or fs m f) at
    ∙ here)

pub returns-clause-told : goal.returns-clause-told
returns-clause-told g c = λ es of by told.
    let limit = g.I.IntNumber.limit in
    let fs = wide_edges g.I.IntNumber.whole c.args.edges.now in
    let n = c.len-place.result in
    let e = wide_edge g.I.IntNumber.whole c.index-edges-place.result in
    let s = g.S.Scan.content c.args.scan.now in
    let held = c.args.inside.now.ok.0 in
    let counted = c.len-place.ensures in
    let at : n ≡ length c.args.inside.now.items = omega arith in
    let next = next_read (wide_edge g.I.IntNumber.whole) limit c.args.edges.now (length c.args.inside.now.items) n
    c.index-edges-place.result (g.S.Scan.content c.args.scan.now) at c.requires.within c.index-edges-place.is
    c.requires.swept in
    let inside = c.args.inside.now.items in
    let below = c.first_less-below.result in
    subst (AreTold es fs) (sym c.in_ok-push.ensures.items)
    (told_more es fs of by n e next.within next.read limit s next.swept inside (sym at) told
    (not c.is_told-is_inside.result)
    (ap not (c.is_told-is_inside.ensures ∙ ap (λ xs. get_or xs below false) c.deref.ensures.value)
    ∙ next_told es fs of by n e next.within next.read limit s next.swept inside (sym at) told below
    c.first_less-below.ensures.value))
