-- The cases of the walls and of the highest edge.
use Rattle.std.proofs.Common.{◌≡◌, ◌<◌, pos, true, false, length, get_or, sym, ap, ◌∙◌, arith}
use Rattle.std.specs.Ordering.{is_eq, int_cmp}
use Rattle.std.proofs.lemmas.Bool.{iff_false, both_ways}
use Rattle.std.proofs.lemmas.List.{length-map, get_or_default}
use Rattle.overlay_geom.specs.Plane.{cross_at}
use Rattle.overlay_geom.specs.Points.{plain_point}
use Rattle.overlay_geom.specs.Resolved.{plain_edges}
use Rattle.overlay_geom.proofs.Mapped.{read_mapped}
use Rattle.overlay_relate.specs.Sweeps.{wide_edge, wide_edges}
use Rattle.overlay_relate.proofs.OnEdges.{level_from_test, test_from_level}
use Rattle.overlay_relate.proofs.SweptPoints.{on_a_wall, outside_where_none, on_the_highest, as_above_the_highest}
use Rattle.overlay_relate.proofs.SweptPoints.{is_at, is_none}
use Rattle.overlay_relate.proofs.Told.{told_at}
use Rattle.overlay_relate.proofs.sweep.location.Goals as goal

pub returns-then-is_on_wall : goal.returns-then-is_on_wall
returns-then-is_on_wall g c = λ es long of by told walls.
    let whole = g.I.IntNumber.whole in
    on_a_wall es (wide_edges whole c.args.edges.now) of by (plain_point whole c.args.p)
    (plain_edges whole c.args.walls.now) walls
    (c.is_on_wall.ensures.0 c.if-is_on_wall.true)

pub returns-then-highest-inside : goal.returns-then-highest-inside
returns-then-highest-inside g c = λ es long of by told walls.
    let whole = g.I.IntNumber.whole in
    let fs = wide_edges whole c.args.edges.now in
    let p = plain_point whole c.args.p in
    let ws = plain_edges whole c.args.walls.now in
    let n = length c.args.inside.now in
    let i = c.args.highest in
    let off = iff_false c.is_on_wall.ensures c.if-is_on_wall.false in
    outside_where_none es fs of by p ws walls off (is_none fs p n i c.requires.found c.if-highest-inside.true)

pub returns-then-is_eq : goal.returns-then-is_eq
returns-then-is_eq g c = λ es long of by told walls.
    let whole = g.I.IntNumber.whole in
    let fs = wide_edges whole c.args.edges.now in
    let p = plain_point whole c.args.p in
    let ws = plain_edges whole c.args.walls.now in
    let n = length c.args.inside.now in
    let i = c.args.highest in
    let off = iff_false c.is_on_wall.ensures c.if-is_on_wall.false in
    let less : i < n = let out = c.if-highest-inside.false in omega arith in
    let within : i < length c.args.edges.now = let le = c.requires.within in omega arith in
    let e = wide_edge whole c.index-edges-highest.result in
    let lt : i < length fs = rw length-map within in
    let at : get_or fs i e ≡ e = read_mapped (wide_edge whole) c.args.edges.now i c.index-edges-highest.result e within
    c.index-edges-highest.is in
    let high = is_at fs p n i c.requires.found less e lt at in
    let z = g.I.Wide.WideIntNumber.whole c.cross_at.result in
    let test : c.is_eq.result ≡ is_eq (int_cmp z (pos 0)) = c.is_eq.ensures ∙ ap is_eq c.sign.ensures in
    on_the_highest es fs of by p ws walls off e high (sym c.cross_at.ensures.value
    ∙ level_from_test z (sym test ∙ c.if-is_eq.true))

pub returns-then-inside-highest : goal.returns-then-inside-highest
returns-then-inside-highest g c = λ es long of by told walls.
    let whole = g.I.IntNumber.whole in
    let fs = wide_edges whole c.args.edges.now in
    let p = plain_point whole c.args.p in
    let ws = plain_edges whole c.args.walls.now in
    let n = length c.args.inside.now in
    let i = c.args.highest in
    let off = iff_false c.is_on_wall.ensures c.if-is_on_wall.false in
    let less : i < n = let out = c.if-highest-inside.false in omega arith in
    let within : i < length c.args.edges.now = let le = c.requires.within in omega arith in
    let e = wide_edge whole c.index-edges-highest.result in
    let lt : i < length fs = rw length-map within in
    let at : get_or fs i e ≡ e = read_mapped (wide_edge whole) c.args.edges.now i c.index-edges-highest.result e within
    c.index-edges-highest.is in
    let high = is_at fs p n i c.requires.found less e lt at in
    let z = g.I.Wide.WideIntNumber.whole c.cross_at.result in
    let test : c.is_eq.result ≡ is_eq (int_cmp z (pos 0)) = c.is_eq.ensures ∙ ap is_eq c.sign.ensures in
    let apart : ¬ (cross_at e.a e.b p ≡ pos 0) = λ level. both_ways c.is_eq.result c.if-is_eq.false
    (test ∙ test_from_level z (c.cross_at.ensures.value ∙ level)) in
    let told_of = as_above_the_highest es fs of by p ws walls off e high apart in
    let inside_is : get_or c.args.inside.now i false ≡ true = get_or_default c.args.inside.now i false _ less
    ∙ c.if-inside-highest.true in (
      told_of.0,
      told_of.1 ∙ sym (told_at es fs c.args.inside.now told i e true less at)
          ∙ get_or_default c.args.inside.now i true false less ∙ inside_is,
    )

pub returns-else-inside-highest : goal.returns-else-inside-highest
returns-else-inside-highest g c = λ es long of by told walls.
    let whole = g.I.IntNumber.whole in
    let fs = wide_edges whole c.args.edges.now in
    let p = plain_point whole c.args.p in
    let ws = plain_edges whole c.args.walls.now in
    let n = length c.args.inside.now in
    let i = c.args.highest in
    let off = iff_false c.is_on_wall.ensures c.if-is_on_wall.false in
    let less : i < n = let out = c.if-highest-inside.false in omega arith in
    let within : i < length c.args.edges.now = let le = c.requires.within in omega arith in
    let e = wide_edge whole c.index-edges-highest.result in
    let lt : i < length fs = rw length-map within in
    let at : get_or fs i e ≡ e = read_mapped (wide_edge whole) c.args.edges.now i c.index-edges-highest.result e within
    c.index-edges-highest.is in
    let high = is_at fs p n i c.requires.found less e lt at in
    let z = g.I.Wide.WideIntNumber.whole c.cross_at.result in
    let test : c.is_eq.result ≡ is_eq (int_cmp z (pos 0)) = c.is_eq.ensures ∙ ap is_eq c.sign.ensures in
    let apart : ¬ (cross_at e.a e.b p ≡ pos 0) = λ level. both_ways c.is_eq.result c.if-is_eq.false
    (test ∙ test_from_level z (c.cross_at.ensures.value ∙ level)) in
    let told_of = as_above_the_highest es fs of by p ws walls off e high apart in
    let inside_is : get_or c.args.inside.now i false ≡ false = get_or_default c.args.inside.now i false _ less
    ∙ c.if-inside-highest.false in (
      told_of.0,
      told_of.1 ∙ sym (told_at es fs c.args.inside.now told i e true less at)
          ∙ get_or_default c.args.inside.now i true false less ∙ inside_is,
    )
