-- One answer more is put at its place.
use Rattle.std.proofs.Common.{◌≡◌, ◌<◌, ◌≤◌, length, get_or, sym, ◌∙◌, arith, rules}
use Rattle.std.proofs.lemmas.List.{length-map, length-set, get_or_default}
use Rattle.overlay_geom.specs.Numbered.{Numbered}
use Rattle.overlay_geom.specs.Plane.{Point}
use Rattle.overlay_geom.specs.Points.{plain_point, plain_points}
use Rattle.overlay_geom.proofs.Mapped.{read_mapped}
use Rattle.overlay_geom.proofs.Numbered.{told_more}
use Rattle.overlay_relate.specs.Queries.{plain_query, plain_queries, points_asked, IsAnswered}
use Rattle.overlay_relate.specs.declared.location.PointLocation.TheVariants.{Outside}
use Rattle.overlay_relate.proofs.Asked.{all_answered, stands_within}
use Rattle.overlay_relate.proofs.queries.in_given_order.Goals as goal

pub loop-i-init : goal.loop-i-init
loop-i-init g c = (search rules, λ k d lt. absurd (omega (arith, lt)))

pub index_mut-requires : goal.index_mut-requires
index_mut-requires g c =
    let whole = g.I.IntNumber.whole in
    let queries = c.args.queries.now in
    let q = plain_query whole c.index-queries-i.result in
    let lt : c.loop-i.i < length (plain_queries whole queries) = rw length-map c.loop-i-test.true in
    let is : get_or (plain_queries whole queries) c.loop-i.i q ≡ q =
    read_mapped (plain_query whole) queries c.loop-i.i c.index-queries-i.result q c.loop-i-test.true
    c.index-queries-i.is in
    let less = stands_within (plain_points whole c.args.points.now) (plain_queries whole queries)
    c.requires.queries.numbered c.loop-i.i q lt is in
    let counted = c.loop-i.invariant.0 in
    let mapped = length-map c.args.points.now (plain_point whole) in
    omega arith

pub loop-i-preserved : goal.loop-i-preserved
loop-i-preserved g c =
    let whole = g.I.IntNumber.whole in
    let points = plain_points whole c.args.points.now in
    let queries = c.args.queries.now in
    let qs = plain_queries whole queries in
    let q = plain_query whole c.index-queries-i.result in
    let i = c.loop-i.i in
    let lt : i < length qs = rw length-map c.loop-i-test.true in
    let is : get_or qs i q ≡ q = read_mapped (plain_query whole) queries i c.index-queries-i.result q
    c.loop-i-test.true c.index-queries-i.is in
    let counted : length c.loop-i.ordered.items ≡ length points = c.loop-i.invariant.0
    ∙ sym (length-map c.args.points.now (plain_point whole)) in (
      length-set c.loop-i.ordered.items q.place _ ∙ c.loop-i.invariant.0,
      told_more (IsAnswered (points_asked qs) c.args.answers.now) Outside points qs c.requires.queries.numbered
          c.loop-i.ordered.items counted i q lt is _ (record {
            place = i;
            within = let l = length-map qs (λ (n : Numbered Point). n.item) in omega (arith, lt);
            item = read_mapped (λ (n : Numbered Point). n.item) qs i q q.item lt (sym is);
            answer = get_or_default c.args.answers.now i _ _ (let n = c.requires.counted in
                let t = c.loop-i-test.true in omega arith);
          }) c.loop-i.invariant.1,
    )

pub returns : goal.returns
returns g c = record {
  ok = let whole = g.I.IntNumber.whole in
      let qs = plain_queries whole c.args.queries.now in
      let past : length qs ≤ c.loop-i.i = rw length-map c.loop-i-test.false in
      all_answered (IsAnswered (points_asked qs) c.args.answers.now) Outside (plain_points whole c.args.points.now) qs
      c.requires.queries.numbered c.loop-i.ordered.items
      (c.loop-i.invariant.0 ∙ sym (length-map c.args.points.now (plain_point whole))) c.loop-i.i past
      c.loop-i.invariant.1;
}
