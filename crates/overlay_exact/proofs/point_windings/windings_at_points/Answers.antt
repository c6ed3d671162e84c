-- At each point the live edges tell the windings, and they stay live at the next one.
use Rattle.std.proofs.Common.{◌≡◌, ◌++◌, ◌∷◌, [], ◌≤ℤ◌, map, take, get_or, sym, ap, ap₂, ◌∙◌, subst, arith}
use Rattle.std.proofs.lemmas.List.{length-map, map-append}
use Rattle.overlay_geom.specs.Plane.{Point}
use Rattle.overlay_geom.specs.Points.{plain_point, InRange}
use Rattle.overlay_geom.proofs.Mapped.{All-mapped_at, mapped_more, read_mapped}
use Rattle.overlay_order.specs.Content.{plain_edge, IsContent}
use Rattle.overlay_exact.specs.PointWindings.{point_windings, AreLive}
use Rattle.overlay_exact.proofs.LiveEdges.{live_dropped, live_later, live_light, live_tell}
use Rattle.overlay_exact.proofs.point_windings.windings_at_points.Goals as goal

pub push_begun-requires-clause-live : goal.push_begun-requires-clause-live
push_begun-requires-clause-live g c =
    let whole = g.I.IntNumber.whole in
    let plain = plain_edge whole g.C.EdgeCount.counts in
    let v = c.v-item.result in
    let index = c.loop-v.v-index in
    subst (λ (p : Point). AreLive g.I.IntNumber.limit (map plain c.args.edges.now) c.loop-v.begun p.x
    (map plain c.loop-v.live.items))
    (read_mapped (plain_point whole) c.args.points.now index v (plain_point whole v) c.loop-v-test.true c.v-item.is)
    (c.loop-v.invariant.live index (plain_point whole v) (omega arith) c.loop-v-test.true)

pub windings_at-requires-clause-content : goal.windings_at-requires-clause-content
windings_at-requires-clause-content g c =
    let whole = g.I.IntNumber.whole in
    let limit = g.I.IntNumber.limit in
    let plain = plain_edge whole g.C.EdgeCount.counts in
    let es = map plain c.args.edges.now in
    let v = plain_point whole c.v-item.result in
    let n = c.in_ok-begun.begun in
    let kept = c.drop_ended.new.live.items in
    let live = live_dropped plain limit es n v.x c.push_begun.new.live.items kept c.drop_ended.ensures
    c.in_ok-begun.ensures.live in
    subst (λ xs. IsContent limit (map plain xs)) (sym c.deref.ensures.value) (record {
      held = live.held;
      light = live_light limit es n v (map plain kept) c.requires.ascending c.in_ok-begun.ensures.right live 2147483648
          c.requires.content.light;
    })

pub windings_at-requires-clause-point : goal.windings_at-requires-clause-point
windings_at-requires-clause-point g c =
    All-mapped_at (InRange g.I.IntNumber.limit) (plain_point g.I.IntNumber.whole) c.args.points.now c.loop-v.v-index
    c.v-item.result c.loop-v-test.true c.v-item.is c.requires.points

pub loop-v-preserved : goal.loop-v-preserved
loop-v-preserved g c =
    let whole = g.I.IntNumber.whole in
    let limit = g.I.IntNumber.limit in
    let plain = plain_edge whole g.C.EdgeCount.counts in
    let es = map plain c.args.edges.now in
    let ps = map (plain_point whole) c.args.points.now in
    let index = c.loop-v.v-index in
    let item = c.v-item.result in
    let v = plain_point whole item in
    let n = c.in_ok-begun.begun in
    let kept = c.drop_ended.new.live.items in
    let live = live_dropped plain limit es n v.x c.push_begun.new.live.items kept c.drop_ended.ensures
    c.in_ok-begun.ensures.live in
    let told : c.windings_at.result ≡ point_windings es v =
    c.windings_at.ensures ∙ ap (λ xs. point_windings (map plain xs) v) c.deref.ensures.value
    ∙ live_tell limit es n v (map plain kept) c.requires.ascending c.in_ok-begun.ensures.right live in
    record {
      within = c.in_ok-begun.ensures.within;
      live = λ k d later short.
          let l = length-map c.args.points.now (plain_point whole) in
          let here : get_or ps index d ≡ v =
          read_mapped (plain_point whole) c.args.points.now index item d c.loop-v-test.true c.v-item.is in
          let up : v.x ≤ℤ (get_or ps k d).x = subst (λ (p : Point). p.x ≤ℤ (get_or ps k d).x) here
          (c.requires.rightward index k d (omega (arith, later)) (omega (arith, l, short))) in
          live_later limit es n v.x (get_or ps k d).x (map plain kept) up live;
      found = c.in_ok-push.ensures.items ∙ ap₂ (λ xs w. xs ++ w ∷ []) c.loop-v.invariant.found told
          ∙ sym (ap (map (point_windings es))
          (mapped_more (plain_point whole) c.args.points.now index item c.loop-v-test.true c.v-item.is)
          ∙ map-append (point_windings es) (map (plain_point whole) (take index c.args.points.now)) (v ∷ []));
    }
