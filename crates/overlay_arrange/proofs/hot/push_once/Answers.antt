-- A point that is the last already is a member, so it need not be added.
use Rattle.std.proofs.Common.{◌≡◌, ◌-◌, ◌<◌, List, Contains, length, refl, sym, subst, ◌∙◌, arith}
use Rattle.overlay_geom.specs.Plane.{Point}
use Rattle.overlay_geom.specs.Points.{plain_point, plain_points}
use Rattle.overlay_geom.proofs.Orders.{point_eq-same}
use Rattle.overlay_plane.proofs.Entries.{Contains-map}
use Rattle.overlay_order.proofs.Appended.{mapped_pushed}
use Rattle.overlay_arrange.specs.HotPoints.{HaveSameMembers}
use Rattle.overlay_arrange.proofs.SameMembers.{same_members, same_members-repeated}
use Rattle.overlay_arrange.proofs.hot.push_once.Goals as goal

pub returns-in_ok-push : goal.returns-in_ok-push
returns-in_ok-push g c = record {
  ok = let whole = g.I.IntNumber.whole in
      let new = plain_points whole c.push.new.self.items in
      subst (λ (vs : List Point). HaveSameMembers vs new)
      (mapped_pushed (plain_point whole) c.args.points.now.items c.push.new.self.items c.args.v
      (plain_point whole c.args.v) c.in_ok-push.ensures.items refl)
      (same_members new);
}

pub returns-else-not-is_same : goal.returns-else-not-is_same
returns-else-not-is_same g c = record {
  ok = let whole = g.I.IntNumber.whole in
      let items = c.args.points.now.items in
      let last = c.index.result.now in
      let at : c.len-count.result - 1 < length items = (let n = c.len-count.ensures in
      let l = c.args.points.now.ok.0 in let some = c.if-count-eq0.false in omega (arith, n, l, some)) in
      let same : plain_point whole last ≡ plain_point whole c.args.v =
      point_eq-same (plain_point whole last) (plain_point whole c.args.v)
      (sym c.is_same.ensures ∙ c.if-not-is_same.false) in
      same_members-repeated (plain_points whole items) (plain_point whole c.args.v)
      (subst (Contains (plain_points whole items)) same
      (Contains-map (plain_point whole) items last (c.len-count.result - 1, at, sym c.index.ensures)));
}
