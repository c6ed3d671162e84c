-- One entry more is added, until the count is reached.
use Rattle.std.proofs.Common.{◌≡◌, subst, arith}
use Rattle.overlay_given.specs.Places.{AddsTimes}
use Rattle.overlay_given.proofs.AddedTimes.{times_none, times_more}
use Rattle.overlay_given.proofs.walk.push_places.Goals as goal

pub loop-n-init : goal.loop-n-init
loop-n-init g c = record {
  within = omega arith;
  adds = times_none (record { before = c.args.before; after = c.args.after }) c.args.places.now.items;
}

pub loop-n-preserved : goal.loop-n-preserved
loop-n-preserved g c =
    let less = c.loop-n-test.true in
    record {
      within = omega (arith, less);
      adds = times_more (record { before = c.args.before; after = c.args.after }) c.args.places.now.items c.loop-n.n
          c.loop-n.places.items c.push.new.self.items c.loop-n.invariant.adds c.in_ok-push.ensures.items;
    }

pub returns : goal.returns
returns g c =
    let all = c.loop-n-test.false in
    let within = c.loop-n.invariant.within in
    let same : c.loop-n.n ≡ c.args.count = omega (arith, all, within) in
    subst (λ n. AddsTimes n (record { before = c.args.before; after = c.args.after }) c.args.places.now.items
    c.loop-n.places.items) same c.loop-n.invariant.adds
