-- The edges are settled where all of them are counted; else none or some of them cross.
use Rattle.std.proofs.Common.{◌≡◌, length, subst, arith}
use Rattle.std.proofs.lemmas.List.{length-map}
use Rattle.overlay_order.specs.Content.{plain_edge, plain_edges}
use Rattle.overlay_pairs.specs.Places.{AreSettledBefore}
use Rattle.overlay_pairs.proofs.SettledLists.{settled_where_counted}
use Rattle.overlay_given.proofs.MeetingKinds.{in_ends, uncrossed, crossed}
use Rattle.overlay_given.proofs.UncrossedEdges.{whole_uncrossed, settled_none_cross}
use Rattle.overlay_given.proofs.uncrossed.meeting_kind.Goals as goal

pub returns-then-count-edges : goal.returns-then-count-edges
returns-then-count-edges g c =
    let plain = plain_edge g.I.IntNumber.whole g.C.EdgeCount.counts in
    let es = plain_edges g.I.IntNumber.whole g.C.EdgeCount.counts c.args.edges.now in
    let count = c.in_ok-count.count in
    let l = length-map c.args.edges.now plain in
    let test = c.if-count-edges.true in
    let all : count ≡ length c.args.edges.now = omega (arith, test) in
    let law = settled_where_counted es count (length c.args.edges.now) l c.requires.ascending c.in_ok-count.ensures.ok
    c.in_ok-count.ensures.most in
    record {
      ok = in_ends es (law.0 all) (settled_none_cross g.I.IntNumber.limit es c.requires.held
          (subst (AreSettledBefore es) (let whole : count ≡ length es = omega (arith, l, all) in whole)
          c.in_ok-count.ensures.ok));
    }

pub returns-then-none : goal.returns-then-none
returns-then-none g c =
    let plain = plain_edge g.I.IntNumber.whole g.C.EdgeCount.counts in
    let es = plain_edges g.I.IntNumber.whole g.C.EdgeCount.counts c.args.edges.now in
    let law = settled_where_counted es c.in_ok-count.count (length c.args.edges.now)
    (length-map c.args.edges.now plain) c.requires.ascending c.in_ok-count.ensures.ok c.in_ok-count.ensures.most in
    let none = c.in_ok-none.ensures.none c.if-none.true in
    let test = c.if-count-edges.false in
    record {
      ok = uncrossed es (λ settled. let all = law.1 settled in omega (arith, all, test)) none
          (whole_uncrossed g.I.IntNumber.limit es c.requires.held none);
    }

pub returns : goal.returns
returns g c =
    let plain = plain_edge g.I.IntNumber.whole g.C.EdgeCount.counts in
    let es = plain_edges g.I.IntNumber.whole g.C.EdgeCount.counts c.args.edges.now in
    let law = settled_where_counted es c.in_ok-count.count (length c.args.edges.now)
    (length-map c.args.edges.now plain) c.requires.ascending c.in_ok-count.ensures.ok c.in_ok-count.ensures.most in
    let test = c.if-count-edges.false in
    record {
      ok = crossed es (λ settled. let all = law.1 settled in omega (arith, all, test))
          (c.in_ok-none.ensures.some c.if-none.false);
    }
