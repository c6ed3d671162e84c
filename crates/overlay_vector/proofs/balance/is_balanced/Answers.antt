-- An edge that is not balanced at an end shows that the counts are not, and where all are, the counts are.
use Rattle.std.proofs.Common.{refl, subst, arith}
use Rattle.std.specs.List.{All}
use Rattle.std.proofs.lemmas.Bool.{false≢true}
use Rattle.std.proofs.lemmas.List.Elements.{All-contains}
use Rattle.overlay_geom.specs.Edges.{CountedEdge, subj_of, clip_of}
use Rattle.overlay_geom.specs.Points.{plain_point}
use Rattle.overlay_geom.proofs.Mapped.{All-mapped_more, mapped_whole}
use Rattle.overlay_order.specs.Content.{plain_edge, plain_edges}
use Rattle.overlay_vector.specs.Entering.{IsBalancedAt}
use Rattle.overlay_vector.proofs.EnteringSums.{entering_none, balanced_by_ends}
use Rattle.overlay_vector.proofs.balance.is_balanced.Goals as goal

pub returns-then-not-is_balanced_at_ends : goal.returns-then-not-is_balanced_at_ends
returns-then-not-is_balanced_at_ends g c =
    let all = plain_edges g.I.IntNumber.whole g.C.EdgeCount.counts c.args.edges.now in
    let a = plain_point g.I.IntNumber.whole c.edge-item.result.a in
    let b = plain_point g.I.IntNumber.whole c.edge-item.result.b in (
      λ t. absurd (false≢true t),
      λ balanced. c.if-not-is_balanced_at_ends.ensures.1 (
        record {
          subj = entering_none subj_of all balanced.subj a;
          clip = entering_none clip_of all balanced.clip a;
        },
        record {
          subj = entering_none subj_of all balanced.subj b;
          clip = entering_none clip_of all balanced.clip b;
        },
      ),
    )

pub loop-edge-preserved : goal.loop-edge-preserved
loop-edge-preserved g c =
    let plain = plain_edge g.I.IntNumber.whole g.C.EdgeCount.counts in
    let all = plain_edges g.I.IntNumber.whole g.C.EdgeCount.counts c.args.edges.now in
    All-mapped_more (λ e. IsBalancedAt all e.a × IsBalancedAt all e.b) plain c.args.edges.now c.loop-edge.edge-index
    c.edge-item.result c.loop-edge-test.true c.edge-item.is c.loop-edge.invariant
    (c.if-not-is_balanced_at_ends.ensures.0 refl)

pub returns : goal.returns
returns g c =
    let plain = plain_edge g.I.IntNumber.whole g.C.EdgeCount.counts in
    let all = plain_edges g.I.IntNumber.whole g.C.EdgeCount.counts c.args.edges.now in
    let both : CountedEdge → Type 0 = λ e. IsBalancedAt all e.a × IsBalancedAt all e.b in
    let past = c.loop-edge-test.false in
    let each : All both all = subst (All both)
    (mapped_whole plain c.args.edges.now c.loop-edge.edge-index (omega (arith, past))) c.loop-edge.invariant in (
      λ t. record {
        subj = balanced_by_ends subj_of all
            (λ e h. let here = All-contains both all e each h in (here.0.subj, here.1.subj));
        clip = balanced_by_ends clip_of all
            (λ e h. let here = All-contains both all e each h in (here.0.clip, here.1.clip));
      },
      λ balanced. refl,
    )
