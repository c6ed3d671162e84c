-- Each extreme edge stays, or is replaced by the edge, which lies farther out.
use Rattle.std.proofs.Common.{inl, inr, pos, sym, ap, ◌∙◌}
use Rattle.std.proofs.lemmas.Bool.{false≢true}
use Rattle.overlay_geom.specs.Edges.{ends_of}
use Rattle.overlay_geom.specs.Resolved.{plain_edge as plain_line}
use Rattle.overlay_geom.proofs.Comparisons.{Decides-int_lt}
use Rattle.overlay_order.specs.Content.{plain_edge}
use Rattle.overlay_pairs.specs.Bundles.{IsLeftOfParallel, across, plain_fan}
use Rattle.overlay_pairs.proofs.EdgeFans.{IsTurnedTo, turned_held, turned_in, turned_keeps}
use Rattle.overlay_pairs.proofs.fans.turned_to.Goals as goal
use Rattle.overlay_pairs.proofs.fans.turned_to.Goals.{then-is_lower, else-is_lower, then-is_higher, else-is_higher}

pub returns-clause-held : goal.returns-clause-held
returns-clause-held g c =
    let whole = g.I.IntNumber.whole in
    let old = plain_fan whole c.args.fan.now in
    let e = plain_edge whole g.C.EdgeCount.counts c.args.e.now in
    let tells_lower = c.is_left_of_parallel-is_lower.ensures in
    let tells_higher = c.is_left_of_parallel-is_higher.ensures in
    let lower_decides = Decides-int_lt (pos 0) (across (ends_of e) old.lowest.a old.lowest.b) in
    let higher_decides = Decides-int_lt (pos 0) (across old.highest e.a e.b) in
    let lower : IsTurnedTo (IsLeftOfParallel (ends_of e) old.lowest.a old.lowest.b) old.lowest (ends_of e)
    (plain_line whole c.if-is_lower.result) =
    elim c.if-is_lower.branch [
      | then-is_lower w ↦ inl (
        lower_decides.0 (sym tells_lower ∙ w.if-is_lower.true),
        ap (plain_line whole) w.result-is,
      )
      | else-is_lower w ↦ inr (
        (λ farther. false≢true (sym w.if-is_lower.false ∙ tells_lower ∙ lower_decides.1 farther)),
        ap (plain_line whole) w.result-is,
      )
    ] in
    let higher : IsTurnedTo (IsLeftOfParallel old.highest e.a e.b) old.highest (ends_of e)
    (plain_line whole c.if-is_higher.result) =
    elim c.if-is_higher.branch [
      | then-is_higher w ↦ inl (
        higher_decides.0 (sym tells_higher ∙ w.if-is_higher.true),
        ap (plain_line whole) w.result-is,
      )
      | else-is_higher w ↦ inr (
        (λ farther. false≢true (sym w.if-is_higher.false ∙ tells_higher ∙ higher_decides.1 farther)),
        ap (plain_line whole) w.result-is,
      )
    ] in
    turned_held g.I.IntNumber.limit old e c.requires.held c.requires.one (plain_line whole c.if-is_lower.result)
    (plain_line whole c.if-is_higher.result) lower higher

pub returns-clause-inside : goal.returns-clause-inside
returns-clause-inside g c =
    let whole = g.I.IntNumber.whole in
    let old = plain_fan whole c.args.fan.now in
    let e = plain_edge whole g.C.EdgeCount.counts c.args.e.now in
    let tells_lower = c.is_left_of_parallel-is_lower.ensures in
    let tells_higher = c.is_left_of_parallel-is_higher.ensures in
    let lower_decides = Decides-int_lt (pos 0) (across (ends_of e) old.lowest.a old.lowest.b) in
    let higher_decides = Decides-int_lt (pos 0) (across old.highest e.a e.b) in
    let lower : IsTurnedTo (IsLeftOfParallel (ends_of e) old.lowest.a old.lowest.b) old.lowest (ends_of e)
    (plain_line whole c.if-is_lower.result) =
    elim c.if-is_lower.branch [
      | then-is_lower w ↦ inl (
        lower_decides.0 (sym tells_lower ∙ w.if-is_lower.true),
        ap (plain_line whole) w.result-is,
      )
      | else-is_lower w ↦ inr (
        (λ farther. false≢true (sym w.if-is_lower.false ∙ tells_lower ∙ lower_decides.1 farther)),
        ap (plain_line whole) w.result-is,
      )
    ] in
    let higher : IsTurnedTo (IsLeftOfParallel old.highest e.a e.b) old.highest (ends_of e)
    (plain_line whole c.if-is_higher.result) =
    elim c.if-is_higher.branch [
      | then-is_higher w ↦ inl (
        higher_decides.0 (sym tells_higher ∙ w.if-is_higher.true),
        ap (plain_line whole) w.result-is,
      )
      | else-is_higher w ↦ inr (
        (λ farther. false≢true (sym w.if-is_higher.false ∙ tells_higher ∙ higher_decides.1 farther)),
        ap (plain_line whole) w.result-is,
      )
    ] in
    turned_in g.I.IntNumber.limit old e c.requires.held c.requires.one (plain_line whole c.if-is_lower.result)
    (plain_line whole c.if-is_higher.result) lower higher

pub returns-clause-keeps : goal.returns-clause-keeps
returns-clause-keeps g c =
    let whole = g.I.IntNumber.whole in
    let old = plain_fan whole c.args.fan.now in
    let e = plain_edge whole g.C.EdgeCount.counts c.args.e.now in
    let tells_lower = c.is_left_of_parallel-is_lower.ensures in
    let tells_higher = c.is_left_of_parallel-is_higher.ensures in
    let lower_decides = Decides-int_lt (pos 0) (across (ends_of e) old.lowest.a old.lowest.b) in
    let higher_decides = Decides-int_lt (pos 0) (across old.highest e.a e.b) in
    let lower : IsTurnedTo (IsLeftOfParallel (ends_of e) old.lowest.a old.lowest.b) old.lowest (ends_of e)
    (plain_line whole c.if-is_lower.result) =
    elim c.if-is_lower.branch [
      | then-is_lower w ↦ inl (
        lower_decides.0 (sym tells_lower ∙ w.if-is_lower.true),
        ap (plain_line whole) w.result-is,
      )
      | else-is_lower w ↦ inr (
        (λ farther. false≢true (sym w.if-is_lower.false ∙ tells_lower ∙ lower_decides.1 farther)),
        ap (plain_line whole) w.result-is,
      )
    ] in
    let higher : IsTurnedTo (IsLeftOfParallel old.highest e.a e.b) old.highest (ends_of e)
    (plain_line whole c.if-is_higher.result) =
    elim c.if-is_higher.branch [
      | then-is_higher w ↦ inl (
        higher_decides.0 (sym tells_higher ∙ w.if-is_higher.true),
        ap (plain_line whole) w.result-is,
      )
      | else-is_higher w ↦ inr (
        (λ farther. false≢true (sym w.if-is_higher.false ∙ tells_higher ∙ higher_decides.1 farther)),
        ap (plain_line whole) w.result-is,
      )
    ] in
    turned_keeps g.I.IntNumber.limit old e c.requires.held c.requires.one (plain_line whole c.if-is_lower.result)
    (plain_line whole c.if-is_higher.result) lower higher
