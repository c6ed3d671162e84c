-- Each part is held and light, and a content that gets too heavy is one of heavy parts.
use Rattle.std.proofs.Common.{◌<◌, length, arith}
use Rattle.std.proofs.lemmas.Result.{err_from_is_err_and}
use Rattle.overlay_geom.proofs.Mapped.{All-mapped_at}
use Rattle.overlay_parts.specs.Parts.{plain_part, IsHeldPart}
use Rattle.overlay_parts.proofs.LightParts.{heavy_next}
use Rattle.overlay_arrange.proofs.parting.edges_of_parts.Goals as goal

pub weight-requires : goal.weight-requires
weight-requires g c =
    let plain = plain_part g.I.IntNumber.whole g.C.EdgeCount.counts in
    let within : c.loop-i.i < length c.args.parts.now = omega (arith, c.loop-i-test.true) in
    let held = (All-mapped_at (IsHeldPart g.I.IntNumber.limit) plain c.args.parts.now c.loop-i.i
    c.index-parts-i.result within c.index-parts-i.is c.requires.held).light in
    let light = All-mapped_at (λ p. p.cover < 2147483648) plain c.args.parts.now c.loop-i.i c.index-parts-i.result
    within c.index-parts-i.is c.requires.light in
    omega (arith, held, light)

pub overflow_sub-part : goal.overflow_sub-part
overflow_sub-part g c =
    let plain = plain_part g.I.IntNumber.whole g.C.EdgeCount.counts in
    let held = (All-mapped_at (IsHeldPart g.I.IntNumber.limit) plain c.args.parts.now c.loop-i.i
    c.index-parts-i.result (omega (arith, c.loop-i-test.true)) c.index-parts-i.is c.requires.held).light in
    let is = c.weight.ensures in
    omega (arith, held, is)

pub push-requires-in-loop-i-clause-held : goal.push-requires-in-loop-i-clause-held
push-requires-in-loop-i-clause-held g c =
    (All-mapped_at (IsHeldPart g.I.IntNumber.limit) (plain_part g.I.IntNumber.whole g.C.EdgeCount.counts)
    c.args.parts.now c.loop-i.i c.index-parts-i.result (omega (arith, c.loop-i-test.true)) c.index-parts-i.is
    c.requires.held).held

pub push-requires-in-loop-i-clause-light : goal.push-requires-in-loop-i-clause-light
push-requires-in-loop-i-clause-light g c =
    let plain = plain_part g.I.IntNumber.whole g.C.EdgeCount.counts in
    let within : c.loop-i.i < length c.args.parts.now = omega (arith, c.loop-i-test.true) in
    let held = (All-mapped_at (IsHeldPart g.I.IntNumber.limit) plain c.args.parts.now c.loop-i.i
    c.index-parts-i.result within c.index-parts-i.is c.requires.held).light in
    let light = All-mapped_at (λ p. p.cover < 2147483648) plain c.args.parts.now c.loop-i.i c.index-parts-i.result
    within c.index-parts-i.is c.requires.light in
    omega (arith, held, light)

pub returns-in_err-push-2-clause-too_many : goal.returns-in_err-push-2-clause-too_many
returns-in_err-push-2-clause-too_many g c = λ same.
    let passed = err_from_is_err_and c.from_residual-in_err-push-2.result c.from_residual-in_err-push-2.ensures.1 in
    heavy_next g.I.IntNumber.whole g.C.EdgeCount.counts g.I.IntNumber.limit 2147483648 c.args.parts.now c.loop-i.i
    c.index-parts-i.result (omega (arith, c.loop-i-test.true)) c.index-parts-i.is c.requires.held c.loop-i.content
    c.loop-i.invariant.0 (c.in_err-push-2.ensures.too_many (cc))
