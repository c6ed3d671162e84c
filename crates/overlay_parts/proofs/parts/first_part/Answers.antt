-- The part that starts first gives the first part, or both do.
use Rattle.std.proofs.Common.{sym, subst}
use Rattle.overlay_geom.proofs.OneLine.{along_exchanged}
use Rattle.overlay_geom.proofs.Orders.{neither_smaller}
use Rattle.overlay_geom.proofs.PointOrder.{Decides-point_lt}
use Rattle.overlay_parts.specs.LineParts.{IsFrontOf}
use Rattle.overlay_parts.specs.Parts.{ends_of_part, plain_part, IsFirstPart}
use Rattle.overlay_parts.specs.Stores.IsStoreReached.{unwritten, written}
use Rattle.overlay_parts.proofs.PartFronts.{front_flipped, front_of_both, front_of_earlier}
use Rattle.overlay_parts.proofs.Parted.{first_of_earlier, first_of_both, flipped}
use Rattle.overlay_parts.proofs.parts.first_part.Goals as goal

pub returns-then-is_before-clause-parted : goal.returns-then-is_before-clause-parted
returns-then-is_before-clause-parted g c =
    let s = plain_part g.I.IntNumber.whole g.C.EdgeCount.counts c.args.s.now in
    let t = plain_part g.I.IntNumber.whole g.C.EdgeCount.counts c.args.t.now in
    subst (λ p. IsFirstPart g.C.EdgeCount.merges s t p) (sym c.start_of.ensures)
    (first_of_earlier g.C.EdgeCount.merges s t c.requires.along c.requires.one.held.forward
    c.requires.other.held.forward (sym c.if-is_before.ensures))

pub returns-then-is_before-clause-store : goal.returns-then-is_before-clause-store
returns-then-is_before-clause-store g c = unwritten _

pub returns-then-is_before-2-clause-parted : goal.returns-then-is_before-2-clause-parted
returns-then-is_before-2-clause-parted g c =
    let s = plain_part g.I.IntNumber.whole g.C.EdgeCount.counts c.args.s.now in
    let t = plain_part g.I.IntNumber.whole g.C.EdgeCount.counts c.args.t.now in
    subst (λ p. IsFirstPart g.C.EdgeCount.merges s t p) (sym c.start_of-then-is_before-2.ensures)
    (flipped g.C.EdgeCount.merges s t _ (first_of_earlier g.C.EdgeCount.merges t s
    (along_exchanged (ends_of_part s) (ends_of_part t)
    ((Decides-point_lt (ends_of_part s).a (ends_of_part s).b).0 c.requires.one.held.forward) c.requires.along)
    c.requires.other.held.forward c.requires.one.held.forward (sym c.if-is_before-2.ensures)))

pub returns-then-is_before-2-clause-store : goal.returns-then-is_before-2-clause-store
returns-then-is_before-2-clause-store g c = unwritten _

pub returns-else-is_before-2-clause-parted : goal.returns-else-is_before-2-clause-parted
returns-else-is_before-2-clause-parted g c =
    let s = plain_part g.I.IntNumber.whole g.C.EdgeCount.counts c.args.s.now in
    let t = plain_part g.I.IntNumber.whole g.C.EdgeCount.counts c.args.t.now in
    let both = plain_part g.I.IntNumber.whole g.C.EdgeCount.counts c.start_of_both.result in
    first_of_both g.C.EdgeCount.merges s t c.requires.along c.requires.one.held.forward
    c.requires.other.held.forward both
    (along_exchanged (ends_of_part s) (ends_of_part t)
    ((Decides-point_lt (ends_of_part s).a (ends_of_part s).b).0 c.requires.one.held.forward) c.requires.along)
    (neither_smaller (ends_of_part s).a (ends_of_part t).a (sym c.if-is_before.ensures)
    (sym c.if-is_before-2.ensures)) c.start_of_both.ensures.joined

pub returns-else-is_before-2-clause-store : goal.returns-else-is_before-2-clause-store
returns-else-is_before-2-clause-store g c = written _ _ _ (unwritten _) c.start_of_both.ensures.writes

pub returns-then-is_before-clause-front : goal.returns-then-is_before-clause-front
returns-then-is_before-clause-front g c =
    let s = plain_part g.I.IntNumber.whole g.C.EdgeCount.counts c.args.s.now in
    let t = plain_part g.I.IntNumber.whole g.C.EdgeCount.counts c.args.t.now in
    subst (λ p. IsFrontOf s t p) (sym c.start_of.ensures)
    (front_of_earlier g.I.IntNumber.limit s t c.requires.one c.requires.other (sym c.if-is_before.ensures))

pub returns-then-is_before-2-clause-front : goal.returns-then-is_before-2-clause-front
returns-then-is_before-2-clause-front g c =
    let s = plain_part g.I.IntNumber.whole g.C.EdgeCount.counts c.args.s.now in
    let t = plain_part g.I.IntNumber.whole g.C.EdgeCount.counts c.args.t.now in
    subst (λ p. IsFrontOf s t p) (sym c.start_of-then-is_before-2.ensures)
    (front_flipped s t _
    (front_of_earlier g.I.IntNumber.limit t s c.requires.other c.requires.one (sym c.if-is_before-2.ensures)))

pub returns-else-is_before-2-clause-front : goal.returns-else-is_before-2-clause-front
returns-else-is_before-2-clause-front g c =
    let s = plain_part g.I.IntNumber.whole g.C.EdgeCount.counts c.args.s.now in
    let t = plain_part g.I.IntNumber.whole g.C.EdgeCount.counts c.args.t.now in
    front_of_both g.I.IntNumber.limit s t c.requires.one c.requires.other g.C.EdgeCount.merges
    (plain_part g.I.IntNumber.whole g.C.EdgeCount.counts c.start_of_both.result)
    (neither_smaller (ends_of_part s).a (ends_of_part t).a (sym c.if-is_before.ensures)
    (sym c.if-is_before-2.ensures)) c.start_of_both.ensures.joined
