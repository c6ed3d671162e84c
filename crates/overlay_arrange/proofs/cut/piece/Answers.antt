-- A piece that leads back along its edge has the counts reversed.
use Rattle.std.proofs.Common.{sym, ap, ◌∙◌}
use Rattle.std.specs.Prelude.{IsTrue}
use Rattle.overlay_geom.specs.Counts.{reversed_counts}
use Rattle.overlay_geom.specs.Points.{plain_point}
use Rattle.overlay_order.specs.Content.{carried_edge}
use Rattle.overlay_parts.proofs.ReachedStores.{reached_unless}
use Rattle.overlay_parts.specs.Stores.IsStoreReached.{unwritten, written}
use Rattle.overlay_arrange.proofs.CarriedPieces.{none_given, piece_given_along, piece_given_back}
use Rattle.overlay_arrange.proofs.Pieces.{piece_back}
use Rattle.overlay_arrange.proofs.cut.piece.Goals as goal

pub returns-in-Greater-clause-counts : goal.returns-in-Greater-clause-counts
returns-in-Greater-clause-counts g c =
    let plain = plain_point g.I.IntNumber.whole in
    let e = c.args.cut.now.e in
    piece_back (plain e.a) (plain e.b) (plain c.args.from) (plain c.args.to) (g.C.EdgeCount.counts e.count)
    (g.C.EdgeCount.counts c.reversed.result)
    (sym c.compare_points.ensures ∙ c.in-Greater.is)
    (c.reversed.ensures.counts ∙ ap reversed_counts c.part_of-in-Greater.ensures.counts)

pub returns-in-Equal-clause-carried : goal.returns-in-Equal-clause-carried
returns-in-Equal-clause-carried g c =
    let plain = plain_point g.I.IntNumber.whole in
    none_given g.C.EdgeCount.splits g.C.EdgeCount.reverses (IsTrue c.args.cut.now.is_whole)
    (carried_edge g.I.IntNumber.whole g.C.EdgeCount.counts c.args.cut.now.e)
    (plain c.args.from) (plain c.args.to) (sym c.compare_points.ensures ∙ c.in-Equal.is)

pub returns-in-Less-clause-carried : goal.returns-in-Less-clause-carried
returns-in-Less-clause-carried g c =
    let plain = plain_point g.I.IntNumber.whole in
    let e = c.args.cut.now.e in
    piece_given_along g.C.EdgeCount.splits g.C.EdgeCount.reverses c.args.cut.now.is_whole (plain e.a) (plain e.b)
    (plain c.args.from) (plain c.args.to)
    g.C.EdgeCount.counts e.count c.part_of.result (sym c.compare_points.ensures ∙ c.in-Less.is) c.part_of.ensures.counts
    c.part_of.ensures.splits

pub returns-in-Greater-clause-carried : goal.returns-in-Greater-clause-carried
returns-in-Greater-clause-carried g c =
    let plain = plain_point g.I.IntNumber.whole in
    let e = c.args.cut.now.e in
    piece_given_back g.C.EdgeCount.splits g.C.EdgeCount.reverses c.args.cut.now.is_whole (plain e.a) (plain e.b)
    (plain c.args.from) (plain c.args.to)
    g.C.EdgeCount.counts e.count c.part_of-in-Greater.result c.reversed.result (sym c.compare_points.ensures
    ∙ c.in-Greater.is)
    (c.reversed.ensures.counts ∙ ap reversed_counts c.part_of-in-Greater.ensures.counts)
    c.part_of-in-Greater.ensures.splits c.reversed.ensures.reverses

pub returns-in-Equal-clause-store : goal.returns-in-Equal-clause-store
returns-in-Equal-clause-store g c = unwritten _

pub returns-in-Less-clause-store : goal.returns-in-Less-clause-store
returns-in-Less-clause-store g c =
    reached_unless g.C.EdgeCount.writes c.args.cut.now.is_whole _ _ c.part_of.ensures.writes

pub returns-in-Greater-clause-store : goal.returns-in-Greater-clause-store
returns-in-Greater-clause-store g c =
    written _ _ _ (reached_unless g.C.EdgeCount.writes c.args.cut.now.is_whole _ _ c.part_of-in-Greater.ensures.writes)
    c.reversed.ensures.writes
