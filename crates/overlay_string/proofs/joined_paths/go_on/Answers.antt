-- A walk sets out, goes on by one piece more, and comes to an end.
use Rattle.std.proofs.Common.{◌∷◌, [], ap, ◌∙◌}
use Rattle.std.proofs.lemmas.List.{map-append}
use Rattle.overlay_geom.specs.Points.{plain_point, plain_points}
use Rattle.overlay_string.specs.Pieces.{plain_piece}
use Rattle.overlay_string.proofs.WalksOn.{sets_out, one_step_more, comes_to_an_end, fewer_open}
use Rattle.overlay_string.proofs.joined_paths.go_on.Goals as goal

pub loop-piece-init : goal.loop-piece-init
loop-piece-init g c =
    let whole = g.I.IntNumber.whole in
    sets_out c.args.way (plain_point whole c.args.from) c.args.pieces.now (plain_points whole c.args.path.now.items)

pub loop-piece-smaller : goal.loop-piece-smaller
loop-piece-smaller g c =
    let whole = g.I.IntNumber.whole in
    fewer_open c.args.way (plain_point whole c.args.from) c.args.pieces.now (plain_points whole c.args.path.now.items)
    (plain_point whole c.loop-piece.end) c.loop-piece.pieces c.take_at.new.self (plain_piece whole c.in-Some.piece)
    (rw (c.in-Some.is) at c.in_ok-piece.ensures.ok)

pub loop-piece-preserved : goal.loop-piece-preserved
loop-piece-preserved g c =
    let whole = g.I.IntNumber.whole in
    let l = c.loop-piece in
    one_step_more c.args.way (plain_point whole c.args.from) c.args.pieces.now
    (plain_points whole c.args.path.now.items) (plain_point whole l.end) l.pieces c.take_at.new.self
    (plain_points whole l.path.items) l.invariant (plain_piece whole c.in-Some.piece)
    (rw (c.in-Some.is) at c.in_ok-piece.ensures.ok)
    (plain_point whole c.end-end.result) c.end-end.ensures (plain_points whole c.push.new.self.items)
    (ap (plain_points whole) c.in_ok-push.ensures.items
    ∙ map-append (plain_point whole) l.path.items (c.end-end.result ∷ []))

pub returns : goal.returns
returns g c = record {
  ok = let whole = g.I.IntNumber.whole in
      let l = c.loop-piece in
      comes_to_an_end c.args.way (plain_point whole c.args.from) c.args.pieces.now
      (plain_points whole c.args.path.now.items) (plain_point whole l.end) l.pieces c.take_at.new.self
      (plain_points whole l.path.items) l.invariant
      (rw (c.in_default.is) at c.in_ok-piece.ensures.ok);
}
