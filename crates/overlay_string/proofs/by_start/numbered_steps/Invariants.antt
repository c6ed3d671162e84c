-- The steps so far are the first pieces, and there is room for the others.
use Rattle.std.proofs.Common.{◌≡◌, ◌≤◌, length, vec_len, vec_capacity}
use Rattle.overlay_string.specs.PieceOrder.{AreNumbered}
use Rattle.overlay_string.specs.Pieces.{plain_pieces}
use Rattle.overlay_string.proofs.by_start.numbered_steps.Given as goal

abbrev pub invariant-loop-place : goal.invariant-loop-place
invariant-loop-place g l =
    let whole = g.I.IntNumber.whole in
    AreNumbered whole l.way (plain_pieces whole l.pieces) l.place l.steps.items
    × (vec_len l.steps ≡ l.place) × (length l.pieces ≤ vec_capacity l.steps)
