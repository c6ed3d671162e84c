-- The pieces along a kept edge are added in turn, one each way.
use Rattle.std.proofs.Common.{◌≡◌, ◌++◌, ◌∷◌, [], Bool, true, cond, List, ap, sym, ◌∙◌, append_assoc}
use Rattle.std.proofs.lemmas.Result.{on_ok_weaker}
use Rattle.overlay_order.specs.Counts.{has_bit, string_counts}
use Rattle.overlay_geom.specs.Plane.{Step}
use Rattle.overlay_geom.specs.Points.{plain_point}
use Rattle.overlay_string.specs.ClipPieces.{keeps_sides}
use Rattle.overlay_string.specs.Pieces.{plain_pieces}
use Rattle.overlay_string.proofs.kept_pieces.push_kept.Goals as goal

-- two parts are added behind a test that passes
both_added : (old mid new : List Step) (x y : Step) (r s t keeps along against : Bool) → r ≡ true → r ≡ keeps →
    s ≡ along → t ≡ against → mid ≡ old ++ cond s (x ∷ []) [] → new ≡ mid ++ cond t (y ∷ []) [] →
    new ≡ old ++ cond keeps (cond along (x ∷ []) [] ++ cond against (y ∷ []) []) []
both_added old mid new x y r s t keeps along against passed e a b first second =
    second
    ∙ ap (λ l. l ++ cond t (y ∷ []) []) first
    ∙ append_assoc old (cond s (x ∷ []) []) (cond t (y ∷ []) [])
    ∙ ap (λ u. old ++ (cond u (x ∷ []) [] ++ cond t (y ∷ []) [])) a
    ∙ ap (λ v. old ++ (cond along (x ∷ []) [] ++ cond v (y ∷ []) [])) b
    ∙ ap (λ k. old ++ cond k (cond along (x ∷ []) [] ++ cond against (y ∷ []) []) []) (sym passed ∙ e)

pub returns : goal.returns
returns g c = record {
  ok = let whole = g.I.IntNumber.whole in
      let edge = c.args.edge in
      let a = plain_point whole edge.a in
      let b = plain_point whole edge.b in
      let counts = string_counts edge.edge_data in
      on_ok_weaker c.push_if-2.result
      (both_added (plain_pieces whole c.args.pieces.now.items) (plain_pieces whole c.push_if.new.pieces.items)
      (plain_pieces whole c.push_if-2.new.pieces.items) (record { from = a; to = b }) (record { from = b; to = a })
      c.is_kept.result c.is_along.result c.is_against.result
      (keeps_sides c.args.rule (has_bit edge.fill 0) (has_bit edge.fill 1)) counts.along counts.against
      c.if-not-is_kept.false c.is_kept.ensures c.is_along.ensures c.is_against.ensures c.in_ok-push_if.ensures.ok)
      c.push_if-2.ensures.ok;
}
