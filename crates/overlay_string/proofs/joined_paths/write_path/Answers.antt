-- The path has the piece's two ends, seen on the way, and what goes on from there.
use Rattle.std.proofs.Common.{[], ◌∷◌, ◌++◌, ap, ap₂, ◌∙◌, subst}
use Rattle.overlay_geom.specs.Points.{plain_point, plain_points}
use Rattle.overlay_string.specs.Pieces.{plain_piece, GoesOn}
use Rattle.overlay_geom.proofs.Mapped.{map-reverse}
use Rattle.overlay_string.proofs.JoinedPaths.{ends, found_onward, found_back}
use Rattle.overlay_string.proofs.joined_paths.write_path.Goals as goal

pub returns-in-Onward : goal.returns-in-Onward
returns-in-Onward g c = record {
  ok = let whole = g.I.IntNumber.whole in
      let s = plain_piece whole c.args.piece in
      let old = c.args.pieces.now in
      let new = c.go_on.new.pieces in
      let way = c.way-way.result in
      let found = plain_points whole c.go_on.new.path.items in
      let two = ap (plain_points whole) (c.in_ok-push-2.ensures.items ∙ ap (λ l. l ++ c.end-end.result ∷ [])
      (c.in_ok-push.ensures.items ∙ ap (λ l. l ++ c.start.result ∷ []) c.clear.ensures.items))
      ∙ ap₂ (λ p q. p ∷ q ∷ []) c.start.ensures c.end-end.ensures in
      found_onward s old new found way c.way-way.ensures c.in-Onward.is
      (subst (λ v. GoesOn way v old new (ends s way) found) c.end-end.ensures
      (subst (λ l. GoesOn way (plain_point whole c.end-end.result) old new l found) two c.in_ok-go_on.ensures.ok));
}

pub returns-in-Back : goal.returns-in-Back
returns-in-Back g c = record {
  ok = let whole = g.I.IntNumber.whole in
      let s = plain_piece whole c.args.piece in
      let old = c.args.pieces.now in
      let new = c.go_on.new.pieces in
      let way = c.way-way.result in
      let found = plain_points whole c.go_on.new.path.items in
      let two = ap (plain_points whole) (c.in_ok-push-2.ensures.items ∙ ap (λ l. l ++ c.end-end.result ∷ [])
      (c.in_ok-push.ensures.items ∙ ap (λ l. l ++ c.start.result ∷ []) c.clear.ensures.items))
      ∙ ap₂ (λ p q. p ∷ q ∷ []) c.start.ensures c.end-end.ensures in
      found_back s old new (plain_points whole c.reverse.new.self.items) way c.way-way.ensures c.in-Back.is found
      (subst (λ v. GoesOn way v old new (ends s way) found) c.end-end.ensures
      (subst (λ l. GoesOn way (plain_point whole c.end-end.result) old new l found) two c.in_ok-go_on.ensures.ok))
      (ap (plain_points whole) c.reverse.ensures.items ∙ map-reverse (plain_point whole) c.go_on.new.path.items);
}
