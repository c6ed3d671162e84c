-- One contour more, which is an outline or not.
use Rattle.std.proofs.Common.{◌≡◌, ◌<◌, ◌∷◌, ◌++◌, [], cond, Option, take, length}
use Rattle.std.proofs.Common.{get_or}
use Rattle.std.proofs.Common.{sym, ap, ap₂, ◌∙◌, arith}
use Rattle.std.proofs.lemmas.List.{append-nil, length-map, length-take-le, take_all, take_more}
use Rattle.overlay_geom.proofs.Mapped.{mapped_more, mapped_whole}
use Rattle.overlay_plane.specs.RoledContours.{is_outline}
use Rattle.overlay_walk.specs.GroupedContours.{plain_contour, plain_contours}
use Rattle.overlay_extract.specs.HolePlaces.{at_outlines}
use Rattle.overlay_extract.proofs.RolesRead.{outlines_more}
use Rattle.overlay_extract.proofs.binding.islands.at_outlines.Goals as goal
use Rattle.overlay_extract.proofs.binding.islands.at_outlines.Goals.{then-is_outline+in_ok-push, else-is_outline}

pub loop-i-preserved : goal.loop-i-preserved
loop-i-preserved g c =
    let plain = plain_contour g.I.IntNumber.whole in
    let cs = c.args.contours.now in
    let fs = c.args.found.now in
    let i = c.loop-i.i in
    let x = c.index-contours-i.result in
    let f = get_or fs i Option.None in
    let so_far = plain_contours g.I.IntNumber.whole (take i cs) in
    let tells : is_outline (plain x).role ≡ c.is_outline.result =
    ap (λ (y : _). is_outline (plain y).role) c.index-contours-i.is ∙ sym c.is_outline.ensures in
    let inside = c.loop-i-test.true in
    let both = c.requires in
    let within : i < length fs = omega (arith, inside, both) in
    let counted : length (take i fs) ≡ length so_far = (let mapped = length-map (take i cs) plain in
    let taken = length-take-le i cs (omega (arith, inside)) in
    let read = length-take-le i fs (omega (arith, within)) in omega (arith, mapped, taken, read)) in
    let more = ap₂ (λ ds gs. at_outlines ds gs) (mapped_more plain cs i x inside c.index-contours-i.is)
    (take_more fs i Option.None within)
    ∙ outlines_more so_far (take i fs) (plain x) f counted in
    elim c.if-is_outline.branch [
      | then-is_outline+in_ok-push w ↦
          ap (λ (ps : _). ps.items) w.at-is ∙ w.in_ok-push.ensures.items
          ∙ ap (λ ps. ps ++ f ∷ []) c.loop-i.invariant
          ∙ ap (λ t. at_outlines so_far (take i fs) ++ cond t (f ∷ []) [])
          (sym (tells ∙ w.if-is_outline.true))
          ∙ sym more
      | else-is_outline w ↦
          ap (λ (ps : _). ps.items) w.at-is ∙ c.loop-i.invariant
          ∙ sym (append-nil (at_outlines so_far (take i fs)))
          ∙ ap (λ t. at_outlines so_far (take i fs) ++ cond t (f ∷ []) [])
          (sym (tells ∙ w.if-is_outline.false))
          ∙ sym more
    ]

pub returns : goal.returns
returns g c = record {
  ok = let past = c.loop-i-test.false in
      let both = c.requires in
      c.loop-i.invariant
      ∙ ap₂ (λ ds gs. at_outlines ds gs) (mapped_whole (plain_contour g.I.IntNumber.whole) c.args.contours.now
      c.loop-i.i
      past)
      (take_all c.loop-i.i c.args.found.now (omega (arith, past, both)));
}
