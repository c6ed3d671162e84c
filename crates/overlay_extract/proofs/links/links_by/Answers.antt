-- A further hole adds a link, or none.
use Rattle.std.proofs.Common.{◌≡◌, ◌∷◌, ◌++◌, [], ◌+◌, map, take, length, get_or, Option, None, rules, sym}
use Rattle.std.proofs.Common.{ap, ◌∙◌}
use Rattle.std.proofs.Common.{append-nil, arith}
use Rattle.std.specs.Prelude.{option_map}
use Rattle.std.proofs.lemmas.List.{map-append, length-take-le, take_all, take_more}
use Rattle.overlay_walk.specs.GroupedContours.{plain_contours}
use Rattle.overlay_extract.specs.ChildLinks.{plain_link}
use Rattle.overlay_extract.specs.declared.child_link.ChildLink.{ChildLink as LinkTaken}
use Rattle.overlay_extract.specs.Links.{link_at, links_from, one_or_none}
use Rattle.overlay_extract.proofs.LinksFound.{links_more}
use Rattle.overlay_extract.proofs.links.links_by.Goals as goal
use Rattle.overlay_extract.proofs.links.links_by.Goals.{in-Some+in_ok-push, in_default}

pub loop-child-preserved : goal.loop-child-preserved
loop-child-preserved g c =
    let cs = plain_contours g.I.IntNumber.whole c.args.contours.now in
    let holes = c.args.holes.now in
    let i = c.loop-child.child in
    let h = get_or holes i Option.None in
    let inside = c.loop-child-test.true in
    let before = take i holes in
    let counted = length-take-le i holes (omega (arith, inside)) in
    let place : 0 + length before ≡ i = omega (arith, counted) in
    let more : links_from cs 0 (take (i + 1) holes) ≡ links_from cs 0 before ++ one_or_none (link_at cs i h) =
    ap (links_from cs 0) (take_more holes i Option.None inside) ∙ links_more cs 0 before h
    ∙ ap (λ k. links_from cs 0 before ++ one_or_none (link_at cs k h)) place in
    let told : link_at cs i h ≡ option_map plain_link c.link_at.result = sym c.link_at.ensures in
    elim c.match-link_at.branch [
      | in-Some+in_ok-push w ↦
          ap (λ (ls : _). map plain_link ls.items) w.links-is ∙ ap (map plain_link) w.in_ok-push.ensures.items
          ∙ map-append plain_link c.loop-child.links.items (w.in-Some.link ∷ [])
          ∙ ap (λ ls. ls ++ plain_link w.in-Some.link ∷ []) c.loop-child.invariant
          ∙ ap (λ o. links_from cs 0 before ++ one_or_none (option_map plain_link o)) (sym w.in-Some.is)
          ∙ sym (more ∙ ap (λ o. links_from cs 0 before ++ one_or_none o) told)
      | in_default w ↦
          let none : c.link_at.result ≡ None = search rules in
          ap (λ (ls : _). map plain_link ls.items) w.links-is ∙ c.loop-child.invariant
          ∙ sym (append-nil (links_from cs 0 before))
          ∙ ap (λ (o : Option LinkTaken). links_from cs 0 before ++ one_or_none (option_map plain_link o)) (sym none)
          ∙ sym (more ∙ ap (λ o. links_from cs 0 before ++ one_or_none o) told)
    ]

pub returns : goal.returns
returns g c = record {
  ok = c.loop-child.invariant
      ∙ ap (links_from (plain_contours g.I.IntNumber.whole c.args.contours.now) 0)
      (take_all c.loop-child.child c.args.holes.now c.loop-child-test.false);
}
