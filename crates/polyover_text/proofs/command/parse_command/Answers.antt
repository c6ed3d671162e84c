use Rattle.std.proofs.Common.{◌≡◌, ◌∷◌, None, codes, inl, inr, refl, ap, ◌∙◌, rules}
use Rattle.std.proofs.lemmas.Slice.Eq.{text_from_reads}
use Rattle.polyover_text.specs.Words.{words_left}
use Rattle.polyover_text.proofs.Commands.{edges_asked, overlay_asked, hierarchy_asked, no_rules_named}
use Rattle.polyover_text.proofs.Commands.{clip_asked, no_clip_named, tiles_asked, no_tiles_named}
use Rattle.polyover_text.proofs.Commands.{relation_asked, slice_asked, no_fill_named, contains_asked, locate_asked}
use Rattle.polyover_text.proofs.command.parse_command.Goals as goal

pub returns-in_ok-last_fill_rule-in-edges : goal.returns-in_ok-last_fill_rule-in-edges
returns-in_ok-last_fill_rule-in-edges c =
    let first : c.in_ok-next.field-0.now ≡ codes "edges" = search (rules, text_from_reads) in
    edges_asked _ (words_left c.next.new.self) _ (c.in_ok-next.ensures.steps
    ∙ ap (λ w. w ∷ words_left c.next.new.self) first)
    c.in_ok-last_fill_rule-in-edges.ensures

pub returns-in_ok-last_fill_rule-in-relate : goal.returns-in_ok-last_fill_rule-in-relate
returns-in_ok-last_fill_rule-in-relate c =
    let first : c.in_ok-next.field-0.now ≡ codes "relate" = search (rules, text_from_reads) in
    relation_asked _ (words_left c.next.new.self) _ (c.in_ok-next.ensures.steps
    ∙ ap (λ w. w ∷ words_left c.next.new.self) first)
    c.in_ok-last_fill_rule-in-relate.ensures

pub returns-in_ok-last_fill_rule-in-slice : goal.returns-in_ok-last_fill_rule-in-slice
returns-in_ok-last_fill_rule-in-slice c =
    let first : c.in_ok-next.field-0.now ≡ codes "slice" = search (rules, text_from_reads) in
    slice_asked _ (words_left c.next.new.self) _ (c.in_ok-next.ensures.steps
    ∙ ap (λ w. w ∷ words_left c.next.new.self) first)
    c.in_ok-last_fill_rule-in-slice.ensures

pub returns-in_ok-parse_overlay-in-overlay : goal.returns-in_ok-parse_overlay-in-overlay
returns-in_ok-parse_overlay-in-overlay c =
    let first : c.in_ok-next.field-0.now ≡ codes "overlay" = search (rules, text_from_reads) in
    overlay_asked _ (words_left c.next.new.self) _ (c.in_ok-next.ensures.steps
    ∙ ap (λ w. w ∷ words_left c.next.new.self) first)
    c.in_ok-parse_overlay-in-overlay.ensures

pub returns-in_ok-parse_overlay-in-hierarchy : goal.returns-in_ok-parse_overlay-in-hierarchy
returns-in_ok-parse_overlay-in-hierarchy c =
    let first : c.in_ok-next.field-0.now ≡ codes "hierarchy" = search (rules, text_from_reads) in
    hierarchy_asked _ (words_left c.next.new.self) _ (c.in_ok-next.ensures.steps
    ∙ ap (λ w. w ∷ words_left c.next.new.self) first)
    c.in_ok-parse_overlay-in-hierarchy.ensures

pub returns-in-contains : goal.returns-in-contains
returns-in-contains c =
    let first : c.in_ok-next.field-0.now ≡ codes "contains" = search (rules, text_from_reads) in
    contains_asked _ (words_left c.next.new.self) _ (c.in_ok-next.ensures.steps
    ∙ ap (λ w. w ∷ words_left c.next.new.self) first)
    c.if_last-in-contains.ensures.last c.if_last-in-contains.ensures.value

pub returns-in-locate : goal.returns-in-locate
returns-in-locate c =
    let first : c.in_ok-next.field-0.now ≡ codes "locate" = search (rules, text_from_reads) in
    locate_asked _ (words_left c.next.new.self) _ (c.in_ok-next.ensures.steps
    ∙ ap (λ w. w ∷ words_left c.next.new.self) first)
    c.if_last.ensures.last c.if_last.ensures.value

pub returns-in_err-parse_overlay-in-overlay : goal.returns-in_err-parse_overlay-in-overlay
returns-in_err-parse_overlay-in-overlay c =
    let first : c.in_ok-next.field-0.now ≡ codes "overlay" = search (rules, text_from_reads) in
    let none : c.from_residual-in_err-parse_overlay-in-overlay.result ≡ None = search rules in
    rw none (no_rules_named _ (words_left c.next.new.self) (codes "overlay") (c.in_ok-next.ensures.steps
    ∙ ap (λ w. w ∷ words_left c.next.new.self) first) (inl refl)
    c.in_err-parse_overlay-in-overlay.ensures)

pub returns-in_err-parse_overlay-in-hierarchy : goal.returns-in_err-parse_overlay-in-hierarchy
returns-in_err-parse_overlay-in-hierarchy c =
    let first : c.in_ok-next.field-0.now ≡ codes "hierarchy" = search (rules, text_from_reads) in
    let none : c.from_residual-in_err-parse_overlay-in-hierarchy.result ≡ None = search rules in
    rw none (no_rules_named _ (words_left c.next.new.self) (codes "hierarchy") (c.in_ok-next.ensures.steps
    ∙ ap (λ w. w ∷ words_left c.next.new.self) first) (inr refl)
    c.in_err-parse_overlay-in-hierarchy.ensures)

pub returns-in_ok-parse_clip-in-clip : goal.returns-in_ok-parse_clip-in-clip
returns-in_ok-parse_clip-in-clip c =
    let first : c.in_ok-next.field-0.now ≡ codes "clip" = search (rules, text_from_reads) in
    clip_asked _ (words_left c.next.new.self) _ (c.in_ok-next.ensures.steps
    ∙ ap (λ w. w ∷ words_left c.next.new.self) first)
    c.in_ok-parse_clip-in-clip.ensures

pub returns-in_err-parse_clip-in-clip : goal.returns-in_err-parse_clip-in-clip
returns-in_err-parse_clip-in-clip c =
    let first : c.in_ok-next.field-0.now ≡ codes "clip" = search (rules, text_from_reads) in
    let none : c.from_residual-in_err-parse_clip-in-clip.result ≡ None = search rules in
    rw none (no_clip_named _ (words_left c.next.new.self) (c.in_ok-next.ensures.steps
    ∙ ap (λ w. w ∷ words_left c.next.new.self) first)
    c.in_err-parse_clip-in-clip.ensures)

pub returns-in_ok-parse_tiles-in-tiles : goal.returns-in_ok-parse_tiles-in-tiles
returns-in_ok-parse_tiles-in-tiles c =
    let first : c.in_ok-next.field-0.now ≡ codes "tiles" = search (rules, text_from_reads) in
    tiles_asked _ (words_left c.next.new.self) _ (c.in_ok-next.ensures.steps
    ∙ ap (λ w. w ∷ words_left c.next.new.self) first)
    c.in_ok-parse_tiles-in-tiles.ensures

pub returns-in_err-parse_tiles-in-tiles : goal.returns-in_err-parse_tiles-in-tiles
returns-in_err-parse_tiles-in-tiles c =
    let first : c.in_ok-next.field-0.now ≡ codes "tiles" = search (rules, text_from_reads) in
    let none : c.from_residual-in_err-parse_tiles-in-tiles.result ≡ None = search rules in
    rw none (no_tiles_named _ (words_left c.next.new.self) (c.in_ok-next.ensures.steps
    ∙ ap (λ w. w ∷ words_left c.next.new.self) first)
    c.in_err-parse_tiles-in-tiles.ensures)

pub returns-in_err-last_fill_rule-in-edges : goal.returns-in_err-last_fill_rule-in-edges
returns-in_err-last_fill_rule-in-edges c =
    let first : c.in_ok-next.field-0.now ≡ codes "edges" = search (rules, text_from_reads) in
    let none : c.from_residual-in_err-last_fill_rule-in-edges.result ≡ None = search rules in
    rw none (no_fill_named _ (words_left c.next.new.self) (codes "edges") (c.in_ok-next.ensures.steps
    ∙ ap (λ w. w ∷ words_left c.next.new.self) first) (inl refl)
    c.in_err-last_fill_rule-in-edges.ensures)

pub returns-in_err-last_fill_rule-in-relate : goal.returns-in_err-last_fill_rule-in-relate
returns-in_err-last_fill_rule-in-relate c =
    let first : c.in_ok-next.field-0.now ≡ codes "relate" = search (rules, text_from_reads) in
    let none : c.from_residual-in_err-last_fill_rule-in-relate.result ≡ None = search rules in
    rw none (no_fill_named _ (words_left c.next.new.self) (codes "relate") (c.in_ok-next.ensures.steps
    ∙ ap (λ w. w ∷ words_left c.next.new.self) first) (inr (inl refl))
    c.in_err-last_fill_rule-in-relate.ensures)

pub returns-in_err-last_fill_rule-in-slice : goal.returns-in_err-last_fill_rule-in-slice
returns-in_err-last_fill_rule-in-slice c =
    let first : c.in_ok-next.field-0.now ≡ codes "slice" = search (rules, text_from_reads) in
    let none : c.from_residual-in_err-last_fill_rule-in-slice.result ≡ None = search rules in
    rw none (no_fill_named _ (words_left c.next.new.self) (codes "slice") (c.in_ok-next.ensures.steps
    ∙ ap (λ w. w ∷ words_left c.next.new.self) first) (inr (inr refl))
    c.in_err-last_fill_rule-in-slice.ensures)
