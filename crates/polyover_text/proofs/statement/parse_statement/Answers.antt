use Rattle.std.proofs.Common.{◌≡◌, ◌≢◌, ◌∷◌, codes, ap, sym, ◌∙◌, rules}
use Rattle.std.proofs.lemmas.Slice.Eq.{text_from_reads}
use Rattle.polyover_text.specs.Grammar.{words}
use Rattle.polyover_text.specs.Words.{words_left}
use Rattle.polyover_text.proofs.FirstWord.{nothing_by_first_word}
use Rattle.polyover_text.proofs.statement.parse_statement.Goals as goal

pub returns-in-Some-subject : goal.returns-in-Some-subject
returns-in-Some-subject g c =
    let first : c.in-Some-subject.field-0.now ≡ codes "subject" = search (rules, text_from_reads) in
    let line : words c.args.line.now ≡ codes "subject" ∷ words_left c.next.new.self =
    sym c.new-words.ensures ∙ c.in-Some-subject.ensures.steps ∙ ap (λ w. w ∷ words_left c.next.new.self) first in
    rw line c.parse_contour-in-Some-subject.ensures

pub returns-in-Some-clip : goal.returns-in-Some-clip
returns-in-Some-clip g c =
    let first : c.in-Some-clip.field-0.now ≡ codes "clip" = search (rules, text_from_reads) in
    let line : words c.args.line.now ≡ codes "clip" ∷ words_left c.next.new.self =
    sym c.new-words.ensures ∙ c.in-Some-clip.ensures.steps ∙ ap (λ w. w ∷ words_left c.next.new.self) first in
    rw line c.parse_contour.ensures

pub returns-in-Some-line : goal.returns-in-Some-line
returns-in-Some-line g c =
    let first : c.in-Some-line.field-0.now ≡ codes "line" = search (rules, text_from_reads) in
    let line : words c.args.line.now ≡ codes "line" ∷ words_left c.next.new.self =
    sym c.new-words.ensures ∙ c.in-Some-line.ensures.steps ∙ ap (λ w. w ∷ words_left c.next.new.self) first in
    rw line c.parse_open_path.ensures

pub returns : goal.returns
returns g c =
    let f = c.in-Some.field-0.now in
    let subject : f ≢ codes "subject" = search rules in
    let clip : f ≢ codes "clip" = search rules in
    let lines : f ≢ codes "line" = search rules in
    let points : f ≢ codes "point" = search rules in
    let run : f ≢ codes "run" = search rules in
    nothing_by_first_word _ f _ (sym c.new-words.ensures ∙ c.in-Some.ensures.steps) subject clip lines points run
