use Rattle.std.proofs.Common.{◌≡◌, codes, rules}
use Rattle.std.proofs.lemmas.Slice.Eq.{text_from_reads}
use Rattle.polyover_text.specs.Words.{words_left}
use Rattle.polyover_text.proofs.OptionLists.{turned_clockwise, points_kept, groups_set}
use Rattle.polyover_text.proofs.options.OutputOptions.with.Goals as goal

pub returns-in-keep-clause-option : goal.returns-in-keep-clause-option
returns-in-keep-clause-option c =
    let named : c.args.word.now ≡ codes "keep" = search (rules, text_from_reads) in
    points_kept c.args.self c.args.word.now (words_left c.args.words.now)
    c.with_points_kept.result named c.with_points_kept.ensures

pub returns-in-ogc-clause-option : goal.returns-in-ogc-clause-option
returns-in-ogc-clause-option c =
    let named : c.args.word.now ≡ codes "ogc" = search (rules, text_from_reads) in
    groups_set c.args.self c.args.word.now (words_left c.args.words.now)
    c.with_groups.result named c.with_groups.ensures

pub returns-in-clockwise-clause-option : goal.returns-in-clockwise-clause-option
returns-in-clockwise-clause-option c =
    let named : c.args.word.now ≡ codes "clockwise" = search (rules, text_from_reads) in
    turned_clockwise c.args.self c.args.word.now (words_left c.args.words.now)
    c.turned_clockwise.result named c.turned_clockwise.ensures

pub returns-in-min-clause-option : goal.returns-in-min-clause-option
returns-in-min-clause-option c =
    let named : c.args.word.now ≡ codes "min" = search (rules, text_from_reads) in
    rw named c.with_min_output_area.ensures.option
