use Rattle.std.proofs.Common.{◌≡◌, codes, rules}
use Rattle.std.proofs.lemmas.Slice.Eq.{text_from_reads}
use Rattle.polyover_text.proofs.ClipOptionLists.{inverted, boundary_kept}
use Rattle.polyover_text.proofs.clip_options.KeptParts.with.Goals as goal

pub returns-in-invert : goal.returns-in-invert
returns-in-invert c =
    let named : c.args.word.now ≡ codes "invert" = search (rules, text_from_reads) in
    inverted c.args.self c.args.word.now c.inverted.result named c.inverted.ensures

pub returns-in-boundary : goal.returns-in-boundary
returns-in-boundary c =
    let named : c.args.word.now ≡ codes "boundary" = search (rules, text_from_reads) in
    boundary_kept c.args.self c.args.word.now c.with_boundary.result named c.with_boundary.ensures
