-- Fractions compare by their quotients, and then by their rests.
use Rattle.std.proofs.Common.{sym, ◌∙◌}
use Rattle.overlay_exact.proofs.Quotients.{by_quotients, by_rests}
use Rattle.overlay_exact.proofs.fraction.+by_quotients.Goals as goal

pub compare_fractions-returns-in-Equal : goal.compare_fractions-returns-in-Equal
compare_fractions-returns-in-Equal t c =
    by_rests c.args.n c.args.d c.args.m c.args.c c.requires.divides c.requires.divides_other c.compare_rests.result
    (sym c.in-Equal.is ∙ c.cmp-2.ensures) c.compare_rests.ensures

pub compare_fractions-returns-in_default-cmp : goal.compare_fractions-returns-in_default-cmp
compare_fractions-returns-in_default-cmp t c =
    by_quotients c.args.n c.args.d c.args.m c.args.c c.requires.divides c.requires.divides_other c.cmp-2.result
    c.cmp-2.ensures c.in_default-cmp.not-Equal
