-- The numerator is compared with the denominator.
use Rattle.overlay_exact.specs.Parts.{fraction}
use Rattle.overlay_exact.proofs.PartEnds.{end_where_whole}
use Rattle.overlay_exact.proofs.part.Part.is_end.Goals as goal

pub returns : goal.returns
returns g c = end_where_whole (fraction g.W.WideIntNumber.whole c.args.self.n c.args.self.d) c.compare.result
    c.is_eq.result c.compare.ensures c.is_eq.ensures
