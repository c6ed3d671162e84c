-- The numerator is compared with 0.
use Rattle.overlay_exact.specs.Parts.{fraction}
use Rattle.overlay_exact.proofs.PartEnds.{start_where_none}
use Rattle.overlay_exact.proofs.part.Part.is_start.Goals as goal

pub returns : goal.returns
returns g c = start_where_none (fraction g.W.WideIntNumber.whole c.args.self.n c.args.self.d) c.sign.result
    c.is_eq.result c.sign.ensures c.is_eq.ensures
