use Rattle.overlay_geom.proofs.number.part_way.+doubled_quotient.Given as goal

-- proposed from the arguments of the recursive call
abbrev pub decreases-doubled_quotient : goal.decreases-doubled_quotient
decreases-doubled_quotient l = l.n
