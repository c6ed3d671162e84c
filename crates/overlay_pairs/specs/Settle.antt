-- The condition that two counted edges are settled.
use Rattle.overlay_geom.specs.Edges.{CountedEdge, ends_of}
use Rattle.overlay_geom.specs.Settled.{MeetInEnds}

-- the two edges meet in ends alone
abbrev pub AreSettled : CountedEdge → CountedEdge → Type 0
AreSettled e f = MeetInEnds (ends_of e) (ends_of f)
