-- The places so far are joined.
use Rattle.overlay_relate.specs.Joined.{joined_by, AreJoined}
use Rattle.overlay_relate.proofs.joined.join_from.Given as goal

abbrev pub invariant-loop-i : goal.invariant-loop-i
invariant-loop-i g l = AreJoined (joined_by l.parts) l.start l.i l.more l.initial.locations.items l.locations.items
