-- The edges are those of before, or their parts.
use Rattle.std.proofs.Common.{sym, subst}
use Rattle.overlay_parts.specs.Stores.IsStoreReached.{unwritten}
use Rattle.overlay_arrange.specs.Parting.{in_parts, unparted, AreInParts}
use Rattle.overlay_arrange.proofs.content.Content.meetings_of.Goals as goal

pub returns-in_err-clone-clause-store : goal.returns-in_err-clone-clause-store
returns-in_err-clone-clause-store g c = unwritten _

pub returns-in-Some-clause-parted : goal.returns-in-Some-clause-parted
returns-in-Some-clause-parted g c =
    subst (AreInParts g.C.EdgeCount.merges g.C.EdgeCount.splits g.C.EdgeCount.reverses c.args.self.now c.args.self.now)
    (sym c.new-hidden.ensures.items) unparted

pub returns-in-Some-clause-store : goal.returns-in-Some-clause-store
returns-in-Some-clause-store g c = unwritten _

pub returns-clause-parted : goal.returns-clause-parted
returns-clause-parted g c = in_parts (c.requires.may (cc)) c.in_ok-hidden.ensures.ok
