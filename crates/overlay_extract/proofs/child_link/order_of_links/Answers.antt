-- The derived order goes by the fields, and ties where all of them are equal.
use Rattle.std.proofs.Common.{ap, sym, ◌∙◌}
use Rattle.std.specs.Ordering.{is_lt}
use Rattle.overlay_extract.specs.ChildLinks.{plain_link}
use Rattle.overlay_extract.proofs.LinkOrder.{link_lt-is_less, tie_is_same}
use Rattle.overlay_extract.proofs.child_link.order_of_links.Goals as goal

pub returns-clause-before : goal.returns-clause-before
returns-clause-before c = ap is_lt c.cmp.ensures
    ∙ sym (link_lt-is_less (plain_link c.args.k.now) (plain_link c.args.l.now))

pub returns-clause-equal : goal.returns-clause-equal
returns-clause-equal c = tie_is_same c.args.k.now c.args.l.now c.cmp.result c.cmp.ensures
