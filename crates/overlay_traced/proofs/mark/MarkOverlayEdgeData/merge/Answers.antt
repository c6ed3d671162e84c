-- The list has the given edges of both.
use Rattle.std.proofs.Common.{Some, inr, ap, ◌∙◌}
use Rattle.overlay_traced.proofs.Passing.{all_along}
use Rattle.overlay_traced.proofs.mark.MarkOverlayEdgeData.merge.Goals as goal

pub returns-then-is_both : goal.returns-then-is_both
returns-then-is_both c = record {
  merges = inr (ap Some (all_along c.in-Some.list.now) ∙ c.is_both.ensures c.if-is_both.true);
}
