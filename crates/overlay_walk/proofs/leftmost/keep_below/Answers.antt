-- The numbers that stay are those below the limit.
use Rattle.std.proofs.Common.{nat_lt, rules}
use Rattle.std.proofs.lemmas.Fn.{filter_same}
use Rattle.overlay_walk.proofs.leftmost.keep_below.Goals as goal

pub returns : goal.returns
returns g c = filter_same _ (λ k. nat_lt k c.args.limit) _ (λ k b f' h. search rules) _ _ c.retain.ensures.filtered
