-- The law is proved in proofs/OneQuery.antt.
use Rattle.i_overlay.proofs.OneQuery.{one_query}
use Rattle.i_overlay.proofs.only_queries.one_query.Goals as goal

pub returns : goal.returns
returns c = one_query
