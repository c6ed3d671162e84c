-- Ascending edges are apart where they are settled, and edges that do not ascend are not.
use Rattle.std.proofs.Common.{sym, ◌∙◌}
use Rattle.std.specs.Prelude.{◌↔◌, IsTrue}
use Rattle.std.proofs.lemmas.Bool.{false≢true}
use Rattle.std.proofs.lemmas.Result.{IfOk-weaker}
use Rattle.overlay_geom.specs.Resolved.{AreApart}
use Rattle.overlay_geom.specs.Settled.{IsSettled}
use Rattle.overlay_relate.specs.Resolved.{edges_once, ends_once}
use Rattle.overlay_relate.proofs.ApartInOrder.{long_held, long_forward, apart_ascend, apart_settled}
use Rattle.overlay_relate.proofs.ApartInOrder.{settled_ascending_apart}
use Rattle.overlay_relate.proofs.resolved.are_apart.Goals as goal

pub is_settled-requires-clause-held : goal.is_settled-requires-clause-held
is_settled-requires-clause-held g c =
    long_held g.I.IntNumber.limit (edges_once g.I.IntNumber.whole c.args.edges.now) c.requires.long

pub returns-then-ascend : goal.returns-then-ascend
returns-then-ascend g c = record {
  ok = let ks = edges_once g.I.IntNumber.whole c.args.edges.now in
      let forward = long_forward g.I.IntNumber.limit (ends_once g.I.IntNumber.whole c.args.edges.now) c.requires.long in
      let ascending = c.ascend.ensures.0 c.if-ascend.true in
      IfOk-weaker c.is_settled.result (λ b. IsTrue b ↔ IsSettled ks)
      (λ b. IsTrue b ↔ AreApart (ends_once g.I.IntNumber.whole c.args.edges.now))
      (λ b told. (
        λ t. settled_ascending_apart ks ascending (told.0 t),
        λ apart. told.1 (apart_settled ks forward apart),
      )) c.is_settled.ensures.ok;
}

pub returns-else-ascend : goal.returns-else-ascend
returns-else-ascend g c = record {
  ok = let ks = edges_once g.I.IntNumber.whole c.args.edges.now in
      let forward = long_forward g.I.IntNumber.limit (ends_once g.I.IntNumber.whole c.args.edges.now) c.requires.long
      in (
        λ t. absurd (false≢true t),
        λ apart. sym c.if-ascend.false ∙ c.ascend.ensures.1 (apart_ascend ks forward apart c.requires.order),
      );
}
