-- The edges are settled if all of them are counted. Otherwise the meetings from the first other edge on are found.
use Rattle.std.proofs.Common.{◌≡◌, Option, Some, length, refl, subst}
use Rattle.std.proofs.lemmas.List.{length-map}
use Rattle.overlay_geom.specs.Settled.{IsSettled}
use Rattle.overlay_order.specs.Content.{plain_edge, plain_edges}
use Rattle.overlay_pairs.proofs.SettledLists.{settled_where_counted}
use Rattle.overlay_arrange.proofs.content.Content.open_meetings.Goals as goal

-- an option within an option
some_is : {X : Type 0} (x y : Option X) → Some x ≡ Some y → x ≡ y
some_is x y same = cc

pub count_settled-requires-clause-held : goal.count_settled-requires-clause-held
count_settled-requires-clause-held g c = rw c.edges-edges.ensures.plain c.edges-edges.ensures.content.held

pub count_settled-requires-clause-ascending : goal.count_settled-requires-clause-ascending
count_settled-requires-clause-ascending g c = rw c.edges-edges.ensures.plain c.requires.ascending

pub gather-requires-clause-held : goal.gather-requires-clause-held
gather-requires-clause-held g c = rw c.edges-edges.ensures.plain c.edges-edges.ensures.content.held

pub gather-requires-clause-ascending : goal.gather-requires-clause-ascending
gather-requires-clause-ascending g c = rw c.edges-edges.ensures.plain c.requires.ascending

pub returns-then-count-edges-clause-settled : goal.returns-then-count-edges-clause-settled
returns-then-count-edges-clause-settled g c =
    let law = settled_where_counted (plain_edges g.I.IntNumber.whole g.C.EdgeCount.counts c.edges-edges.result.now)
    c.in_ok-count.count (length c.edges-edges.result.now)
    (length-map c.edges-edges.result.now (plain_edge g.I.IntNumber.whole g.C.EdgeCount.counts))
    (rw c.edges-edges.ensures.plain c.requires.ascending) c.in_ok-count.ensures.ok c.in_ok-count.ensures.most in (
      λ _. subst IsSettled c.edges-edges.ensures.plain (law.0 c.if-count-edges.true),
      λ _. refl,
    )

pub returns-clause-settled : goal.returns-clause-settled
returns-clause-settled g c =
    let law = settled_where_counted (plain_edges g.I.IntNumber.whole g.C.EdgeCount.counts c.edges-edges.result.now)
    c.in_ok-count.count (length c.edges-edges.result.now)
    (length-map c.edges-edges.result.now (plain_edge g.I.IntNumber.whole g.C.EdgeCount.counts))
    (rw c.edges-edges.ensures.plain c.requires.ascending) c.in_ok-count.ensures.ok c.in_ok-count.ensures.most in (
      λ same. absurd (cc),
      λ settled. absurd (c.if-count-edges.false (law.1 (rw c.edges-edges.ensures.plain settled))),
    )

pub returns-clause-ok : goal.returns-clause-ok
returns-clause-ok g c = rw c.edges-edges.ensures.plain at c.in_ok-gathered.ensures.ok

pub returns-clause-open : goal.returns-clause-open
returns-clause-open g c = rw c.edges-edges.ensures.plain at c.in_ok-gathered.ensures.open

-- where edges may not be parted, no pairs are too many
pub returns-clause-may : goal.returns-clause-may
returns-clause-may g c = λ same.
    c.most_overlaps.ensures (c.in_ok-gathered.ensures.many (some_is c.in_ok-gathered.gathered _ same))
