-- An edge that passes the telling test answers the predicate.
use Rattle.std.proofs.Common.{◌≡◌, true, sym, ap, subst}
use Rattle.overlay_graph.specs.FillTests.{some_fill_passes}
use Rattle.overlay_relate.specs.EdgeTests.{bits_pass}
use Rattle.overlay_relate.specs.Findings.{Tells, telling_test}
use Rattle.overlay_relate.proofs.ToldEarly.{told_of_arranged}
use Rattle.overlay_relate.proofs.predicate_overlay.PredicateOverlay.find_first.Goals as goal

pub returns-in-None-clause-answering : goal.returns-in-None-clause-answering
returns-in-None-clause-answering g c =
    let b = c.args.self.now in
    let p = c.args.predicate in
    let made = c.in_ok-graph.ensures in
    let passes : some_fill_passes (bits_pass (telling_test p)) b.fill_rule b.edges ≡ true =
    subst (λ test. some_fill_passes (bits_pass test) b.fill_rule b.edges ≡ true) c.telling_test.ensures
    (rw c.in-None.is at made.found) in
    let tells : Tells b.fill_rule b.edges p c.is_told.result =
    subst (Tells b.fill_rule b.edges p) (sym c.is_told.ensures)
    (told_of_arranged g.I.IntNumber.limit b.fill_rule b.edges made.content c.requires.arranged made.balanced p passes)
    in record {
      right = subst (λ rule. Tells rule b.edges p c.is_told.result) (sym (ap (λ s. s.fill_rule) c.self.view_is)) tells;
      tells = tells;
    }
