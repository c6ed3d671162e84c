-- The edge is held as it runs.
use Rattle.std.proofs.Common.{◌++◌, sym, ap, ◌∙◌, append-nil}
use Rattle.std.proofs.lemmas.Result.{on_ok_weaker}
use Rattle.overlay_geom.specs.Points.{plain_point}
use Rattle.overlay_traced.specs.Given.{held_edge, plain_given}
use Rattle.overlay_traced.proofs.Holding.{carrying, held_along, held_back, held_equal, one_heavy}
use Rattle.overlay_traced.proofs.given.push_given.Goals as goal

pub returns-in-Equal-clause-held : goal.returns-in-Equal-clause-held
returns-in-Equal-clause-held g c =
    let at = plain_point g.I.IntNumber.whole in
    let e = c.args.edge in
    let given = g.D.GivenData.given in
    let same = sym c.compare_points.ensures ∙ c.in-Equal.is in
    let none = held_equal given e.shape_type c.args.number (at e.a) (at e.b) same in
    sym (ap (λ es. c.args.content.now ++ es) none ∙ append-nil c.args.content.now)

pub returns-in-Less-clause-held : goal.returns-in-Less-clause-held
returns-in-Less-clause-held g c =
    let at = plain_point g.I.IntNumber.whole in
    let e = c.args.edge in
    let given = g.D.GivenData.given in
    let v = c.value_along.result in
    let one = held_along given e.shape_type c.args.number (at e.a) (at e.b) v c.value_along.ensures.value
    (sym c.compare_points.ensures ∙ c.in-Less.is) in
    on_ok_weaker c.push.result (λ is. is ∙ ap (λ es. c.args.content.now ++ es) (sym one))
    c.push.ensures.ok

pub returns-in-Less-clause-too_many : goal.returns-in-Less-clause-too_many
returns-in-Less-clause-too_many g c =
    let at = plain_point g.I.IntNumber.whole in
    let e = c.args.edge in
    let given = g.D.GivenData.given in
    let v = c.value_along.result in
    let one = held_along given e.shape_type c.args.number (at e.a) (at e.b) v c.value_along.ensures.value
    (sym c.compare_points.ensures ∙ c.in-Less.is) in
    λ is. one_heavy c.args.content.now (held_edge given c.args.number (plain_given g.I.IntNumber.whole e))
    (carrying (at e.a) (at e.b) v) one (c.push.ensures.too_many is)

pub returns-in-Greater-clause-held : goal.returns-in-Greater-clause-held
returns-in-Greater-clause-held g c =
    let at = plain_point g.I.IntNumber.whole in
    let e = c.args.edge in
    let given = g.D.GivenData.given in
    let v = c.value_back.result in
    let one = held_back given e.shape_type c.args.number (at e.a) (at e.b) v c.value_back.ensures.value
    (sym c.compare_points.ensures ∙ c.in-Greater.is) in
    on_ok_weaker c.push-in-Greater.result (λ is. is ∙ ap (λ es. c.args.content.now ++ es) (sym one))
    c.push-in-Greater.ensures.ok

pub returns-in-Greater-clause-too_many : goal.returns-in-Greater-clause-too_many
returns-in-Greater-clause-too_many g c =
    let at = plain_point g.I.IntNumber.whole in
    let e = c.args.edge in
    let given = g.D.GivenData.given in
    let v = c.value_back.result in
    let one = held_back given e.shape_type c.args.number (at e.a) (at e.b) v c.value_back.ensures.value
    (sym c.compare_points.ensures ∙ c.in-Greater.is) in
    λ is. one_heavy c.args.content.now (held_edge given c.args.number (plain_given g.I.IntNumber.whole e))
    (carrying (at e.b) (at e.a) v) one (c.push-in-Greater.ensures.too_many is)
