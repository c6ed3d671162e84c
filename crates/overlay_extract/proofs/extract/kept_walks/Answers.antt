-- The walks that reach the minimum area are those of the selected walks that pass its test.
use Rattle.std.proofs.Common.{◌≡◌, List, All, filter, sym, ap, ◌∙◌, subst}
use Rattle.std.specs.Prelude.{Bool}
use Rattle.std.proofs.lemmas.List.Elements.{All-filter}
use Rattle.std.proofs.lemmas.Result.{IfOk-weaker}
use Rattle.overlay_geom.proofs.Mapped.{map-filter}
use Rattle.overlay_geom.specs.Plane.{Step}
use Rattle.overlay_plane.specs.MinimumArea.{reaches}
use Rattle.overlay_walk.specs.Steps.{plain_steps, IsLong}
use Rattle.overlay_walk.specs.Walks.{plain_walks}
use Rattle.overlay_extract.proofs.extract.kept_walks.Goals as goal

pub returns-clause-kept : goal.returns-clause-kept
returns-clause-kept g c =
    let whole = g.I.IntNumber.whole in
    let keeps : List Step → Bool = reaches g.I.Wide.WideIntNumber.width
    (g.I.WideUInt.UIntNumber.natural c.args.options.min_output_area) in
    let walks = c.in_ok-walks.walks.items in
    IfOk-weaker c.large_walks.result (λ ws. ws.items ≡ filter (λ w. keeps (plain_steps whole w.items)) walks) _
    (λ ws same. record {
      walks = plain_walks whole walks;
      cut = c.in_ok-walks.ensures.cut;
      are = ap (plain_walks whole) same ∙ map-filter (λ (w : _). plain_steps whole w.items) keeps walks;
    })
    c.large_walks.ensures.ok

pub returns-clause-long : goal.returns-clause-long
returns-clause-long g c =
    let whole = g.I.IntNumber.whole in
    let keeps : List Step → Bool = reaches g.I.Wide.WideIntNumber.width
    (g.I.WideUInt.UIntNumber.natural c.args.options.min_output_area) in
    let walks = c.in_ok-walks.walks.items in
    IfOk-weaker c.large_walks.result (λ ws. ws.items ≡ filter (λ w. keeps (plain_steps whole w.items)) walks) _
    (λ ws same. subst (All (All (IsLong g.I.IntNumber.limit)))
    (sym (ap (plain_walks whole) same ∙ map-filter (λ (w : _). plain_steps whole w.items) keeps walks))
    (All-filter keeps (All (IsLong g.I.IntNumber.limit)) (plain_walks whole walks) c.in_ok-walks.ensures.long))
    c.large_walks.ensures.ok
