-- The contours are one shape.
use Rattle.std.proofs.Common.{[], ◌∷◌, All, map, ap, sym, subst, ◌∙◌}
use Rattle.std.proofs.lemmas.List.Elements.{All-nil, All-cons}
use Rattle.overlay_geom.specs.Flat.{paths_in}
use Rattle.overlay_geom.specs.Paths.{paths_of_shape}
use Rattle.overlay_geom.specs.Points.{plain_points, AllInRange}
use Rattle.overlay_geom.specs.Resolved.{IsResolved}
use Rattle.overlay_relate.specs.Answers.{AnswersWhere}
use Rattle.overlay_relate.specs.Locations.{IsLocatedAmong}
use Rattle.polyover_calls.specs.Located.{number_of}
use Rattle.polyover_calls.proofs.locate.numbers_in.Goals as goal

pub locate_points-requires-clause-self_in_range : goal.locate_points-requires-clause-self_in_range
locate_points-requires-clause-self_in_range g c =
    let P = All (AllInRange g.I.IntNumber.limit) in
    All-cons P (paths_of_shape g.I.IntNumber.whole c.deref.result.now) []
    (subst (λ cs. P (paths_of_shape g.I.IntNumber.whole cs)) (sym c.deref.ensures.value)
    (subst P (sym c.in_ok-shape.ensures.shape) c.requires.in_range)) (All-nil P)

pub locate_points-requires-clause-resolved : goal.locate_points-requires-clause-resolved
locate_points-requires-clause-resolved g c =
    let P = All IsResolved in
    All-cons P (paths_of_shape g.I.IntNumber.whole c.deref.result.now) []
    (subst (λ cs. P (paths_of_shape g.I.IntNumber.whole cs)) (sym c.deref.ensures.value)
    (subst P (sym c.in_ok-shape.ensures.shape) c.requires.resolved)) (All-nil P)

pub returns-clause-numbers : goal.returns-clause-numbers
returns-clause-numbers g c =
    let whole = g.I.IntNumber.whole in
    let locations = c.in_ok-locations.locations.items in
    record {
      locations = locations;
      located = subst (λ paths. AnswersWhere (IsLocatedAmong (paths ∷ [])) (plain_points whole c.args.points.now)
          locations) (ap (paths_of_shape whole) c.deref.ensures.value ∙ c.in_ok-shape.ensures.shape)
          c.in_ok-locations.ensures.located;
      numbers = c.in_ok-numbers.ensures.numbers ∙ ap (map number_of) c.deref-2.ensures.value;
    }
