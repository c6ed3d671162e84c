use Rattle.std.proofs.Common.{ap, ◌∙◌}
use Rattle.std.specs.List.{flat_map}
use Rattle.std.proofs.lemmas.List.{take_all}
use Rattle.polyover_text.specs.Printed.{location_line}
use Rattle.polyover_text.proofs.location_text.locations_text.Goals as goal

pub returns : goal.returns
returns g c = c.loop-location.invariant
    ∙ ap (flat_map location_line) (take_all c.loop-location.location-index c.args.locations.now
    c.loop-location-test.false)
