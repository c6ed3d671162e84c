use Rattle.std.proofs.Common.{◌≡◌, take, string_bytes}
use Rattle.std.specs.List.{flat_map}
use Rattle.polyover_text.specs.Printed.{location_line}
use Rattle.polyover_text.proofs.location_text.locations_text.Given as goal

-- the text so far is that of the locations so far
abbrev pub invariant-loop-location : goal.invariant-loop-location
invariant-loop-location g l = string_bytes l.text ≡ flat_map location_line (take l.location-index l.locations)
