-- How a run ends whose input was not parsed.
use Rattle.overlay_geom.specs.declared.error.OverlayError.TheVariants.{Memory as OutOfMemory}
use Rattle.polyover_engine.specs.declared.exit.Exit.{Exit}
use Rattle.polyover_engine.specs.declared.exit.Exit.TheVariants.{Refused, BadInput}
use Rattle.polyover_text.specs.declared.input.InputError.{InputError}
use Rattle.polyover_text.specs.declared.input.InputError.TheVariants.{Memory as InputMemory, BadLine}

abbrev pub exit_of_input : InputError → Exit
exit_of_input InputMemory = Refused OutOfMemory
exit_of_input (BadLine n) = BadInput n
