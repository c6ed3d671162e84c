-- The messages and the numbers that tell how a run ended.
use Rattle.std.specs.Prelude.{ℕ, List, [], ◌∷◌, ◌++◌, codes}
use Rattle.std.specs.Fmt.{decimal}
use Rattle.overlay_geom.specs.declared.error.OverlayError.{OverlayError}
use Rattle.overlay_geom.specs.declared.error.OverlayError.TheVariants.{Memory, NotSettled, TooManyEdges, Failed}
use Rattle.polyover_engine.specs.declared.exit.Exit.{Exit}
use Rattle.polyover.specs.declared.report.Message.{Message}
use Rattle.polyover.specs.declared.report.Message.TheVariants.{Nothing, Refused as RefusedMessage, BadLine}
use Rattle.polyover.specs.declared.report.Message.TheVariants.{Failed as FailedMessage}
use Rattle.polyover_engine.specs.declared.exit.Exit.TheVariants.{Answered, Refused, BadInput, Io}

-- the program's status
abbrev pub status_of : Exit → ℕ
status_of Answered = 0
status_of (Refused e) = 1
status_of (BadInput n) = 2
status_of Io = 3

-- the number after the E by which the program names a refusal
abbrev pub refusal_number_of : OverlayError → ℕ
refusal_number_of Memory = 1
refusal_number_of NotSettled = 2
refusal_number_of TooManyEdges = 3
refusal_number_of Failed = 4

-- the message on standard error: none after an answer, else a line
abbrev pub message_of : Exit → List ℕ
message_of Answered = []
message_of (Refused e) = codes "refused E" ++ decimal (refusal_number_of e) ++ codes "\n"
message_of (BadInput n) = codes "line " ++ decimal n ++ codes ": bad input\n"
message_of Io = codes "io failed\n"

-- the text of a message that the program holds
abbrev pub text_of_message : Message → List ℕ
text_of_message Nothing = []
text_of_message (RefusedMessage number) = codes "refused E" ++ decimal number ++ codes "\n"
text_of_message (BadLine n) = codes "line " ++ decimal n ++ codes ": bad input\n"
text_of_message FailedMessage = codes "io failed\n"
