-- Options of a clip, set one by one.
use Rattle.std.specs.Prelude.{◌↔◌}
use Rattle.polyover_text.specs.declared.clip_options.KeptParts.{KeptParts}
use Rattle.polyover_text.specs.Grammar.{Line, SetClipOptions}

-- the words begin with that of an option that is not set, and the new options have it set: all the words set what the
-- rest sets from there
abbrev pub SetsClipOption : KeptParts → Line → KeptParts → Line → Type 0
SetsClipOption old ws new rest = (o : KeptParts) → SetClipOptions old ws o ↔ SetClipOptions new rest o

-- the words set no options, as they do not begin with that of an option that is not set
abbrev pub SetsNoClipOption : KeptParts → Line → Type 0
SetsNoClipOption old ws = (o : KeptParts) → ¬ (SetClipOptions old ws o)
