-- Options of an overlay, set one by one.
use Rattle.std.specs.Prelude.{◌↔◌}
use Rattle.polyover_text.specs.declared.options.OutputOptions.{OutputOptions}
use Rattle.polyover_text.specs.Grammar.{Line, SetOptions}

-- the words begin with those of an option that is not set, and the new options have it set: all the words set what the
-- rest sets from there
abbrev pub SetsOption : OutputOptions → Line → OutputOptions → Line → Type 0
SetsOption old ws new rest = (o : OutputOptions) → SetOptions old ws o ↔ SetOptions new rest o

-- the words set no options, as they do not begin with those of an option that is not set
abbrev pub SetsNothing : OutputOptions → Line → Type 0
SetsNothing old ws = (o : OutputOptions) → ¬ (SetOptions old ws o)
