-- What an input asks is one thing.
use Rattle.std.specs.Prelude.{◌≡◌, ℕ, List}
use Rattle.polyover_text.specs.declared.query.Query.{Query}
use Rattle.polyover_text.specs.Grammar.{Line, GivenFigures, Asks, IsFirstBad}

-- lines that ask for one query on some figures ask for no other, and on no others
abbrev pub OneInput : Type 0
OneInput = (lines : List Line) (figures others : GivenFigures) (first second : Query) → Asks lines figures first →
    Asks lines others second → (figures ≡ others) × (first ≡ second)

-- of lines that are no input one line alone is the first bad one
abbrev pub OneBadLine : Type 0
OneBadLine = (lines : List Line) (first second : ℕ) → IsFirstBad lines first → IsFirstBad lines second →
    first ≡ second

-- and of an input none is
abbrev pub InputsHaveNoBadLine : Type 0
InputsHaveNoBadLine = (lines : List Line) (figures : GivenFigures) (query : Query) (line : ℕ) →
    Asks lines figures query → ¬ (IsFirstBad lines line)
