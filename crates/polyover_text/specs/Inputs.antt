-- What the program holds of the lines that it has read.
use Rattle.std.specs.Prelude.{◌≡◌, ℕ, ◌+◌, ◌++◌, List, [], ◌∷◌, Option, MatchOption, length}
use Rattle.polyover_text.specs.declared.query.NumberedQuery.{NumberedQuery}
use Rattle.polyover_text.specs.declared.input.Reading.{Reading}
use Rattle.polyover_text.specs.declared.input.InputError.{InputError}
use Rattle.polyover_text.specs.declared.input.InputError.TheVariants.{Memory, BadLine}
use Rattle.polyover_text.specs.Grammar.{Line, GivenFigures, AreFigures, AsksAt, IsGoodSoFar, IsFirstBad}
use Rattle.polyover_text.specs.Statements.{figures_at}

-- the lines give these figures and no command, or these and a command, in its line, that asks for the query
abbrev pub Give : List Line → GivenFigures → Option NumberedQuery → Type 0
Give ls fs command = MatchOption command (AreFigures 1 ls fs) (λ asked. AsksAt ls fs asked.line asked.query)

-- the lines so far give what is held
abbrev pub HasRead : {A : Type 0} → List Line → Reading A → Type 0
HasRead ls r = Give ls (figures_at r.figures) r.command

-- what was held takes one more line, which has the number n
pub record TakesLine {A : Type 0} (n : ℕ) (l : Line) (old new : Reading A) : Type 0 where
  pub takes : (ls : List Line) → n ≡ length ls + 1 → HasRead ls old → HasRead (ls ++ l ∷ []) new

-- no input that begins with the lines before goes on with this line
pub record RefusesLine {A : Type 0} (l : Line) (old : Reading A) : Type 0 where
  pub refuses : (ls : List Line) → HasRead ls old → ¬ (IsGoodSoFar (ls ++ l ∷ []))

-- the first bad line is named
abbrev pub IsNamedFault : List Line → InputError → Type 0
IsNamedFault ls Memory = Unit {0}
IsNamedFault ls (BadLine n) = IsFirstBad ls n
