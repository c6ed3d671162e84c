-- Exact relations of arrays are told in one way.
use Rattle.std.specs.Prelude.{◌≡◌, ℕ, ℤ}
use Rattle.overlay_geom.specs.Rules.{bit}
use Rattle.polyover_calls.specs.EndsOnce.{EndsOnce}
use Rattle.polyover_calls.specs.Given.{Contours}
use Rattle.polyover_calls.specs.OneAnswer.{told_of}
use Rattle.polyover_exact.specs.Exact.{AreExactBits, ExactlyRelatingEnds}
use Rattle.polyover_exact.specs.One.{IsExactlySo, RelatingOneExactlyEnds}

-- two calls with the same arguments write the same bits and end with one status, unless memory is refused
abbrev pub RelationsAreToldOnce : {I : Type 0} → (I → ℤ) → ℕ → Type 0
RelationsAreToldOnce {I = I} whole limit = (fill : ℕ) (subject clip : Contours I) →
    EndsOnce (ExactlyRelatingEnds whole limit fill subject clip)

-- so do two calls that ask for one relation
abbrev pub OneRelationIsToldOnce : {I : Type 0} → (I → ℤ) → ℕ → Type 0
OneRelationIsToldOnce {I = I} whole limit = (number fill : ℕ) (subject clip : Contours I) →
    EndsOnce (RelatingOneExactlyEnds whole limit number fill subject clip)

-- whether one relation holds, asked alone, is what all of them tell of it
abbrev pub OneExactRelationOfAll : {I : Type 0} → (I → ℤ) → ℕ → Type 0
OneExactRelationOfAll {I = I} whole limit = (number fill : ℕ) (subject clip : Contours I) (sum answer : ℕ)
    (all : AreExactBits whole limit fill subject clip sum)
    (one : IsExactlySo whole limit number fill subject clip answer) →
    answer ≡ bit (told_of all.relations one.known.1.relation) 1
