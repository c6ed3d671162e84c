-- Searches for an edge of an arrangement whose filled sides pass a test.
use Rattle.std.specs.Prelude.{◌≡◌, ℕ, Bool, true, false, List, map, Option, MatchOption}
use Rattle.std.specs.List.{list_any}
use Rattle.overlay_geom.specs.Edges.{CountedEdge}
use Rattle.overlay_geom.specs.Rules.{fill_bits}
use Rattle.overlay_geom.specs.declared.fill_rule.FillRule.{FillRule}

-- the fill bits of some edge of the list pass the test
abbrev pub some_fill_passes : (ℕ → Bool) → FillRule → List CountedEdge → Bool
some_fill_passes test rule es = list_any test (map (fill_bits rule es) es)

-- a value that is right where no edge passes, and none where some edge does
abbrev pub IsFoundUnless : {V : Type 0} → (some_passes : Bool) → (V → Type 0) → Option V → Type 0
IsFoundUnless some_passes IsRight found = MatchOption found (some_passes ≡ true)
    (λ v. IsRight v × (some_passes ≡ false))
