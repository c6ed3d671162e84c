-- How a call on two lists of contours in arrays is refused.
use Rattle.std.specs.Prelude.{◌≡◌, ◌≤◌, ◌<◌, ◌⊎◌, ℕ, ℤ}
use Rattle.overlay_geom.specs.declared.error.OverlayError.{OverlayError}
use Rattle.polyover_calls.specs.Given.{Contours, AreGiven, IsOneFaulty}
use Rattle.polyover_calls.specs.Statuses.{IsRefused}
use Rattle.polyover_calls.specs.declared.status.Status.{Status}
use Rattle.polyover_calls.specs.declared.status.Status.TheVariants.{BadFill, BadOption}

-- it is refused so: a number stands for nothing; else, as all are known, one of the lists has a fault, the first one
-- before the other; else, as both are given, what is asked of them may be refused, for want of memory too
abbrev pub AreBothRefused : {I : Type 0} → (I → ℤ) → ℕ → (Status → Type 0) → Type 0 → Contours I → Contours I →
    (OverlayError → Type 0) → Status → Type 0
AreBothRefused whole limit unknown known first second may = IsRefused unknown
    (λ f. known × IsOneFaulty whole limit first second f)
    (λ e. known × (AreGiven whole limit first × (AreGiven whole limit second × may e)))

-- the numbers of a query, of its fill rule and of its solver, stand for something
abbrev pub AreQueryNumbers : ℕ → ℕ → Type 0
AreQueryNumbers fill solver = (fill < 4) × (solver < 2)

-- the first one of them that stands for nothing is told by the status
abbrev pub IsUnknownQuery : ℕ → ℕ → Status → Type 0
IsUnknownQuery fill solver s = ((s ≡ BadFill) × (4 ≤ fill)) ⊎ ((s ≡ BadOption) × ((fill < 4) × (2 ≤ solver)))

-- a query under the fill rule and by the solver with the numbers is refused so
abbrev pub IsQueryRefused : {I : Type 0} → (I → ℤ) → ℕ → ℕ → ℕ → Contours I → Contours I → (OverlayError → Type 0) →
    Status → Type 0
IsQueryRefused whole limit fill solver =
    AreBothRefused whole limit (IsUnknownQuery fill solver) (AreQueryNumbers fill solver)
