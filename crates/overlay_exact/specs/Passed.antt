-- Edges of an ascending list that a sweep from left to right has passed: those that may meet the next one.
use Rattle.std.specs.Prelude.{◌≡◌, ℕ, ◌<◌, ℤ, ◌≤ℤ◌, List, All, AllPairs}
use Rattle.std.specs.List.{Any}
use Rattle.overlay_geom.specs.Edges.{CountedEdge}
use Rattle.overlay_pairs.specs.Places.{IsAt}
use Rattle.overlay_exact.specs.declared.passed.PassedEdge.{PassedEdge}

-- the place of an edge, and the x-coordinate of its larger end
pub record Passed : Type 0 where
  pub place : ℕ
  pub right : ℤ

-- the passed edge for one of the program
abbrev pub plain_passed : {I : Type 0} → (I → ℤ) → PassedEdge I → Passed
plain_passed whole p = record { place = p.place; right = whole p.right }

-- p is that of an edge before place i
pub record IsPassed (es : List CountedEdge) (i : ℕ) (p : Passed) : Type 0 where
  pub before : p.place < i
  pub ends : (f : CountedEdge) → IsAt es p.place f → p.right ≡ f.b.x

-- edges before place i, in their order; among them are all that do not end left of x
pub record ArePassed (es : List CountedEdge) (i : ℕ) (x : ℤ) (ps : List Passed) : Type 0 where
  pub each : All (IsPassed es i) ps
  pub order : AllPairs (λ p q. p.place < q.place) ps
  pub all : (j : ℕ) (f : CountedEdge) → j < i → IsAt es j f → x ≤ℤ f.b.x → Any (λ p. p.place ≡ j) ps
