-- The filled sides that a walk along edges finds: those of all pieces of each edge.
use Rattle.std.specs.Prelude.{◌≡◌, ◌⊎◌, ℕ, ◌<◌, ℤ, ◌+ℤ◌, ◌*ℤ◌, Bool, List, ◌++◌, All, Contains}
use Rattle.overlay_geom.specs.Edges.{CountedEdge, ends_of, subj_of, clip_of, winding_by}
use Rattle.overlay_geom.specs.Plane.{PlanePoint, in_plane}
use Rattle.overlay_pairs.specs.Places.{IsAt}
use Rattle.overlay_scaled.specs.Pieces.{IsPiece, IsWithinPiece}
use Rattle.overlay_scaled.specs.PlainPoints.{IsPlain}
use Rattle.overlay_exact.specs.Along.{Met}
use Rattle.overlay_exact.specs.Groups.{IsGroup}
use Rattle.overlay_exact.specs.MetTotals.{total_met}
use Rattle.overlay_exact.specs.Parts.{start_part, AreEqual}
use Rattle.overlay_given.specs.Beside.{WindBeside}
use Rattle.overlay_given.specs.Sides.{sides_at}
use Rattle.overlay_given.specs.Steps.{below_by, above_by}
use Rattle.overlay_given.specs.declared.beside.Beside.{Beside}
use Rattle.overlay_given.specs.declared.sides.FilledSides.{FilledSides}
use Rattle.overlay_given.specs.declared.steps.Stop.TheVariants.{First}

-- ---- the first piece of an edge

-- the first meeting points of an edge, up to place `end`, are those at its start
abbrev pub IsFirstEnd : List Met → ℕ → Type 0
IsFirstEnd ms end =
    ((m : Met) × IsAt ms 0 m × AreEqual m.part start_part × IsGroup ms 0 end) ⊎
    ((end ≡ 0) × ((m : Met) → IsAt ms 0 m → ¬ (AreEqual m.part start_part)))

-- the windings at e's start, with the counts of e above it, and with what the edges met there add
pub record WindsFromStart (es : List CountedEdge) (e : CountedEdge) (met : List Met) (b : Beside) : Type 0 where
  pub subj_below : b.subj_below ≡ winding_by subj_of es (in_plane e.a)
      +ℤ total_met (λ f. subj_of f *ℤ below_by First (ends_of e) (ends_of f)) es e met
  pub subj_above : b.subj_above ≡ (winding_by subj_of es (in_plane e.a) +ℤ subj_of e)
      +ℤ total_met (λ f. subj_of f *ℤ above_by First (ends_of e) (ends_of f)) es e met
  pub clip_below : b.clip_below ≡ winding_by clip_of es (in_plane e.a)
      +ℤ total_met (λ f. clip_of f *ℤ below_by First (ends_of e) (ends_of f)) es e met
  pub clip_above : b.clip_above ≡ (winding_by clip_of es (in_plane e.a) +ℤ clip_of e)
      +ℤ total_met (λ f. clip_of f *ℤ above_by First (ends_of e) (ends_of f)) es e met

-- the windings at e's start, with the counts of e above it
pub record WindsAtStart (es : List CountedEdge) (e : CountedEdge) (b : Beside) : Type 0 where
  pub subj_below : b.subj_below ≡ winding_by subj_of es (in_plane e.a)
  pub subj_above : b.subj_above ≡ winding_by subj_of es (in_plane e.a) +ℤ subj_of e
  pub clip_below : b.clip_below ≡ winding_by clip_of es (in_plane e.a)
  pub clip_above : b.clip_above ≡ winding_by clip_of es (in_plane e.a) +ℤ clip_of e

-- the windings beside each piece of e that begins at l
abbrev pub WindsFrom : List CountedEdge → CountedEdge → PlanePoint → Beside → Type 0
WindsFrom es e l b = (m p : PlanePoint) → IsPiece es e l m → IsWithinPiece e l m p → WindBeside es p b

-- ---- filled sides

-- they are those beside a plain point of e
abbrev pub IsSidesOn : (ℤ → Bool) → List CountedEdge → CountedEdge → FilledSides → Type 0
IsSidesOn filled es e s = (p : PlanePoint) × IsPlain es e p × (s ≡ sides_at filled es p)

-- the sides added are those beside the plain points of e
pub record AddsSides (filled : ℤ → Bool) (es : List CountedEdge) (e : CountedEdge)
    (old new : List FilledSides) : Type 0 where
  pub added : List FilledSides
  pub after : new ≡ old ++ added
  pub each : All (IsSidesOn filled es e) added
  pub every : (p : PlanePoint) → IsPlain es e p → Contains added (sides_at filled es p)

-- the sides are those beside the plain points of the first n edges
pub record AreSidesOf (filled : ℤ → Bool) (es : List CountedEdge) (n : ℕ) (sides : List FilledSides) : Type 0 where
  pub each : All (λ s. (e : CountedEdge) × IsSidesOn filled es e s) sides
  pub every : (i : ℕ) (e : CountedEdge) (p : PlanePoint) → i < n → IsAt es i e → IsPlain es e p →
      Contains sides (sides_at filled es p)
