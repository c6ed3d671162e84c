-- The sides of the pieces of one edge, and tests of them.
use Rattle.std.proofs.Common.{◌≡◌, ◌↔◌, ⊎_elim, Bool, true, ℕ, ◌<◌, ◌≤◌, ℤ, List, [], sym, subst}
use Rattle.std.proofs.Common.{◌∙◌, All, Contains, arith}
use Rattle.std.specs.List.{list_any}
use Rattle.std.specs.Prelude.{IsTrue}
use Rattle.std.proofs.Math.Nat.{eq-or-lt_of_le}
use Rattle.std.proofs.lemmas.Bool.{cases_lt}
use Rattle.std.proofs.lemmas.List.Elements.{All-contains, All-weaker}
use Rattle.std.proofs.lemmas.List.Folds.{Any-from_list_any, list_any-from_Any}
use Rattle.overlay_geom.specs.Edges.{CountedEdge}
use Rattle.overlay_geom.specs.declared.options.ShapeType.{ShapeType}
use Rattle.overlay_geom.specs.declared.options.ShapeType.TheVariants.{Subject, Clip}
use Rattle.overlay_plane.proofs.Entries.{any_of_entry, Contains-from_any}
use Rattle.overlay_pairs.specs.Places.{IsAt}
use Rattle.overlay_pairs.proofs.Entries.{one_entry}
use Rattle.overlay_scaled.specs.PlainPoints.{IsPlain}
use Rattle.overlay_exact.proofs.MetByStarts.{entry_at}
use Rattle.overlay_given.specs.First.{IsFirstOf, PassesOn, SomeFirstPasses}
use Rattle.overlay_given.specs.Sides.{sides_pass, sides_at}
use Rattle.overlay_given.specs.Walk.{AddsSides, IsSidesOn}
use Rattle.overlay_given.specs.declared.sides.FilledSides.{FilledSides}
use Rattle.overlay_given.specs.declared.sides.SideTest.{SideTest}

module _ (filled : ℤ → Bool) (es : List CountedEdge) (e : CountedEdge) (sides : List FilledSides)
    (adds : AddsSides filled es e [] sides) where
  -- they are those beside plain points of an edge
  pub each_on : All (λ s. (f : CountedEdge) × IsSidesOn filled es f s) sides
  each_on = subst (All (λ s. (f : CountedEdge) × IsSidesOn filled es f s)) (sym adds.after)
      (All-weaker (IsSidesOn filled es e) (λ s. (f : CountedEdge) × IsSidesOn filled es f s) (λ s on. (e, on))
      adds.added adds.each)

  -- some pass a test exactly where those beside a plain point of this edge do
  pub some_on : (i : ℕ) → IsAt es i e → (test : SideTest) (b : Bool) → b ≡ list_any (sides_pass test) sides →
      IsTrue b ↔ PassesOn test filled es i
  some_on i at test b is = (
    λ t.
        let found = Contains-from_any (λ s. sides_pass test s ≡ true) sides
        (Any-from_list_any (sides_pass test) sides (sym is ∙ t)) in
        let on = All-contains (IsSidesOn filled es e) adds.added found.0 adds.each
        (subst (λ xs. Contains xs found.0) adds.after found.1) in
        (e, on.0, at, on.1, subst (λ s. sides_pass test s ≡ true) on.2 found.2),
    λ some.
        let same : some.0 ≡ e = one_entry es i some.0 e some.2 at in
        let entry : Contains adds.added (sides_at filled es some.1) =
        adds.every some.1 (subst (λ (g : CountedEdge). IsPlain es g some.1) same some.3) in
        is ∙ list_any-from_Any (sides_pass test) sides
        (any_of_entry (λ s. sides_pass test s ≡ true) sides (sides_at filled es some.1)
        (subst (λ xs. Contains xs (sides_at filled es some.1)) (sym adds.after) entry) some.4),
  )

-- ---- first edges

-- a shape has one first edge
pub one_first : (shape : ShapeType) (es : List CountedEdge) (i j : ℕ) (e : CountedEdge) → IsAt es i e →
    IsFirstOf shape es i → IsFirstOf shape es j → i ≡ j
one_first shape es i j e at_e first other = ⊎_elim
    (λ (less : i < j). absurd (first.at e at_e (other.before i e less at_e)))
    (λ (le : j ≤ i). ⊎_elim
    (λ (same : j ≡ i). sym same)
    (λ (less : j < i). let f = entry_at es j (let within = at_e.0 in omega (arith, less, within)) in
    absurd (other.at f.0 f.1 (first.before j f.0 less f.1)))
    (eq-or-lt_of_le le))
    (cases_lt i j)

module _ (test : SideTest) (filled : ℤ → Bool) (es : List CountedEdge) (subj clip : ℕ)
    (of_subj : IsFirstOf Subject es subj) (of_clip : IsFirstOf Clip es clip) where
  -- it is the place of a piece that passes
  found_at : (shape : ShapeType) (i j : ℕ) → IsFirstOf shape es i → IsFirstOf shape es j → PassesOn test filled es i →
      PassesOn test filled es j
  found_at shape i j first other passes =
      subst (PassesOn test filled es) (one_first shape es i j passes.0 passes.2 first other) passes

  -- where the pieces of the first edge of the subject fail, those of the first edge of the clip tell
  pub firsts_tell : ¬ (PassesOn test filled es subj) → (b : Bool) → IsTrue b ↔ PassesOn test filled es clip →
      IsTrue b ↔ SomeFirstPasses test filled es
  firsts_tell fails b tells = (λ t. (Clip, clip, of_clip, tells.0 t), λ some. by some.0 some.1 some.2 some.3)
    where
      by : (shape : ShapeType) (i : ℕ) → IsFirstOf shape es i → PassesOn test filled es i → IsTrue b
      by Subject i first passes = absurd (fails (found_at Subject i subj first of_subj passes))
      by Clip i first passes = tells.1 (found_at Clip i clip first of_clip passes)
