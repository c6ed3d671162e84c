-- The filled sides of all pieces tell the relations of the content.
use Rattle.std.proofs.Common.{◌≡◌, ℕ, Bool, true, false, not, ◌&&◌, ℤ, pos, List, length, sym, ◌∙◌, subst}
use Rattle.std.specs.List.{list_any, All}
use Rattle.std.specs.Prelude.{◌↔◌, IsTrue}
use Rattle.std.proofs.lemmas.Bool.Decides.{Decides-and, Decides-not}
use Rattle.std.proofs.lemmas.List.Elements.{All-contains, All-weaker}
use Rattle.std.proofs.lemmas.List.Folds.{Any-from_list_any, list_any-from_Any}
use Rattle.overlay_geom.specs.Edges.{CountedEdge, ends_of}
use Rattle.overlay_geom.specs.Merged.{IsMerged}
use Rattle.overlay_geom.specs.Plane.{point_lt}
use Rattle.overlay_order.specs.Content.{IsHeld}
use Rattle.overlay_plane.specs.Balance.{HasBalancedCounts}
use Rattle.overlay_plane.specs.EdgeLists.{IsForwardBy}
use Rattle.overlay_plane.proofs.Entries.{any_of_entry, Contains-from_any}
use Rattle.overlay_scaled.specs.PlainContacts.{passes_at}
use Rattle.overlay_scaled.specs.PlainPoints.{SomePlain}
use Rattle.overlay_scaled.proofs.PlainRelations.{plain_points_tell_relations}
use Rattle.overlay_given.specs.Relations.{AreInteriorRelations, IsFoundOf, relations_by}
use Rattle.overlay_given.specs.Sides.{passing, sides_pass, sides_at}
use Rattle.overlay_given.specs.Walk.{AreSidesOf, IsSidesOn}
use Rattle.overlay_given.specs.declared.relations.Found.{Found}
use Rattle.overlay_given.specs.declared.sides.FilledSides.{FilledSides}
use Rattle.overlay_given.specs.declared.sides.SideTest.{SideTest}
use Rattle.overlay_given.specs.declared.sides.SideTest.TheVariants.{CommonSide, SubjectSide, SubjectOutside, ClipSide}
use Rattle.overlay_given.specs.declared.sides.SideTest.TheVariants.{ClipOutside}

module _ (filled : ℤ → Bool) (es : List CountedEdge) (sides : List FilledSides)
    (are : AreSidesOf filled es (length es) sides) where
  -- some sides pass a test exactly where those beside a plain point do
  pub some_told : (test : SideTest) (b : Bool) → b ≡ list_any (sides_pass test) sides →
      IsTrue b ↔ SomePlain (passes_at (passing test) filled es) es
  some_told test b is = (
    λ t.
        let found = Contains-from_any (λ s. sides_pass test s ≡ true) sides
        (Any-from_list_any (sides_pass test) sides (sym is ∙ t)) in
        let on = All-contains (λ s. (e : CountedEdge) × IsSidesOn filled es e s) sides found.0 are.each found.1 in
        (on.0, on.1.0, on.1.1, subst (λ s. sides_pass test s ≡ true) on.1.2 found.2),
    λ some.
        let entry = some.2.entry in
        is ∙ list_any-from_Any (sides_pass test) sides
        (any_of_entry (λ s. sides_pass test s ≡ true) sides (sides_at filled es some.1)
        (are.every entry.0 some.0 some.1 entry.1 (entry.1, entry.2) some.2) some.3),
  )

-- a test and the failure of another
both_told : {X Y : Type 0} (a b : Bool) → IsTrue a ↔ X → IsTrue b ↔ Y → IsTrue (a && not b) ↔ (X × (¬ Y))
both_told a b of_a of_b = Decides-and a (not b) of_a (Decides-not b of_b)

-- one equivalence after another
pub chained : {X Y Z : Type 0} → X ↔ Y → Z ↔ Y → X ↔ Z
chained (to, from) (there, back) = (λ x. back (to x), λ z. from (there z))

-- so they tell the relations
pub interiors_told : (filled : ℤ → Bool) (content es : List CountedEdge) → filled (pos 0) ≡ false →
    IsForwardBy ends_of es → HasBalancedCounts es → IsMerged content es → (sides : List FilledSides) →
    AreSidesOf filled es (length es) sides → (f : Found) → IsFoundOf sides f →
    AreInteriorRelations filled content (relations_by f)
interiors_told filled content es none forward balanced merged sides are f found =
    let tell = plain_points_tell_relations filled content es merged forward balanced none in
    let told = some_told filled es sides are in
    record {
      interiors_intersect = chained (told CommonSide f.has_common_side found.has_common_side)
          tell.interiors_intersect;
      within = chained (both_told f.has_subject f.subject_pokes_out (told SubjectSide f.has_subject found.has_subject)
          (told SubjectOutside f.subject_pokes_out found.subject_pokes_out)) tell.within;
      covers = chained (both_told f.has_clip f.clip_pokes_out (told ClipSide f.has_clip found.has_clip)
          (told ClipOutside f.clip_pokes_out found.clip_pokes_out)) tell.covers;
    }

-- and lead forward, since they are held
pub forward_of_held : (limit : ℕ) (es : List CountedEdge) → All (IsHeld limit) es → IsForwardBy ends_of es
forward_of_held limit es held = All-weaker (IsHeld limit) (λ e. point_lt e.a e.b ≡ true) (λ e h. h.forward) es held
