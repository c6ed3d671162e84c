-- The contacts found of merged edges tell the relations of the content.
use Rattle.std.proofs.Common.{◌≡◌, ◌⊎◌, ◌↔◌, ⊎_elim, inl, inr, Bool, true, false, not, ◌||◌, ℤ, pos, List, refl}
use Rattle.std.specs.Prelude.{IsTrue}
use Rattle.std.proofs.lemmas.Bool.{false≢true}
use Rattle.std.proofs.lemmas.Bool.Decides.{Decides-and, Decides-not}
use Rattle.overlay_geom.specs.Edges.{CountedEdge, ends_of}
use Rattle.overlay_geom.specs.Merged.{IsMerged}
use Rattle.overlay_plane.specs.Balance.{HasBalancedCounts}
use Rattle.overlay_plane.specs.EdgeLists.{IsForwardBy}
use Rattle.overlay_scaled.specs.PlainContacts.{passes_at, fill_both, HasSharedPlace}
use Rattle.overlay_scaled.specs.PlainPoints.{SomePlain}
use Rattle.overlay_given.specs.Relations.{AreContacts, AreInteriorRelations}
use Rattle.overlay_given.specs.declared.relations.Contacts.{Contacts}
use Rattle.overlay_given.proofs.ToldRelations.{chained}
use Rattle.overlay_contacts.specs.ExactRelations.{AreExactRelations, relations_by}
use Rattle.overlay_contacts.specs.GivenContacts.{MeetPlainly, TellContacts}
use Rattle.overlay_contacts.proofs.GivenContacts.{given_contacts}

-- a test, or one that holds where it fails
either_told : (a b : Bool) (X Y : Type 0) → IsTrue a ↔ X → IsTrue b ↔ (Y × (¬ X)) → IsTrue (a || b) ↔ (X ⊎ Y)
either_told true b X Y of_a of_b = (λ t. inl (of_a.0 t), λ h. refl)
either_told false b X Y of_a of_b = (
  λ t. inr (of_b.0 t).0,
  λ h. ⊎_elim (λ x. absurd (false≢true (of_a.1 x))) (λ y. of_b.1 (y, λ x. false≢true (of_a.1 x))) h,
)

module _ (filled : ℤ → Bool) (content es : List CountedEdge) (merged : IsMerged content es)
    (forward : IsForwardBy ends_of es) (balanced : HasBalancedCounts es) (none : filled (pos 0) ≡ false)
    (c : Contacts) (are : AreContacts filled es c) where
  tell : TellContacts filled content es
  tell = given_contacts filled content es merged forward balanced none

  inner : AreInteriorRelations filled content c.interiors
  inner = are.interiors content merged

  meet : IsTrue (c.beside_piece || c.in_points) ↔ MeetPlainly filled es
  meet = either_told c.beside_piece c.in_points (SomePlain (passes_at fill_both filled es) es)
      (HasSharedPlace filled es) are.beside_piece are.in_points

  pub relations_told : AreExactRelations filled content (relations_by c)
  relations_told = record {
    intersects = chained meet tell.intersects;
    interiors_intersect = inner.interiors_intersect;
    touches = chained (Decides-and (c.beside_piece || c.in_points) (not c.interiors.interiors_intersect) meet
        (Decides-not c.interiors.interiors_intersect are.common_side)) tell.touches;
    point_intersects = chained are.in_points tell.point_intersects;
    within = inner.within;
    disjoint = chained (Decides-not (c.beside_piece || c.in_points) meet) tell.disjoint;
    covers = inner.covers;
  }
