-- The filled sides of all pieces, and a shared place, tell how the shapes meet.
use Rattle.std.proofs.Common.{◌≡◌, ◌↔◌, ℕ, Bool, true, false, ℤ, pos, List, length, refl, sym, subst}
use Rattle.std.specs.List.{list_any}
use Rattle.std.specs.Prelude.{IsTrue}
use Rattle.std.proofs.lemmas.Bool.{false≢true}
use Rattle.overlay_geom.specs.Edges.{CountedEdge, ends_of}
use Rattle.overlay_plane.specs.Balance.{HasBalancedCounts}
use Rattle.overlay_plane.specs.EdgeLists.{IsForwardBy}
use Rattle.overlay_order.specs.Content.{IsAscending}
use Rattle.overlay_scaled.specs.PlainContacts.{HasSharedPlace}
use Rattle.overlay_exact.specs.AllMet.{AreMetByStarts}
use Rattle.overlay_exact.specs.Along.{Met}
use Rattle.overlay_given.specs.Places.{ArePlacesBy, AreRangesBy, SomeShare}
use Rattle.overlay_given.specs.Relations.{AreContacts, IsFoundOf, relations_by}
use Rattle.overlay_given.specs.Sides.{sides_pass}
use Rattle.overlay_given.specs.Walk.{AreSidesOf}
use Rattle.overlay_given.specs.declared.relations.Found.{Found}
use Rattle.overlay_given.specs.declared.sides.FilledSides.{FilledSides}
use Rattle.overlay_given.specs.declared.sides.SidesAtPlace.{SidesAtPlace}
use Rattle.overlay_given.specs.declared.sides.SideTest.TheVariants.{BothShapes, CommonSide}
use Rattle.overlay_given.proofs.PlacesBy.{ranges_of_places}
use Rattle.overlay_given.proofs.SharedFound.{places_tell_shared_places}
use Rattle.overlay_given.proofs.ToldRelations.{some_told, interiors_told}

module _ (filled : ℤ → Bool) (es : List CountedEdge) (none : filled (pos 0) ≡ false) (forward : IsForwardBy ends_of es)
    (balanced : HasBalancedCounts es) (sides : List FilledSides) (are : AreSidesOf filled es (length es) sides)
    (f : Found) (found : IsFoundOf sides f) where
  -- both shapes fill a side of some piece
  pub contacts_beside : true ≡ list_any (sides_pass BothShapes) sides →
      AreContacts filled es (record { interiors = relations_by f; beside_piece = true; in_points = false })
  contacts_beside is =
      let told = some_told filled es sides are in
      record {
        interiors = λ content merged. interiors_told filled content es none forward balanced merged sides are f found;
        common_side = told CommonSide f.has_common_side found.has_common_side;
        beside_piece = told BothShapes true is;
        in_points = (λ t. absurd (false≢true t), λ h. absurd (h.1 ((told BothShapes true is).0 refl)));
      }

  -- or not
  pub contacts_apart : false ≡ list_any (sides_pass BothShapes) sides → (shared : Bool) →
      IsTrue shared ↔ HasSharedPlace filled es →
      AreContacts filled es (record { interiors = relations_by f; beside_piece = false; in_points = shared })
  contacts_apart is shared tells =
      let told = some_told filled es sides are in
      record {
        interiors = λ content merged. interiors_told filled content es none forward balanced merged sides are f found;
        common_side = told CommonSide f.has_common_side found.has_common_side;
        beside_piece = told BothShapes false is;
        in_points = (
          λ t. (tells.0 t, λ some. false≢true ((told BothShapes false is).1 some)),
          λ h. tells.1 h.0,
        );
      }

-- the lists found, read as other lists equal to them
module _ (filled : ℤ → Bool) (es : List CountedEdge) (n : ℕ) (count : length es ≡ n) (starts : List ℕ) (ms : List Met)
    (places : List SidesAtPlace) (by : AreMetByStarts es n starts ms) (are : ArePlacesBy filled es n starts ms places)
    (ss : List ℕ) (ns : List Met) (ps : List SidesAtPlace) (is_s : ss ≡ starts) (is_n : ns ≡ ms)
    (is_p : ps ≡ places) where
  by_read : AreMetByStarts es (length es) ss ns
  by_read = subst (λ xs. AreMetByStarts es (length es) ss xs) (sym is_n)
      (subst (λ xs. AreMetByStarts es (length es) xs ms) (sym is_s)
      (subst (λ k. AreMetByStarts es k starts ms) (sym count) by))

  are_read : ArePlacesBy filled es (length es) ss ns ps
  are_read = subst (λ xs. ArePlacesBy filled es (length es) ss ns xs) (sym is_p)
      (subst (λ xs. ArePlacesBy filled es (length es) ss xs places) (sym is_n)
      (subst (λ xs. ArePlacesBy filled es (length es) xs ms places) (sym is_s)
      (subst (λ k. ArePlacesBy filled es k starts ms places) (sym count) are)))

  pub ranges_read : AreRangesBy ss ns ps
  ranges_read = ranges_of_places filled es ss ns by_read ps are_read

  pub shared_read : IsAscending es → IsForwardBy ends_of es → HasBalancedCounts es →
      HasSharedPlace filled es ↔ SomeShare ss ns ps
  shared_read ascending forward balanced =
      let tell = places_tell_shared_places filled es ss ns ps ascending forward balanced by_read are_read in
      (tell.1, tell.0)
