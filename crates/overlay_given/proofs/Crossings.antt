-- Shapes of which each fills a side of some piece that the other does not fill, and which both fill one, cross.
use Rattle.std.proofs.Common.{◌≡◌, Bool, true, false, ℤ, pos, List, refl, sym, subst, ◌∙◌}
use Rattle.std.specs.List.{list_any, All}
use Rattle.std.proofs.lemmas.Bool.{false≢true}
use Rattle.std.proofs.lemmas.List.Elements.{All-contains}
use Rattle.std.proofs.lemmas.List.Folds.{Any-from_list_any}
use Rattle.overlay_geom.specs.Edges.{CountedEdge, ends_of}
use Rattle.overlay_plane.specs.Balance.{HasBalancedCounts}
use Rattle.overlay_plane.specs.EdgeLists.{IsForwardBy}
use Rattle.overlay_plane.proofs.Entries.{Contains-from_any}
use Rattle.overlay_scaled.specs.PlainContacts.{passes_at, fills_over, fill_both, fill_one}
use Rattle.overlay_plane.specs.Predicates.{fills_at}
use Rattle.overlay_geom.specs.Edges.{subj_of, clip_of}
use Rattle.overlay_scaled.specs.PlainPoints.{SomePlain}
use Rattle.overlay_scaled.proofs.PlainRelations.{plain_points_tell_relations}
use Rattle.overlay_given.specs.Relations.{AreContacts, IsFoundOf, crossing_contacts}
use Rattle.overlay_given.specs.Sides.{passing, sides_pass}
use Rattle.overlay_given.specs.Walk.{IsSidesOn}
use Rattle.overlay_given.specs.declared.relations.Found.{Found}
use Rattle.overlay_given.specs.declared.sides.FilledSides.{FilledSides}
use Rattle.overlay_given.specs.declared.sides.SideTest.{SideTest}
use Rattle.overlay_given.specs.declared.sides.SideTest.TheVariants.{CommonSide, SubjectOutside, ClipOutside}

-- where both shapes fill one side, each fills a side
one_is_both : (sa sb ca cb : Bool) → fill_one sa sb ca cb ≡ true → fill_both sa sb ca cb ≡ true
one_is_both true sb true cb is = refl
one_is_both true true false true is = refl
one_is_both true true false false is = absurd (false≢true is)
one_is_both true false false cb is = absurd (false≢true is)
one_is_both false true true true is = refl
one_is_both false true false true is = refl
one_is_both false true true false is = absurd (false≢true is)
one_is_both false true false false is = absurd (false≢true is)
one_is_both false false ca cb is = absurd (false≢true is)

module _ (filled : ℤ → Bool) (es : List CountedEdge) (none : filled (pos 0) ≡ false) (forward : IsForwardBy ends_of es)
    (balanced : HasBalancedCounts es) (sides : List FilledSides)
    (each : All (λ s. (e : CountedEdge) × IsSidesOn filled es e s) sides) (f : Found) (found : IsFoundOf sides f) where
  -- sides that pass a test are those beside a plain point
  some_of : (test : SideTest) (b : Bool) → b ≡ list_any (sides_pass test) sides → b ≡ true →
      SomePlain (passes_at (passing test) filled es) es
  some_of test b is t =
      let at = Contains-from_any (λ s. sides_pass test s ≡ true) sides
      (Any-from_list_any (sides_pass test) sides (sym is ∙ t)) in
      let on = All-contains (λ s. (e : CountedEdge) × IsSidesOn filled es e s) sides at.0 each at.1 in
      (on.0, on.1.0, on.1.1, subst (λ s. sides_pass test s ≡ true) on.1.2 at.2)

  pub crossing_told : f.has_common_side ≡ true → f.subject_pokes_out ≡ true → f.clip_pokes_out ≡ true →
      AreContacts filled es crossing_contacts
  crossing_told common subject clip =
      let one : SomePlain (passes_at fill_one filled es) es =
      some_of CommonSide f.has_common_side found.has_common_side common in
      let both : SomePlain (passes_at fill_both filled es) es = (
        one.0,
        one.1,
        one.2,
        one_is_both (fills_over filled es subj_of one.1) (fills_at filled es subj_of one.1)
            (fills_over filled es clip_of one.1) (fills_at filled es clip_of one.1) one.3,
      ) in
      let outside = some_of SubjectOutside f.subject_pokes_out found.subject_pokes_out subject in
      let clip_outside = some_of ClipOutside f.clip_pokes_out found.clip_pokes_out clip in
      record {
        interiors = λ content merged.
            let tell = plain_points_tell_relations filled content es merged forward balanced none in
            record {
              interiors_intersect = (λ t. tell.interiors_intersect.1 one, λ h. refl);
              within = (λ t. absurd (false≢true t), λ h. absurd ((tell.within.0 h).1 outside));
              covers = (λ t. absurd (false≢true t), λ h. absurd ((tell.covers.0 h).1 clip_outside));
            };
        common_side = (λ t. one, λ h. refl);
        beside_piece = (λ t. both, λ h. refl);
        in_points = (λ t. absurd (false≢true t), λ h. absurd (h.1 both));
      }
