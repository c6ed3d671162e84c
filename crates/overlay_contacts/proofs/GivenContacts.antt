-- Contacts of shapes as given: the closures of their interiors are those of the merged, the scaled and the arranged
-- edges, where they are the closed regions.
use Rattle.std.proofs.Common.{◌≡◌, ◌↔◌, Bool, false, ℤ, pos, ◌<ℤ◌, List, sym, ap, ◌∙◌}
use Rattle.overlay_geom.specs.Counts.{Counts}
use Rattle.overlay_geom.specs.Edges.{CountedEdge, ends_of, subj_of, clip_of}
use Rattle.overlay_geom.specs.Merged.{IsMerged}
use Rattle.overlay_geom.specs.Plane.{PlanePoint}
use Rattle.overlay_plane.specs.Balance.{HasBalancedCounts}
use Rattle.overlay_plane.specs.EdgeLists.{IsForwardBy}
use Rattle.overlay_plane.specs.GivenPredicates.{KeepsPointsOff}
use Rattle.overlay_relate.specs.Closures.{IsInInterior, ClosuresMeet, ClosuresTouch, ClosuresMeetInPoints}
use Rattle.overlay_relate.specs.Closures.{ClosuresTell}
use Rattle.overlay_relate.proofs.Closures.{closures_tell}
use Rattle.overlay_relate.proofs.GivenClosures.{joined, kept_meeting, kept_touch, kept_points}
use Rattle.overlay_scaled.specs.ExactArrangements.{IsExactArrangement, ArrangesExactly}
use Rattle.overlay_scaled.specs.PlainContacts.{PlainPointsTellContacts}
use Rattle.overlay_scaled.specs.Scaled.{scaled}
use Rattle.overlay_scaled.proofs.ExactArrangements.{arranges, exact_arrangements_exist, merging_keeps_points_off}
use Rattle.overlay_scaled.proofs.PlainContacts.{exact_contacts}
use Rattle.overlay_scaled.proofs.ScaledRelations.{far, near}
use Rattle.overlay_contacts.specs.GivenContacts.{MeetPlainly, TellContacts, GivenContacts}
use Rattle.overlay_contacts.proofs.ScaledClosures.{AreTimes, scaled_meeting, scaled_touch, scaled_points}

-- the interior of a shape of the scaled edges has the points n times as far as that of the edges
scaled_interior : (n : ℤ) (some : pos 0 <ℤ n) (filled : ℤ → Bool) (es : List CountedEdge) (count : Counts → ℤ) →
    AreTimes n some (IsInInterior filled es (λ e. count e.counts))
    (IsInInterior filled (scaled n es) (λ e. count e.counts))
scaled_interior n some filled es count = record {
  into = λ p at. (((far n some p).off es).0 at.0, ap filled ((far n some p).winding count es) ∙ at.1);
  back = λ q at. (((near n some q).off es).1 at.0, ap filled (sym ((near n some q).winding count es)) ∙ at.1);
}

-- one fact after another
through : (P Q R S : Type 0) → P ↔ Q → Q ↔ R → R ↔ S → P ↔ S
through P Q R S first second third = joined P Q S first (joined Q R S second third)

module _ (filled : ℤ → Bool) (n : ℤ) (content es new : List CountedEdge) (merged : IsMerged content es)
    (forward : IsForwardBy ends_of es) (balanced : HasBalancedCounts es) (none : filled (pos 0) ≡ false)
    (arranged : IsExactArrangement n es new) where
  exact : ArrangesExactly n es new
  exact = arranges n es new forward arranged balanced

  tell : ClosuresTell filled new
  tell = closures_tell filled new (record { planar = exact.planar; balanced = exact.balanced; none = none })

  told : PlainPointsTellContacts filled es new
  told = exact_contacts filled n content es new merged forward balanced none arranged

  off : KeepsPointsOff content es
  off = merging_keeps_points_off content es merged

  abbrev Subj : List CountedEdge → PlanePoint → Type 0
  Subj fs = IsInInterior filled fs subj_of

  abbrev Clip : List CountedEdge → PlanePoint → Type 0
  Clip fs = IsInInterior filled fs clip_of

  subj : AreTimes n arranged.scale (Subj es) (Subj (scaled n es))
  subj = scaled_interior n arranged.scale filled es (λ c. c.subj)

  clip : AreTimes n arranged.scale (Clip es) (Clip (scaled n es))
  clip = scaled_interior n arranged.scale filled es (λ c. c.clip)

  given_meets : ClosuresMeet (Subj content) (Clip content) ↔ ClosuresMeet (Subj new) (Clip new)
  given_meets = through _ _ _ _ (kept_meeting filled content es off)
      (scaled_meeting n arranged.scale (Subj es) (Clip es) (Subj (scaled n es)) (Clip (scaled n es)) subj clip)
      (kept_meeting filled (scaled n es) new exact.off)

  given_touch : ClosuresTouch (Subj content) (Clip content) ↔ ClosuresTouch (Subj new) (Clip new)
  given_touch = through _ _ _ _ (kept_touch filled content es off)
      (scaled_touch n arranged.scale (Subj es) (Clip es) (Subj (scaled n es)) (Clip (scaled n es)) subj clip)
      (kept_touch filled (scaled n es) new exact.off)

  given_points : ClosuresMeetInPoints (Subj content) (Clip content) ↔ ClosuresMeetInPoints (Subj new) (Clip new)
  given_points = through _ _ _ _ (kept_points filled content es off)
      (scaled_points n arranged.scale (Subj es) (Clip es) (Subj (scaled n es)) (Clip (scaled n es)) subj clip)
      (kept_points filled (scaled n es) new exact.off)

  -- the opposite of a fact
  opposite : (P Q : Type 0) → P ↔ Q → (¬ P) ↔ (¬ Q)
  opposite P Q same = (λ no q. no (same.1 q), λ no p. no (same.0 p))

  back : (P Q : Type 0) → P ↔ Q → Q ↔ P
  back P Q same = (same.1, same.0)

  meets : ClosuresMeet (Subj content) (Clip content) ↔ MeetPlainly filled es
  meets = through _ _ _ _ given_meets (back _ _ tell.intersects) told.intersects

  pub tells : TellContacts filled content es
  tells = record {
    intersects = meets;
    touches = through _ _ _ _ given_touch (back _ _ tell.touches) told.touches;
    point_intersects = through _ _ _ _ given_points (back _ _ tell.point_intersects) told.point_intersects;
    disjoint = opposite _ _ meets;
  }

pub given_contacts : GivenContacts
given_contacts filled content es merged forward balanced none =
    let some = exact_arrangements_exist es forward in
    tells filled some.0 content es some.1 merged forward balanced none some.2
