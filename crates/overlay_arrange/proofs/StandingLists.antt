-- Lists that stand for others, which have the same merged lists.
use Rattle.std.proofs.Common.{◌≡◌, false, ◌++◌, List, [], ◌∷◌, refl, sym, ap, ◌∙◌, subst, append_assoc, append-nil}
use Rattle.std.proofs.lemmas.List.{map-append}
use Rattle.std.proofs.lemmas.List.Elements.{All-weaker}
use Rattle.std.proofs.lemmas.List.Sorted.{IsPermutation-append_comm}
use Rattle.overlay_geom.specs.Edges.{CountedEdge, ends_of, counts_nothing}
use Rattle.overlay_geom.specs.Merged.{IsMerged, joined_edge}
use Rattle.overlay_geom.specs.Plane.{Edge}
use Rattle.overlay_geom.proofs.Merging.{JoinAlike, IsMerged-alike, IsMerged-from_alike}
use Rattle.overlay_geom.proofs.Shuffled.{alike_shuffled}
use Rattle.overlay_plane.specs.Carried.{Carried, edges_in}
use Rattle.overlay_plane.specs.DerivedData.{none, CarriesMerged, IsMergeOf, carried_between}
use Rattle.overlay_plane.proofs.DerivedLists.{given_both}
use Rattle.overlay_arrange.specs.Batches.{AddsJoined, StandFor}
use Rattle.overlay_arrange.proofs.CarriedRuns.{between_both}
use Rattle.overlay_arrange.proofs.RunsAlike.{JoinAlike-cons, JoinAlike-trans}

-- ---- counts

-- lists that join alike do so with a list before them
alike_behind : (es old new : List CountedEdge) → JoinAlike old new → JoinAlike (es ++ old) (es ++ new)
alike_behind [] old new alike = alike
alike_behind (e ∷ es) old new alike = JoinAlike-cons e (es ++ old) (es ++ new) (alike_behind es old new alike)

-- and with a list behind them
alike_before : (old new es : List CountedEdge) → JoinAlike old new → JoinAlike (old ++ es) (new ++ es)
alike_before old new es alike =
    JoinAlike-trans _ _ _ (alike_shuffled _ _ (IsPermutation-append_comm old es))
    (JoinAlike-trans _ _ _ (alike_behind es old new alike) (alike_shuffled _ _ (IsPermutation-append_comm es new)))

module _ {C : Type 0} (merges : C → C → C → Type 0) where
  -- ---- steps

  -- a list stands for itself
  pub stand_same : (xs : List (Carried C)) → StandFor merges xs xs
  stand_same xs = record { counts = λ e. refl; values = λ e others c merge. merge }

  -- a list that stands for one that stands for a third stands for that
  pub stand_on : {xs ys zs : List (Carried C)} → StandFor merges xs ys → StandFor merges ys zs → StandFor merges xs zs
  stand_on first later = record {
    counts = λ e. later.counts e ∙ first.counts e;
    values = λ e others c merge. first.values e others c (later.values e others c merge);
  }

  -- further edges may be added to both
  pub stand_before : {xs ys : List (Carried C)} (more : List (Carried C)) → StandFor merges xs ys →
      StandFor merges (xs ++ more) (ys ++ more)
  stand_before {xs} {ys} more stands = record {
    counts = λ e.
        let apart = map-append (λ (x : Carried C). x.edge) in
        let alike = alike_before (edges_in xs) (edges_in ys) (edges_in more) (record { at = stands.counts }) in
        ap (λ es. joined_edge es e) (apart ys more) ∙ alike.at e ∙ sym (ap (λ es. joined_edge es e) (apart xs more));
    values = λ e others c merge.
        subst (λ cs. IsMergeOf merges cs c) (sym (parts xs e others)) (stands.values e
        (carried_between more e ++ others) c (subst (λ cs. IsMergeOf merges cs c) (parts ys e others) merge));
  }
    where
      parts : (zs : List (Carried C)) (e : Edge) (others : List C) →
          carried_between (zs ++ more) e ++ others ≡ carried_between zs e ++ (carried_between more e ++ others)
      parts zs e others = ap (λ cs. cs ++ others) (between_both zs more e)
          ∙ append_assoc (carried_between zs e) (carried_between more e) others

  -- ---- merged lists

  -- what merges the second list merges the first
  pub merged_of_standing : {xs ys : List (Carried C)} (new : List CountedEdge) → StandFor merges xs ys →
      IsMerged (edges_in ys) new → IsMerged (edges_in xs) new
  merged_of_standing {xs} {ys} new stands merged =
      IsMerged-from_alike (edges_in xs) new merged.ascending
      (All-weaker (λ e. (e ≡ joined_edge (edges_in ys) (ends_of e)) × (counts_nothing e ≡ false))
      (λ e. counts_nothing e ≡ false) (λ e both. both.1) new merged.joined)
      (JoinAlike-trans _ _ _ (record { at = stands.counts }) (IsMerged-alike (edges_in ys) new merged))

  -- and so do the values
  pub carries_of_standing : {xs ys : List (Carried C)} (new : List (Carried C)) → StandFor merges xs ys →
      CarriesMerged merges ys new → CarriesMerged merges xs new
  carries_of_standing {xs} {ys} new stands carries =
      All-weaker (λ x. IsMergeOf merges (carried_between ys (ends_of x.edge)) x.carries)
      (λ x. IsMergeOf merges (carried_between xs (ends_of x.edge)) x.carries)
      (λ x merge. subst (λ cs. IsMergeOf merges cs x.carries) (append-nil _)
      (stands.values (ends_of x.edge) [] x.carries (subst (λ cs. IsMergeOf merges cs x.carries) (sym (append-nil _))
      merge))) new carries

  -- ---- adding

  module _ {X : Type 0} (gives : X → List (Carried C) → Type 0) where
    -- nothing is added
    pub joined_none : (ys : List (Carried C)) → AddsJoined merges gives [] ys ys
    joined_none ys = record {
      more = [];
      given = none;
      stands = subst (λ xs. StandFor merges xs ys) (sym (append-nil ys)) (stand_same ys);
    }

    -- edges added after others are added with them
    pub joined_both : {xs zs : List X} {old mid new : List (Carried C)} → AddsJoined merges gives xs old mid →
        AddsJoined merges gives zs mid new → AddsJoined merges gives (xs ++ zs) old new
    joined_both {xs} {zs} {old} {mid} {new} first later = record {
      more = first.more ++ later.more;
      given = given_both gives first.given later.given;
      stands = subst (λ ys. StandFor merges ys new) (append_assoc old first.more later.more)
          (stand_on (stand_before later.more first.stands) later.stands);
    }
