-- Lists that stand for others: in another order, and with two equal edges joined.
use Rattle.std.proofs.Common.{◌≡◌, Bool, true, false, cond, List, [], ◌∷◌, ◌++◌, map, refl, sym, ap, ◌∙◌, subst}
use Rattle.std.proofs.Common.{append_assoc}
use Rattle.std.specs.List.{filter}
use Rattle.std.specs.List.Sorted.{IsPermutation}
use Rattle.std.proofs.lemmas.List.Sorted.{IsPermutation-append_comm, IsPermutation-append_left, IsPermutation-map}
use Rattle.std.proofs.lemmas.List.Sorted.{IsPermutation-refl, IsPermutation-sym}
use Rattle.overlay_geom.specs.Edges.{ends_of}
use Rattle.overlay_geom.specs.Plane.{Edge, edge_eq}
use Rattle.overlay_geom.proofs.Merging.{JoinAlike}
use Rattle.overlay_geom.proofs.Orders.{edge_eq-from_ends}
use Rattle.overlay_geom.proofs.Shuffled.{alike_shuffled}
use Rattle.overlay_plane.specs.Carried.{Carried, edges_in}
use Rattle.overlay_plane.specs.DerivedData.{next, IsMergeOf, one, two, carried_between}
use Rattle.overlay_arrange.specs.Batches.{StandFor}
use Rattle.overlay_arrange.specs.Runs.{loaded}
use Rattle.overlay_arrange.proofs.CarriedShuffles.{IsMergeOf-shuffled}
use Rattle.overlay_arrange.proofs.FilteredShuffles.{IsPermutation-filter}
use Rattle.overlay_arrange.proofs.MergedParts.{each_alone, merge_of_parts}
use Rattle.overlay_arrange.proofs.RunsAlike.{JoinAlike-cons, JoinAlike-loaded, JoinAlike-trans}

-- the first entry between others
pub moved_in : {X : Type 0} (x : X) (xs ys : List X) → IsPermutation (xs ++ x ∷ ys) (x ∷ xs ++ ys)
moved_in x xs ys = subst (λ zs. IsPermutation zs (x ∷ xs ++ ys)) (append_assoc xs (x ∷ []) ys)
    (IsPermutation-append_left ys (xs ++ x ∷ []) (x ∷ xs) (IsPermutation-append_comm xs (x ∷ [])))

-- ---- another order

module _ {C : Type 0} where
  -- the values at some ends are the same
  pub between_shuffled : (xs ys : List (Carried C)) → IsPermutation xs ys → (e : Edge) →
      IsPermutation (carried_between xs e) (carried_between ys e)
  between_shuffled xs ys h e = IsPermutation-map (λ (x : Carried C). x.carries) _ _
      (IsPermutation-filter (λ (x : Carried C). edge_eq (ends_of x.edge) e) xs ys h)

  -- an edge adds its value between its own ends alone
  pub between_cons : (x : Carried C) (xs : List (Carried C)) (e : Edge) (t : Bool) → edge_eq (ends_of x.edge) e ≡ t →
      carried_between (x ∷ xs) e ≡ cond t (x.carries ∷ carried_between xs e) (carried_between xs e)
  between_cons x xs e true same = ap (λ b. map (λ (y : Carried C). y.carries)
      (cond b (x ∷ filter (λ (y : Carried C). edge_eq (ends_of y.edge) e) xs)
      (filter (λ (y : Carried C). edge_eq (ends_of y.edge) e) xs))) same
  between_cons x xs e false other = ap (λ b. map (λ (y : Carried C). y.carries)
      (cond b (x ∷ filter (λ (y : Carried C). edge_eq (ends_of y.edge) e) xs)
      (filter (λ (y : Carried C). edge_eq (ends_of y.edge) e) xs))) other

module _ {C : Type 0} (merges : C → C → C → Type 0) where
  -- a list stands for itself in another order
  pub stand_shuffled : (xs ys : List (Carried C)) → IsPermutation xs ys → StandFor merges xs ys
  stand_shuffled xs ys h = record {
    counts = λ e. alike.at e;
    values = λ e others c merge. IsMergeOf-shuffled (IsPermutation-append_left others _ _
        (IsPermutation-sym _ _ (between_shuffled xs ys h e))) merge;
  }
    where
      alike : JoinAlike (edges_in xs) (edges_in ys)
      alike = alike_shuffled (edges_in xs) (edges_in ys) (IsPermutation-map (λ (x : Carried C). x.edge) xs ys h)

  -- ---- two edges joined

  module _ (x y both : Carried C) (x_ends : ends_of x.edge ≡ ends_of both.edge)
      (y_ends : ends_of y.edge ≡ ends_of both.edge) (is : both.edge ≡ loaded x.edge y.edge)
      (makes : merges x.carries y.carries both.carries) where
    joins : (old new : List (Carried C)) → StandFor merges old new →
        JoinAlike (x.edge ∷ y.edge ∷ edges_in old) (both.edge ∷ edges_in new)
    joins old new stands =
        JoinAlike-trans (x.edge ∷ y.edge ∷ edges_in old) (both.edge ∷ edges_in old) (both.edge ∷ edges_in new)
        (subst (λ e. JoinAlike (x.edge ∷ y.edge ∷ edges_in old) (e ∷ edges_in old)) (sym is)
        (JoinAlike-loaded x.edge y.edge (edges_in old) (edge_eq-from_ends (ends_of x.edge) (ends_of y.edge)
        (ap (λ (g : Edge). g.a) same) (ap (λ (g : Edge). g.b) same))))
        (JoinAlike-cons both.edge (edges_in old) (edges_in new) (record { at = stands.counts }))
      where
        same : ends_of x.edge ≡ ends_of y.edge
        same = x_ends ∙ sym y_ends

    -- a merge with the value of both is one with the values of the two
    merged_apart : (values others : List C) (c : C) → IsMergeOf merges (both.carries ∷ values ++ others) c →
        IsMergeOf merges (x.carries ∷ y.carries ∷ values ++ others) c
    merged_apart values others c merge = merge_of_parts merges merge
        (next (two (IsPermutation-refl (x.carries ∷ y.carries ∷ [])) one one makes)
        (each_alone merges (values ++ others)))

    module _ (old new : List (Carried C)) (stands : StandFor merges old new) (e : Edge) (others : List C) (c : C) where
      at_ends : IsMergeOf merges (both.carries ∷ carried_between new e ++ others) c →
          IsMergeOf merges (x.carries ∷ y.carries ∷ carried_between old e ++ others) c
      at_ends merge = merged_apart (carried_between old e) others c
          (IsMergeOf-shuffled (moved_in both.carries (carried_between old e) others)
          (stands.values e (both.carries ∷ others) c
          (IsMergeOf-shuffled (IsPermutation-sym _ _ (moved_in both.carries (carried_between new e) others)) merge)))

      values_joined : (t : Bool) → edge_eq (ends_of both.edge) e ≡ t →
          IsMergeOf merges (carried_between (both ∷ new) e ++ others) c →
          IsMergeOf merges (carried_between (x ∷ y ∷ old) e ++ others) c
      values_joined true here merge = subst (λ cs. IsMergeOf merges (cs ++ others) c)
          (sym (between_cons x (y ∷ old) e true (ap (λ g. edge_eq g e) x_ends ∙ here)
          ∙ ap (λ cs. x.carries ∷ cs) (between_cons y old e true (ap (λ g. edge_eq g e) y_ends ∙ here))))
          (at_ends (subst (λ cs. IsMergeOf merges (cs ++ others) c) (between_cons both new e true here) merge))
      values_joined false past merge = subst (λ cs. IsMergeOf merges (cs ++ others) c)
          (sym (between_cons x (y ∷ old) e false (ap (λ g. edge_eq g e) x_ends ∙ past)
          ∙ between_cons y old e false (ap (λ g. edge_eq g e) y_ends ∙ past)))
          (stands.values e others c
          (subst (λ cs. IsMergeOf merges (cs ++ others) c) (between_cons both new e false past) merge))

    -- the edge with the counts of both and a merge of their values stands for the two
    pub stand_joined : (old new : List (Carried C)) → StandFor merges old new →
        StandFor merges (x ∷ y ∷ old) (both ∷ new)
    stand_joined old new stands = record {
      counts = λ e. (joins old new stands).at e;
      values = λ e others c. values_joined old new stands e others c (edge_eq (ends_of both.edge) e) refl;
    }
