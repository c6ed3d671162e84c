-- Joining neighbours, one pair after another, replaces runs of edges.
use Rattle.std.proofs.Common.{◌≡◌, ◌⊎◌, ◌<◌, Bool, true, List, [], ◌∷◌, ◌++◌, get_or, inl, inr, refl, sym, ap}
use Rattle.std.proofs.Common.{◌∙◌, subst, arith}
use Rattle.std.specs.Cmp.{IsPartialEquivalence}
use Rattle.std.specs.List.{AllZip, flat_map}
use Rattle.std.proofs.lemmas.List.{append-nil, append_assoc}
use Rattle.std.proofs.lemmas.List.Concat.{flat_map-append}
use Rattle.std.proofs.lemmas.List.Elements.{All-append, All-cons, All-nil}
use Rattle.overlay_geom.specs.Plane.{Point}
use Rattle.overlay_geom.proofs.Mapped.{AllZip-more}
use Rattle.overlay_vector.specs.DataVectors.{DataVector}
use Rattle.overlay_vector.specs.Joining.{AreJoinable, joined, Becomes, stays, begins_later, joins}
use Rattle.overlay_vector.specs.JoinedRuns.{StandsFor, LeadOn, Replaces, IsBegunElsewhere, here, later, IsMadeOfRuns}
use Rattle.overlay_vector.specs.JoinedRuns.{JoinedEdgesStandForTheirs}

-- a closed list begins behind its first part
begun_behind : {X : Type 0} (xs ys zs : List X) → IsBegunElsewhere (ys ++ xs) zs → IsBegunElsewhere (xs ++ ys) zs
begun_behind [] ys zs is = subst (λ us. IsBegunElsewhere us zs) (append-nil ys) is
begun_behind (x ∷ xs) ys zs is =
    later (subst (λ us. IsBegunElsewhere us zs) (sym (append_assoc xs ys (x ∷ [])))
    (begun_behind xs (ys ++ x ∷ []) zs
    (subst (λ us. IsBegunElsewhere us zs) (sym (append_assoc ys (x ∷ []) xs)) is)))

-- edges lead on behind others
lead_on_behind : {D : Type 0} (vs ws : List (DataVector D)) (a b c : Point) → LeadOn vs a b → LeadOn ws b c →
    LeadOn (vs ++ ws) a c
lead_on_behind [] ws a b c first second = subst (λ p. LeadOn ws p c) (sym first) second
lead_on_behind (v ∷ vs) ws a b c first second = (first.0, lead_on_behind vs ws v.b b c first.1 second)

module _ {D : Type 0} (eq : D → D → Bool) (per : IsPartialEquivalence eq) where
  stands_as_the_first : (v w x : DataVector D) → StandsFor eq v x → StandsFor eq (joined v w) x
  stands_as_the_first v w x stands = record { same_fill = stands.same_fill; same_data = stands.same_data }

  stands_as_the_second : (v w x : DataVector D) → AreJoinable eq v w → StandsFor eq w x → StandsFor eq (joined v w) x
  stands_as_the_second v w x can stands = record {
    same_fill = sym can.same_fill ∙ stands.same_fill;
    same_data = equal stands.same_data;
  }
    where
      equal : (w.data_of ≡ x.data_of) ⊎ (eq w.data_of x.data_of ≡ true) →
          (v.data_of ≡ x.data_of) ⊎ (eq v.data_of x.data_of ≡ true)
      equal (inl same) = inr (subst (λ d. eq v.data_of d ≡ true) same can.same_data)
      equal (inr same) = inr (per.trans v.data_of w.data_of x.data_of can.same_data same)

  -- the joined edge replaces both runs
  replaces_both : (r s : List (DataVector D)) (v w : DataVector D) → AreJoinable eq v w → Replaces eq r v →
      Replaces eq s w → Replaces eq (r ++ s) (joined v w)
  replaces_both [] s v w can first second = absurd (none first.some)
    where
      none : 0 < 0 → ⊥
      none = omega arith
  replaces_both (x ∷ r) s v w can first second = record {
    some = omega arith;
    leads = lead_on_behind (x ∷ r) s v.a v.b w.b first.leads (subst (λ p. LeadOn s p w.b) can.follows second.leads);
    each = All-append (StandsFor eq (joined v w)) (x ∷ r) s
        (λ k d under. stands_as_the_first v w (get_or (x ∷ r) k d) (first.each k d under))
        (λ k d under. stands_as_the_second v w (get_or s k d) can (second.each k d under));
  }

  replaces_itself : (v : DataVector D) → Replaces eq (v ∷ []) v
  replaces_itself v = record {
    some = omega arith;
    leads = (refl, refl);
    each = All-cons (StandsFor eq v) v [] (record { same_fill = refl; same_data = inl refl })
        (All-nil (StandsFor eq v));
  }

  -- what is made of turned runs, or of runs that were put together, is made of the runs
  turned_back : (r : List (DataVector D)) (runs : List (List (DataVector D))) (ws : List (DataVector D)) →
      IsMadeOfRuns eq (flat_map (λ run. run) (runs ++ r ∷ [])) ws →
      IsMadeOfRuns eq (flat_map (λ run. run) (r ∷ runs)) ws
  turned_back r runs ws made = record {
    runs = made.runs;
    replaced = made.replaced;
    all_of_it = begun_behind r (flat_map (λ run. run) runs) (flat_map (λ run. run) made.runs)
        (subst (λ us. IsBegunElsewhere us (flat_map (λ run. run) made.runs)) turned made.all_of_it);
  }
    where
      turned : flat_map (λ run. run) (runs ++ r ∷ []) ≡ flat_map (λ run. run) runs ++ r
      turned = flat_map-append (λ run. run) runs (r ∷ []) ∙ ap (λ us. flat_map (λ run. run) runs ++ us) (append-nil r)

  taken_apart : (r s : List (DataVector D)) (runs : List (List (DataVector D))) (ws : List (DataVector D)) →
      IsMadeOfRuns eq (flat_map (λ run. run) ((r ++ s) ∷ runs)) ws →
      IsMadeOfRuns eq (flat_map (λ run. run) (r ∷ s ∷ runs)) ws
  taken_apart r s runs ws made =
      subst (λ us. IsMadeOfRuns eq us ws) (append_assoc r s (flat_map (λ run. run) runs)) made

  -- what replaces runs becomes what replaces longer ones
  still_runs : (vs ws : List (DataVector D)) (runs : List (List (DataVector D))) → Becomes eq vs ws →
      AllZip (Replaces eq) runs vs → IsMadeOfRuns eq (flat_map (λ run. run) runs) ws
  still_runs vs ws runs stays all = record { runs = runs; replaced = all; all_of_it = here }
  still_runs (v ∷ vs) ws [] (begins_later further) all = absurd all
  still_runs (v ∷ vs) ws (r ∷ runs) (begins_later further) all =
      turned_back r runs ws (still_runs (vs ++ v ∷ []) ws (runs ++ r ∷ []) further
      (AllZip-more (Replaces eq) runs vs r v all.1 all.0))
  still_runs (v ∷ w ∷ vs) ws [] (joins can further) all = absurd all
  still_runs (v ∷ w ∷ vs) ws (r ∷ []) (joins can further) all = absurd all.1
  still_runs (v ∷ w ∷ vs) ws (r ∷ s ∷ runs) (joins can further) all =
      taken_apart r s runs ws (still_runs (joined v w ∷ vs) ws ((r ++ s) ∷ runs) further
      (replaces_both r s v w can all.0 all.1.0, all.1.1))

  -- each edge alone is a run
  abbrev lone_runs : List (DataVector D) → List (List (DataVector D))
  lone_runs [] = []
  lone_runs (v ∷ vs) = (v ∷ []) ∷ lone_runs vs

  all_of_lone : (vs : List (DataVector D)) → flat_map (λ run. run) (lone_runs vs) ≡ vs
  all_of_lone [] = refl
  all_of_lone (v ∷ vs) = ap (λ us. v ∷ us) (all_of_lone vs)

  lone_replaced : (vs : List (DataVector D)) → AllZip (Replaces eq) (lone_runs vs) vs
  lone_replaced [] = tt
  lone_replaced (v ∷ vs) = (replaces_itself v, lone_replaced vs)

  pub joined_stand_for_theirs : JoinedEdgesStandForTheirs eq
  joined_stand_for_theirs vs ws is = subst (λ us. IsMadeOfRuns eq us ws) (all_of_lone vs)
      (still_runs vs ws (lone_runs vs) is.becomes (lone_replaced vs))
