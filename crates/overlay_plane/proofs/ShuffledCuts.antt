-- Lists with the same steps alternate alike, and are cut into the same walks, in whichever order the steps stand.
use Rattle.std.proofs.Common.{◌≡◌, ◌+◌, Bool, false, ℤ, not, List, [], ◌∷◌, Contains, refl, sym, subst}
use Rattle.std.specs.List.Sorted.{IsPermutation}
use Rattle.std.proofs.lemmas.List.Elements.{All-contains}
use Rattle.std.proofs.lemmas.List.Sorted.{Contains-permutation, IsPermutation-sym}
use Rattle.overlay_geom.specs.Plane.{Step}
use Rattle.overlay_geom.specs.Edges.{CountedEdge}
use Rattle.overlay_plane.specs.Turn.{Hand, step_round, is_met_before, IsNextStep, IsOrbit}
use Rattle.overlay_plane.specs.Alternates.{Alternates}
use Rattle.overlay_plane.specs.Orbits.{is_step_of}
use Rattle.overlay_plane.specs.BesideOrbits.{HasEachOnce}
use Rattle.overlay_plane.specs.Regions.{IsRuled}
use Rattle.overlay_plane.specs.SelectedSteps.{selected_steps}
use Rattle.overlay_plane.specs.Contours.{IsStart, without, IsCutInto, done, next, outline_or_hole_hand}
use Rattle.overlay_plane.specs.Binding.{AreCutFrom}
use Rattle.overlay_plane.proofs.CutWindings.{selected_alternate}
use Rattle.overlay_plane.proofs.Entries.{all_of_entries, Contains-filter, Contains-from_filter}
use Rattle.overlay_plane.proofs.SelectedWindings.{selected_steps_once}
use Rattle.overlay_plane.proofs.ShuffledPairs.{once_shuffled}
use Rattle.overlay_plane.proofs.Totals.{Contains-head}

-- the two lists have the same steps
abbrev pub HaveSame : List Step → List Step → Type 0
HaveSame xs ys = ((s : Step) → Contains xs s → Contains ys s) × ((s : Step) → Contains ys s → Contains xs s)

-- permuted lists have it too
pub same_shuffled : (xs ys : List Step) → IsPermutation xs ys → HaveSame xs ys
same_shuffled xs ys moved = (
  (λ s c. Contains-permutation xs ys s moved c),
  (λ s c. Contains-permutation ys xs s (IsPermutation-sym xs ys moved) c),
)

-- ---- the same steps

-- they alternate alike
pub alternate_alike : (xs ys : List Step) → HaveSame xs ys → Alternates xs → Alternates ys
alternate_alike xs ys same a = record {
  long = λ s c. a.long s (same.1 s c);
  one_leaves = λ s t c d. a.one_leaves s t (same.1 s c) (same.1 t d);
  one_arrives = λ s t c d. a.one_arrives s t (same.1 s c) (same.1 t d);
  none_both = λ s t c d. a.none_both s t (same.1 s c) (same.1 t d);
  arrives_between = λ s t c d at apart. let u = a.arrives_between s t (same.1 s c) (same.1 t d) at apart in
      (u.0, same.0 u.0 u.1, u.2, u.3);
  leaves_between = λ s t c d at apart. let u = a.leaves_between s t (same.1 s c) (same.1 t d) at apart in
      (u.0, same.0 u.0 u.1, u.2, u.3);
  goes_on = λ s c. let t = a.goes_on s (same.1 s c) in (t.0, same.0 t.0 t.1, t.2);
  comes_in = λ t c. let s = a.comes_in t (same.1 t c) in (s.0, same.0 s.0 s.1, s.2);
}

-- they start in the same step
start_alike : (xs ys : List Step) → HaveSame xs ys → (s : Step) → IsStart xs s → IsStart ys s
start_alike xs ys same s start = record {
  among = same.0 s start.among;
  lowest = λ t c. start.lowest t (same.1 t c);
  top = λ t c. start.top t (same.1 t c);
}

-- the lists have equal orbits
orbit_alike : (xs ys : List Step) → HaveSame xs ys → (hand : Hand) (walk : List Step) → IsOrbit xs hand walk →
    IsOrbit ys hand walk
orbit_alike xs ys same hand walk orbit = record {
  some = orbit.some;
  goes_on = λ k l. next_alike (step_round walk k) (step_round walk (k + 1)) (orbit.goes_on k l);
  once = orbit.once;
}
  where
    next_alike : (s t : Step) → IsNextStep xs hand s t → IsNextStep ys hand s t
    next_alike s t n = record {
      among = same.0 t n.among;
      leaves = n.leaves;
      first = all_of_entries (λ u. u.from ≡ s.to → is_met_before hand s.to s.from u.to t.to ≡ false) ys
          (λ u c. All-contains (λ u. u.from ≡ s.to → is_met_before hand s.to s.from u.to t.to ≡ false) xs u n.first
          (same.1 u c));
    }

-- the rest when some are taken is the same
without_alike : (xs ys : List Step) → HaveSame xs ys → (taken : List Step) →
    HaveSame (without xs taken) (without ys taken)
without_alike xs ys same taken = (
  (λ s c. let own = Contains-from_filter left xs s c in Contains-filter left ys s (same.0 s own.0) own.1),
  (λ s c. let own = Contains-from_filter left ys s c in Contains-filter left xs s (same.1 s own.0) own.1),
)
  where
    left : Step → Bool
    left s = not (is_step_of taken s)

-- a list has no steps where another without steps has the same ones
none_alike : (ys : List Step) → HaveSame [] ys → ys ≡ []
none_alike [] same = refl
none_alike (y ∷ ys) same = elim (same.1 y (Contains-head y ys)).1 [ ]

-- they are cut into the same walks
pub cut_alike : (hand_of : Step → Hand) (xs ys : List Step) → HaveSame xs ys → (walks : List (List Step)) →
    IsCutInto hand_of xs walks →
    IsCutInto hand_of ys walks
cut_alike hand_of xs ys same walks done = subst (λ zs. IsCutInto hand_of zs []) (sym (none_alike ys same)) done
cut_alike hand_of xs ys same walks (next {s} {ss} {rest} start orbit cut) =
    next (start_alike xs ys same s start) (orbit_alike xs ys same (hand_of s) (s ∷ ss) orbit)
    (cut_alike hand_of (without xs (s ∷ ss)) (without ys (s ∷ ss)) (without_alike xs ys same (s ∷ ss)) rest cut)

-- ---- selected steps in another order

module _ (holds : ℤ → ℤ → Bool) (subj clip : CountedEdge → ℤ) (es : List CountedEdge) (filled : Hand)
    (ruled : IsRuled holds subj clip es)
    (steps : List Step) (moved : IsPermutation (selected_steps holds subj clip filled es) steps) where
  -- they have the same steps
  same : HaveSame (selected_steps holds subj clip filled es) steps
  same = same_shuffled (selected_steps holds subj clip filled es) steps moved

  -- they alternate
  pub shuffled_alternate : Alternates steps
  shuffled_alternate = alternate_alike (selected_steps holds subj clip filled es) steps same
      (selected_alternate holds subj clip es ruled filled)

  -- none stands twice
  pub shuffled_once : HasEachOnce steps
  shuffled_once = once_shuffled (selected_steps holds subj clip filled es) steps moved
      (selected_steps_once holds subj clip es ruled filled)

  -- a cut of these steps is a cut of the selected steps
  pub shuffled_cut : (walks : List (List Step)) → IsCutInto (outline_or_hole_hand filled) steps walks →
      AreCutFrom holds subj clip es filled walks
  shuffled_cut walks cut = record {
    ruled = ruled;
    cut = cut_alike (outline_or_hole_hand filled) steps (selected_steps holds subj clip filled es)
        (same.1, same.0) walks cut;
  }
