-- The anchors of those of the first walks that stand in no shape from the start.
use Rattle.std.proofs.Common.{◌≡◌, ℕ, ◌+◌, ◌<◌, true, false, List, [], ◌∷◌, ◌++◌, length, map, get_or, Contains, refl}
use Rattle.std.proofs.Common.{sym, ap, ◌∙◌, subst, below_more}
use Rattle.std.specs.List.{All, slice_get}
use Rattle.std.specs.Prelude.{Option, None, Some}
use Rattle.std.specs.Option.{is_some}
use Rattle.std.proofs.lemmas.Bool.{false≢true}
use Rattle.std.specs.List.Sorted.{IsPermutation}
use Rattle.std.proofs.lemmas.List.{map-append}
use Rattle.std.proofs.lemmas.List.Elements.{All-push, Contains-append_left, Contains-push}
use Rattle.std.proofs.lemmas.List.Sorted.{All-permutation, Contains-permutation, IsPermutation-map}
use Rattle.std.proofs.lemmas.Option.{slice_get_within, get_or_from_slice_get}
use Rattle.overlay_geom.specs.Plane.{Step}
use Rattle.overlay_plane.specs.Anchors.{IsAnchor}
use Rattle.overlay_scan.specs.Scan.{Entry}
use Rattle.overlay_scan.specs.Sweeps.{IsByStart}
use Rattle.overlay_extract.specs.WalkEntries.{IsHoleEntry, AreHoleEntries}

-- the walk at a place is unique
pub same_at : (walks : List (List Step)) (n : ℕ) (v w : List Step) → slice_get walks n ≡ Some v →
    slice_get walks n ≡ Some w → v ≡ w
same_at walks n v w at_v at_w = sym (get_or_from_slice_get walks n v v at_v) ∙ get_or_from_slice_get walks n w v at_w

-- a walk that stands at a place is one of the list
pub Contains-at : (walks : List (List Step)) (n : ℕ) (w : List Step) → slice_get walks n ≡ Some w → Contains walks w
Contains-at walks n w at = (n, slice_get_within walks n w at, get_or_from_slice_get walks n w w at)

-- an option that fails the test for something is None
pub none_from_test : (o : Option ℕ) → is_some o ≡ false → o ≡ None
none_from_test None e = refl
none_from_test (Some n) e = absurd (false≢true (sym e))

-- a number that passes the test is not none
pub some_from_test : (o : Option ℕ) → is_some o ≡ true → ¬ (o ≡ None)
some_from_test o e same = false≢true (sym (ap is_some same) ∙ e)

module _ (walks : List (List Step)) (known : List (Option ℕ)) where
  -- the walk with this index has an entry, if it stands in no shape
  abbrev HasEntry : List (Entry ℕ) → ℕ → Type 0
  HasEntry hs n = (w : List Step) → slice_get walks n ≡ Some w → get_or known n None ≡ None →
      Contains (map (λ h. h.value) hs) n

  -- the entries are those of the first i walks
  pub record HaveHoles (i : ℕ) (hs : List (Entry ℕ)) : Type 0 where
    pub from : All (IsHoleEntry walks known) hs
    pub all : (n : ℕ) → n < i → HasEntry hs n

  -- the next walk stands in no shape
  pub hole_pushed : (i : ℕ) (hs : List (Entry ℕ)) (w : List Step) (h : Entry ℕ) → HaveHoles i hs →
      slice_get walks i ≡ Some w → get_or known i None ≡ None →
      h.value ≡ i → IsAnchor w h.edge → HaveHoles (i + 1) (hs ++ h ∷ [])
  hole_pushed i hs w h have at is value anchor = record {
    from = All-push (IsHoleEntry walks known) hs h have.from
        (record {
          walk = w;
          at = ap (slice_get walks) value
              ∙ at;
          has = record { is = ap (λ n. get_or known n None) value ∙ is; anchor = anchor };
        });
    all = below_more (HasEntry (hs ++ h ∷ [])) i
        (λ n lt v at_v is_v. subst (λ ns. Contains ns n) (sym mapped)
        (Contains-append_left (map (λ k. k.value) hs) (h.value ∷ []) n (have.all n lt v at_v is_v)))
        (λ v at_v is_v. subst (λ ns. Contains ns i) (sym mapped)
        (subst (Contains (map (λ k. k.value) hs ++ h.value ∷ [])) value
        (Contains-push (map (λ k. k.value) hs) h.value)));
  }
    where
      mapped : map (λ (k : Entry ℕ). k.value) (hs ++ h ∷ []) ≡ map (λ k. k.value) hs ++ h.value ∷ []
      mapped = map-append (λ (k : Entry ℕ). k.value) hs (h ∷ [])

  -- it stands in a shape
  pub known_passed : (i : ℕ) (hs : List (Entry ℕ)) → HaveHoles i hs → ¬ (get_or known i None ≡ None) →
      HaveHoles (i + 1) hs
  known_passed i hs have is = record {
    from = have.from;
    all = below_more (HasEntry hs) i have.all (λ v at_v is_v. absurd (is is_v));
  }

  -- all of them, sorted
  pub holes_sorted : (i : ℕ) (hs gs : List (Entry ℕ)) → length walks ≡ i → HaveHoles i hs → IsPermutation hs gs →
      IsByStart gs →
      AreHoleEntries walks known gs
  holes_sorted i hs gs whole have moved order = record {
    from = All-permutation (IsHoleEntry walks known) hs gs moved have.from;
    all = λ n w at is. Contains-permutation (map (λ h. h.value) hs) (map (λ h. h.value) gs) n
        (IsPermutation-map (λ h. h.value) hs gs moved)
        (have.all n (subst (λ k. n < k) whole (slice_get_within walks n w at)) w at is);
    order = order;
  }
