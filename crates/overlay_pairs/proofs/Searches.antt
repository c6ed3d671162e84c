-- A search of boxes for those that do not lie apart from a box: its begin, some boxes passed over, and places that are
-- added; and the places of edges that share a height with it.
use Rattle.std.proofs.Common.{◌≡◌, ◌↔◌, ◌⊎◌, ⊎_elim, inl, inr, ℕ, ◌+◌, ◌<◌, ◌≤◌, List, [], ◌∷◌, ◌++◌, Contains}
use Rattle.std.proofs.Common.{Bool, true, false, IsTrue, refl, sym, subst, arith}
use Rattle.std.proofs.lemmas.Bool.{cases_lt, false≢true}
use Rattle.std.proofs.lemmas.List.Elements.{Contains-append_cases, Contains-append_left, Contains-append_right}
use Rattle.std.proofs.lemmas.List.Elements.{Contains-push, Contains-push_cases}
use Rattle.std.proofs.Math.Nat.{eq-or-lt_of_le}
use Rattle.overlay_geom.specs.Edges.{CountedEdge}
use Rattle.overlay_pairs.specs.Extents.{Extent, extent_of, IsApart, ShareNoHeight}
use Rattle.overlay_pairs.specs.Places.{IsAt}
use Rattle.overlay_pairs.specs.Near.{AreNearAdded, AreNearHeights, IsSearchedBy}
use Rattle.overlay_pairs.proofs.Entries.{one_entry}

-- a search that passes over some boxes
module _ (IsPassed : Extent → Type 0) (ss : List Extent) (s : Extent) where
  -- at first none is searched
  pub searched_none : IsSearchedBy IsPassed ss s 0 []
  searched_none = record {
    from = λ j has. absurd (omega (arith, has.1));
    all = λ k t less at_t. absurd (omega (arith, less));
  }

  -- those before an earlier place are searched
  pub searched_before : (at to : ℕ) (js : List ℕ) → to ≤ at → IsSearchedBy IsPassed ss s at js →
      IsSearchedBy IsPassed ss s to js
  searched_before at to js short searched = record {
    from = searched.from;
    all = λ k t less at_t. searched.all k t (omega (arith, less, short)) at_t;
  }

  -- some may be passed over
  pub searched_past : (at to : ℕ) (js : List ℕ) →
      ((k : ℕ) (t : Extent) → at ≤ k → k < to → IsAt ss k t → IsPassed t) → IsSearchedBy IsPassed ss s at js →
      IsSearchedBy IsPassed ss s to js
  searched_past at to js passed searched = record {
    from = searched.from;
    all = λ k t less at_t. ⊎_elim (λ before. searched.all k t before at_t)
        (λ (past : at ≤ k). inl (passed k t past less at_t)) (cases_lt k at);
  }

  -- the places of those that do not lie apart may be added, where boxes that do are passed over
  pub searched_added : (at to : ℕ) (js more : List ℕ) → ((t : Extent) → IsApart s t → IsPassed t) →
      AreNearAdded ss s at to js more → IsSearchedBy IsPassed ss s at js → IsSearchedBy IsPassed ss s to more
  searched_added at to js more passed added searched = record {
    from = λ j has. ⊎_elim (λ before. searched.from j before) (λ near. near) (added.near j has);
    all = λ k t less at_t. ⊎_elim
        (λ before. ⊎_elim (λ over. inl over) (λ has. inr (added.keeps t.first has)) (searched.all k t before at_t))
        (λ (past : at ≤ k). ⊎_elim (λ apart. inl (passed t apart)) (λ has. inr has)
        (added.all k t past less at_t)) (cases_lt k at);
  }

-- places that are added
module _ (ss : List Extent) (s : Extent) (from : ℕ) (old : List ℕ) where
  -- at first there is none
  pub added_none : AreNearAdded ss s from from old old
  added_none = record {
    keeps = λ j has. has;
    near = λ j has. inl has;
    all = λ k t past less. absurd (omega (arith, past, less));
  }

  -- those of more boxes may be added to them
  pub added_further : (at to : ℕ) (js more : List ℕ) → AreNearAdded ss s from at old js →
      AreNearAdded ss s at to js more → AreNearAdded ss s from to old more
  added_further at to js more added next = record {
    keeps = λ j has. next.keeps j (added.keeps j has);
    near = λ j has. ⊎_elim (λ before. added.near j before) (λ near. inr near) (next.near j has);
    all = λ k t past less at_t. ⊎_elim
        (λ before. ⊎_elim (λ apart. inl apart) (λ has. inr (next.keeps t.first has)) (added.all k t past before at_t))
        (λ (behind : at ≤ k). next.all k t behind less at_t) (cases_lt k at);
  }

  -- a list of them may be put behind the others
  pub added_behind : (to : ℕ) (js : List ℕ) → AreNearAdded ss s from to [] js →
      AreNearAdded ss s from to old (old ++ js)
  added_behind to js added = record {
    keeps = λ j has. Contains-append_left old js j has;
    near = λ j has. ⊎_elim (λ before. inl before)
        (λ there. ⊎_elim (λ (none : Contains [] j). absurd (omega (arith, none.1))) (λ near. inr near)
        (added.near j there))
        (Contains-append_cases old js j has);
    all = λ k t past less at_t. ⊎_elim (λ apart. inl apart)
        (λ has. inr (Contains-append_right old js t.first has)) (added.all k t past less at_t);
  }

  module _ (k : ℕ) (t : Extent) (at_t : IsAt ss k t) (js : List ℕ) (added : AreNearAdded ss s from k old js) where
    -- the box at place k, or one before it
    here_or_before : (P : Extent → Type 0) (l : ℕ) (u : Extent) → l < k + 1 → IsAt ss l u → P t → (l < k → P u) → P u
    here_or_before P l u less at_u here before = ⊎_elim
        (λ (same : l ≡ k). subst P (one_entry ss k t u at_t (subst (λ n. IsAt ss n u) same at_u)) here) before
        (eq-or-lt_of_le (let le : l ≤ k = omega (arith, less) in le))

    -- one that lies apart is passed over
    pub added_apart : IsApart s t → AreNearAdded ss s from (k + 1) old js
    added_apart apart = record {
      keeps = added.keeps;
      near = added.near;
      all = λ l u past less at_u. here_or_before (λ v. IsApart s v ⊎ Contains js v.first) l u less at_u (inl apart)
          (λ before. added.all l u past before at_u);
    }

    -- the place of a box that is not apart is added
    pub added_near : ¬ (IsApart s t) → AreNearAdded ss s from (k + 1) old (js ++ t.first ∷ [])
    added_near near = record {
      keeps = λ j has. Contains-append_left js (t.first ∷ []) j (added.keeps j has);
      near = λ j has. ⊎_elim (λ before. added.near j before)
          (λ (is : t.first ≡ j). inr (record { place = k; extent = t; at = at_t; is = is; near = near }))
          (Contains-push_cases js t.first j has);
      all = λ l u past less at_u. here_or_before (λ v. IsApart s v ⊎ Contains (js ++ t.first ∷ []) v.first) l u less
          at_u (inr (Contains-push js t.first)) (λ before. ⊎_elim (λ apart. inl apart)
          (λ has. inr (Contains-append_left js (t.first ∷ []) u.first has)) (added.all l u past before at_u));
    }

    -- a test says which of these it is
    pub added_put : (apart : Bool) (new : List ℕ) → (IsTrue apart ↔ IsApart s t) → (apart ≡ true → new ≡ js) →
        (apart ≡ false → new ≡ js ++ t.first ∷ []) → AreNearAdded ss s from (k + 1) old new
    added_put true new is passed put = subst (AreNearAdded ss s from (k + 1) old) (sym (passed refl))
        (added_apart (is.0 refl))
    added_put false new is passed put = subst (AreNearAdded ss s from (k + 1) old) (sym (put refl))
        (added_near (λ apart. false≢true (is.1 apart)))

-- the places of edges that share a height
module _ (es : List CountedEdge) (s : Extent) (from : ℕ) where
  -- at first there is none
  pub heights_none : AreNearHeights es s from from []
  heights_none = record {
    within = λ j has. absurd (omega (arith, has.1));
    near = λ j f has. absurd (omega (arith, has.1));
    all = λ j f past less. absurd (omega (arith, past, less));
  }

  module _ (k : ℕ) (e : CountedEdge) (at_e : IsAt es k e) (past : from ≤ k) (js : List ℕ)
      (so_far : AreNearHeights es s from k js) where
    -- the edge at place k, or one before it
    edge_here_or_before : (P : ℕ → CountedEdge → Type 0) (j : ℕ) (f : CountedEdge) → j < k + 1 → IsAt es j f → P k e →
        (j < k → P j f) → P j f
    edge_here_or_before P j f less at_f here before = ⊎_elim
        (λ (same : j ≡ k). subst (λ n. P n f) (sym same)
        (subst (P k) (one_entry es k e f at_e (subst (λ n. IsAt es n f) same at_f)) here)) before
        (eq-or-lt_of_le (let le : j ≤ k = omega (arith, less) in le))

    -- one that shares none is passed over
    pub height_apart : ShareNoHeight s (extent_of e k) → AreNearHeights es s from (k + 1) js
    height_apart apart = record {
      within = λ j has. let within = so_far.within j has in (within.0, omega (arith, within.1));
      near = so_far.near;
      all = λ j f behind less at_f. edge_here_or_before
          (λ n g. Contains js n ⊎ ShareNoHeight s (extent_of g n)) j f less at_f (inr apart)
          (λ before. so_far.all j f behind before at_f);
    }

    -- the place of an edge that shares one is added
    pub height_shared : ¬ (ShareNoHeight s (extent_of e k)) → AreNearHeights es s from (k + 1) (js ++ k ∷ [])
    height_shared shared = record {
      within = λ j has. ⊎_elim
          (λ before. let within = so_far.within j before in (within.0, omega (arith, within.1)))
          (λ (is : k ≡ j). (omega (arith, is, past), omega (arith, is))) (Contains-push_cases js k j has);
      near = λ j f has at_f. ⊎_elim (λ before. so_far.near j f before at_f)
          (λ (is : k ≡ j). subst (λ n. ¬ (ShareNoHeight s (extent_of f n))) is
          (subst (λ g. ¬ (ShareNoHeight s (extent_of g k)))
          (one_entry es k e f at_e (subst (λ n. IsAt es n f) (sym is) at_f)) shared)) (Contains-push_cases js k j has);
      all = λ j f behind less at_f. edge_here_or_before
          (λ n g. Contains (js ++ k ∷ []) n ⊎ ShareNoHeight s (extent_of g n)) j f less at_f
          (inl (Contains-push js k)) (λ before. ⊎_elim
          (λ has. inl (Contains-append_left js (k ∷ []) j has)) (λ apart. inr apart)
          (so_far.all j f behind before at_f));
    }
