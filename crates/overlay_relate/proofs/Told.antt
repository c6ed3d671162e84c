-- It is inside above the next edge where it is not inside above the highest live edge under it.
use Rattle.std.proofs.Common.{◌≡◌, ◌⊎◌, ⊎_elim, inl, inr, ℕ, ◌<◌, Bool, true, false, not, ◌&&◌, pos, List, []}
use Rattle.std.proofs.Common.{◌∷◌, ◌++◌, length, take, get_or, Contains, Option, None, Some, refl, sym, ap, ◌∙◌, subst}
use Rattle.std.proofs.Common.{arith}
use Rattle.std.specs.List.{filter}
use Rattle.std.proofs.lemmas.Bool.{false_from_ne_true}
use Rattle.std.proofs.lemmas.Int.{ints}
use Rattle.std.proofs.lemmas.List.{get_or_past, get_or-take, length_push, take_more}
use Rattle.std.proofs.lemmas.List.Elements.{All-contains}
use Rattle.overlay_geom.specs.Plane.{Edge, edge_eq, point_lt}
use Rattle.overlay_geom.specs.Settled.{MeetInEnds}
use Rattle.overlay_plane.specs.Anchors.{is_below_anchor}
use Rattle.overlay_plane.specs.Heights.{covers, is_under}
use Rattle.overlay_plane.proofs.BelowAnchors.{below_an_anchor_is_under}
use Rattle.overlay_plane.proofs.Entries.{Contains-filter}
use Rattle.overlay_scan.specs.Laws.{IsGreatestBelow}
use Rattle.overlay_scan.specs.Scan.{Entry, Sweep, live_at, IsOver, AreLive, entry_below, value_or, value_below}
use Rattle.overlay_scan.proofs.LastEntries.{no_last, look_up_gives_the_greatest}
use Rattle.overlay_relate.specs.Answers.{AnswersEach}
use Rattle.overlay_relate.specs.Sweeps.{AreOfContour, AreByStart, AreTold, IsSwept, inside_above}
use Rattle.overlay_relate.proofs.Answered.{answers_more}
use Rattle.overlay_relate.proofs.Insides.{inside_above_none, inside_above_next}
use Rattle.overlay_relate.proofs.Swept.{own, over, may_move, live_are, live_from, under_live}
use Rattle.overlay_scan.proofs.AtStarts.{reaches}

-- what is told at a place
pub told_at : (es fs : List Edge) (inside : List Bool) → AreTold es fs inside → (i : ℕ) (g : Edge) (t : Bool) →
    i < length inside → get_or fs i g ≡ g →
    get_or inside i t ≡ inside_above es g
told_at es fs inside told i g t lt at =
    told.each i g t (let c = told.counted in omega arith)
    ∙ ap (inside_above es) (get_or-take (length inside) fs i g lt ∙ at)

module _ (es fs : List Edge) (of : AreOfContour es) (by : AreByStart es fs) (n : ℕ) (e : Edge) (lt : n < length fs)
    (is : get_or fs n e ≡ e) (limit : ℕ) (s : Sweep ℕ)
    (swept : IsSwept limit fs n s) where
  abbrev live : List (Entry ℕ)
  live = live_at e.a.x s.entries

  are_live : AreLive limit e.a.x live
  are_live = live_are limit e.a.x s swept.state (may_move fs by.sweepable n e lt is limit s swept)

  leads : (f : Edge) → Contains es f → point_lt f.a f.b ≡ true
  leads f c = All-contains (λ g. point_lt g.a g.b ≡ true) es f of.forward c

  own_edge : Contains es e
  own_edge = by.from e (own fs by.sweepable n e lt is)

  -- an entry that is live is of one of the edges
  in_list : (f : Entry ℕ) → Contains live f → Contains fs f.edge
  in_list f c = let at = live_from fs by.sweepable n e lt is limit s swept f c in let less = at.0 in
      (f.value, omega arith, at.1)

  -- such an entry is below the start of the next edge where it is under that edge
  below_is : (f : Entry ℕ) → Contains live f → is_below_anchor e f.edge ≡ is_under f.edge e e.a.x (pos 1)
  below_is f c =
      below_an_anchor_is_under e f.edge (leads e own_edge) (leads f.edge (by.from f.edge (in_list f c)))
      (met (edge_eq e f.edge) refl)
      (over fs by.sweepable n e lt is)
      ∙ ap (λ t. t && is_under f.edge e e.a.x (pos 1))
      (All-contains (λ h. IsOver limit e.a.x h.edge) live f are_live.over c).over
    where
      met : (t : Bool) → edge_eq e f.edge ≡ t → (edge_eq e f.edge ≡ true) ⊎ MeetInEnds e f.edge
      met true same = inl same
      met false differ = inr (by.sweepable.settled e f.edge (own fs by.sweepable n e lt is) (in_list f c) differ)

  -- an edge under the next one is live
  entry_under : (f : Edge) → Contains es f → covers f e.a.x (pos 1) ≡ true → is_under f e e.a.x (pos 1) ≡ true →
      (k : Entry ℕ) × Contains live k × (k.edge ≡ f)
  entry_under f c over_f under = under_live fs by.sweepable n e lt is limit s swept f
      (by.all f c (reaches f e.a.x over_f)) (leads e own_edge) (leads f c) over_f under

  module _ (inside : List Bool) (counted : length inside ≡ n) (told : AreTold es fs inside) where
    next_by : (o : Option (Entry ℕ)) → entry_below e live ≡ o →
        not (get_or inside (value_or n o) false) ≡ inside_above es e
    next_by None nothing =
        ap not (get_or_past inside n false (omega (arith, counted)))
        ∙ sym (inside_above_none es of e own_edge e.a.x (pos 1) (omega (arith, ints)) (over fs by.sweepable n e lt is)
        (λ f c over_f. false_from_ne_true (is_under f e e.a.x (pos 1)) (λ under.
        let found = entry_under f c over_f under in
        no_last (filter (λ h. is_below_anchor e h.edge) live) found.0
        (Contains-filter (λ h. is_below_anchor e h.edge) live found.0 found.1
        (below_is found.0 found.1 ∙ subst (λ h. is_under h e e.a.x (pos 1) ≡ true) (sym found.2) under)) nothing)))
    next_by (Some f) found =
        let great : IsGreatestBelow e e.a.x live f = look_up_gives_the_greatest ℕ live e e.a.x are_live.order f found in
        let at = live_from fs by.sweepable n e lt is limit s swept f great.entry in
        let less = at.0 in
        ap not (told_at es fs inside told f.value f.edge false (omega (arith, counted)) at.1)
        ∙ sym (inside_above_next es of e own_edge e.a.x (pos 1) (omega (arith, ints))
        (over fs by.sweepable n e lt is) f.edge
        (by.from f.edge (f.value, omega arith, at.1))
        (All-contains (λ h. IsOver limit e.a.x h.edge) live f are_live.over great.entry).over
        (sym (below_is f great.entry) ∙ great.below)
        (λ h c over_h under. let k = entry_under h c over_h under in ⊎_elim
        (λ same. inl (sym k.2 ∙ ap (λ (g : Entry ℕ). g.edge) same))
        (λ lower. inr (subst (λ g. is_under g f.edge e.a.x (pos 1) ≡ true) k.2 lower))
        (great.greatest k.0 k.1 (below_is k.0 k.1 ∙ subst (λ g. is_under g e e.a.x (pos 1) ≡ true) (sym k.2) under))))

    -- so what the look-up gives tells of the next edge
    pub next_told : (below : ℕ) → below ≡ value_below n e live → not (get_or inside below false) ≡ inside_above es e
    next_told below found = ap (λ i. not (get_or inside i false)) found ∙ next_by (entry_below e live) refl

    pub told_more : (t : Bool) → t ≡ inside_above es e → AreTold es fs (inside ++ t ∷ [])
    told_more t right =
        subst (λ gs. AnswersEach (λ g u. u ≡ inside_above es g) gs (inside ++ t ∷ [])) more
        (answers_more (λ g u. u ≡ inside_above es g) (take (length inside) fs) e inside t told right)
      where
        more : take (length inside) fs ++ e ∷ [] ≡ take (length (inside ++ t ∷ [])) fs
        more = ap (λ g. take (length inside) fs ++ g ∷ []) (sym is ∙ ap (λ m. get_or fs m e) (sym counted))
            ∙ sym (take_more fs (length inside) e (omega (arith, counted)))
            ∙ ap (λ m. take m fs) (sym (length_push inside t))
