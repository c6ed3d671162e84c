-- The live edges of held edges, by parts of their list.
use Rattle.std.proofs.Common.{◌≡◌, true, false, cond, ℕ, ◌+◌, ◌<◌, ℤ, int_lt, List, [], ◌∷◌, ◌++◌, length, take, drop}
use Rattle.std.proofs.Common.{get_or, slice_set, ◌≤◌, Bool, not, refl, sym, ap, ◌∙◌, subst, arith}
use Rattle.std.proofs.lemmas.Int.{ints}
use Rattle.std.specs.List.{All, filter, insert}
use Rattle.std.proofs.lemmas.List.{map-append, append_assoc, take-append-drop, take_more, drop_more, take_more_set}
use Rattle.std.proofs.lemmas.List.{drop-set-lt}
use Rattle.std.proofs.lemmas.List.Elements.{All-head, filter-append}
use Rattle.std.proofs.lemmas.List.Filters.{length-filter_both}
use Rattle.overlay_geom.proofs.Mapped.{map-filter}
use Rattle.overlay_plane.proofs.Entries.{All-rest}
use Rattle.overlay_scan.specs.HeldEntries.{live_of}
use Rattle.overlay_scan.specs.Lists.{plain_entry, plain_entries}
use Rattle.overlay_scan.specs.Scan.{Entry, live_at}
use Rattle.overlay_scan.specs.declared.list.LiveEdge.{LiveEdge}
use Rattle.overlay_scan.proofs.Found.{live_twice}

-- no more items pass a test than there are
pub no_more : {X : Type 0} (test : X → Bool) (xs : List X) → length (filter test xs) ≤ length xs
no_more test xs = let parts = length-filter_both test (λ x. not (test x)) (λ x. refl) xs in omega arith

module _ {I V : Type 0} (whole : I → ℤ) (x : ℤ) where
  pub live-append : (es fs : List (LiveEdge I V)) →
      live_of whole x (es ++ fs) ≡ live_of whole x es ++ live_of whole x fs
  live-append es fs = ap (live_at x) (map-append (plain_entry whole) es fs)
      ∙ filter-append (λ f. int_lt x f.edge.b.x) (plain_entries whole es) (plain_entries whole fs)

  pub live-here : (f : LiveEdge I V) (es : List (LiveEdge I V)) → int_lt x (whole f.b.x) ≡ true →
      live_of whole x (f ∷ es) ≡ plain_entry whole f ∷ live_of whole x es
  live-here f es live = ap (λ t. cond t (plain_entry whole f ∷ live_of whole x es) (live_of whole x es)) live

  pub live-ended : (f : LiveEdge I V) (es : List (LiveEdge I V)) → int_lt x (whole f.b.x) ≡ false →
      live_of whole x (f ∷ es) ≡ live_of whole x es
  live-ended f es ended = ap (λ t. cond t (plain_entry whole f ∷ live_of whole x es) (live_of whole x es)) ended

  -- the live ones of two parts
  pub live_parts : (es : List (LiveEdge I V)) (n : ℕ) →
      live_of whole x es ≡ live_of whole x (take n es) ++ live_of whole x (drop n es)
  live_parts es n = ap (live_of whole x) (sym (take-append-drop n es)) ∙ live-append (take n es) (drop n es)

  -- live edges are still live after all others are dropped
  pub live_kept : (es : List (LiveEdge I V)) → live_of whole x (filter (λ f. int_lt x (whole f.b.x)) es)
      ≡ live_of whole x es
  live_kept es = ap (live_at x) (map-filter (plain_entry whole) (λ f. int_lt x f.edge.b.x) es)
      ∙ live_twice x x (omega (arith, ints)) (plain_entries whole es)

  module _ (es : List (LiveEdge I V)) (k : ℕ) (f : LiveEdge I V) (within : k < length es) (is : f ≡ get_or es k f) where
    pub rest_is : drop k es ≡ f ∷ drop (k + 1) es
    rest_is = drop_more es k f within ∙ ap (λ g. g ∷ drop (k + 1) es) (sym is)

    -- from an entry on that has ended
    pub ended_from : int_lt x (whole f.b.x) ≡ false → live_of whole x (drop k es) ≡ live_of whole x (drop (k + 1) es)
    ended_from ended = ap (live_of whole x) rest_is ∙ live-ended f (drop (k + 1) es) ended

    -- a new edge in its place
    pub live_replaced : (e : LiveEdge I V) → int_lt x (whole f.b.x) ≡ false → int_lt x (whole e.b.x) ≡ true →
        live_of whole x (slice_set es k e)
        ≡ live_of whole x (take k es) ++ plain_entry whole e ∷ live_of whole x (drop k es)
    live_replaced e ended live = ap (live_of whole x) (sym (take-append-drop (k + 1) (slice_set es k e))
        ∙ ap (λ fs. fs ++ drop (k + 1) (slice_set es k e)) (take_more_set es k e within)
        ∙ append_assoc (take k es) (e ∷ []) (drop (k + 1) (slice_set es k e))
        ∙ ap (λ fs. take k es ++ e ∷ fs) (drop-set-lt (k + 1) es k e (omega arith)))
        ∙ live-append (take k es) (e ∷ drop (k + 1) es)
        ∙ ap (λ fs. live_of whole x (take k es) ++ fs) (live-here e (drop (k + 1) es) live
        ∙ ap (λ fs. plain_entry whole e ∷ fs) (sym (ended_from ended)))

    module _ (live : int_lt x (whole f.b.x) ≡ true) where
      -- from one on that is live
      pub live_from : live_of whole x (drop k es) ≡ plain_entry whole f ∷ live_of whole x (drop (k + 1) es)
      live_from = ap (live_of whole x) rest_is ∙ live-here f (drop (k + 1) es) live

      -- up to it
      pub live_up_to : live_of whole x (take (k + 1) es) ≡ live_of whole x (take k es) ++ plain_entry whole f ∷ []
      live_up_to = ap (live_of whole x) (take_more es k f within ∙ ap (λ g. take k es ++ g ∷ []) (sym is))
          ∙ live-append (take k es) (f ∷ [])
          ∙ ap (λ fs. live_of whole x (take k es) ++ fs) (live-here f [] live)

      -- all of them
      pub live_round : live_of whole x es
          ≡ live_of whole x (take k es) ++ plain_entry whole f ∷ live_of whole x (drop (k + 1) es)
      live_round = live_parts es k ∙ ap (λ fs. live_of whole x (take k es) ++ fs) live_from

      -- a fact of all holds of it
      pub holds_of_live : (P : Entry V → Type 0) → All P (live_of whole x es) → P (plain_entry whole f)
      holds_of_live P all = All-head P (plain_entry whole f) (live_of whole x (drop (k + 1) es))
          (All-rest P (live_of whole x (take k es)) (plain_entry whole f ∷ live_of whole x (drop (k + 1) es))
          (subst (All P) live_round all))

  -- one that is put in
  pub live_inserted : (es : List (LiveEdge I V)) (n : ℕ) (e : LiveEdge I V) → int_lt x (whole e.b.x) ≡ true →
      live_of whole x (insert es n e)
      ≡ live_of whole x (take n es) ++ plain_entry whole e ∷ live_of whole x (drop n es)
  live_inserted es n e live = live-append (take n es) (e ∷ drop n es)
      ∙ ap (λ fs. live_of whole x (take n es) ++ fs) (live-here e (drop n es) live)
