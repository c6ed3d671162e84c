-- Those of the walks of a cut that pass a test are contours along different edges, which meet in ends alone.
use Rattle.std.proofs.Common.{◌≡◌, inl, inr, false, true, cond, Bool, ℤ, List, [], ◌∷◌, ◌++◌, All, Contains, AllPairs}
use Rattle.std.proofs.Common.{subst}
use Rattle.std.specs.List.{filter}
use Rattle.std.proofs.lemmas.List.Elements.{All-filter, Contains-append_left, Contains-append_right}
use Rattle.std.proofs.lemmas.List.Elements.{Contains-append_cases}
use Rattle.overlay_geom.specs.Plane.{Step, edge_of, edge_eq}
use Rattle.overlay_geom.specs.Edges.{CountedEdge}
use Rattle.overlay_geom.specs.Settled.{IsSettledBy}
use Rattle.overlay_geom.proofs.Entries.{Contains-head, Contains-later}
use Rattle.overlay_plane.specs.Contours.{all_steps, IsContour}
use Rattle.overlay_plane.specs.Anchors.{HasEachEdgeOnce}
use Rattle.overlay_plane.specs.Binding.{AreCutFrom, all_filled_above}
use Rattle.overlay_plane.specs.Turn.{Hand}
use Rattle.overlay_plane.proofs.Entries.{Contains-flat_map, Contains-from_flat_map, Contains-from_filter}
use Rattle.overlay_plane.proofs.LaterEntries.{Each, Each-from_all_pairs, AllPairs-from_each, Contains-cases}
use Rattle.overlay_plane.proofs.WalksApart.{walks_are_contours, walks_have_each_edge_once, walks_settled}
use Rattle.overlay_plane.proofs.WalksApart.{all_edges_once, distinct_above}

-- ---- entries in relation to later ones, in lists that are joined

module _ {X : Type 0} (R : X → X → Type 0) where
  -- pairs of the first list, pairs of the second, and pairs between the two
  pub Each-first : (xs ys : List X) → Each R (xs ++ ys) → Each R xs
  Each-first [] ys h = tt
  Each-first (x ∷ xs) ys h = ((λ z c. h.0 z (Contains-append_left xs ys z c)), Each-first xs ys h.1)

  pub Each-second : (xs ys : List X) → Each R (xs ++ ys) → Each R ys
  Each-second [] ys h = h
  Each-second (x ∷ xs) ys h = Each-second xs ys h.1

  pub Each-across : (xs ys : List X) → Each R (xs ++ ys) → (x y : X) → Contains xs x → Contains ys y → R x y
  Each-across [] ys h x y c d = absurd (elim c.1 [ ])
  Each-across (z ∷ zs) ys h x y c d =
      elim (Contains-cases z zs x c) [
        | inl is ↦ subst (λ u. R u y) is (h.0 y (Contains-append_right zs ys y d))
        | inr later ↦ Each-across zs ys h.1 x y later d
      ]

  -- the converse
  Each-joined : (xs ys : List X) → Each R xs → ((x y : X) → Contains xs x → Contains ys y → R x y) → Each R ys →
      Each R (xs ++ ys)
  Each-joined [] ys first across second = second
  Each-joined (x ∷ xs) ys first across second =
      (to_later, Each-joined xs ys first.1 (λ u v c d. across u v (Contains-later x xs u c) d) second)
    where
      to_later : (z : X) → Contains (xs ++ ys) z → R x z
      to_later z c =
          elim (Contains-append_cases xs ys z c) [
            | inl here ↦ first.0 z here
            | inr there ↦ across x z (Contains-head x xs) there
          ]

-- ---- walks that pass a test

-- their steps are steps of all walks
pub step_of_kept : (keeps : List Step → Bool) (walks : List (List Step)) (s : Step) →
    Contains (all_steps (filter keeps walks)) s →
    Contains (all_steps walks) s
step_of_kept keeps walks s c =
    let found = Contains-from_flat_map (λ (w : List Step). w) (filter keeps walks) s c in
    Contains-flat_map (λ (w : List Step). w) walks found.0 s (Contains-from_filter keeps walks found.0 found.1).0
    found.2

-- the entries are in relation to later entries
pub kept_in_relation : (R : Step → Step → Type 0) (keeps : List Step → Bool) (walks : List (List Step)) →
    Each R (all_steps walks) →
    Each R (all_steps (filter keeps walks))
kept_in_relation R keeps [] h = h
kept_in_relation R keeps (w ∷ ws) h = by (keeps w) (kept_in_relation R keeps ws (Each-second R w (all_steps ws) h))
  where
    by : (t : Bool) → Each R (all_steps (filter keeps ws)) →
        Each R (all_steps (cond t (w ∷ filter keeps ws) (filter keeps ws)))
    by true rest = Each-joined R w (all_steps (filter keeps ws)) (Each-first R w (all_steps ws) h)
        (λ x y c d. Each-across R w (all_steps ws) h x y c (step_of_kept keeps ws y d)) rest
    by false rest = rest

module _ (holds : ℤ → ℤ → Bool) (subj clip : CountedEdge → ℤ) (es : List CountedEdge) (filled : Hand)
    (walks : List (List Step))
    (cut : AreCutFrom holds subj clip es filled walks) (keeps : List Step → Bool) where
  -- each one is a contour
  pub kept_are_contours : All IsContour (filter keeps walks)
  kept_are_contours = All-filter keeps IsContour walks (walks_are_contours holds subj clip es filled walks cut)

  -- along each of its edges once
  pub kept_have_each_edge_once : All HasEachEdgeOnce (filter keeps walks)
  kept_have_each_edge_once = All-filter keeps HasEachEdgeOnce walks
      (walks_have_each_edge_once holds subj clip es filled walks cut)

  -- no two of their filled-above edges are equal
  pub kept_distinct : AllPairs (λ e f. edge_eq e f ≡ false) (all_filled_above filled (filter keeps walks))
  kept_distinct = distinct_above filled (filter keeps walks)
      (AllPairs-from_each (λ s t. edge_eq (edge_of s) (edge_of t) ≡ false) (all_steps (filter keeps walks))
      (kept_in_relation (λ s t. edge_eq (edge_of s) (edge_of t) ≡ false) keeps walks
      (Each-from_all_pairs (λ s t. edge_eq (edge_of s) (edge_of t) ≡ false) (all_steps walks)
      (all_edges_once holds subj clip es filled walks cut))))

  -- the edges meet in ends alone
  pub kept_settled : IsSettledBy edge_of (all_steps (filter keeps walks))
  kept_settled s t at_s at_t apart =
      walks_settled holds subj clip es filled walks cut s t (step_of_kept keeps walks s at_s)
      (step_of_kept keeps walks t at_t) apart
