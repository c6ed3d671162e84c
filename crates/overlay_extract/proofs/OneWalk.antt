-- The loops that slicing finds on sides are determined: where the next walk begins, and by which hand, where it goes
-- on, and where it ends; so is what it leaves open, whatever its order.
use Rattle.std.proofs.Common.{◌≡◌, ⊎_elim, Bool, true, false, cond, List, [], ◌∷◌, ◌++◌, map, Contains, refl, sym, ap}
use Rattle.std.proofs.Common.{ap₂, ◌∙◌, subst}
use Rattle.std.specs.List.Sorted.{IsPermutation}
use Rattle.std.proofs.lemmas.Bool.{both_ways}
use Rattle.std.proofs.lemmas.List.Elements.{All-contains, All-head, All-tail, Contains-append_cases}
use Rattle.std.proofs.lemmas.List.Elements.{Contains-append_right}
use Rattle.std.proofs.lemmas.List.Sorted.{Contains-permutation, IsPermutation-sym}
use Rattle.overlay_geom.specs.Plane.{Point, Step, Edge, point_eq, point_lt, edge_of, edge_lt, step_eq, reversed_step}
use Rattle.overlay_geom.proofs.Orders.{edge_eq-same, lt_or_eq, neither_smaller, point_eq-of_same, point_lt-order}
use Rattle.overlay_plane.specs.BesideOrbits.{HasEachOnce}
use Rattle.overlay_plane.specs.NextSteps.{LeadsOn}
use Rattle.overlay_plane.specs.Turn.{Hand}
use Rattle.overlay_plane.specs.Turn.Hand.{left, right}
use Rattle.overlay_plane.proofs.AtNodes.{equal_steps}
use Rattle.overlay_plane.proofs.Entries.{Contains-map, Contains-from_map}
use Rattle.overlay_plane.proofs.KeptWalks.{Each-across}
use Rattle.overlay_plane.proofs.LaterEntries.{Each-from_all_pairs, AllPairs-from_each}
use Rattle.overlay_plane.proofs.KeptWalks.{Each-second}
use Rattle.overlay_plane.proofs.LeadingOn.{has_one_next}
use Rattle.overlay_plane.proofs.ShuffledCuts.{HaveSame}
use Rattle.overlay_plane.proofs.ShuffledPairs.{once_shuffled}
use Rattle.overlay_plane.proofs.ShuffledSteps.{Differ}
use Rattle.overlay_extract.specs.ClosedWalks.{LeadsTo, NoneLeaves}
use Rattle.overlay_extract.specs.SlicingWalks.{by_hand, loop_by_hand, GoesOnBy, IsSlicingWalk, BeginsAtFirst}
use Rattle.overlay_extract.specs.SlicingWalks.{AreLoopsOfWalks}
use Rattle.overlay_extract.specs.SlicingWalks.AreLoopsOfWalks.{none_open, walked}
use Rattle.overlay_extract.proofs.BoundLoops.{one_way}
use Rattle.overlay_extract.proofs.OneRepeat.{one_cut_at}

-- ---- where a walk goes on

module _ (steps : List Step) (hand : Hand) (leads : LeadsOn steps hand) where
  -- two walks that go on after one step, up to their first return to a point, are one
  pub one_way_back : (p : Point) (s : Step) → Contains steps s → (ss ts : List Step) → GoesOnBy steps hand s ss →
      GoesOnBy steps hand s ts → LeadsTo s.to ss p → LeadsTo s.to ts p → NoneLeaves p ss → NoneLeaves p ts → ss ≡ ts
  one_way_back p s c [] [] on on' at at' none none' = refl
  one_way_back p s c [] (t ∷ ts) on on' at at' none none' = absurd (both_ways (point_eq t.from p)
      (All-head (λ u. point_eq u.from p ≡ false) t ts none') (point_eq-of_same t.from p (at'.0 ∙ at)))
  one_way_back p s c (t ∷ ts) [] on on' at at' none none' = absurd (both_ways (point_eq t.from p)
      (All-head (λ u. point_eq u.from p ≡ false) t ts none) (point_eq-of_same t.from p (at.0 ∙ at')))
  one_way_back p s c (t ∷ ts) (u ∷ us) on on' at at' none none' =
      ap₂ (λ x xs. x ∷ xs) same (one_way_back p t on.0.among ts us on.1
      (subst (λ v. GoesOnBy steps hand v us) (sym same) on'.1) at.1
      (subst (λ (v : Step). LeadsTo v.to us p) (sym same) at'.1)
      (All-tail (λ v. point_eq v.from p ≡ false) t ts none) (All-tail (λ v. point_eq v.from p ≡ false) u us none'))
    where
      same : t ≡ u
      same = has_one_next steps hand leads s t u c on.0 on'.0

-- ---- where a walk begins

-- the step back walks along the same edge
back_along : (s : Step) → ¬ (s.from ≡ s.to) → edge_of (reversed_step s) ≡ edge_of s
back_along s long = by (point_lt s.from s.to) (point_lt s.to s.from) refl refl
  where
    forth : Edge
    forth = record { a = s.from; b = s.to }

    back : Edge
    back = record { a = s.to; b = s.from }

    by : (x y : Bool) → point_lt s.from s.to ≡ x → point_lt s.to s.from ≡ y → cond y back forth ≡ cond x forth back
    by true true less more = absurd (both_ways (point_lt s.to s.from) (point_lt-order.one_way s.from s.to less) more)
    by true false less more = refl
    by false true less more = refl
    by false false less more = absurd (long (neither_smaller s.from s.to less more))

module _ (xs : List Step) (long : (s : Step) → Contains xs s → ¬ (s.from ≡ s.to)) where
  -- what is passed by a hand walks along the edge of a side
  side_of : (hand : Hand) (s : Step) → Contains (by_hand hand xs) s →
      (u : Step) × Contains xs u × (edge_of u ≡ edge_of s)
  side_of left s c = (s, c, refl)
  side_of right s c = let from = Contains-from_map reversed_step xs s c in
      (from.0, from.1, sym (back_along from.0 (long from.0 from.1)) ∙ ap edge_of from.2)

module _ (xs ys : List Step) (long : (s : Step) → Contains xs s → ¬ (s.from ≡ s.to))
    (long' : (s : Step) → Contains ys s → ¬ (s.from ≡ s.to)) (same : HaveSame xs ys) (hand other : Hand) (s t : Step)
    (a : BeginsAtFirst xs hand s) (b : BeginsAtFirst ys other t) where
  one_edge : edge_of s ≡ edge_of t
  one_edge = edge_eq-same (edge_of s) (edge_of t) (⊎_elim
      (λ less. absurd (both_ways (edge_lt (edge_of s) (edge_of t)) no_earlier less)) (λ equal. equal)
      (lt_or_eq (edge_of s) (edge_of t) no_later))
    where
      no_later : edge_lt (edge_of t) (edge_of s) ≡ false
      no_later = let u = side_of ys long' other t b.is_open in subst (λ e. edge_lt e (edge_of s) ≡ false) u.2
          (All-contains (λ v. edge_lt (edge_of v) (edge_of s) ≡ false) xs u.0 a.first (same.1 u.0 u.1))

      no_earlier : edge_lt (edge_of s) (edge_of t) ≡ false
      no_earlier = let u = side_of xs long hand s a.is_open in subst (λ e. edge_lt e (edge_of t) ≡ false) u.2
          (All-contains (λ v. edge_lt (edge_of v) (edge_of t) ≡ false) ys u.0 b.first (same.0 u.0 u.1))

  pub one_begin : s ≡ t
  one_begin = one_way s t true a.from_smaller_end b.from_smaller_end one_edge

  pub one_hand : hand ≡ other
  one_hand = by hand other a.is_open b.is_open a.upper_first b.upper_first
    where
      by : (h k : Hand) → Contains (by_hand h xs) s → Contains (by_hand k ys) t → (h ≡ right → ¬ (Contains xs s)) →
          (k ≡ right → ¬ (Contains ys t)) → h ≡ k
      by left left c d first second = refl
      by left right c d first second = absurd (second refl (same.0 t (subst (Contains xs) one_begin c)))
      by right left c d first second = absurd (first refl (same.1 s (subst (Contains ys) (sym one_begin) d)))
      by right right c d first second = refl

-- ---- what a walk leaves

-- a step does not differ from itself
not_differ : (s : Step) → ¬ (Differ s s)
not_differ s apart = both_ways (step_eq s s) apart (equal_steps s s refl)

-- where none stands twice, what is left when some are taken is what has not been taken
in_rest : (xs ys zs rest others : List Step) → HasEachOnce xs → HaveSame xs ys → IsPermutation xs (zs ++ rest) →
    IsPermutation ys (zs ++ others) → (s : Step) → Contains rest s → Contains others s
in_rest xs ys zs rest others once same moved moved' s c = ⊎_elim
    (λ taken. absurd (not_differ s (Each-across Differ zs rest
    (Each-from_all_pairs Differ (zs ++ rest) (once_shuffled xs (zs ++ rest) moved once)) s s taken c)))
    (λ left_over. left_over)
    (Contains-append_cases zs others s (Contains-permutation ys (zs ++ others) s moved' (same.0 s
    (Contains-permutation (zs ++ rest) xs s (IsPermutation-sym xs (zs ++ rest) moved)
    (Contains-append_right zs rest s c)))))

-- ---- all walks

module _ (sides : List Step) (long : (s : Step) → Contains sides s → ¬ (s.from ≡ s.to))
    (leads : (hand : Hand) → LeadsOn (by_hand hand sides) hand) where
  -- what is passed of some of the sides is passed of all
  passed_of_all : (hand : Hand) (xs : List Step) → ((s : Step) → Contains xs s → Contains sides s) → (s : Step) →
      Contains (by_hand hand xs) s → Contains (by_hand hand sides) s
  passed_of_all left xs inside s c = inside s c
  passed_of_all right xs inside s c = let from = Contains-from_map reversed_step xs s c in
      subst (Contains (map reversed_step sides)) from.2 (Contains-map reversed_step sides from.0 (inside from.0 from.1))

  -- no walk begins where no side is open
  none_begins : (xs : List Step) → HaveSame [] xs → ((s : Step) → Contains xs s → ¬ (s.from ≡ s.to)) → (hand : Hand)
      (s : Step) → ¬ (BeginsAtFirst xs hand s)
  none_begins xs same long_xs hand s begins = let u = side_of xs long_xs hand s begins.is_open in
      elim (same.1 u.0 u.1).1 [ ]

  pub one_order : (xs ys : List Step) → ((s : Step) → Contains xs s → Contains sides s) → HasEachOnce xs →
      HasEachOnce ys → HaveSame xs ys → (loops others : List (List Step)) → AreLoopsOfWalks sides xs loops →
      AreLoopsOfWalks sides ys others → loops ≡ others
  one_order xs ys inside once once' same loops others none_open none_open = refl
  one_order xs ys inside once once' same loops others none_open
      (walked {hand = hand} {s = s} begins walk moved cut more) =
      absurd (none_begins ys same (λ t c. long t (inside t (same.1 t c))) hand s begins)
  one_order xs ys inside once once' same loops others (walked {hand = hand} {s = s} begins walk moved cut more)
      none_open = absurd (none_begins xs (same.1, same.0) (λ t c. long t (inside t c)) hand s begins)
  one_order xs ys inside once once' same loops others
      (walked {ss = ss} {rest = rest} {hand = hand} {s = s} {cut = cut} {others = later} begins walk moved is_cut more)
      (walked {ss = ts} {rest = rest'} {hand = other} {s = t} {cut = cut'} {others = later'} begins' walk' moved'
      is_cut' more') =
      ap₂ (λ x y. x ++ y) (ap₂ (λ h c. map (loop_by_hand h) c) hands
      (one_cut_at (s ∷ ss) (t ∷ ts) walks cut cut' is_cut is_cut'))
      (one_order rest rest' rest_inside rest_once rest_once' rest_same later later' more more')
    where
      long_xs : (u : Step) → Contains xs u → ¬ (u.from ≡ u.to)
      long_xs u c = long u (inside u c)

      long_ys : (u : Step) → Contains ys u → ¬ (u.from ≡ u.to)
      long_ys u c = long u (inside u (same.1 u c))

      hands : hand ≡ other
      hands = one_hand xs ys long_xs long_ys same hand other s t begins begins'

      starts : s ≡ t
      starts = one_begin xs ys long_xs long_ys same hand other s t begins begins'

      walk_alike : IsSlicingWalk sides hand s ts
      walk_alike = subst (λ h. IsSlicingWalk sides h s ts) (sym hands)
          (subst (λ u. IsSlicingWalk sides other u ts) (sym starts) walk')

      walks : s ∷ ss ≡ t ∷ ts
      walks = ap₂ (λ x xs. x ∷ xs) starts
          (one_way_back (by_hand hand sides) hand (leads hand) s.from s
          (passed_of_all hand xs inside s begins.is_open) ss ts walk.turns walk_alike.turns walk.returns.1
          walk_alike.returns.1 walk.first_return walk_alike.first_return)

      moved_alike : IsPermutation ys (by_hand hand (s ∷ ss) ++ rest')
      moved_alike = subst (λ zs. IsPermutation ys (zs ++ rest')) (sym (ap₂ by_hand hands walks)) moved'

      rest_same : HaveSame rest rest'
      rest_same = (
        in_rest xs ys (by_hand hand (s ∷ ss)) rest rest' once same moved moved_alike,
        in_rest ys xs (by_hand hand (s ∷ ss)) rest' rest once' (same.1, same.0) moved_alike moved,
      )

      rest_inside : (u : Step) → Contains rest u → Contains sides u
      rest_inside u c = inside u (Contains-permutation (by_hand hand (s ∷ ss) ++ rest) xs u
          (IsPermutation-sym xs (by_hand hand (s ∷ ss) ++ rest) moved)
          (Contains-append_right (by_hand hand (s ∷ ss)) rest u c))

      once_in : (zs rs : List Step) → HasEachOnce (zs ++ rs) → HasEachOnce rs
      once_in zs rs each = AllPairs-from_each Differ rs
          (Each-second Differ zs rs (Each-from_all_pairs Differ (zs ++ rs) each))

      rest_once : HasEachOnce rest
      rest_once = once_in (by_hand hand (s ∷ ss)) rest (once_shuffled xs (by_hand hand (s ∷ ss) ++ rest) moved once)

      rest_once' : HasEachOnce rest'
      rest_once' = once_in (by_hand hand (s ∷ ss)) rest'
          (once_shuffled ys (by_hand hand (s ∷ ss) ++ rest') moved_alike once')
