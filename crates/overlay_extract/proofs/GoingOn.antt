-- Steps of which each is the next one after the one before it: parts of such a walk, longer ones, the walk begun later,
-- and the walk back.
use Rattle.std.proofs.Common.{◌≡◌, suc, ◌+◌, ◌<◌, List, [], ◌∷◌, ◌++◌, length, take, drop, get_or, Contains, refl}
use Rattle.std.proofs.Common.{sym, ap}
use Rattle.std.proofs.Common.{◌∙◌, subst, arith}
use Rattle.std.specs.Bool.{⊤}
use Rattle.std.proofs.lemmas.List.{append_assoc, append-nil, take-append-drop}
use Rattle.overlay_geom.specs.Plane.{Step, reversed_step, backward}
use Rattle.overlay_plane.specs.Turn.{Hand, IsNextStep, IsOrbit, step_round, no_step}
use Rattle.overlay_plane.proofs.ItemsRound.{item_round-here}
use Rattle.overlay_plane.proofs.OrbitSteps.{last_to_first}
use Rattle.overlay_extract.specs.SlicingWalks.{GoesOnBy}
use Rattle.overlay_extract.specs.TourOrder.{last_step, IsPartRound}
use Rattle.overlay_plane.proofs.ChainWalks.{backward-first}

-- ---- lists of steps

-- those before the last one
abbrev pub first_steps : Step → List Step → List Step
first_steps s [] = []
first_steps s (t ∷ ts) = s ∷ first_steps t ts

pub in_two : (s : Step) (ss : List Step) → s ∷ ss ≡ first_steps s ss ++ last_step s ss ∷ []
in_two s [] = refl
in_two s (t ∷ ts) = ap (λ zs. s ∷ zs) (in_two t ts)

last_step-push : (s : Step) (ss : List Step) (t : Step) → last_step s (ss ++ t ∷ []) ≡ t
last_step-push s [] t = refl
last_step-push s (u ∷ us) t = last_step-push u us t

last_by_place : (s : Step) (ss : List Step) → get_or (s ∷ ss) (length ss) no_step ≡ last_step s ss
last_by_place s [] = refl
last_by_place s (t ∷ ts) = last_by_place t ts

-- ---- parts, and longer walks

module _ (steps : List Step) (hand : Hand) where
  first_part : (s : Step) (xs ys : List Step) → GoesOnBy steps hand s (xs ++ ys) → GoesOnBy steps hand s xs
  first_part s [] ys h = tt
  first_part s (x ∷ xs) ys h = (h.0, first_part x xs ys h.1)

  later_part : (s : Step) (xs : List Step) (t : Step) (ys : List Step) → GoesOnBy steps hand s (xs ++ t ∷ ys) →
      GoesOnBy steps hand t ys
  later_part s [] t ys h = h.1
  later_part s (x ∷ xs) t ys h = later_part x xs t ys h.1

  joined : (s : Step) (xs : List Step) (t : Step) (ys : List Step) → GoesOnBy steps hand s (xs ++ t ∷ []) →
      GoesOnBy steps hand t ys → GoesOnBy steps hand s (xs ++ t ∷ ys)
  joined s [] t ys h k = (h.0, k)
  joined s (x ∷ xs) t ys h k = (h.0, joined x xs t ys h.1 k)

  pushed : (s : Step) (ss : List Step) (t : Step) → GoesOnBy steps hand s ss →
      IsNextStep steps hand (last_step s ss) t → GoesOnBy steps hand s (ss ++ t ∷ [])
  pushed s [] t h next = (next, tt)
  pushed s (u ∷ us) t h next = (h.0, pushed u us t h.1 next)

  by_places : (s : Step) (ss : List Step) → ((k : _) → k < length ss →
      IsNextStep steps hand (get_or (s ∷ ss) k no_step) (get_or ss k no_step)) → GoesOnBy steps hand s ss
  by_places s [] on = tt
  by_places s (t ∷ ts) on = (on 0 (omega arith), by_places t ts (λ k h. on (suc k) (omega arith)))

  -- the same of a list
  abbrev pub GoOn : List Step → Type 0
  GoOn [] = ⊤
  GoOn (s ∷ ss) = GoesOnBy steps hand s ss

  -- and round and round
  abbrev pub GoOnRound : List Step → Type 0
  GoOnRound [] = ⊤
  GoOnRound (s ∷ ss) = GoesOnBy steps hand s (ss ++ s ∷ [])

  -- the steps of an orbit do
  pub orbit_goes_round : (walk : List Step) → IsOrbit steps hand walk → GoOnRound walk
  orbit_goes_round [] orbit = tt
  orbit_goes_round (s ∷ ss) orbit = pushed s ss s (by_places s ss on)
      (subst (λ t. IsNextStep steps hand t s) last
      (subst (IsNextStep steps hand (step_round (s ∷ ss) (length ss))) (at 0 (omega arith))
      (last_to_first steps hand (s ∷ ss) orbit (length ss) refl)))
    where
      at : (k : _) → k < length (s ∷ ss) → step_round (s ∷ ss) k ≡ get_or (s ∷ ss) k no_step
      at k h = item_round-here (s ∷ ss) no_step k h

      last : step_round (s ∷ ss) (length ss) ≡ last_step s ss
      last = at (length ss) (omega arith) ∙ last_by_place s ss

      on : (k : _) → k < length ss → IsNextStep steps hand (get_or (s ∷ ss) k no_step) (get_or ss k no_step)
      on k h =
          let one_more : k + 1 ≡ suc k = omega arith in
          subst (λ t. IsNextStep steps hand t (get_or ss k no_step)) (at k (omega arith))
          (subst (IsNextStep steps hand (step_round (s ∷ ss) k))
          (ap (step_round (s ∷ ss)) one_more ∙ at (suc k) (omega arith)) (orbit.goes_on k (omega arith)))

  -- begun later they go on as well
  begun_later : (xs ys : List Step) → GoOnRound (xs ++ ys) → GoOn (ys ++ xs)
  begun_later [] [] h = tt
  begun_later [] (y ∷ ys) h = subst (GoesOnBy steps hand y) (sym (append-nil ys)) (first_part y ys (y ∷ []) h)
  begun_later (x ∷ xs) [] h = first_part x xs (x ∷ [])
      (subst (λ zs. GoesOnBy steps hand x (zs ++ x ∷ [])) (append-nil xs) h)
  begun_later (x ∷ xs) (y ∷ ys) h =
      let all = subst (GoesOnBy steps hand x) (append_assoc xs (y ∷ ys) (x ∷ [])) h in
      joined y ys x xs (later_part x xs y (ys ++ x ∷ []) all) (first_part x xs (y ∷ (ys ++ x ∷ [])) all)

  -- and so does a part of them
  part_goes_on : (before part after : List Step) → GoOn (before ++ (part ++ after)) → GoOn part
  part_goes_on before [] after h = tt
  part_goes_on [] (t ∷ ts) after h = first_part t ts after h
  part_goes_on (b ∷ bs) (t ∷ ts) after h = first_part t ts after (later_part b bs t (ts ++ after) h)

  pub part_round_goes_on : (walk part : List Step) → IsOrbit steps hand walk → IsPartRound walk part → GoOn part
  part_round_goes_on walk part orbit round = part_goes_on round.before part round.after (subst GoOn round.is
      (begun_later (take round.place walk) (drop round.place walk)
      (subst GoOnRound (sym (take-append-drop round.place walk)) (orbit_goes_round walk orbit))))

-- ---- the walk back

-- it begins with the last step back
pub back_in_two : (s : Step) (ss : List Step) →
    backward (s ∷ ss) ≡ reversed_step (last_step s ss) ∷ backward (first_steps s ss)
back_in_two s [] = refl
back_in_two s (t ∷ ts) = backward-first s (t ∷ ts) ∙ ap (λ zs. zs ++ reversed_step s ∷ []) (back_in_two t ts)
    ∙ ap (λ zs. reversed_step (last_step t ts) ∷ zs) (sym (backward-first s (first_steps t ts)))

-- and ends with the first one
last_back : (s : Step) (ss : List Step) →
    last_step (reversed_step (last_step s ss)) (backward (first_steps s ss)) ≡ reversed_step s
last_back s [] = refl
last_back s (t ∷ ts) = ap (last_step (reversed_step (last_step t ts))) (backward-first s (first_steps t ts))
    ∙ last_step-push (reversed_step (last_step t ts)) (backward (first_steps t ts)) (reversed_step s)

module _ (steps backs : List Step) (hand other : Hand) (back : (s t : Step) → Contains steps s →
    IsNextStep steps hand s t → IsNextStep backs other (reversed_step t) (reversed_step s)) where
  -- where each step back is the next one by the other hand, the walk back goes on by this one
  pub goes_back : (s : Step) (ss : List Step) → Contains steps s → GoesOnBy steps hand s ss →
      GoesOnBy backs other (reversed_step (last_step s ss)) (backward (first_steps s ss))
  goes_back s [] c h = tt
  goes_back s (t ∷ ts) c h = subst (GoesOnBy backs other (reversed_step (last_step t ts)))
      (sym (backward-first s (first_steps t ts)))
      (pushed backs other (reversed_step (last_step t ts)) (backward (first_steps t ts)) (reversed_step s)
      (goes_back t ts h.0.among h.1)
      (subst (λ u. IsNextStep backs other u (reversed_step s)) (sym (last_back t ts)) (back s t c h.0)))
