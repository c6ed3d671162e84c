-- Each point on a step of a thinned closed list is on a step of the list before: what these steps miss, those miss.
use Rattle.std.proofs.Common.{◌≡◌, ℕ, zero, suc, ◌+◌, ◌-◌, ◌<◌, ◌≤◌, Bool, true, false, cond, List, [], ◌∷◌, ◌++◌}
use Rattle.std.proofs.Common.{inl, inr, length, get_or, take, drop, drop-cons, length-append, length-drop, append_assoc}
use Rattle.std.proofs.Common.{refl, sym, ap, subst, ◌∙◌, arith}
use Rattle.std.specs.List.{All, remove}
use Rattle.std.proofs.Math.Nat.{mod-eq_of_lt}
use Rattle.std.proofs.lemmas.List.{length-take, take-append-drop, append-nil}
use Rattle.std.proofs.lemmas.List.Elements.{All-nil, All-cons, All-append, All-head}
use Rattle.overlay_geom.specs.Plane.{Point, PlanePoint, Step, IsOn, point_eq, steps_between, steps_through, steps_of}
use Rattle.overlay_geom.specs.Thinned.{IsOnOneLine, IsThinned, IsKeptOrThinned, thin, drop_one, point_round}
use Rattle.overlay_geom.proofs.Orders.{point_eq-same}
use Rattle.overlay_plane.specs.Snaps.{IsOnStep}
use Rattle.overlay_plane.proofs.Dropping.{origin, others_from, others-first, others-last, last_from-place}
use Rattle.overlay_plane.proofs.Entries.{All-first, All-rest}
use Rattle.overlay_plane.proofs.Walks.{last_from}
use Rattle.overlay_builder.proofs.StraightSteps.{on_either_step}

module _ (R : PlanePoint → Type 0) where
  -- no point of the step is in R
  abbrev pub MissesStep : Step → Type 0
  MissesStep s = (q : PlanePoint) → IsOnStep s q → ¬ (R q)

  -- so it is with the step between two points, if there is one
  abbrev Misses : Point → Point → Type 0
  Misses u v = All MissesStep (steps_between u v)

  -- and with the steps from u through the points
  abbrev MissesAlong : Point → List Point → Type 0
  MissesAlong u vs = All MissesStep (steps_through u vs)

  -- and with those of a closed list
  abbrev pub MissesAround : List Point → Type 0
  MissesAround ps = All MissesStep (steps_of ps)

  -- ---- three points on a line

  -- the step between two different points is all that there is between them
  misses_long : (u v : Point) → point_eq u v ≡ false → ((q : PlanePoint) → IsOn (record { a = u; b = v }) q → ¬ (R q)) →
      Misses u v
  misses_long u v long misses = subst (λ t. All MissesStep (cond t [] (record { from = u; to = v } ∷ []))) (sym long)
      (All-cons MissesStep (record { from = u; to = v }) [] misses (All-nil MissesStep))

  of_long : (u v : Point) → point_eq u v ≡ false → Misses u v → (q : PlanePoint) → IsOn (record { a = u; b = v }) q →
      ¬ (R q)
  of_long u v long misses = All-head MissesStep (record { from = u; to = v }) []
      (subst (λ t. All MissesStep (cond t [] (record { from = u; to = v } ∷ []))) long misses)

  no_step : (u v : Point) → point_eq u v ≡ true → Misses u v
  no_step u v same = subst (λ t. All MissesStep (cond t [] (record { from = u; to = v } ∷ []))) (sym same)
      (All-nil MissesStep)

  -- what the steps by way of v miss, the step straight on misses
  straight_on : (u v w : Point) → IsOnOneLine u v w → Misses u v → Misses v w → Misses u w
  straight_on u v w straight first last = by (point_eq u w) refl
    where
      apart : point_eq u w ≡ false → (s : Bool) → point_eq u v ≡ s → (t : Bool) → point_eq v w ≡ t → Misses u w
      apart long true same t e = subst (λ z. Misses z w) (sym (point_eq-same u v same)) last
      apart long false e true same = subst (Misses u) (point_eq-same v w same) first
      apart long false uv false vw = misses_long u w long (λ q on in_r.
          elim (on_either_step u v w straight q long on uv vw) [
            | inl here ↦ of_long u v uv first q here in_r
            | inr there ↦ of_long v w vw last q there in_r
          ])

      by : (t : Bool) → point_eq u w ≡ t → Misses u w
      by true same = no_step u w same
      by false long = apart long (point_eq u v) refl (point_eq v w) refl

  -- ---- walks

  -- a walk is the part up to a point, and the part from it on
  along_first : (u : Point) (xs : List Point) (v : Point) (ys : List Point) → MissesAlong u (xs ++ v ∷ ys) →
      MissesAlong u (xs ++ v ∷ [])
  along_first u [] v ys misses = All-append MissesStep (steps_between u v) []
      (All-first MissesStep (steps_between u v) (steps_through v ys) misses) (All-nil MissesStep)
  along_first u (x ∷ xs) v ys misses = All-append MissesStep (steps_between u x) (steps_through x (xs ++ v ∷ []))
      (All-first MissesStep (steps_between u x) (steps_through x (xs ++ v ∷ ys)) misses)
      (along_first x xs v ys (All-rest MissesStep (steps_between u x) (steps_through x (xs ++ v ∷ ys)) misses))

  along_rest : (u : Point) (xs : List Point) (v : Point) (ys : List Point) → MissesAlong u (xs ++ v ∷ ys) →
      MissesAlong v ys
  along_rest u [] v ys misses = All-rest MissesStep (steps_between u v) (steps_through v ys) misses
  along_rest u (x ∷ xs) v ys misses = along_rest x xs v ys
      (All-rest MissesStep (steps_between u x) (steps_through x (xs ++ v ∷ ys)) misses)

  along_both : (u : Point) (xs : List Point) (v : Point) (ys : List Point) → MissesAlong u (xs ++ v ∷ []) →
      MissesAlong v ys → MissesAlong u (xs ++ v ∷ ys)
  along_both u [] v ys first rest = All-append MissesStep (steps_between u v) (steps_through v ys)
      (All-first MissesStep (steps_between u v) [] first) rest
  along_both u (x ∷ xs) v ys first rest = All-append MissesStep (steps_between u x) (steps_through x (xs ++ v ∷ ys))
      (All-first MissesStep (steps_between u x) (steps_through x (xs ++ v ∷ [])) first)
      (along_both x xs v ys (All-rest MissesStep (steps_between u x) (steps_through x (xs ++ v ∷ [])) first) rest)

  -- its last step
  along_last : (u : Point) (xs : List Point) (v : Point) → MissesAlong u (xs ++ v ∷ []) → Misses (last_from u xs) v
  along_last u [] v misses = All-first MissesStep (steps_between u v) [] misses
  along_last u (x ∷ xs) v misses = along_last x xs v
      (All-rest MissesStep (steps_between u x) (steps_through x (xs ++ v ∷ [])) misses)

  -- another one in its place
  last_instead : (u : Point) (xs : List Point) (v w : Point) → MissesAlong u (xs ++ v ∷ []) →
      Misses (last_from u xs) w → MissesAlong u (xs ++ w ∷ [])
  last_instead u [] v w misses last = All-append MissesStep (steps_between u w) [] last (All-nil MissesStep)
  last_instead u (x ∷ xs) v w misses last = All-append MissesStep (steps_between u x) (steps_through x (xs ++ w ∷ []))
      (All-first MissesStep (steps_between u x) (steps_through x (xs ++ v ∷ [])) misses)
      (last_instead x xs v w (All-rest MissesStep (steps_between u x) (steps_through x (xs ++ v ∷ [])) misses) last)

  -- a closed list may begin at any of its points
  around_rotated : (xs ys : List Point) → MissesAround (xs ++ ys) → MissesAround (ys ++ xs)
  around_rotated [] ys misses = subst MissesAround (sym (append-nil ys)) misses
  around_rotated (x ∷ xs) [] misses = subst MissesAround (append-nil (x ∷ xs)) misses
  around_rotated (x ∷ xs) (y ∷ ys) misses =
      let parts : MissesAlong x (xs ++ y ∷ (ys ++ x ∷ [])) =
      subst (MissesAlong x) (append_assoc xs (y ∷ ys) (x ∷ [])) misses in
      subst (MissesAlong y) (sym (append_assoc ys (x ∷ xs) (y ∷ [])))
      (along_both y ys x (xs ++ y ∷ []) (along_rest x xs y (ys ++ x ∷ []) parts)
      (along_first x xs y (ys ++ x ∷ []) parts))

  -- ---- a point left out

  -- the head, which is on a line with its two neighbours
  head_left_out : (v : Point) (zs : List Point) → 1 ≤ length zs →
      IsOnOneLine (get_or zs (length zs - 1) origin) v (get_or zs 0 origin) → MissesAround (v ∷ zs) → MissesAround zs
  head_left_out v [] some straight misses = absurd (omega arith)
  head_left_out v (z ∷ zs) some straight misses =
      let walk = All-rest MissesStep (steps_between v z) (steps_through z (zs ++ v ∷ [])) misses in
      last_instead z zs v z walk
      (straight_on (last_from z zs) v z
      (subst (λ u. IsOnOneLine u v z)
      (sym (last_from-place z zs origin ∙ ap (λ m. get_or (z ∷ zs) m origin) at)) straight)
      (along_last z zs v walk)
      (All-first MissesStep (steps_between v z) (steps_through z (zs ++ v ∷ [])) misses))
    where
      at : length zs ≡ length (z ∷ zs) - 1
      at = omega arith

  -- the point at any place
  left_out : (ps : List Point) (k : ℕ) → k < length ps →
      IsOnOneLine (point_round ps (k + length ps - 1)) (point_round ps k) (point_round ps (k + 1)) →
      MissesAround ps → MissesAround (remove ps k)
  left_out [] k within straight misses = absurd (omega arith)
  left_out (v ∷ []) zero within straight misses = All-nil MissesStep
  left_out (v ∷ []) (suc k) within straight misses = absurd (omega arith)
  left_out (v ∷ w ∷ vs) k within straight misses = longer (v ∷ w ∷ vs) (omega arith) within straight misses
    where
      longer : (ps : List Point) → 2 ≤ length ps → k < length ps →
          IsOnOneLine (point_round ps (k + length ps - 1)) (point_round ps k) (point_round ps (k + 1)) →
          MissesAround ps → MissesAround (remove ps k)
      longer ps two within straight misses =
          let dropped = length-drop (suc k) ps in
          let taken = length-take k ps in
          let joined = length-append (drop (suc k) ps) (take k ps) in
          let count : length (others_from ps k) - 1 ≡ length ps - 2 = omega arith in
          let last : get_or (others_from ps k) (length (others_from ps k) - 1) origin ≡ point_round ps
          (k + length ps - 1) = ap (λ m. get_or (others_from ps k) m origin) count ∙ others-last ps k within two in
          let here : get_or ps k origin ≡ point_round ps k = ap (λ m. get_or ps m origin) (sym (mod-eq_of_lt within)) in
          let first = others-first ps k within two in
          let parts : MissesAround (take k ps ++ get_or ps k origin ∷ drop (suc k) ps) =
          subst MissesAround (sym (take-append-drop k ps) ∙ ap (λ zs. take k ps ++ zs) (drop-cons ps k origin within))
          misses in
          around_rotated (drop (suc k) ps) (take k ps)
          (head_left_out (get_or ps k origin) (others_from ps k) (omega arith)
          (subst (λ u. IsOnOneLine u (get_or ps k origin) (get_or (others_from ps k) 0 origin)) (sym last)
          (subst (λ u. IsOnOneLine (point_round ps (k + length ps - 1)) u (get_or (others_from ps k) 0 origin))
          (sym here)
          (subst (λ u. IsOnOneLine (point_round ps (k + length ps - 1)) (point_round ps k) u) (sym first) straight)))
          (around_rotated (take k ps) (get_or ps k origin ∷ drop (suc k) ps) parts))

  -- ---- thinned

  misses_thinned : (ps qs : List Point) → IsThinned ps qs → MissesAround ps → MissesAround qs
  misses_thinned ps qs (thin none) misses = misses
  misses_thinned ps qs (drop_one k within straight rest) misses = misses_thinned (remove ps k) qs rest
      (left_out ps k within straight misses)

  -- what the steps of a closed list miss, those of the points taken of it miss
  pub misses_taken : (keep : Bool) (given taken : List Point) → IsKeptOrThinned keep given taken → MissesAround given →
      MissesAround taken
  misses_taken true given taken is misses = subst MissesAround (sym is) misses
  misses_taken false given taken thinned misses = misses_thinned given taken thinned misses
