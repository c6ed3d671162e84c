-- Walks of groups that become contours, group by group and walk by walk.
use Rattle.std.proofs.Common.{◌≡◌, ℕ, suc, ◌+◌, ◌≤◌, Bool, true, false, cond, ℤ, List, [], ◌∷◌, ◌++◌, map, length}
use Rattle.std.proofs.Common.{get_or, filter, All, Contains, Vec, refl, sym, ap, ◌∙◌, subst, arith}
use Rattle.std.specs.List.{AllZip, flat_map}
use Rattle.std.proofs.lemmas.Bool.{false≢true}
use Rattle.std.proofs.lemmas.Grind.{flat_map-append}
use Rattle.std.proofs.lemmas.List.{append-nil, append_assoc, map-append}
use Rattle.std.proofs.lemmas.List.Elements.{All-contains, All-head}
use Rattle.overlay_geom.specs.Plane.{Step}
use Rattle.overlay_geom.proofs.Mapped.{AllZip-more}
use Rattle.overlay_plane.specs.Contours.{IsCutInto}
use Rattle.overlay_plane.specs.Turn.{Hand}
use Rattle.overlay_plane.specs.RoledContours.{Contour}
use Rattle.overlay_plane.specs.RoledContours.{kept_group, group_contours_from, outline_of, hole_of_group, hole_to_bind}
use Rattle.overlay_plane.proofs.Entries.{all_of_entries, Contains-map, Contains-from_map}
use Rattle.overlay_walk.specs.declared.contour.Role.{Role as RoleTaken}
use Rattle.overlay_walk.specs.declared.contour.Role.TheVariants.{Outline, OwnHole, FreeHole}
use Rattle.overlay_walk.specs.declared.contour.Contour.{Contour as ContourTaken}
use Rattle.overlay_walk.specs.declared.step.Step.{Step as StepTaken}
use Rattle.overlay_walk.specs.GroupedContours.{plain_contours, first_reaches, contours_of_group}
use Rattle.overlay_walk.specs.GroupedContours.{AddsCutGroup, AreCutFromGroups}
use Rattle.overlay_walk.specs.Steps.{plain_step, plain_steps, IsLong}
use Rattle.overlay_walk.specs.Walks.{plain_walks}

-- a list without entries
pub none_left : {X : Type 0} (xs : List X) → length xs ≡ 0 → xs ≡ []
none_left [] h = refl
none_left (x ∷ xs) h = absurd (omega arith)

-- ---- a group

module _ (keeps : List Step → Bool) (n : ℕ) where
  -- whose outline passes the test
  pub group_kept : (ws : List (List Step)) → first_reaches keeps ws ≡ true →
      contours_of_group n (filter keeps ws) ≡ group_contours_from n (kept_group keeps ws)
  group_kept [] passes = absurd (false≢true passes)
  group_kept (o ∷ hs) passes =
      ap (λ t. contours_of_group n (cond t (o ∷ filter keeps hs) (filter keeps hs))) passes
      ∙ sym (append-nil (contours_of_group n (o ∷ filter keeps hs)))
      ∙ sym (ap (λ t. group_contours_from n (cond t ((o ∷ filter keeps hs) ∷ []) [])) passes)

  -- whose outline does not
  pub group_dropped : (ws : List (List Step)) → first_reaches keeps ws ≡ false →
      group_contours_from n (kept_group keeps ws) ≡ []
  group_dropped [] fails = refl
  group_dropped (o ∷ hs) fails = ap (λ t. group_contours_from n (cond t ((o ∷ filter keeps hs) ∷ []) [])) fails

  -- the contours of more groups follow
  group_then : (o : List Step) (hs : List (List Step)) (more : List (List (List Step))) (t : Bool) →
      group_contours_from n (cond t ((o ∷ hs) ∷ []) []) ++ group_contours_from (cond t (n + 1) n) more
      ≡ group_contours_from n (cond t ((o ∷ hs) ∷ []) [] ++ more)
  group_then o hs more true = let next : n + 1 ≡ suc n = omega arith in
      ap (λ cs. cs ++ group_contours_from (n + 1) more) (append-nil (contours_of_group n (o ∷ hs)))
      ∙ ap (λ m. contours_of_group n (o ∷ hs) ++ group_contours_from m more) next
  group_then o hs more false = refl

  pub kept_then : (ws : List (List Step)) (more : List (List (List Step))) (t : Bool) → t ≡ first_reaches keeps ws →
      group_contours_from n (kept_group keeps ws) ++ group_contours_from (cond t (n + 1) n) more
      ≡ group_contours_from n (kept_group keeps ws ++ more)
  kept_then [] more t is = ap (λ b. group_contours_from (cond b (n + 1) n) more) is
  kept_then (o ∷ hs) more t is =
      ap (λ b. group_contours_from n (kept_group keeps (o ∷ hs)) ++ group_contours_from (cond b (n + 1) n) more) is
      ∙ group_then o (filter keeps hs) more (keeps o)

-- ---- groups by a hand

module _ (hand : Hand) (keeps : List Step → Bool) where
  -- their contours so far; the next outline gets the number n
  pub record AreCutSoFar (groups : List (List Step)) (n : ℕ) (contours : List Contour) : Type 0 where
    pub inside : List (List (List Step))
    pub cut : AllZip (λ g ws. IsCutInto (λ s. hand) g ws) groups inside
    pub ahead : (more : List (List (List Step))) → contours ++ group_contours_from n more
        ≡ group_contours_from 0 (flat_map (kept_group keeps) inside ++ more)

  -- none at first
  pub none_cut : AreCutSoFar [] 0 []
  none_cut = record { inside = []; cut = tt; ahead = λ more. refl }

  -- those of one more group
  pub one_cut : (groups : List (List Step)) (n : ℕ) (contours : List Contour) → AreCutSoFar groups n contours →
      (g : List Step) (t : Bool) (new : List Contour) → AddsCutGroup hand keeps n g t contours new →
      AreCutSoFar (groups ++ g ∷ []) (cond t (n + 1) n) new
  one_cut groups n contours so g t new more = record {
    inside = so.inside ++ more.walks ∷ [];
    cut = AllZip-more (λ h ws. IsCutInto (λ s. hand) h ws) groups so.inside g more.walks so.cut more.cut;
    ahead = λ rest.
        let own = kept_group keeps more.walks in
        let before = flat_map (kept_group keeps) so.inside in
        ap (λ cs. cs ++ group_contours_from (cond t (n + 1) n) rest) more.adds.added
        ∙ append_assoc contours (group_contours_from n own) (group_contours_from (cond t (n + 1) n) rest)
        ∙ ap (λ cs. contours ++ cs) (kept_then keeps n more.walks rest t more.adds.told)
        ∙ so.ahead (own ++ rest)
        ∙ ap (group_contours_from 0) (sym (append_assoc before own rest) ∙ ap (λ gs. gs ++ rest)
        (ap (λ gs. before ++ gs) (sym (append-nil own))
        ∙ sym (flat_map-append (kept_group keeps) so.inside (more.walks ∷ []))));
  }

  -- as the program's groups, the outline kept or dropped
  pub group_cut : {I A : Type 0} (whole : I → ℤ) (groups : List (Vec (StepTaken I) A)) (n : ℕ)
      (contours : List Contour) → AreCutSoFar (plain_walks whole groups) n contours →
      (g : Vec (StepTaken I) A) (t : Bool) (new : List Contour) →
      AddsCutGroup hand keeps n (plain_steps whole g.items) t contours new → (m : ℕ) → cond t (n + 1) n ≡ m →
      AreCutSoFar (plain_walks whole (groups ++ g ∷ [])) m new
  group_cut {I} {A} whole groups n contours so g t new more m is = subst (λ gs. AreCutSoFar gs m new)
      (sym (map-append (λ (w : Vec (StepTaken I) A). plain_steps whole w.items) groups (g ∷ [])))
      (subst (λ k. AreCutSoFar (plain_walks whole groups ++ plain_steps whole g.items ∷ []) k new) is
      (one_cut (plain_walks whole groups) n contours so (plain_steps whole g.items) t new more))

  -- at last all of them
  pub all_cut : (groups : List (List Step)) (n : ℕ) (contours : List Contour) → AreCutSoFar groups n contours →
      AreCutFromGroups hand keeps groups contours
  all_cut groups n contours so = record {
    inside = so.inside;
    cut_inside = so.cut;
    are = sym (append-nil contours) ∙ so.ahead []
        ∙ ap (group_contours_from 0) (append-nil (flat_map (kept_group keeps) so.inside));
  }

-- ---- a walk

-- the role of the next walk of a group
abbrev pub role_after : {X : Type 0} → ℕ → List X → RoleTaken
role_after n [] = Outline n
role_after n (x ∷ xs) = OwnHole n

-- after a walk it is that of a hole
pub role_later : {X : Type 0} (n : ℕ) (xs : List X) (x : X) → OwnHole n ≡ role_after n (xs ++ x ∷ [])
role_later n [] x = refl
role_later n (y ∷ ys) x = refl

module _ {I A : Type 0} (whole : I → ℤ) where
  -- a walk as a contour
  abbrev pub as_contour : RoleTaken → Vec (StepTaken I) A → ContourTaken I A
  as_contour role walk = record { role = role; steps = walk }

  -- the walks of a group as contours
  abbrev pub as_group : ℕ → List (Vec (StepTaken I) A) → List (ContourTaken I A)
  as_group n [] = []
  as_group n (w ∷ ws) = as_contour (Outline n) w ∷ map (as_contour (OwnHole n)) ws

  -- one more of them
  pub group_more : (n : ℕ) (ws : List (Vec (StepTaken I) A)) (w : Vec (StepTaken I) A) →
      as_group n (ws ++ w ∷ []) ≡ as_group n ws ++ as_contour (role_after n ws) w ∷ []
  group_more n [] w = refl
  group_more n (v ∷ vs) w = ap (λ cs. as_contour (Outline n) v ∷ cs) (map-append (as_contour (OwnHole n)) vs (w ∷ []))

  -- as whole numbers
  holes_plain : (n : ℕ) (ws : List (Vec (StepTaken I) A)) → plain_contours whole (map (as_contour (OwnHole n)) ws) ≡ map
      (hole_of_group n) (plain_walks whole ws)
  holes_plain n [] = refl
  holes_plain n (w ∷ ws) = ap (λ cs. hole_of_group n (plain_steps whole w.items) ∷ cs) (holes_plain n ws)

  pub group_plain : (n : ℕ) (ws : List (Vec (StepTaken I) A)) → plain_contours whole (as_group n ws) ≡ contours_of_group
      n (plain_walks whole ws)
  group_plain n [] = refl
  group_plain n (w ∷ ws) = ap (λ cs. outline_of n (plain_steps whole w.items) ∷ cs) (holes_plain n ws)

  pub free_plain : (ws : List (Vec (StepTaken I) A)) → plain_contours whole (map (as_contour FreeHole) ws) ≡ map
      hole_to_bind (plain_walks whole ws)
  free_plain [] = refl
  free_plain (w ∷ ws) = ap (λ cs. hole_to_bind (plain_steps whole w.items) ∷ cs) (free_plain ws)

  -- walks along steps that are long
  pub long_within : (limit : ℕ) (steps : List (StepTaken I)) → All (IsLong limit) (plain_steps whole steps) →
      (ws : List (Vec (StepTaken I) A)) →
      All (λ w. All (Contains steps) w.items) ws → All (All (IsLong limit)) (plain_walks whole ws)
  long_within limit steps long ws within = all_of_entries (All (IsLong limit)) (plain_walks whole ws) walk_long
    where
      step_long : (w : Vec (StepTaken I) A) → All (Contains steps) w.items →
          (s : Step) → Contains (plain_steps whole w.items) s → IsLong limit s
      step_long w inside s c =
          let at = Contains-from_map (plain_step whole) w.items s c in
          subst (IsLong limit) at.2 (All-contains (IsLong limit) (plain_steps whole steps) (plain_step whole at.0) long
          (Contains-map (plain_step whole) steps at.0 (All-contains (Contains steps) w.items at.0 inside at.1)))

      walk_long : (ss : List Step) → Contains (plain_walks whole ws) ss → All (IsLong limit) ss
      walk_long ss c =
          let at = Contains-from_map (λ (w : Vec (StepTaken I) A). plain_steps whole w.items) ws ss c in
          subst (All (IsLong limit)) at.2 (all_of_entries (IsLong limit) (plain_steps whole at.0.items)
          (step_long at.0 (All-contains (λ (w : Vec (StepTaken I) A). All (Contains steps) w.items) ws at.0
          within at.1)))

  -- the first of some walks
  pub first_of_walks : (P : List Step → Type 0) (ws : List (Vec (StepTaken I) A)) (w : Vec (StepTaken I) A) →
      1 ≤ length ws → w ≡ get_or ws 0 w →
      All P (plain_walks whole ws) → P (plain_steps whole w.items)
  first_of_walks P [] w some at all = absurd (omega (arith, some))
  first_of_walks P (v ∷ vs) w some at all = subst (λ u. P (plain_steps whole u.items)) (sym at)
      (All-head P (plain_steps whole v.items) (plain_walks whole vs) all)

  pub first_tells : (keeps : List Step → Bool) (ws : List (Vec (StepTaken I) A)) (w : Vec (StepTaken I) A) →
      1 ≤ length ws → w ≡ get_or ws 0 w →
      first_reaches keeps (plain_walks whole ws) ≡ keeps (plain_steps whole w.items)
  first_tells keeps [] w some at = absurd (omega (arith, some))
  first_tells keeps (v ∷ vs) w some at = ap (λ u. keeps (plain_steps whole u.items)) (sym at)
