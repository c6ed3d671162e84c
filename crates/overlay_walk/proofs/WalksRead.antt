-- Walks as whole numbers, as a loop over the walks finds them.
use Rattle.std.proofs.Common.{◌≡◌, ℕ, ◌+◌, ◌<◌, ℤ, List, [], ◌∷◌, ◌++◌, map, All, take, length, get_or, sym, ap, ◌∙◌}
use Rattle.std.proofs.Common.{subst}
use Rattle.std.specs.List.{slice_get}
use Rattle.std.specs.Prelude.{Vec, Some}
use Rattle.std.proofs.lemmas.List.{length-map, map-append}
use Rattle.std.proofs.lemmas.List.Elements.{All-head}
use Rattle.overlay_plane.proofs.Entries.{All-rest}
use Rattle.std.proofs.lemmas.Option.{slice_get_read}
use Rattle.overlay_geom.specs.Plane.{Step}
use Rattle.overlay_geom.proofs.Mapped.{mapped_more, read_mapped, All-mapped_at}
use Rattle.overlay_walk.specs.declared.step.Step.{Step as StepTaken}
use Rattle.overlay_walk.specs.Steps.{plain_steps, IsLong}
use Rattle.overlay_walk.specs.Walks.{plain_walks}

-- the mapped list has the mapped entry at the place of an entry
pub mapped_at : {X Y : Type 0} (f : X → Y) (xs : List X) (k : ℕ) (x : X) (y : Y) → k < length xs → x ≡ get_or xs k x →
    y ≡ f x → slice_get (map f xs) k ≡ Some y
mapped_at f xs k x y inside is same = slice_get_read (map f xs) (length xs) k y (sym (length-map xs f)) inside
    (same ∙ sym (read_mapped f xs k x y inside is))

-- the walk at whole numbers
abbrev at_numbers : {I A : Type 0} → (I → ℤ) → Vec (StepTaken I) A → List Step
at_numbers whole v = plain_steps whole v.items

module _ {I A : Type 0} (whole : I → ℤ) (ws : List (Vec (StepTaken I) A)) (k : ℕ) (w : Vec (StepTaken I) A)
    (inside : k < length ws)
    (is : w ≡ get_or ws k w) where
  -- the walks read, with one more
  pub walks_more : plain_walks whole (take (k + 1) ws) ≡ plain_walks whole (take k ws) ++ plain_steps whole w.items ∷ []
  walks_more = mapped_more (at_numbers whole) ws k w inside is

  -- the walk at the place is the walk read there
  pub walk_read : (d : List Step) → get_or (plain_walks whole ws) k d ≡ plain_steps whole w.items
  walk_read d = read_mapped (at_numbers whole) ws k w d inside is

  -- a fact of all walks holds of it
  pub walk_has : (P : List Step → Type 0) → All P (plain_walks whole ws) → P (plain_steps whole w.items)
  walk_has P all = All-mapped_at P (at_numbers whole) ws k w inside is all

module _ {I A : Type 0} (whole : I → ℤ) where
  -- the steps read stand at the walk's place
  pub walk_at : (ws : List (Vec (StepTaken I) A)) (k : ℕ) (w : Vec (StepTaken I) A) (ss : List (StepTaken I)) →
      k < length ws → w ≡ get_or ws k w →
      ss ≡ w.items → slice_get (plain_walks whole ws) k ≡ Some (plain_steps whole ss)
  walk_at ws k w ss inside is same =
      mapped_at (at_numbers whole) ws k w (plain_steps whole ss) inside is (ap (plain_steps whole) same)

  -- the steps of the walk are long, if those of all walks are
  pub long_walk : (limit : ℕ) (ws : List (Vec (StepTaken I) A)) (k : ℕ) (w : Vec (StepTaken I) A)
      (ss : List (StepTaken I)) → k < length ws →
      w ≡ get_or ws k w → ss ≡ w.items → All (All (IsLong limit)) (plain_walks whole ws) →
      All (IsLong limit) (plain_steps whole ss)
  long_walk limit ws k w ss inside is same long =
      subst (λ us. All (IsLong limit) (plain_steps whole us)) (sym same)
      (walk_has whole ws k w inside is (All (IsLong limit)) long)

-- a fact of all walks holds of one that stands among them
pub walk_among : {I A : Type 0} (whole : I → ℤ) (ws before : List (Vec (StepTaken I) A)) (w : Vec (StepTaken I) A)
    (rest : List (Vec (StepTaken I) A)) →
    ws ≡ before ++ w ∷ rest → (P : List Step → Type 0) → All P (plain_walks whole ws) → P (plain_steps whole w.items)
walk_among whole ws before w rest is P all =
    All-head P (plain_steps whole w.items) (plain_walks whole rest)
    (All-rest P (plain_walks whole before) (plain_steps whole w.items ∷ plain_walks whole rest)
    (subst (All P) (ap (plain_walks whole) is ∙ map-append (at_numbers whole) before (w ∷ rest)) all))
