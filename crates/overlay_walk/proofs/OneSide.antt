-- The step of an edge with the region on exactly one side; other edges have none.
use Rattle.std.proofs.Common.{◌≡◌, Bool, true, false, not, cond, List, [], ◌∷◌, refl, sym, ap, ◌∙◌}
use Rattle.std.proofs.lemmas.Bool.{false≢true}
use Rattle.std.specs.Bool.{beq}
use Rattle.overlay_geom.specs.Plane.{Step}
use Rattle.overlay_plane.specs.Turn.{Hand, is_left_hand}

-- the step by the two sides, where there is one
abbrev by_sides : Hand → (Bool → Step) → Bool → Bool → List Step
by_sides filled step above below = cond (cond above (not below) below)
    (step (cond (is_left_hand filled) above below) ∷ []) []

-- where both sides are alike there is none
none_alike : (filled : Hand) (step : Bool → Step) (above below : Bool) → beq above below ≡ true →
    [] ≡ by_sides filled step above below
none_alike filled step true true alike = refl
none_alike filled step false false alike = refl
none_alike filled step true false alike = absurd (false≢true alike)
none_alike filled step false true alike = absurd (false≢true alike)

-- where they differ there is one
one_between : (filled : Hand) (step : Bool → Step) (above below : Bool) → beq above below ≡ false
    → step (cond (is_left_hand filled) above below) ∷ [] ≡ by_sides filled step above below
one_between filled step true false differ = refl
one_between filled step false true differ = refl
one_between filled step true true differ = absurd (false≢true (sym differ))
one_between filled step false false differ = absurd (false≢true (sym differ))

module _ (filled : Hand) (step : Bool → Step) (a b above below : Bool) (is_above : a ≡ above)
    (is_below : b ≡ below) where
  pub no_step : beq a b ≡ true → [] ≡ by_sides filled step above below
  no_step alike = none_alike filled step a b alike ∙ ap (λ t. by_sides filled step t b) is_above
      ∙ ap (by_sides filled step above) is_below

  pub one_step : (goes : Bool) (s : Step) → beq a b ≡ false → goes ≡ cond (is_left_hand filled) a b → s ≡ step goes →
      s ∷ [] ≡ by_sides filled step above below
  one_step goes s differ along is =
      ap (λ t. t ∷ []) (is ∙ ap step along) ∙ one_between filled step a b differ
      ∙ ap (λ t. by_sides filled step t b) is_above ∙ ap (by_sides filled step above) is_below
