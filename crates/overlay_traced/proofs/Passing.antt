-- An edge has its given edges as it lies on itself.
use Rattle.std.proofs.Common.{◌≡◌, Bool, true, false, List, [], ◌∷◌, map, refl, ap, ◌∙◌}
use Rattle.std.specs.Prelude.{◌||◌}
use Rattle.overlay_traced.specs.Marks.{passed_on}
use Rattle.overlay_traced.specs.declared.source.Passage.{Passage}
use Rattle.overlay_traced.specs.declared.source.Source.{Source}

or_false : (b : Bool) → (b || false) ≡ b
or_false true = refl
or_false false = refl

abbrev pub along : Passage
along = record { is_cut = false; is_reversed = false }

-- passing them on along the edge changes nothing
pub all_along : (ss : List Source) → map (passed_on along) ss ≡ ss
all_along [] = refl
all_along (s ∷ ss) =
    ap (λ b. record { edge = s.edge; is_cut = b; is_reversed = s.is_reversed } ∷ map (passed_on along) ss)
    (or_false s.is_cut)
    ∙ ap (λ k. s ∷ k) (all_along ss)
