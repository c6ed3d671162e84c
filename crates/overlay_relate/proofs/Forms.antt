-- Lists of values in other forms, each read back at a place.
use Rattle.std.proofs.Common.{◌≡◌, ◌<◌, ℕ, List, length, map, get_or, sym, ◌∙◌}
use Rattle.std.specs.List.{All}
use Rattle.std.proofs.lemmas.List.{length-map}
use Rattle.overlay_geom.proofs.Mapped.{read_mapped, All-mapped_at}

-- what stands at a place of a list of values in a form, read back and mapped
pub form_at : {X Y Z : Type 0} (f : Y → Z) (meant : X → Y) (xs : List X) (i : ℕ) (x : X) (y : Y) → i < length xs →
    x ≡ get_or xs i x → y ≡ meant x → get_or (map f (map meant xs)) i (f y) ≡ f y
form_at f meant xs i x y lt is same = read_mapped f (map meant xs) i y (f y) (rw length-map lt)
    (same ∙ sym (read_mapped meant xs i x y lt is))

-- so a fact of all holds of it
pub all_at : {X Y Z : Type 0} (P : Z → Type 0) (f : Y → Z) (meant : X → Y) (xs : List X) (i : ℕ) (x : X) (y : Y) →
    i < length xs → x ≡ get_or xs i x → y ≡ meant x → All P (map f (map meant xs)) → P (f y)
all_at P f meant xs i x y lt is same = All-mapped_at P f (map meant xs) i y (rw length-map lt)
    (same ∙ sym (read_mapped meant xs i x y lt is))
