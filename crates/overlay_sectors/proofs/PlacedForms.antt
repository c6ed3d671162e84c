-- Values in other forms at their places in a list.
use Rattle.std.proofs.Common.{◌≡◌, ◌<◌, ℕ, List, length, map, get_or}
use Rattle.std.proofs.lemmas.List.{length-map}
use Rattle.overlay_pairs.specs.Places.{IsAt}
use Rattle.overlay_relate.proofs.Forms.{form_at}

-- a value in a form, read back and mapped, stands at its place in the list of those
pub placed_form : {X Y Z : Type 0} (f : Y → Z) (meant : X → Y) (xs : List X) (i : ℕ) (x : X) (y : Y) → i < length xs →
    x ≡ get_or xs i x → y ≡ meant x → IsAt (map f (map meant xs)) i (f y)
placed_form f meant xs i x y lt is same = (rw (length-map, length-map) lt, form_at f meant xs i x y lt is same)
