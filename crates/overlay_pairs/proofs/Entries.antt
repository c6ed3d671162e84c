-- The entry at a place of a list: there is one, and it stands there in a mapped list too.
use Rattle.std.proofs.Common.{◌≡◌, ℕ, ◌<◌, List, length}
use Rattle.std.proofs.Common.{map}
use Rattle.std.proofs.Common.{get_or, sym, ◌∙◌, arith}
use Rattle.std.proofs.lemmas.List.{get_or_default, length-map}
use Rattle.overlay_geom.proofs.Mapped.{read_mapped}
use Rattle.overlay_pairs.specs.Places.{IsAt}

-- at one place stands one entry
pub one_entry : {X : Type 0} (xs : List X) (i : ℕ) (x y : X) → IsAt xs i x → IsAt xs i y → x ≡ y
one_entry xs i x y at_x at_y = sym at_x.1 ∙ get_or_default xs i x y at_x.0 ∙ at_y.1

-- an entry of a list that is read stands there in the mapped list
pub placed_in_mapped : {X Y : Type 0} (f : X → Y) (xs : List X) (i : ℕ) (x : X) → i < length xs → x ≡ get_or xs i x →
    IsAt (map f xs) i (f x)
placed_in_mapped f xs i x within is = (
  let count = length-map xs f in
      omega (arith, within),
  read_mapped f xs i x (f x) within is,
)
