-- A point is rounded unless all are whole.
use Rattle.std.proofs.Common.{◌≡◌, Bool, true, false, not, refl, sym, ap}
use Rattle.overlay_arrange.proofs.content.Content.cut_at.Goals as goal

-- the negation of whole is rounded
not_false : (b : Bool) → not b ≡ false → b ≡ true
not_false true same = refl
not_false false same = sym same

pub returns-clause-rounded : goal.returns-clause-rounded
returns-clause-rounded g c =
    let law = rw c.edges.ensures.plain at c.are_whole-is_whole.ensures in (
      λ none. law.0 (not_false c.are_whole-is_whole.result none),
      λ whole. ap not (law.1 whole),
    )
