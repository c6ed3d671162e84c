-- Lists that begin with others, and a fact on a refusal.
use Rattle.std.proofs.Common.{◌≡◌, ◌++◌, take, length, List, Result, Ok, Err, OnErr, ap, ◌∙◌}
use Rattle.std.proofs.Math.Seq.{take-append_seam}

-- a list to which more was added begins with it
pub begins_with : {X : Type 0} (xs more ys : List X) → ys ≡ xs ++ more → take (length xs) ys ≡ xs
begins_with xs more ys is = ap (take (length xs)) is ∙ take-append_seam xs more

-- a fact is one on a refusal
pub on_refusal : {X E P : Type 0} (answer : Result X E) → P → OnErr answer P
on_refusal (Ok x) holds = tt
on_refusal (Err e) holds = holds
