-- The first line of a text, when its parts between line feeds are known.
use Rattle.std.proofs.Common.{◌≡◌, ℕ, ◌<◌, ◌==◌, Bool, true, false, not, cond, List, [], ◌∷◌, Option, MatchOption}
use Rattle.std.proofs.Common.{length, refl, ap, ◌∙◌, arith, Bor}
use Rattle.std.specs.Bool.{then_some}
use Rattle.std.specs.List.{slice_split}
use Rattle.std.specs.Str.Lines.{lines, lines_of_parts, strip_carriage_return}
use Rattle.std.proofs.lemmas.List.Splits.{length-slice_split}
use Rattle.polyover_text.specs.declared.lines.Lines.{Lines}
use Rattle.polyover_text.specs.Lines.{lines_left}

-- a part that another one follows is a line, less its carriage return
lines_of_parts_first : (x : List ℕ) (parts : List (List ℕ)) → 0 < length parts →
    lines_of_parts (x ∷ parts) ≡ strip_carriage_return x ∷ lines_of_parts parts
lines_of_parts_first x [] h = absurd (omega arith)
lines_of_parts_first x (y ∷ parts) h = refl

-- the first line ends at the first LF
pub lines_first : (text line rest : List ℕ) → slice_split (λ b. b == 10) text ≡ line ∷ slice_split (λ b. b == 10) rest
    → lines text ≡ strip_carriage_return line ∷ lines rest
lines_first text line rest e =
    let some : 0 < length (slice_split (λ b. b == 10) rest) = omega
    (arith, length-slice_split (λ (b : ℕ). b == 10) rest) in
    ap lines_of_parts e ∙ lines_of_parts_first line (slice_split (λ b. b == 10) rest) some

part_alone : (x : List ℕ) (e : Bool) → e ≡ (length x == 0) → lines_of_parts (x ∷ []) ≡ cond e [] (x ∷ [])
part_alone x e same = rw same refl

-- without LF the whole text is its one line, or it has none
pub only_line : (old : Lines) (text : Bor (List ℕ)) (e : Bool) (r : Option (Bor (List ℕ))) →
    lines_left old ≡ lines text.now
    → slice_split (λ b. b == 10) text.now ≡ text.now ∷ [] → e ≡ (length text.now == 0) → r ≡ then_some (not e) text
    → MatchOption r ((lines_left old ≡ []) × (lines [] ≡ [])) (λ line. lines_left old ≡ line.now ∷ lines [])
only_line old text true r left part empty none = rw none (
  left ∙ ap lines_of_parts part
      ∙ part_alone text.now true empty,
  refl,
)
only_line old text false r left part some one = rw one (left ∙ ap lines_of_parts part ∙ part_alone text.now false some)
