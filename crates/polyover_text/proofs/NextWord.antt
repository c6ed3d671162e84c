-- The words of a text, by the part before its first space.
use Rattle.std.proofs.Common.{◌≡◌, ℕ, ◌==◌, Bool, true, false, not, List, [], ◌∷◌, Option, MatchOption, length, filter}
use Rattle.std.proofs.Common.{refl, sym, ap, ◌∙◌, Bor}
use Rattle.std.specs.Bool.{then_some}
use Rattle.std.specs.List.{slice_split}
use Rattle.polyover_text.specs.declared.words.Words.{Words}
use Rattle.polyover_text.specs.Grammar.{Word, Line, words, is_nonempty}
use Rattle.polyover_text.specs.Words.{words_left}

empty_part : (word : Word) (parts : Line) → (length word == 0) ≡ true →
    filter is_nonempty (word ∷ parts) ≡ filter is_nonempty parts
empty_part word parts e = rw e refl

part_with_byte : (word : Word) (parts : Line) → (length word == 0) ≡ false →
    filter is_nonempty (word ∷ parts) ≡ word ∷ filter is_nonempty parts
part_with_byte word parts e = rw e refl

-- an empty part is passed over
pub empty_word_passed : (text word rest : List ℕ) → slice_split (λ b. b == 32) text ≡ word ∷ slice_split
    (λ b. b == 32) rest → true ≡ (length word == 0)
    → words rest ≡ words text
empty_word_passed text word rest parts empty = sym (ap (filter is_nonempty) parts
    ∙ empty_part word (slice_split (λ b. b == 32) rest) (sym empty))

-- another one is the first word
pub first_word : (text word rest : List ℕ) → slice_split (λ b. b == 32) text ≡ word ∷ slice_split (λ b. b == 32) rest →
    false ≡ (length word == 0)
    → words text ≡ word ∷ words rest
first_word text word rest parts some = ap (filter is_nonempty) parts
    ∙ part_with_byte word (slice_split (λ b. b == 32) rest) (sym some)

-- without a space the whole text is its one word, or it has none
pub only_word : (old : Words) (text : Bor (List ℕ)) (e : Bool) (r : Option (Bor (List ℕ))) →
    words_left old ≡ words text.now
    → slice_split (λ b. b == 32) text.now ≡ text.now ∷ [] → e ≡ (length text.now == 0) → r ≡ then_some (not e) text
    → MatchOption r ((words_left old ≡ []) × (words [] ≡ [])) (λ word. words_left old ≡ word.now ∷ words [])
only_word old text true r left part empty none = rw none (
  left ∙ ap (filter is_nonempty) part
      ∙ empty_part text.now [] (sym empty),
  refl,
)
only_word old text false r left part some one = rw one (left ∙ ap (filter is_nonempty) part
    ∙ part_with_byte text.now [] (sym some))
