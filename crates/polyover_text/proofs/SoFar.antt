-- What the program holds while it goes through the lines of an input.
use Rattle.std.proofs.Common.{◌≡◌, ℕ, ◌+◌, ◌≤◌, ◌==◌, Bool, true, false, cond, List, [], ◌∷◌, ◌++◌, Option, Some, None}
use Rattle.std.proofs.Common.{map, take}
use Rattle.std.proofs.Common.{length, length-append, refl, sym, ap, subst, ◌∙◌, append_assoc, append-nil, inl, inr}
use Rattle.std.proofs.Common.{arith}
use Rattle.std.specs.List.{slice_split}
use Rattle.std.specs.Str.Lines.{lines, lines_of_parts}
use Rattle.std.proofs.lemmas.List.{length-map, take_at}
use Rattle.std.proofs.lemmas.List.Sums.{count_by-le-length}
use Rattle.std.proofs.lemmas.List.Splits.{length-slice_split}
use Rattle.polyover_text.specs.declared.query.NumberedQuery.{NumberedQuery}
use Rattle.polyover_text.specs.declared.input.Reading.{Reading}
use Rattle.polyover_text.specs.Grammar.{Line, words, input_lines, GivenFigures, no_figures, AreFigures, AsksAt, none}
use Rattle.polyover_text.specs.Grammar.{IsGoodSoFar, IsFirstBad, bad, missing}
use Rattle.polyover_text.specs.Inputs.{Give, HasRead, RefusesLine}
use Rattle.polyover_text.specs.Statements.{figures_at}

-- the first n lines are read, and these are left
pub record HasReadSoFar {A : Type 0} (all : List Line) (left : List (List ℕ)) (n : ℕ) (r : Reading A) : Type 0 where
  pub done : List Line
  pub parts : all ≡ done ++ map words left
  pub counted : n ≡ length done
  pub read : HasRead done r

pub nothing_read : {A : Type 0} (all : List Line) (left : List (List ℕ)) (r : Reading A) → all ≡ map words left →
    figures_at r.figures ≡ no_figures
    → r.command ≡ None → HasReadSoFar all left 0 r
nothing_read all left r parts empty no_command = record {
  done = [];
  parts = parts;
  counted = refl;
  read = subst (Give [] (figures_at r.figures)) (sym no_command) (subst (AreFigures 1 []) (sym empty) none);
}

-- what was read is good so far
good_so_far : (ls : List Line) (fs : GivenFigures) (command : Option NumberedQuery) → Give ls fs command
    → IsGoodSoFar ls
good_so_far ls fs None h = inl (fs, h)
good_so_far ls fs (Some asked) h = inr (fs, (asked.query, h.asks))

-- the line that is refused is the first bad one
pub first_bad : {A : Type 0} (all : List Line) (left rest : List (List ℕ)) (line : List ℕ) (n : ℕ) (r : Reading A)
    → HasReadSoFar all left n r → left ≡ line ∷ rest → RefusesLine (words line) r → IsFirstBad all (n + 1)
first_bad all left rest line n r h next refused =
    let more = h.done ++ words line ∷ [] in
    let parts : all ≡ h.done ++ (words line ∷ map words rest) = h.parts ∙ ap (λ l. h.done ++ map words l) next in
    let longer : all ≡ more ++ map words rest = parts ∙ sym (append_assoc h.done (words line ∷ []) (map words rest)) in
    let before : take n all ≡ h.done = ap (take n) parts ∙ take_at h.done (words line ∷ map words rest) n
    (sym h.counted) in
    let count : length more ≡ n + 1 = omega (arith, h.counted, length-append h.done (words line ∷ [])) in
    let after : take (n + 1) all ≡ more = ap (take (n + 1)) longer ∙ take_at more (map words rest) (n + 1) count in
    bad (omega (arith, count, ap length longer, length-append more (map words rest)))
    (subst IsGoodSoFar (sym before) (good_so_far h.done (figures_at r.figures) r.command h.read))
    (λ good. refused.refuses h.done h.read (subst IsGoodSoFar after good))

-- where no line is left, all are read
all_lines : {A : Type 0} (all : List Line) (left : List (List ℕ)) (n : ℕ) (r : Reading A)
    (h : HasReadSoFar all left n r) → left ≡ [] → all ≡ h.done
all_lines all left n r h ended = h.parts ∙ ap (λ l. h.done ++ map words l) ended ∙ append-nil h.done

-- without a command the line after the last is bad
pub command_missing : {A : Type 0} (all : List Line) (left : List (List ℕ)) (n : ℕ) (r : Reading A)
    → HasReadSoFar all left n r → left ≡ [] → r.command ≡ None → IsFirstBad all (n + 1)
command_missing all left n r h ended no_command =
    let whole = all_lines all left n r h ended in
    let count : length all ≡ n = ap length whole ∙ sym h.counted in
    subst (λ k. IsFirstBad all (k + 1)) count
    (missing (subst (λ l. AreFigures 1 l (figures_at r.figures)) (sym whole)
    (subst (Give h.done (figures_at r.figures)) no_command h.read)))

-- and with one it is asked in its line
pub command_found : {A : Type 0} (all : List Line) (left : List (List ℕ)) (n : ℕ) (r : Reading A)
    (asked : NumberedQuery)
    → HasReadSoFar all left n r → left ≡ [] → r.command ≡ Some asked
    → AsksAt all (figures_at r.figures) asked.line asked.query
command_found all left n r asked h ended found =
    subst (λ ls. AsksAt ls (figures_at r.figures) asked.line asked.query) (sym (all_lines all left n r h ended))
    (subst (Give h.done (figures_at r.figures)) found h.read)

last_line_le : (x : List ℕ) (b : Bool) → length (cond b [] (x ∷ [])) ≤ 1
last_line_le x true = omega arith
last_line_le x false = omega arith

-- there are not many more lines than bytes
lines_of_parts_le : (parts : List (List ℕ)) → length (lines_of_parts parts) ≤ length parts
lines_of_parts_le [] = omega arith
lines_of_parts_le (x ∷ []) = last_line_le x (length x == 0)
lines_of_parts_le (x ∷ y ∷ parts) = omega (arith, lines_of_parts_le (y ∷ parts))

length-input_lines-le : (bytes : List ℕ) → length (input_lines bytes) ≤ length bytes + 1
length-input_lines-le bytes =
    let parts = slice_split (λ b. b == 10) bytes in
    omega (
      arith,
      length-map (lines bytes) words,
      lines_of_parts_le parts,
      length-slice_split (λ (b : ℕ). b == 10) bytes,
      count_by-le-length (λ (b : ℕ). b == 10) bytes,
    )

-- the lines read are not many more than the bytes
pub count_read : {A : Type 0} (bytes : List ℕ) (left : List (List ℕ)) (n : ℕ) (r : Reading A) →
    HasReadSoFar (input_lines bytes) left n r → n ≤ length bytes + 1
count_read bytes left n r h = omega (
  arith,
  h.counted,
  ap length h.parts,
  length-append h.done (map words left),
  length-input_lines-le bytes,
)
