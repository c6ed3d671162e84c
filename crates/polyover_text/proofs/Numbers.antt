-- Numbers of the grammar as `parse` reads them: without a plus sign, those whose bytes after any minus sign are digits.
use Rattle.std.proofs.Common.{FitsSigned, w64, negsuc, ◌≡◌, ◌≢◌, ℕ, ◌<◌, ◌≤◌, ◌==◌, Bool, true, false, not, ℤ, pos}
use Rattle.std.proofs.Common.{List, [], ◌∷◌, length, get_or, refl, sym, ap, ◌∙◌, subst, arith, inl, inr, lit<}
use Rattle.std.proofs.lemmas.Int.{ints}
use Rattle.std.specs.Int.{w128, IsInRange, IsOutOfRange}
use Rattle.std.specs.Prelude.{Result, Ok, Err, MatchOption, OkIff, unsigned_abs, neg_ℤ, ◌≤ℤ◌, ◌↔◌}
use Rattle.std.specs.Result.{result_ok}
use Rattle.overlay_geom.specs.Numbers.{Within}
use Rattle.std.specs.Str.{IsUtf8}
use Rattle.std.specs.Str.Parse.{AllDigits, IsNumeral, digits_value, without_leading_sign, signed_digits_value}
use Rattle.std.proofs.lemmas.Bool.{cases_eq, false≢true}
use Rattle.std.proofs.lemmas.Bool.Decides.{nat_tests}
use Rattle.std.proofs.lemmas.Fmt.{IsAscii-from_digits}
use Rattle.std.proofs.lemmas.Str.{IsUtf8-from_ascii}
use Rattle.std.proofs.lemmas.Str.Ascii.{IsAscii-cons}
use Rattle.std.proofs.lemmas.Str.Parse.{digit_at, tells_digits}
use Rattle.polyover_text.specs.Grammar.{Word, IsNumber, plain, negative, IsArea, IsCoordinate, IsSide, within, beyond}

-- a numeral begins with a digit
first_of_numeral : (digits : List ℕ) → IsNumeral 10 digits → (48 ≤ get_or digits 0 0) × (get_or digits 0 0 ≤ 57)
first_of_numeral digits h = digit_at digits 0 h.1 h.0

-- a number is a text
pub number_is_text : (word : Word) (c : ℤ) → IsNumber word c → IsUtf8 word
number_is_text digits c (plain h) = IsUtf8-from_ascii digits (IsAscii-from_digits digits h.1)
number_is_text (b ∷ digits) c (negative h) = IsUtf8-from_ascii (b ∷ digits)
    (IsAscii-cons b digits (lit< tt) (IsAscii-from_digits digits h.1))

-- what a number says of its word
pub record IsSignedNumeral (word : Word) (c : ℤ) : Type 0 where
  pub no_plus : get_or word 0 0 ≢ 43
  pub numeral : IsNumeral 10 (without_leading_sign word)
  pub value : c ≡ signed_digits_value 10 word

-- where the first byte is no sign, no sign is dropped
no_sign_dropped : (word : Word) → get_or word 0 0 ≢ 45 → get_or word 0 0 ≢ 43 → without_leading_sign word ≡ word
no_sign_dropped word no_minus no_plus =
    let minus : (get_or word 0 0 == 45) ≡ false = grind (arith, nat_tests) in
    let plus : (get_or word 0 0 == 43) ≡ false = grind (arith, nat_tests) in
    rw (minus, plus) refl

plain_value : (word : Word) → get_or word 0 0 ≢ 45 → get_or word 0 0 ≢ 43 →
    signed_digits_value 10 word ≡ pos (digits_value 10 word)
plain_value word no_minus no_plus =
    let minus : (get_or word 0 0 == 45) ≡ false = grind (arith, nat_tests) in
    let plus : (get_or word 0 0 == 43) ≡ false = grind (arith, nat_tests) in
    rw (minus, plus) refl

pub number_is_numeral : (word : Word) (c : ℤ) → IsNumber word c → IsSignedNumeral word c
number_is_numeral digits c (plain h) =
    let first = first_of_numeral digits h in
    let no_plus : get_or digits 0 0 ≢ 43 = omega arith in
    let no_minus : get_or digits 0 0 ≢ 45 = omega arith in
    record {
      no_plus = no_plus;
      numeral = subst (IsNumeral 10) (sym (no_sign_dropped digits no_minus no_plus)) h;
      value = sym (plain_value digits no_minus no_plus);
    }
number_is_numeral (b ∷ digits) c (negative h) = record { no_plus = omega arith; numeral = h; value = refl }

negative_numeral : (digits : List ℕ) (c : ℤ) → IsSignedNumeral (45 ∷ digits) c → IsNumber (45 ∷ digits) c
negative_numeral digits c h = subst (IsNumber (45 ∷ digits)) (sym h.value) (negative h.numeral)

plain_numeral : (word : Word) (c : ℤ) → IsSignedNumeral word c → get_or word 0 0 ≢ 45 → IsNumber word c
plain_numeral word c h no_minus =
    subst (IsNumber word) (sym (h.value ∙ plain_value word no_minus h.no_plus))
    (plain (subst (IsNumeral 10) (no_sign_dropped word no_minus h.no_plus) h.numeral))

pub numeral_is_number : (word : Word) (c : ℤ) → IsSignedNumeral word c → IsNumber word c
numeral_is_number [] c h = absurd (omega (arith, h.numeral.0))
numeral_is_number (b ∷ digits) c h = elim (cases_eq b 45) [
  | inl minus ↦ subst (λ x. IsNumber (x ∷ digits) c) (sym minus)
      (negative_numeral digits c (subst (λ x. IsSignedNumeral (x ∷ digits) c) minus h))
  | inr no_minus ↦ plain_numeral (b ∷ digits) c h no_minus
]

-- a number is a text that `parse` reads
pub text_of_number : (word text : List ℕ) (c : ℤ) → text ≡ word → IsNumber word c → IsSignedNumeral text c
text_of_number word text c same h = subst (λ w. IsSignedNumeral w c) (sym same) (number_is_numeral word c h)

-- a text that begins with a plus sign is no number
pub plus_begins_no_number : (word text : List ℕ) → text ≡ word → true ≡ (get_or text 0 0 == 43)
    → (c : ℤ) → ¬ (IsNumber word c)
plus_begins_no_number word text same test c h =
    let plus : get_or text 0 0 ≡ 43 = grind (arith, nat_tests) in
    (text_of_number word text c same h).no_plus plus

-- a text that does not begin with a plus sign and that `parse` reads is a number
pub parsed_is_number : (word text : List ℕ) (c : ℤ) → text ≡ word → get_or text 0 0 ≢ 43
    → IsNumeral 10 (without_leading_sign text) → c ≡ signed_digits_value 10 text → IsNumber word c
parsed_is_number word text c same no_plus digits value =
    subst (λ w. IsNumber w c) same
    (numeral_is_number text c (record { no_plus = no_plus; numeral = digits; value = value }))

-- ---- coordinates

-- a coordinate fits 64 bits
pub coordinate_fits : (c : ℤ) → Within 4611686018427387903 c → FitsSigned w64 c
coordinate_fits (pos n) h = record { sfits = omega (arith, ints, h.high) }
coordinate_fits (negsuc n) h = record { sfits = omega (arith, ints, h.low) }

-- ---- areas

-- a text is an area where `parse` reads it as a number that is not negative
pub area_read : {E : Type 0} (word text : List ℕ) (z : ℤ) (r : Result ℕ E) → text ≡ word → get_or text 0 0 ≢ 43
    → IsNumeral 10 (without_leading_sign text) → FitsSigned w128 z → z ≡ signed_digits_value 10 text
    → OkIff r (pos 0 ≤ℤ z) (unsigned_abs z)
    → MatchOption (result_ok r) ((n : ℕ) → ¬ (IsArea word n)) (λ n. IsArea word n)
area_read word text (pos m) (Ok n) same no_plus digits fits value read =
    subst (IsArea word) (sym read.1)
    (record { number = parsed_is_number word text (pos m) same no_plus digits value; in_range = fits.sfits })
area_read word text (negsuc m) (Ok n) same no_plus digits fits value read = absurd (omega (arith, ints, read.0))
area_read word text z (Err e) same no_plus digits fits value below_zero = λ n h.
    let same_number : z ≡ pos n = value ∙ sym (text_of_number word text (pos n) same h.number).value in
    below_zero (subst (λ v. pos 0 ≤ℤ v) (sym same_number) (omega (arith, ints)))

-- ---- numbers of whatever size

-- whether bytes are digits is told by those that are left
abbrev pub TellsDigits : List ℕ → List ℕ → Type 0
TellsDigits bytes left = AllDigits 10 bytes ↔ AllDigits 10 left

-- the first of them is one, and the others are left
pub digit_passed : (bytes left : List ℕ) (b : ℕ) (rest : List ℕ) → TellsDigits bytes left → left ≡ b ∷ rest
    → IsInRange 48 57 b → TellsDigits bytes rest
digit_passed bytes left b rest told parts digit = (
  λ all. (tells_digits.parts b rest (subst (AllDigits 10) parts (told.0 all))).1,
  λ all. told.1 (subst (AllDigits 10) (sym parts) (tells_digits.more b rest digit all)),
)

-- or it is none
pub digit_lacks : (bytes left : List ℕ) (b : ℕ) (rest : List ℕ) → TellsDigits bytes left → left ≡ b ∷ rest
    → IsOutOfRange 48 57 b → ¬ (IsNumeral 10 bytes)
digit_lacks bytes left b rest told parts (inl low) h =
    let digit = (tells_digits.parts b rest (subst (AllDigits 10) parts (told.0 h.1))).0 in
    omega (arith, digit.0)
digit_lacks bytes left b rest told parts (inr high) h =
    let digit = (tells_digits.parts b rest (subst (AllDigits 10) parts (told.0 h.1))).0 in
    omega (arith, digit.1)

-- and where none is left they are digits
digits_told : (bytes left : List ℕ) → TellsDigits bytes left → length left ≡ 0 → AllDigits 10 bytes
digits_told bytes [] told ended = told.1 tt
digits_told bytes (b ∷ left) told ended = absurd (omega (arith, ended))

pub numeral_told : (bytes left : List ℕ) (empty : Bool) → TellsDigits bytes left → length left ≡ 0
    → empty ≡ (length bytes == 0) → (not empty ≡ true) ↔ IsNumeral 10 bytes
numeral_told bytes left true told ended tested =
    let none : length bytes ≡ 0 = grind (arith, nat_tests) in
    (λ no. absurd (false≢true no), λ h. absurd (omega (arith, none, h.0)))
numeral_told bytes left false told ended tested =
    let some : length bytes ≢ 0 = grind (arith, nat_tests) in
    (λ _. (omega arith, digits_told bytes left told ended), λ _. refl)

-- a number has a byte
pub number_has_byte : (word : Word) (c : ℤ) → IsNumber word c → 0 < length word
number_has_byte digits c (plain h) = h.0
number_has_byte (b ∷ digits) c (negative h) = omega arith

-- after a minus sign it is its digits, and without one it is digits
pub after_minus : (word : Word) (b : ℕ) (digits : List ℕ) → word ≡ b ∷ digits → b ≡ 45
    → ((c : ℤ) × IsNumber word c) ↔ IsNumeral 10 digits
after_minus word b digits parts minus =
    let whole : word ≡ 45 ∷ digits = parts ∙ ap (λ x. x ∷ digits) minus in (
      λ h. (number_is_numeral (45 ∷ digits) h.0 (subst (λ w. IsNumber w h.0) whole h.1)).numeral,
      λ h. (
        neg_ℤ (pos (digits_value 10 digits)),
        subst (λ w. IsNumber w (neg_ℤ (pos (digits_value 10 digits)))) (sym whole) (negative h),
      ),
    )

pub without_minus : (word : Word) → get_or word 0 0 ≢ 45 → ((c : ℤ) × IsNumber word c) ↔ IsNumeral 10 word
without_minus word no_minus = (
  λ h. let numeral = number_is_numeral word h.0 h.1 in
      subst (IsNumeral 10) (no_sign_dropped word no_minus numeral.no_plus) numeral.numeral,
  λ h. (pos (digits_value 10 word), plain h),
)

-- a number that is no coordinate is out of range
pub side_beyond : (word : Word) → ((c : ℤ) → ¬ (IsCoordinate word c)) → (c : ℤ) × IsNumber word c → IsSide word (pos 0)
side_beyond word none number = beyond number.1
    (λ inside. none number.0 (record { number = number.1; in_range = inside }))

-- and a word that is neither writes no side
pub no_side : (word : Word) → ((c : ℤ) → ¬ (IsCoordinate word c)) → ¬ ((c : ℤ) × IsNumber word c) → (side : ℤ)
    → ¬ (IsSide word side)
no_side word none no_number side (within h) = none side h
no_side word none no_number side (beyond h outside) = no_number (_, h)

-- a side fits 64 bits
pub side_fits : (word : Word) (side : ℤ) → IsSide word side → FitsSigned w64 side
side_fits word side (within h) = coordinate_fits side h.in_range
side_fits word side (beyond h outside) = record { sfits = lit< tt }
