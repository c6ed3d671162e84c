-- The spoke met between two others, by the signs of the turns between their edges and by whether each starts or ends in
-- the node. This is a table, checked entry by entry.
use Rattle.std.proofs.Common.{◌≡◌, ℕ, Bool, true, false, not, cond, ◌&&◌, ◌||◌, ◌==◌, nat_lt, ℤ, pos, ◌+ℤ◌, ◌-ℤ◌, neg_ℤ}
use Rattle.std.proofs.Common.{◌<ℤ◌, int_lt, refl, sym, ap, ap₂, ◌∙◌}
use Rattle.std.proofs.lemmas.Bool.{and_parts, false≢true}
use Rattle.std.proofs.lemmas.Bool.Decides.{Decides-int_eq}
use Rattle.std.specs.Ordering.{int_eq}
use Rattle.overlay_geom.proofs.Signs.{linear, by_sign}
use Rattle.overlay_plane.specs.Regions.{one_if}
use Rattle.overlay_plane.proofs.Tests.{test_from_lt, test_from_ge}
use Rattle.overlay_plane.proofs.TurnOrder.{part_at, part_early, part_late, part_opposite, part_again}

-- whether a number is below 0, 0, or above 0
pub data Sign : Type 0 where
  minus : Sign
  level : Sign
  plus : Sign

-- the sign of a number
abbrev pub sign_at : ℤ → Sign
sign_at z = cond (int_lt (pos 0) z) plus (cond (int_lt z (pos 0)) minus level)

-- the sign is that of a number above 0
abbrev pub is_plus : Sign → Bool
is_plus minus = false
is_plus level = false
is_plus plus = true

-- the sign is that of 0
abbrev pub is_level : Sign → Bool
is_level minus = false
is_level level = true
is_level plus = false

-- the sign of the opposite number
abbrev pub opposite_sign : Sign → Sign
opposite_sign minus = plus
opposite_sign level = level
opposite_sign plus = minus

-- both edges start in the node, or both end there
abbrev pub alike : Bool → Bool → Bool
alike true k = k
alike false k = not k

-- the number, or its opposite
abbrev pub signed : Bool → ℤ → ℤ
signed true z = z
signed false z = neg_ℤ z

-- the sign of the number, or of its opposite
abbrev pub seen : Bool → Sign → Sign
seen true s = s
seen false s = opposite_sign s

-- the part of a turn, by the sign of the turn, and by whether a level point is straight ahead or behind
abbrev pub part_by_sign : Bool → Sign → ℕ
part_by_sign same minus = 2
part_by_sign same level = cond same 3 1
part_by_sign same plus = 0

-- ---- the signs of numbers

-- a number above 0 has the sign plus
pub sign_plus : (z : ℤ) → pos 0 <ℤ z → sign_at z ≡ plus
sign_plus z h = ap (λ t. cond t plus (cond (int_lt z (pos 0)) minus level)) (test_from_lt (pos 0) z h)

-- one below 0 has the sign minus
pub sign_minus : (z : ℤ) → z <ℤ pos 0 → sign_at z ≡ minus
sign_minus z h = ap₂ (λ t u. cond t plus (cond u minus level)) (test_from_ge (pos 0) z (omega linear))
    (test_from_lt z (pos 0) h)

-- and 0 is level
pub sign_level : (z : ℤ) → z ≡ pos 0 → sign_at z ≡ level
sign_level z h = ap₂ (λ t u. cond t plus (cond u minus level)) (test_from_ge (pos 0) z (omega linear))
    (test_from_ge z (pos 0) (omega linear))

-- the opposite number has the opposite sign
pub sign_opposite : (z : ℤ) → sign_at (neg_ℤ z) ≡ opposite_sign (sign_at z)
sign_opposite z = by_sign z
    (λ low. sign_plus (neg_ℤ z) (omega linear) ∙ sym (ap opposite_sign (sign_minus z low)))
    (λ none. sign_level (neg_ℤ z) (omega linear) ∙ sym (ap opposite_sign (sign_level z none)))
    (λ high. sign_minus (neg_ℤ z) (omega linear) ∙ sym (ap opposite_sign (sign_plus z high)))

-- so has the number seen the other way
pub sign_signed : (s : Bool) (z : ℤ) → sign_at (signed s z) ≡ seen s (sign_at z)
sign_signed true z = refl
sign_signed false z = sign_opposite z

-- a number is above 0 as its sign says
pub test_is_plus : (z : ℤ) → int_lt (pos 0) z ≡ is_plus (sign_at z)
test_is_plus z = by_sign z
    (λ low. test_from_ge (pos 0) z (omega linear) ∙ sym (ap is_plus (sign_minus z low)))
    (λ none. test_from_ge (pos 0) z (omega linear) ∙ sym (ap is_plus (sign_level z none)))
    (λ high. test_from_lt (pos 0) z high ∙ sym (ap is_plus (sign_plus z high)))

-- the part of a turn in which a spoke is met
pub part_seen : (s : Bool) (t d : ℤ) → (t ≡ pos 0 → pos 0 <ℤ d) → part_at (signed s t) (signed s d) ≡ part_by_sign s
    (seen s (sign_at t))
part_seen true t d ahead = by_sign t
    (λ low. part_late t d low ∙ sym (ap (part_by_sign true) (sign_minus t low)))
    (λ none. part_again t d none (let a = ahead none in omega linear)
    ∙ sym (ap (part_by_sign true) (sign_level t none)))
    (λ high. part_early t d high ∙ sym (ap (part_by_sign true) (sign_plus t high)))
part_seen false t d ahead = by_sign t
    (λ low. part_early (neg_ℤ t) (neg_ℤ d) (omega linear)
    ∙ sym (ap (λ s. part_by_sign false (opposite_sign s)) (sign_minus t low)))
    (λ none. part_opposite (neg_ℤ t) (neg_ℤ d) (omega linear) (let a = ahead none in omega linear)
    ∙ sym (ap (λ s. part_by_sign false (opposite_sign s)) (sign_level t none)))
    (λ high. part_late (neg_ℤ t) (neg_ℤ d) (omega linear)
    ∙ sym (ap (λ s. part_by_sign false (opposite_sign s)) (sign_plus t high)))

-- ---- the table

-- the signs of the turns from one edge to a second, from that to a third, and from the first to the third go together
abbrev pub go_together : Sign → Sign → Sign → Bool
go_together minus minus c = is_plus (opposite_sign c)
go_together minus level c = is_plus (opposite_sign c)
go_together minus plus c = true
go_together level minus c = is_plus (opposite_sign c)
go_together level level c = is_level c
go_together level plus c = is_plus c
go_together plus minus c = true
go_together plus level c = is_plus c
go_together plus plus c = is_plus c

-- from spoke e the spoke g is met before f: a, b and c are the signs of the turns from e to g, from g to f and from e
-- to f
abbrev pub met_by_signs : (he hg hf : Bool) → (a b c : Sign) → Bool
met_by_signs he hg hf a b c = nat_lt (part_by_sign (alike he hg) (seen (alike he hg) a))
    (part_by_sign (alike he hf) (seen (alike he hf) c))
    || (part_by_sign (alike he hg) (seen (alike he hg) a) == part_by_sign (alike he hf)
    (seen (alike he hf) c) && is_plus (seen (alike hg hf) b))

-- from straight down the spoke g is met before f, where t is whether f leads to the left of g
abbrev pub first_from_down : (hg hf t : Bool) → Bool
first_from_down hg hf t = cond hf (hg && t) (hg || t)

-- the spokes between e and f are those before f without e and those before e. They are all others where e does not come
-- before f
abbrev pub Counted : (he hg hf : Bool) → (a b c : Sign) → ℤ
Counted he hg hf a b c = ((one_if (first_from_down hg hf (is_plus b)) -ℤ one_if
    (first_from_down hg he (is_plus (opposite_sign a)))) -ℤ one_if (alike hg he && is_level a)) +ℤ one_if
    (not (first_from_down he hf (is_plus c)))

-- an entry of the table is right
abbrev agrees : (he hg hf : Bool) → (a b c : Sign) → Bool
agrees he hg hf a b c = not (go_together a b c) || int_eq (one_if (met_by_signs he hg hf a b c))
    (Counted he hg hf a b c)

-- a test passes for both truth values
abbrev for_both : (Bool → Bool) → Bool
for_both p = p true && p false

-- a test passes for each sign
abbrev for_each : (Sign → Bool) → Bool
for_each p = p minus && (p level && p plus)

-- an entry that passes for both passes for one
at_bool : (p : Bool → Bool) → for_both p ≡ true → (b : Bool) → p b ≡ true
at_bool p h true = (and_parts (p true) (p false) h).0
at_bool p h false = (and_parts (p true) (p false) h).1

-- an entry that passes for each passes for one
at_sign : (p : Sign → Bool) → for_each p ≡ true → (s : Sign) → p s ≡ true
at_sign p h minus = (and_parts (p minus) (p level && p plus) h).0
at_sign p h level = (and_parts (p level) (p plus) (and_parts (p minus) (p level && p plus) h).1).0
at_sign p h plus = (and_parts (p level) (p plus) (and_parts (p minus) (p level && p plus) h).1).1

-- the whole table is right
table : for_both (λ he. for_both
    (λ hg. for_both (λ hf. for_each (λ a. for_each (λ b. for_each (λ c. agrees he hg hf a b c)))))) ≡ true
table = refl

-- each of its entries passes
pub between_counted : (he hg hf : Bool) (a b c : Sign) → go_together a b c ≡ true →
    one_if (met_by_signs he hg hf a b c) ≡ Counted he hg hf a b c
between_counted he hg hf a b c together =
    (Decides-int_eq (one_if (met_by_signs he hg hf a b c)) (Counted he hg hf a b c)).0
    (by (go_together a b c) together
    (at_sign (λ c. agrees he hg hf a b c)
    (at_sign (λ b. for_each (λ c. agrees he hg hf a b c))
    (at_sign (λ a. for_each (λ b. for_each (λ c. agrees he hg hf a b c)))
    (at_bool (λ hf. for_each (λ a. for_each (λ b. for_each (λ c. agrees he hg hf a b c))))
    (at_bool (λ hg. for_both (λ hf. for_each (λ a. for_each (λ b. for_each (λ c. agrees he hg hf a b c)))))
    (at_bool (λ he. for_both (λ hg. for_both
    (λ hf. for_each (λ a. for_each (λ b. for_each (λ c. agrees he hg hf a b c)))))) table he) hg) hf) a) b) c))
  where
    by : (t : Bool) → t ≡ true → (not t || int_eq (one_if (met_by_signs he hg hf a b c)) (Counted he hg hf a b c))
        ≡ true → int_eq (one_if (met_by_signs he hg hf a b c)) (Counted he hg hf a b c) ≡ true
    by true e h = h
    by false e h = absurd (false≢true e)

-- ---- which signs go together

-- the signs of three numbers go together where they do case by case
pub together : (x y z : ℤ) → (pos 0 <ℤ x → pos 0 <ℤ y → pos 0 <ℤ z) → (x <ℤ pos 0 → y <ℤ pos 0 → z <ℤ pos 0) →
    (x ≡ pos 0 → y ≡ pos 0 → z ≡ pos 0) →
    (x ≡ pos 0 → pos 0 <ℤ y → pos 0 <ℤ z) → (x ≡ pos 0 → y <ℤ pos 0 → z <ℤ pos 0) →
    (pos 0 <ℤ x → y ≡ pos 0 → pos 0 <ℤ z) → (x <ℤ pos 0 → y ≡ pos 0 → z <ℤ pos 0) →
    go_together (sign_at x) (sign_at y) (sign_at z) ≡ true
together x y z pp mm ll lp lm pl ml = by_sign x
    (λ xm. by_sign y (λ ym. low (sign_minus x xm) (sign_minus y ym) (mm xm ym))
    (λ yl. ap₂ (λ a b. go_together a b (sign_at z)) (sign_minus x xm) (sign_level y yl)
    ∙ ap (λ c. is_plus (opposite_sign c)) (sign_minus z (ml xm yl)))
    (λ yp. ap₂ (λ a b. go_together a b (sign_at z)) (sign_minus x xm) (sign_plus y yp)))
    (λ xl. by_sign y (λ ym. ap₂ (λ a b. go_together a b (sign_at z)) (sign_level x xl) (sign_minus y ym)
    ∙ ap (λ c. is_plus (opposite_sign c)) (sign_minus z (lm xl ym)))
    (λ yl. ap₂ (λ a b. go_together a b (sign_at z)) (sign_level x xl) (sign_level y yl)
    ∙ ap is_level (sign_level z (ll xl yl))) (λ yp. ap₂ (λ a b. go_together a b (sign_at z)) (sign_level x xl)
    (sign_plus y yp) ∙ ap is_plus (sign_plus z (lp xl yp))))
    (λ xp. by_sign y (λ ym. ap₂ (λ a b. go_together a b (sign_at z)) (sign_plus x xp) (sign_minus y ym))
    (λ yl. ap₂ (λ a b. go_together a b (sign_at z)) (sign_plus x xp) (sign_level y yl)
    ∙ ap is_plus (sign_plus z (pl xp yl))) (λ yp. ap₂ (λ a b. go_together a b (sign_at z)) (sign_plus x xp)
    (sign_plus y yp) ∙ ap is_plus (sign_plus z (pp xp yp))))
  where
    low : sign_at x ≡ minus → sign_at y ≡ minus → z <ℤ pos 0 → go_together (sign_at x) (sign_at y) (sign_at z) ≡ true
    low ex ey zm = ap₂ (λ a b. go_together a b (sign_at z)) ex ey ∙ ap (λ c. is_plus (opposite_sign c))
        (sign_minus z zm)
