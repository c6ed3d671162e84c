-- Tests between whole numbers, and the order that they decide.
use Rattle.std.proofs.Common.{◌≡◌, Bool, true, false, not, ℤ, ◌<ℤ◌, ◌≤ℤ◌, int_lt, int_le, refl, sym, arith}
use Rattle.std.specs.Bool.{Decides}
use Rattle.std.proofs.lemmas.Int.{ints}

-- the meaning of the tests
pub lt_from_test : (a b : ℤ) → int_lt a b ≡ true → a <ℤ b
lt_from_test a b e = omega (arith, ints)

-- a failed test for less says at least
pub ge_from_test : (a b : ℤ) → int_lt a b ≡ false → b ≤ℤ a
ge_from_test a b e = omega (arith, ints)

-- a test for at most says at most
pub le_from_test : (a b : ℤ) → int_le a b ≡ true → a ≤ℤ b
le_from_test a b e = omega (arith, ints)

-- a failed test for at most says greater
pub gt_from_test : (a b : ℤ) → int_le a b ≡ false → b <ℤ a
gt_from_test a b e = omega (arith, ints)

-- a smaller number passes the test for less
pub test_from_lt : (a b : ℤ) → a <ℤ b → int_lt a b ≡ true
test_from_lt a b h = let e : true ≡ int_lt a b = omega (arith, ints) in sym e

-- a number at least another fails the test for less
pub test_from_ge : (a b : ℤ) → b ≤ℤ a → int_lt a b ≡ false
test_from_ge a b h = let e : false ≡ int_lt a b = omega (arith, ints) in sym e

-- a number at most another passes the test for at most
pub test_from_le : (a b : ℤ) → a ≤ℤ b → int_le a b ≡ true
test_from_le a b h = let e : true ≡ int_le a b = omega (arith, ints) in sym e

-- a greater number fails the test for at most
pub test_from_gt : (a b : ℤ) → b <ℤ a → int_le a b ≡ false
test_from_gt a b h = let e : false ≡ int_le a b = omega (arith, ints) in sym e

-- the test tells whether the first number is at most the second
pub Decides-int_le : (a b : ℤ) → Decides (int_le a b) (a ≤ℤ b)
Decides-int_le a b = (le_from_test a b, test_from_le a b)

-- at most is not greater
pub int_le-not : (a b : ℤ) → int_le a b ≡ not (int_lt b a)
int_le-not a b = by (int_lt b a) refl
  where
    by : (t : Bool) → int_lt b a ≡ t → int_le a b ≡ not t
    by true e = test_from_gt a b (lt_from_test b a e)
    by false e = test_from_le a b (ge_from_test b a e)

-- two tests that pass together are equal
pub same_tests : (s t : Bool) → (s ≡ true → t ≡ true) → (t ≡ true → s ≡ true) → s ≡ t
same_tests true t f g = sym (f refl)
same_tests false true f g = g refl
same_tests false false f g = refl
