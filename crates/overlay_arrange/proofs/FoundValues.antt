-- A result made of a value that was found, or of none.
use Rattle.std.proofs.Common.{◌≡◌, Err, Ok, subst}
use Rattle.std.specs.Prelude.{IfOk, IfSome, Option, Result}
use Rattle.std.specs.Result.{result_ok}

-- what holds of the value, if one was found, holds of it in the result
pub ok_where_some : {T E : Type 0} (P : T → Type 0) (found : Option T) (r : Result T E) → found ≡ result_ok r →
    IfSome found P → IfOk r P
ok_where_some P found (Ok x) same some = subst (λ f. IfSome f P) same some
ok_where_some P found (Err e) same some = tt
