-- Stores that result from calls, one after another.
use Rattle.std.proofs.Common.{◌≡◌, Bool, true, false, sym, subst}
use Rattle.std.specs.Prelude.{MatchBool}
use Rattle.overlay_parts.specs.Stores.{IsStoreReached}
use Rattle.overlay_parts.specs.Stores.IsStoreReached.{unwritten, written}

-- without a call the store stays
pub never_written : {S : Type 0} (writes : S → S → Type 0) (s : S) → IsStoreReached writes s s
never_written writes s = unwritten s

-- reaching stores is transitive
pub reached_on : {S : Type 0} (writes : S → S → Type 0) (s t u : S) →
    IsStoreReached writes s t → IsStoreReached writes t u → IsStoreReached writes s u
reached_on writes s t u before (unwritten _) = before
reached_on writes s t u before (written _ v _ after step) = written s v u (reached_on writes s t v before after) step

-- where there may be one call the store is reached
pub reached_unless : {S : Type 0} (writes : S → S → Type 0) (is_kept : Bool) (s t : S) →
    MatchBool is_kept (t ≡ s) (writes s t) → IsStoreReached writes s t
reached_unless writes true s t same = subst (λ u. IsStoreReached writes s u) (sym same) (unwritten s)
reached_unless writes false s t step = written s s t (unwritten s) step
