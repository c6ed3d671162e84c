-- Changes of a store by calls that may write into it.

-- the second store results from the first by such calls, one after another, or is equal to it
pub data IsStoreReached {S : Type 0} (writes : S → S → Type 0) : S → S → Type 0 where
  unwritten : (s : S) → IsStoreReached writes s s
  written : (s t u : S) → IsStoreReached writes s t → writes t u → IsStoreReached writes s u
