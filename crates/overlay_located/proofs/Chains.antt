-- Chains of edges: one edge more, and the sums so far.
use Rattle.std.proofs.Common.{◌≡◌, ◌⊎◌, inl, inr, ℕ, ◌+◌, ◌<◌, pos, ◌+ℤ◌, List, [], ◌∷◌, ◌++◌, map}
use Rattle.std.proofs.Common.{length, take, get_or, refl, sym, ap, ◌∙◌, subst, arith, append_assoc}
use Rattle.std.specs.List.{All}
use Rattle.std.proofs.Math.Nat.{eq-or-lt_of_le}
use Rattle.std.proofs.lemmas.List.{get_or_append_left, get_or_push, get_or_default, take-append-le, take_all}
use Rattle.std.proofs.lemmas.List.{length_push, map-append, length-map, append-nil}
use Rattle.std.proofs.lemmas.List.Elements.{All-nil, All-push}
use Rattle.std.proofs.lemmas.List.Quantifiers.{all_pairs_push}
use Rattle.std.proofs.lemmas.List.Sorted.{IsPermutation-to_front, IsPermutation-append_right}
use Rattle.std.specs.List.Sorted.{IsPermutation}
use lib.IntN.{+ℤ_idr, +ℤ_idl}
use Rattle.overlay_geom.specs.Edges.{CountedEdge, subj_of}
use Rattle.overlay_geom.specs.Plane.{Point, total}
use Rattle.overlay_geom.proofs.Mapped.{read_mapped, mapped_more}
use Rattle.overlay_geom.proofs.Signs.{linear}
use Rattle.overlay_geom.proofs.Totals.{total-append}
use Rattle.overlay_located.specs.Slabs.{Band, IsWithin, Spans}
use Rattle.overlay_located.specs.Chains.{IsInSpan, IsUnder, IsUnderAt, Counted, edge_in, edges_of, IsChain, HasChain}
use Rattle.overlay_located.specs.Tells.{Tells, nothing}
use Rattle.overlay_located.proofs.TellsMore.{tells_same, tells_through, tells_behind, tells_permuted}

-- ---- a chain grows

pub spans_over : (s : Band) (e : CountedEdge) (v : Point) → Spans s e → IsWithin s v → IsInSpan e v
spans_over s e v over is = record {
  from = let a = over.from in let b = is.from in omega linear;
  to = let a = over.to in let b = is.to in omega linear;
}

pub under_trans : (d e f : CountedEdge) (v : Point) → IsUnderAt d e v → IsUnderAt e f v → IsUnderAt d f v
under_trans d e f v one two = record { above = λ h. one.above (two.above h); below = λ h. two.below (one.below h) }

pub chain_none : (s : Band) → IsChain s []
chain_none s = record {
  spanned = All-nil (λ k. Spans s k.edge);
  order = λ i j d l m. absurd (omega (arith, m));
  summed = λ n d lt. absurd (omega (arith, lt));
}

module _ (s : Band) (ks : List Counted) (k : Counted) (chain : IsChain s ks) (over : Spans s k.edge) where
  -- its sum is that of all counts
  grown : k.sum ≡ total subj_of (edges_of ks) +ℤ subj_of k.edge →
      ((n : ℕ) (d : Counted) → n < length ks → (v : Point) → IsWithin s v → IsUnderAt (get_or ks n d).edge k.edge v) →
      IsChain s (ks ++ k ∷ [])
  grown sum under = record {
    spanned = All-push (λ m. Spans s m.edge) ks k chain.spanned over;
    order = all_pairs_push (λ l m. (v : Point) → IsWithin s v → IsUnderAt l.edge m.edge v) ks k chain.order under;
    summed = λ n d lt. by n d (eq-or-lt_of_le {n = n} {m = length ks} (omega (arith, lt, length_push ks k)));
  }
    where
      by : (n : ℕ) (d : Counted) → (n ≡ length ks) ⊎ (n < length ks) →
          (get_or (ks ++ k ∷ []) n d).sum ≡ total subj_of (edges_of (take (n + 1) (ks ++ k ∷ [])))
      by n d (inl same) =
          ap (λ (m : Counted). m.sum) (get_or_push ks k d n (sym same)) ∙ sum
          ∙ ap (λ z. total subj_of (edges_of ks) +ℤ z) (sym (+ℤ_idr (subj_of k.edge)))
          ∙ sym (ap (λ ms. total subj_of (edges_of ms))
          (take_all (n + 1) (ks ++ k ∷ []) (omega (arith, same, length_push ks k)))
          ∙ ap (total subj_of) (map-append edge_in ks (k ∷ []))
          ∙ total-append subj_of (edges_of ks) (k.edge ∷ []))
      by n d (inr less) =
          ap (λ (m : Counted). m.sum) (get_or_append_left ks (k ∷ []) d n less) ∙ chain.summed n d less
          ∙ sym (ap (λ ms. total subj_of (edges_of ms)) (take-append-le (n + 1) ks (k ∷ []) (omega (arith, less))))

  -- the first edge
  pub chain_begun : length ks ≡ 0 → k.sum ≡ subj_of k.edge → IsChain s (ks ++ k ∷ [])
  chain_begun none sum = grown
      (sum ∙ sym (ap (λ ms. total subj_of (edges_of ms) +ℤ subj_of k.edge) (nil ks none) ∙ +ℤ_idl (subj_of k.edge)))
      (λ n d lt. absurd (omega (arith, lt, none)))
    where
      nil : (ms : List Counted) → length ms ≡ 0 → ms ≡ []
      nil [] is = refl
      nil (m ∷ ms) is = absurd (omega (arith, is))

  -- one that the last is under
  pub chain_grown : (n : ℕ) (last : Counted) → length ks ≡ n + 1 → last ≡ get_or ks n last →
      IsUnder last.edge k.edge → k.sum ≡ last.sum +ℤ subj_of k.edge → IsChain s (ks ++ k ∷ [])
  chain_grown n last count is under sum = grown
      (sum ∙ ap (λ z. z +ℤ subj_of k.edge)
      (ap (λ (m : Counted). m.sum) is ∙ chain.summed n last (omega (arith, count))
      ∙ ap (λ ms. total subj_of (edges_of ms)) (take_all (n + 1) ks (omega (arith, count)))))
      (λ m d lt v within. by m d v within (eq-or-lt_of_le {n = m} {m = n} (omega (arith, lt, count))))
    where
      at_last : (v : Point) → IsWithin s v → IsUnderAt last.edge k.edge v
      at_last v within = under v
          (spans_over s last.edge v (subst (λ (m : Counted). Spans s m.edge) (sym is)
          (chain.spanned n last (omega (arith, count)))) within)
          (spans_over s k.edge v over within)

      by : (m : ℕ) (d : Counted) (v : Point) → IsWithin s v → (m ≡ n) ⊎ (m < n) →
          IsUnderAt (get_or ks m d).edge k.edge v
      by m d v within (inl same) =
          subst (λ (l : Counted). IsUnderAt l.edge k.edge v)
          (is ∙ get_or_default ks n last d (omega (arith, count)) ∙ ap (λ i. get_or ks i d) (sym same))
          (at_last v within)
      by m d v within (inr less) =
          under_trans (get_or ks m d).edge last.edge k.edge v
          (subst (λ (l : Counted). IsUnderAt (get_or ks m d).edge l.edge v)
          (sym (is ∙ get_or_default ks n last d (omega (arith, count))))
          (chain.order m n d less (omega (arith, count)) v within))
          (at_last v within)

-- ---- edges are divided into a chain and others

-- nothing but others
pub divided_none : (s : Band) (es : List CountedEdge) → HasChain s (es ++ []) [] es
divided_none s es = record {
  chain = chain_none s;
  split = λ v is. subst (λ fs. Tells v fs es nothing) (sym (append-nil es)) (tells_same v es);
}

module _ (s : Band) (es : List CountedEdge) (ks : List Counted) (kept : List CountedEdge)
    (was : HasChain s es ks kept) where
  -- the chain takes one edge more
  chain_takes : (k : Counted) → IsChain s (ks ++ k ∷ []) → HasChain s (es ++ k.edge ∷ []) (ks ++ k ∷ []) kept
  chain_takes k chain = record {
    chain = chain;
    split = λ v is.
        tells_through v (es ++ k.edge ∷ []) ((edges_of ks ++ kept) ++ k.edge ∷ []) (edges_of (ks ++ k ∷ []) ++ kept)
        (tells_behind v es (edges_of ks ++ kept) (k.edge ∷ []) nothing (was.split v is))
        (tells_permuted v ((edges_of ks ++ kept) ++ k.edge ∷ []) (edges_of (ks ++ k ∷ []) ++ kept) moved);
  }
    where
      moved : IsPermutation ((edges_of ks ++ kept) ++ k.edge ∷ []) (edges_of (ks ++ k ∷ []) ++ kept)
      moved = subst (λ fs. IsPermutation fs (edges_of (ks ++ k ∷ []) ++ kept))
          (sym (append_assoc (edges_of ks) kept (k.edge ∷ [])))
          (subst (IsPermutation (edges_of ks ++ (kept ++ k.edge ∷ [])))
          (sym (append_assoc (edges_of ks) (k.edge ∷ []) kept)
          ∙ ap (λ fs. fs ++ kept) (sym (map-append edge_in ks (k ∷ []))))
          (IsPermutation-append_right (edges_of ks) (kept ++ k.edge ∷ []) (k.edge ∷ kept)
          (IsPermutation-to_front kept k.edge)))

  -- the others take it
  chain_leaves : (e : CountedEdge) → HasChain s (es ++ e ∷ []) ks (kept ++ e ∷ [])
  chain_leaves e = record {
    chain = was.chain;
    split = λ v is. subst (λ fs. Tells v (es ++ e ∷ []) fs nothing) (append_assoc (edges_of ks) kept (e ∷ []))
        (tells_behind v es (edges_of ks ++ kept) (e ∷ []) nothing (was.split v is));
  }

-- so where the edges come behind others
module _ (s : Band) (first es fs : List CountedEdge) (ks : List Counted) (kept : List CountedEdge)
    (was : HasChain s (first ++ es) ks kept) where
  pub chain_takes_as : (ms : List Counted) (k : Counted) → fs ≡ es ++ k.edge ∷ [] → ms ≡ ks ++ k ∷ [] →
      IsChain s (ks ++ k ∷ []) → HasChain s (first ++ fs) ms kept
  chain_takes_as ms k longer is chain = subst (λ ns. HasChain s (first ++ fs) ns kept) (sym is)
      (subst (λ gs. HasChain s gs (ks ++ k ∷ []) kept)
      (append_assoc first es (k.edge ∷ []) ∙ ap (λ gs. first ++ gs) (sym longer))
      (chain_takes s (first ++ es) ks kept was k chain))

  pub chain_leaves_as : (gs : List CountedEdge) (e : CountedEdge) → fs ≡ es ++ e ∷ [] → gs ≡ kept ++ e ∷ [] →
      HasChain s (first ++ fs) ks gs
  chain_leaves_as gs e longer is = subst (HasChain s (first ++ fs) ks) (sym is)
      (subst (λ hs. HasChain s hs ks (kept ++ e ∷ []))
      (append_assoc first es (e ∷ []) ∙ ap (λ hs. first ++ hs) (sym longer))
      (chain_leaves s (first ++ es) ks kept was e))

-- ---- items of a mapped list

-- a fact of all edges holds of that at a place
pub fact_of_edge : {X : Type 0} (P : CountedEdge → Type 0) (f : X → Counted) (xs : List X) (i : ℕ) (x : X) →
    i < length xs → x ≡ get_or xs i x → All P (edges_of (map f xs)) → P (f x).edge
fact_of_edge P f xs i x lt is all = subst P
    (read_mapped edge_in (map f xs) i (f x) (f x).edge (rw length-map lt) (sym (read_mapped f xs i x (f x) lt is)))
    (all i (f x).edge (rw (length-map, length-map) lt))

-- the edges up to a place are those before it, and that there
pub edges_more : {X : Type 0} (f : X → Counted) (xs : List X) (i : ℕ) (x : X) → i < length xs → x ≡ get_or xs i x →
    edges_of (map f (take (i + 1) xs)) ≡ edges_of (map f (take i xs)) ++ (f x).edge ∷ []
edges_more f xs i x lt is = ap edges_of (mapped_more f xs i x lt is) ∙ map-append edge_in (map f (take i xs)) (f x ∷ [])

-- of no edges the sum is 0
pub sum_none : (ks : List Counted) (start : ℕ) → start ≡ 0 → pos 0 ≡ total subj_of (edges_of (take start ks))
sum_none ks start none = sym (ap (λ n. total subj_of (edges_of (take n ks))) none)

-- the sum at a place of a chain
pub sum_at : {X : Type 0} (f : X → Counted) (xs : List X) (s : Band) → IsChain s (map f xs) → (start i : ℕ) (x : X) →
    i < length xs → start ≡ i + 1 → x ≡ get_or xs i x → (f x).sum ≡ total subj_of (edges_of (take start (map f xs)))
sum_at f xs s chain start i x lt after is =
    ap (λ (k : Counted). k.sum) (sym (read_mapped f xs i x (f x) lt is))
    ∙ chain.summed i (f x) (rw length-map lt)
    ∙ ap (λ n. total subj_of (edges_of (take n (map f xs)))) (sym after)
