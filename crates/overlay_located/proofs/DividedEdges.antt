-- Edges divided by a slab: one edge more, and the chain of those that span it.
use Rattle.std.proofs.Common.{◌≡◌, ⊎_elim, false, cond, pos, ◌&&◌, ◌||◌, ◌<ℤ◌, int_lt, List, [], ◌∷◌, ◌++◌}
use Rattle.std.proofs.Common.{append_assoc, append-nil, refl, sym, ap, subst}
use Rattle.std.specs.List.{All}
use Rattle.std.specs.List.Sorted.{IsPermutation}
use Rattle.std.specs.Ordering.{int_eq}
use Rattle.std.proofs.lemmas.Bool.{false_from_ne_true}
use Rattle.std.proofs.lemmas.List.Elements.{All-push}
use Rattle.std.proofs.lemmas.List.Sorted.{All-permutation, IsPermutation-to_front}
use Rattle.overlay_geom.specs.Edges.{CountedEdge, ends_of, subj_of}
use Rattle.overlay_geom.specs.Plane.{Point, in_plane, side}
use Rattle.overlay_geom.proofs.Signs.{linear}
use Rattle.overlay_sectors.specs.Sectors.{spans_beside}
use Rattle.overlay_located.specs.Tells.{Tells, nothing}
use Rattle.overlay_located.specs.Slabs.{Band, IsWithin, Spans, IsBeside, AreDivided}
use Rattle.overlay_located.specs.Chains.{HasChain, Counted, edges_of}
use Rattle.overlay_sectors.specs.declared.flank.Flank.{Flank}
use Rattle.overlay_sectors.proofs.NearTests.{spanned}
use Rattle.overlay_located.proofs.TellsMore.{added, tells_on, tells_as, tells_before, tells_behind}
use Rattle.overlay_located.proofs.TellsMore.{tells_permuted, tells_passed}

module _ (v : Point) (es fs gs : List CountedEdge) where
  -- what is told is told of others that tell the same
  pub tells_then : Tells v es fs nothing → Tells v fs gs nothing → Tells v es gs nothing
  tells_then one two = tells_as v es gs (λ h. pos 0) nothing (λ h. refl) (tells_on v es fs gs nothing nothing one two)

module _ (s : Band) (e : CountedEdge) (v : Point) (is : IsWithin s v) (beside : IsBeside s e) where
  -- an edge beside the slab has no points at a point in it
  apart : (h : Flank) → spans_beside h (ends_of e) (in_plane v) ≡ false
  apart h = false_from_ne_true (spans_beside h (ends_of e) (in_plane v)) (λ t.
      let span = spanned h (ends_of e) v t in
      let from = span.from in
      let to = span.to in
      let left = is.from in
      let right = is.to in
      ⊎_elim (λ (ends : e.b.x <ℤ s.from). absurd (omega linear)) (λ (begins : s.to <ℤ e.a.x). absurd (omega linear))
      beside)

  -- so it tells nothing
  beside_tells : Tells v (e ∷ []) [] nothing
  beside_tells = tells_as v (e ∷ []) [] (λ h. added h v (λ f. false) e) nothing
      (λ h. ap (λ t. cond (t && (int_lt (pos 0) (side (ends_of e) (in_plane v)) ||
      (int_eq (side (ends_of e) (in_plane v)) (pos 0) && false))) (subj_of e) (pos 0)) (apart h))
      (tells_passed v e (λ h. ap (λ t. t && int_eq (side (ends_of e) (in_plane v)) (pos 0)) (apart h)))

-- other names of the lists
pub divided_as : (s : Band) (es spanning others kept rest : List CountedEdge) → others ≡ spanning → rest ≡ kept →
    AreDivided s es spanning kept → AreDivided s es others rest
divided_as s es spanning others kept rest same alike divided =
    subst (λ (fs : List CountedEdge). AreDivided s es fs rest) (sym same)
    (subst (λ (fs : List CountedEdge). AreDivided s es spanning fs) (sym alike) divided)

module _ (s : Band) (es spanning kept : List CountedEdge) (so_far : AreDivided s es spanning kept) (e : CountedEdge)
  where
    -- one edge more
    with_last : (v : Point) → IsWithin s v → Tells v (es ++ e ∷ []) (kept ++ (spanning ++ e ∷ [])) nothing
    with_last v is = subst (λ (fs : List CountedEdge). Tells v (es ++ e ∷ []) fs nothing)
        (append_assoc kept spanning (e ∷ []))
        (tells_behind v es (kept ++ spanning) (e ∷ []) nothing (so_far.split v is))

    -- it spans the slab
    pub divided_spanning : Spans s e → AreDivided s (es ++ e ∷ []) (spanning ++ e ∷ []) kept
    divided_spanning over = record {
      spanned = All-push (Spans s) spanning e so_far.spanned over;
      split = with_last;
    }

    -- it is beside the slab
    pub divided_beside : IsBeside s e → AreDivided s (es ++ e ∷ []) spanning kept
    divided_beside beside = record {
      spanned = so_far.spanned;
      split = λ v is. tells_then v (es ++ e ∷ []) (kept ++ (spanning ++ e ∷ [])) (kept ++ spanning) (with_last v is)
          (tells_before v kept (spanning ++ e ∷ []) spanning nothing
          (subst (λ (fs : List CountedEdge). Tells v (spanning ++ e ∷ []) fs nothing) (append-nil spanning)
          (tells_before v spanning (e ∷ []) [] nothing (beside_tells s e v is beside))));
    }

    -- it is kept
    pub divided_kept : AreDivided s (es ++ e ∷ []) spanning (kept ++ e ∷ [])
    divided_kept = record {
      spanned = so_far.spanned;
      split = λ v is. tells_then v (es ++ e ∷ []) (kept ++ (spanning ++ e ∷ [])) ((kept ++ e ∷ []) ++ spanning)
          (with_last v is)
          (subst (λ (fs : List CountedEdge). Tells v (kept ++ (spanning ++ e ∷ [])) fs nothing)
          (sym (append_assoc kept (e ∷ []) spanning))
          (tells_before v kept (spanning ++ e ∷ []) (e ∷ spanning) nothing
          (tells_permuted v (spanning ++ e ∷ []) (e ∷ spanning) (IsPermutation-to_front spanning e))));
    }

-- the spanning edges in another order, and a chain of them
pub chain_over : (s : Band) (es spanning kept sorted : List CountedEdge) (ks : List Counted) (rest : List CountedEdge) →
    AreDivided s es spanning kept → IsPermutation spanning sorted →
    (All (Spans s) sorted → HasChain s (kept ++ sorted) ks rest) → HasChain s es ks rest
chain_over s es spanning kept sorted ks rest divided moved chained =
    let has = chained (All-permutation (Spans s) spanning sorted moved divided.spanned) in record {
      chain = has.chain;
      split = λ v is. tells_then v es (kept ++ spanning) (edges_of ks ++ rest) (divided.split v is)
          (tells_then v (kept ++ spanning) (kept ++ sorted) (edges_of ks ++ rest)
          (tells_before v kept spanning sorted nothing (tells_permuted v spanning sorted moved)) (has.split v is));
    }
