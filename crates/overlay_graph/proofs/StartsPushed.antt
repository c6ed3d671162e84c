-- Places pushed one by one, in the order of the places, onto places in the order of starts.
use Rattle.std.proofs.Common.{◌≡◌, ⊎_elim, ℕ, ◌+◌, ◌<◌, Bool, true, false, ◌&&◌, ◌||◌, ◌∷◌, [], ◌++◌, List, length}
use Rattle.std.proofs.Common.{take, get_or, All, sym, ap, ap₂, ◌∙◌, subst, arith}
use Rattle.std.specs.List.Sorted.{IsPermutation, IsSortedWithin}
use Rattle.std.proofs.Math.ListN.{get_or-append}
use Rattle.std.proofs.lemmas.Bool.{and_parts, both_ways, cases_lt, false_from_ne_true, or_cases}
use Rattle.std.proofs.lemmas.List.{get_or_push, length_push, length-take-le, map-append, take_more}
use Rattle.std.proofs.lemmas.List.Sorted.{IsPermutation-append_left}
use Rattle.overlay_geom.specs.Edges.{CountedEdge, ends_of}
use Rattle.overlay_geom.specs.Numbered.{Numbered, numbered}
use Rattle.overlay_geom.specs.Plane.{Edge, edge_lt, point_eq, point_lt}
use Rattle.overlay_geom.proofs.Numbered.{numbered_more}
use Rattle.overlay_geom.proofs.Orders.{point_eq-same, point_eq-of_same, point_lt-order}
use Rattle.overlay_plane.specs.Anchors.{is_anchored_before}
use Rattle.overlay_plane.specs.Nodes.{turns_left}
use Rattle.overlay_order.specs.Content.{IsAscending}
use Rattle.overlay_graph.specs.Starts.{no_edge, edge_at, numbered_at, starts_before_at}

-- an edge that comes later, and starts elsewhere, does not start before
pub starts_later : (e f : Edge) → edge_lt e f ≡ true → point_eq e.a f.a ≡ false → is_anchored_before f e ≡ false
starts_later e f comes apart =
    let before : point_lt e.a f.a ≡ true = ⊎_elim (λ is. is)
    (λ same. absurd (both_ways (point_eq e.a f.a) apart
    (and_parts (point_eq e.a f.a) (point_lt e.b f.b) same).0))
    (or_cases (point_lt e.a f.a) (point_eq e.a f.a && point_lt e.b f.b) comes) in
    ap₂ (λ (b c : Bool). b || (c && turns_left f e)) (point_lt-order.one_way e.a f.a before)
    (false_from_ne_true (point_eq f.a e.a)
    (λ same. both_ways (point_eq e.a f.a) apart (point_eq-of_same e.a f.a (sym (point_eq-same f.a e.a same)))))

module _ (es : List CountedEdge) (items : List ℕ) (place : ℕ) (inside : place < length es)
    (count : length items ≡ place) where
  -- one place more is among the places of the edges
  pub pushed_permutation : IsPermutation (numbered 0 (take place es)) (numbered_at es items) →
      IsPermutation (numbered 0 (take (place + 1) es)) (numbered_at es (items ++ place ∷ []))
  pushed_permutation moved =
      let last : Numbered CountedEdge = record { item = edge_at es place; place = place } in
      let counted : 0 + length (take place es) ≡ place =
      let b = length-take-le place es (omega (arith, inside)) in omega arith in
      let first : numbered 0 (take (place + 1) es) ≡ numbered 0 (take place es) ++ last ∷ [] =
      ap (numbered 0) (take_more es place no_edge inside)
      ∙ numbered_more 0 (take place es) (edge_at es place)
      ∙ ap (λ (k : ℕ). numbered 0 (take place es) ++ record { item = edge_at es place; place = k } ∷ []) counted in
      subst (λ ns. IsPermutation ns (numbered_at es (items ++ place ∷ []))) (sym first)
      (subst (IsPermutation (numbered 0 (take place es) ++ last ∷ []))
      (sym (map-append (λ k. record { item = edge_at es k; place = k }) items (place ∷ [])))
      (IsPermutation-append_left (last ∷ []) (numbered 0 (take place es)) (numbered_at es items) moved))

  -- all are places up to it
  pub pushed_below : All (λ k. k < place) items → All (λ k. k < place + 1) (items ++ place ∷ [])
  pushed_below below k d within =
      ⊎_elim (λ early. subst (λ (n : ℕ). n < place + 1) (sym (get_or-append items (place ∷ []) d k early))
      (let less = below k d early in omega (arith, less)))
      (λ late. let at : k ≡ place =
      let long = length_push items place in omega (arith, late, within, long, count) in
      subst (λ (n : ℕ). n < place + 1)
      (sym (ap (λ (n : ℕ). get_or (items ++ place ∷ []) n d) at ∙ get_or_push items place d place count))
      (omega arith))
      (cases_lt k (length items))

  -- the order of the places before it stays
  pub pushed_prefix : (lt : ℕ → ℕ → Bool) → IsSortedWithin lt items 0 place →
      IsSortedWithin lt (items ++ place ∷ []) 0 place
  pushed_prefix lt up k d from within =
      ap₂ lt (get_or-append items (place ∷ []) d (k + 1) (omega (arith, within, count)))
      (get_or-append items (place ∷ []) d k (omega (arith, within, count)))
      ∙ up k d from within

  -- it stands in order where its edge starts elsewhere than the one before it
  pub pushed_apart : (behind : CountedEdge) → IsAscending es → All (λ k. k < place) items →
      IsSortedWithin (starts_before_at es behind) items 0 place →
      ((k d : ℕ) → k + 1 ≡ place → point_eq (get_or es (get_or (items ++ place ∷ []) k d) behind).a
      (get_or es place behind).a ≡ false) →
      IsSortedWithin (starts_before_at es behind) (items ++ place ∷ []) 0 (place + 1)
  pushed_apart behind ascending below up apart k d from within =
      ⊎_elim (λ earlier. pushed_prefix (starts_before_at es behind) up k d from earlier)
      (λ late. let at : k + 1 ≡ place = omega (arith, late, within) in
      let q = get_or (items ++ place ∷ []) k d in
      let is_q : q ≡ get_or items k d = get_or-append items (place ∷ []) d k (omega (arith, at, count)) in
      let less : q < place = subst (λ (n : ℕ). n < place) (sym is_q) (below k d (omega (arith, at, count))) in
      let is_last : get_or (items ++ place ∷ []) (k + 1) d ≡ place =
      ap (λ (n : ℕ). get_or (items ++ place ∷ []) n d) at
      ∙ get_or_push items place d place count in
      ap (λ (n : ℕ). starts_before_at es behind n q) is_last
      ∙ starts_later (ends_of (get_or es q behind)) (ends_of (get_or es place behind))
      (ascending q place behind less inside) (apart k d at))
      (cases_lt (k + 1) place)
