-- Edges line by line: those on the line of the first are parted, and the others follow.
use Rattle.std.proofs.Common.{◌≡◌, ℕ, ◌+◌, ◌-◌, ◌^◌, ◌<◌, ◌≤◌, ℤ, List, [], ◌∷◌, ◌++◌, map, All, length, get_or, take}
use Rattle.std.proofs.Common.{drop, slice_range, sym, ap, ◌∙◌, subst, append_assoc, append-nil, arith}
use Rattle.std.specs.List.{AllWithin}
use Rattle.std.specs.List.Sorted.{IsPermutation}
use Rattle.std.proofs.lemmas.List.{drop_all, get_or_default, get_or-drop, get_or-take, length-take, map-append}
use Rattle.std.proofs.lemmas.List.{take_all}
use Rattle.std.proofs.lemmas.List.Elements.{All-append, All-map, All-push, All-weaker}
use Rattle.std.proofs.lemmas.List.Elements.{AllWithin-more}
use Rattle.std.proofs.lemmas.List.Folds.{drop_split}
use Rattle.std.proofs.lemmas.List.Sorted.{IsPermutation-map, IsPermutation-refl, All-permutation, sum_by-IsPermutation}
use Rattle.std.proofs.lemmas.List.Sums.{sum_by-take-drop, sum_by-take-le}
use Rattle.overlay_geom.specs.Counts.{Counts}
use Rattle.overlay_geom.specs.Edges.{CountedEdge, ends_of, weight}
use Rattle.overlay_geom.specs.Placed.{IsAlong}
use Rattle.overlay_geom.specs.Plane.{Edge}
use Rattle.overlay_geom.proofs.Mapped.{mapped_range, All-mapped_at}
use Rattle.overlay_geom.proofs.Weights.{edge_weight}
use Rattle.overlay_plane.proofs.CutChains.{along_itself}
use Rattle.overlay_order.specs.Content.{carried_edge, carried_edges, plain_edge, plain_edges, IsContent, IsHeld}
use Rattle.overlay_order.specs.declared.edge.CountedEdge.{CountedEdge as HeldEdge}
use Rattle.overlay_order.proofs.CarriedEdges.{edges_in-carried}
use Rattle.overlay_parts.specs.LineParts.{AreOnLine, ArePartsOn, IsPartOn}
use Rattle.overlay_parts.specs.PartedContents.{AreLightParts}
use Rattle.overlay_parts.specs.Parts.{lone_part, moved, plain_part, plain_parts, AreParted, IsHeldPart, Part}
use Rattle.overlay_parts.specs.declared.parts.Part.{Part as HeldPart}
use Rattle.overlay_parts.proofs.JoinedParts.{parted_both}
use Rattle.overlay_parts.proofs.Parted.{parted_before, parted_on}

-- the item at a place of a slice
sliced_at : {X : Type 0} (xs : List X) (from to i : ℕ) (d : X) → i < to - from →
    get_or (slice_range xs from to) i d ≡ get_or xs (from + i) d
sliced_at xs from to i d lt = get_or-take (to - from) (drop from xs) i d lt ∙ get_or-drop from xs i d

-- a slice is no longer than its range
sliced_length : {X : Type 0} (xs : List X) (from to : ℕ) → length (slice_range xs from to) ≤ to - from
sliced_length xs from to =
    let long = length-take (to - from) (drop from xs) in
    omega (arith, long)

-- what holds of each item from a place up to another holds of the slice
sliced_all : {X : Type 0} (P : X → Type 0) (xs : List X) (from to : ℕ) → AllWithin P xs from to →
    All P (slice_range xs from to)
sliced_all P xs from to all = λ i d inside.
    let long = sliced_length xs from to in
    let lt : i < to - from = omega (arith, inside, long) in
    subst P (sym (sliced_at xs from to i d lt)) (all (from + i) d (omega arith) (omega (arith, lt)))

-- one item alone
alone : {X : Type 0} (xs : List X) (x : X) → length xs ≡ 1 → x ≡ get_or xs 0 x → xs ≡ x ∷ []
alone [] x one at = absurd (omega (arith, one))
alone (y ∷ []) x one at = ap (λ z. z ∷ []) (sym at)
alone (y ∷ z ∷ xs) x one at = absurd (omega (arith, one))

-- the item at a place
item_at : {X : Type 0} (xs : List X) (i : ℕ) → i < length xs → (x : X) × (x ≡ get_or xs i x)
item_at [] i lt = absurd (omega (arith, lt))
item_at (x ∷ xs) i lt = (get_or (x ∷ xs) i x, get_or_default (x ∷ xs) i x (get_or (x ∷ xs) i x) lt)

module _ {I C : Type 0} (whole : I → ℤ) (counts : C → Counts) where
  -- the edges as parts of themselves
  abbrev pub lone : List (HeldEdge I C) → List (Part C)
  lone es = map lone_part (carried_edges whole counts es)

  abbrev plain : List (HeldEdge I C) → List CountedEdge
  plain es = plain_edges whole counts es

  -- ---- edges on one line

  -- edges along an edge of the list lie on its line
  pub slice_on_line : (limit : ℕ) (es : List (HeldEdge I C)) (from to : ℕ) (e : HeldEdge I C) → from < length es →
      e ≡ get_or es from e → All (IsHeld limit) (plain es) →
      AllWithin (λ f. IsAlong (ends_of (plain_edge whole counts e)) (ends_of (plain_edge whole counts f))) es from to →
      AreOnLine (ends_of (plain_edge whole counts e)) (plain (slice_range es from to))
  slice_on_line limit es from to e within at held along = record {
    forward = (All-mapped_at (IsHeld limit) (plain_edge whole counts) es from e within at held).forward;
    along = All-map (λ f. IsAlong (ends_of (plain_edge whole counts e)) (ends_of f)) (plain_edge whole counts)
        (slice_range es from to)
        (sliced_all (λ f. IsAlong (ends_of (plain_edge whole counts e)) (ends_of (plain_edge whole counts f))) es from
        to along);
  }

  -- the ends of an edge
  abbrev ends : HeldEdge I C → Edge
  ends e = ends_of (plain_edge whole counts e)

  -- the edges from a place up to another lie along the edge there
  abbrev pub AreAlong : List (HeldEdge I C) → ℕ → ℕ → Type 0
  AreAlong es from to = (d : HeldEdge I C) → AllWithin (λ f. IsAlong (ends (get_or es from d)) (ends f)) es from to

  -- an edge lies along itself
  pub along_first : (es : List (HeldEdge I C)) (from : ℕ) → from < length es → AreAlong es from (from + 1)
  along_first es from within = λ d k x low high.
      let is : from ≡ k = omega (arith, low, high) in
      subst (λ j. IsAlong (ends (get_or es from d)) (ends (get_or es j x))) is
      (subst (λ f. IsAlong (ends (get_or es from d)) (ends f)) (get_or_default es from d x within)
      (along_itself (ends (get_or es from d))))

  -- and so does one more
  pub along_next : (es : List (HeldEdge I C)) (from to : ℕ) (e f : HeldEdge I C) → from < length es → to < length es →
      e ≡ get_or es from e → f ≡ get_or es to f → IsAlong (ends e) (ends f) → AreAlong es from to →
      AreAlong es from (to + 1)
  along_next es from to e f within inside at_e at_f here along = λ d.
      AllWithin-more (λ h. IsAlong (ends (get_or es from d)) (ends h)) es from to (along d)
      (λ x. subst (λ h. IsAlong (ends h) (ends (get_or es to x))) (at_e ∙ get_or_default es from e d within)
      (subst (λ h. IsAlong (ends e) (ends h)) (at_f ∙ get_or_default es to f x inside) here))

  -- so they lie on a line
  pub line_of_slice : (limit : ℕ) (es : List (HeldEdge I C)) (from to : ℕ) → from < length es →
      All (IsHeld limit) (plain es) → AreAlong es from to →
      (line : Edge) × AreOnLine line (plain (slice_range es from to))
  line_of_slice limit es from to within held along =
      let first = item_at es from within in (
        ends first.0,
        slice_on_line limit es from to first.0 within first.1 held
            (subst (λ e. AllWithin (λ f. IsAlong (ends e) (ends f)) es from to) (sym first.1) (along first.0)),
      )

  -- a slice is no heavier than the list
  pub slice_weight : (es : List (HeldEdge I C)) (from to : ℕ) →
      weight (plain (slice_range es from to)) ≤ weight (plain es)
  slice_weight es from to =
      let range = mapped_range (plain_edge whole counts) es from to in
      let first = sum_by-take-le edge_weight (drop from (plain es)) (to - from) in
      let rest = sum_by-take-drop edge_weight (plain es) from in
      let le : weight (slice_range (plain es) from to) ≤ weight (plain es) = omega (arith, first, rest) in
      subst (λ fs. weight fs ≤ weight (plain es)) (sym range) le

  -- ---- the parts of edges on one line

  -- those of one edge
  pub lone_pushed : (es : List (HeldEdge I C)) (e : HeldEdge I C) → length es ≡ 1 → e ≡ get_or es 0 e →
      lone es ≡ lone_part (carried_edge whole counts e) ∷ []
  lone_pushed es e one at = ap lone (alone es e one at)

  -- parts on a line are held
  pub held_on : (limit most : ℕ) (line : Edge) (made more : List (Part C)) → ArePartsOn limit most line more →
      All (IsHeldPart limit) made → All (IsHeldPart limit) (made ++ more)
  held_on limit most line made more on held =
      All-append (IsHeldPart limit) made more held
      (All-weaker (IsPartOn limit most line) (IsHeldPart limit) (λ p is. is.held) more on.on)

  module _ (old new : List (HeldPart I C)) where
    -- one edge is pushed as a part of itself
    pub lone_parted : (merges : C → C → C → Type 0) (q : HeldPart I C) (es : List (HeldEdge I C)) (e : HeldEdge I C) →
        length es ≡ 1 → e ≡ get_or es 0 e → new ≡ old ++ q ∷ [] →
        plain_part whole counts q ≡ lone_part (carried_edge whole counts e) →
        AreParted merges (plain_parts whole counts old ++ lone es) (plain_parts whole counts new)
    lone_parted merges q es e one at is of_q =
        let parts = plain_parts whole counts old in
        let same : plain_parts whole counts new ≡ parts ++ lone es =
        ap (plain_parts whole counts) is ∙ map-append (plain_part whole counts) old (q ∷ [])
        ∙ ap (λ p. parts ++ p ∷ []) of_q ∙ ap (λ ps. parts ++ ps) (sym (lone_pushed es e one at)) in
        subst (AreParted merges (parts ++ lone es)) (sym same) (moved (IsPermutation-refl (parts ++ lone es)))

    -- and is held
    pub lone_held : (limit : ℕ) (q : HeldPart I C) (es : List (HeldEdge I C)) (e : HeldEdge I C) →
        length es ≡ 1 → e ≡ get_or es 0 e → new ≡ old ++ q ∷ [] →
        plain_part whole counts q ≡ lone_part (carried_edge whole counts e) → All (IsHeld limit) (plain es) →
        All (IsHeldPart limit) (plain_parts whole counts old) → All (IsHeldPart limit) (plain_parts whole counts new)
    lone_held limit q es e one at is of_q held all =
        let here = All-mapped_at (IsHeld limit) (plain_edge whole counts) es 0 e (omega (arith, one)) at held in
        subst (All (IsHeldPart limit))
        (sym (ap (plain_parts whole counts) is ∙ map-append (plain_part whole counts) old (q ∷ [])))
        (All-push (IsHeldPart limit) (plain_parts whole counts old) (plain_part whole counts q) all
        (subst (IsHeldPart limit) (sym of_q) (record { held = here; light = omega arith })))

    module _ (more : List (HeldPart I C)) (n : ℕ) (is : new ≡ old ++ take n more) (past : length more ≤ n) where
      -- further parts
      with_more : plain_parts whole counts new ≡ plain_parts whole counts old ++ plain_parts whole counts more
      with_more =
          ap (plain_parts whole counts) (is ∙ ap (λ ps. old ++ ps) (take_all n more past))
          ∙ map-append (plain_part whole counts) old more

      -- those of further edges
      pub more_parted : (merges : C → C → C → Type 0) (es : List (HeldEdge I C)) →
          AreParted merges (lone es) (plain_parts whole counts more) →
          AreParted merges (plain_parts whole counts old ++ lone es) (plain_parts whole counts new)
      more_parted merges es step =
          let parts = plain_parts whole counts old in
          subst (AreParted merges (parts ++ lone es)) (sym with_more)
          (parted_both merges parts (lone es) parts (plain_parts whole counts more)
          (moved (IsPermutation-refl parts)) step)

      -- are held
      pub more_held : (limit most : ℕ) (line : Edge) → ArePartsOn limit most line (plain_parts whole counts more) →
          All (IsHeldPart limit) (plain_parts whole counts old) → All (IsHeldPart limit) (plain_parts whole counts new)
      more_held limit most line on all =
          subst (All (IsHeldPart limit)) (sym with_more)
          (held_on limit most line (plain_parts whole counts old) (plain_parts whole counts more) on all)

  -- ---- a step of the loop over lines

  module _ (merges : C → C → C → Type 0) (es : List (HeldEdge I C)) where
    -- at the start no part is made
    pub lines_begin : AreParted merges (lone es) ([] ++ lone (drop 0 es))
    lines_begin = moved (IsPermutation-refl (lone es))

    -- the edges of a line are parted, and the others follow
    pub lines_next : (from to : ℕ) (made new : List (Part C)) → from ≤ to →
        AreParted merges (lone es) (made ++ lone (drop from es)) →
        AreParted merges (made ++ lone (slice_range es from to)) new →
        AreParted merges (lone es) (new ++ lone (drop to es))
    lines_next from to made new le so_far step =
        let here = slice_range es from to in
        let later = drop to es in
        let split : lone (drop from es) ≡ lone here ++ lone later =
        ap lone (drop_split es from to le)
        ∙ ap (map lone_part) (map-append (carried_edge whole counts) here later)
        ∙ map-append lone_part (carried_edges whole counts here) (carried_edges whole counts later) in
        parted_on merges
        (subst (AreParted merges (lone es)) (sym (append_assoc made (lone here) (lone later)))
        (subst (λ ps. AreParted merges (lone es) (made ++ ps)) split so_far))
        (parted_before merges (lone later) step)

    -- at the end none follow
    pub lines_end : (from : ℕ) (made : List (Part C)) → length es ≤ from →
        AreParted merges (lone es) (made ++ lone (drop from es)) → AreParted merges (lone es) made
    lines_end from made past so_far =
        subst (AreParted merges (lone es)) (append-nil made)
        (subst (λ fs. AreParted merges (lone es) (made ++ lone fs)) (drop_all from es past) so_far)

  -- ---- edges in another order

  module _ (es fs : List (HeldEdge I C)) (order : IsPermutation es fs) where
    -- they are held
    pub held_moved : (limit : ℕ) → All (IsHeld limit) (plain es) → All (IsHeld limit) (plain fs)
    held_moved limit held = All-permutation (IsHeld limit) (plain es) (plain fs)
        (IsPermutation-map (plain_edge whole counts) es fs order) held

    -- and a content
    pub content_moved : (limit : ℕ) → IsContent limit (plain es) → IsContent limit (plain fs)
    content_moved limit content =
        let same = sum_by-IsPermutation edge_weight (plain es) (plain fs)
        (IsPermutation-map (plain_edge whole counts) es fs order) in
        let light = content.light in
        record { held = held_moved limit content.held; light = omega (arith, same, light) }

    -- and parts of themselves in that order
    pub lone_moved : (merges : C → C → C → Type 0) → AreParted merges (lone es) (lone fs)
    lone_moved merges =
        moved (IsPermutation-map lone_part (carried_edges whole counts es) (carried_edges whole counts fs)
        (IsPermutation-map (carried_edge whole counts) es fs order))

  -- parts of a content are light
  pub content_light : (merges : C → C → C → Type 0) (limit : ℕ) (es : List (HeldEdge I C)) (parts : List (Part C)) →
      IsContent limit (plain es) → AreParted merges (lone es) parts → AreLightParts merges parts
  content_light merges limit es parts content are = record {
    edges = carried_edges whole counts es;
    parted = are;
    light = subst (λ fs. weight fs < 2 ^ 31) (sym (edges_in-carried whole counts es)) content.light;
  }

  -- ---- all lines

  module _ (merges : C → C → C → Type 0) (es sorted : List (HeldEdge I C)) (parts ordered : List (HeldPart I C))
      (order : IsPermutation es sorted) (reordered : IsPermutation parts ordered)
      (are : AreParted merges (lone sorted) (plain_parts whole counts parts)) where
    -- the edges in the order of their lines, their parts, and these in another order
    pub lines_parted : AreParted merges (lone es) (plain_parts whole counts ordered)
    lines_parted = parted_on merges (lone_moved es sorted order merges)
        (parted_on merges are (moved (IsPermutation-map (plain_part whole counts) parts ordered reordered)))

    -- the parts are held in that order too
    pub ordered_held : (limit : ℕ) → All (IsHeldPart limit) (plain_parts whole counts parts) →
        All (IsHeldPart limit) (plain_parts whole counts ordered)
    ordered_held limit held =
        All-permutation (IsHeldPart limit) (plain_parts whole counts parts) (plain_parts whole counts ordered)
        (IsPermutation-map (plain_part whole counts) parts ordered reordered) held
