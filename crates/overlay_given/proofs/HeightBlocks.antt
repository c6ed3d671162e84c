-- Heights of edges and of blocks of neighbours. Edges do not cross whose heights do not overlap.
use Rattle.std.proofs.Common.{◌≡◌, ◌⊎◌, ⊎_elim, false, ◌&&◌, ℕ, ◌+◌, ◌*◌, ◌<◌, ◌≤◌, ℤ, ◌≤ℤ◌, int_lt, List, []}
use Rattle.std.proofs.Common.{◌∷◌, ◌++◌, length, get_or, refl, sym, ◌∙◌, subst, arith}
use Rattle.std.proofs.lemmas.Bool.{false≢true, and_cases}
use Rattle.std.proofs.lemmas.Int.{by_lt_z}
use Rattle.std.proofs.lemmas.List.{get_or_push, length-append}
use Rattle.std.proofs.Math.ListN.{get_or-append}
use Rattle.std.proofs.Math.Nat.{eq-or-lt_of_le}
use Rattle.overlay_geom.specs.Edges.{CountedEdge, ends_of}
use Rattle.overlay_geom.specs.Plane.{Edge}
use Rattle.overlay_geom.proofs.Comparisons.{Decides-int_lt}
use Rattle.overlay_geom.proofs.Signs.{linear}
use Rattle.overlay_pairs.specs.Places.{IsAt}
use Rattle.overlay_pairs.proofs.Entries.{one_entry}
use Rattle.overlay_given.specs.Crossing.{cross}
use Rattle.overlay_given.specs.Heights.{LiesBetween, AreApartFrom, LieAtPlaces, AreEdgeHeights, LieInBlocks}
use Rattle.overlay_given.specs.Heights.{AreBlockHeights}
use Rattle.overlay_given.specs.Uncrossed.{CrossesNoneOf}
use Rattle.overlay_given.specs.declared.heights.Heights.{Heights}
use Rattle.overlay_given.proofs.ApartEdges.{below_uncrossed, cross_back}

-- a number that is not less
pub at_most : (y z : ℤ) → int_lt y z ≡ false → z ≤ℤ y
at_most y z is = by_lt_z y z (λ less. absurd (false≢true (sym is ∙ (Decides-int_lt y z).1 less))) (λ le. le)

-- edges whose heights do not overlap
pub uncrossed_apart : (e f : Edge) (low high least greatest : ℤ) → LiesBetween e low high →
    LiesBetween f least greatest → (int_lt least high && int_lt low greatest) ≡ false → cross e f ≡ false
uncrossed_apart e f low high least greatest of_e of_f test = ⊎_elim
    (λ over. let below = at_most least high over in
    let a = of_f.a_low in
    let b = of_f.b_low in
    below_uncrossed e f high of_e.a_high of_e.b_high (omega linear) (omega linear))
    (λ under. let above = at_most low greatest under in
    let a = of_f.a_high in
    let b = of_f.b_high in
    cross_back f e (below_uncrossed f e low (omega linear) (omega linear) of_e.a_low of_e.b_low))
    (and_cases (int_lt least high) (int_lt low greatest) test)

-- an edge lies in a wider range too
pub between_wider : (e : Edge) (low high least greatest : ℤ) → least ≤ℤ low → high ≤ℤ greatest →
    LiesBetween e low high → LiesBetween e least greatest
between_wider e low high least greatest below above lies =
    let a = lies.a_low in
    let b = lies.b_low in
    let c = lies.a_high in
    let d = lies.b_high in
    record { a_low = omega linear; b_low = omega linear; a_high = omega linear; b_high = omega linear }

-- the edges from place `from` up to `to` lie in the range
abbrev pub LieFrom : List CountedEdge → ℕ → ℕ → ℤ → ℤ → Type 0
LieFrom es from to low high = (k : ℕ) (f : CountedEdge) → from ≤ k → k < to → IsAt es k f →
    LiesBetween (ends_of f) low high

-- with one edge more, in a range that holds its heights
pub lie_more : (es : List CountedEdge) (from k : ℕ) (e : CountedEdge) (low high l h least greatest : ℤ) →
    IsAt es k e → LieFrom es from k low high → LiesBetween (ends_of e) l h → least ≤ℤ low → least ≤ℤ l →
    high ≤ℤ greatest → h ≤ℤ greatest → LieFrom es from (k + 1) least greatest
lie_more es from k e low high l h least greatest at_e so_far own a b c d m f past less at_f = ⊎_elim
    (λ (same : m ≡ k). subst (λ (g : CountedEdge). LiesBetween (ends_of g) least greatest)
    (one_entry es k e f at_e (subst (λ n. IsAt es n f) same at_f))
    (between_wider (ends_of e) l h least greatest b d own))
    (λ (before : m < k). between_wider (ends_of f) low high least greatest a c (so_far m f past before at_f))
    (eq-or-lt_of_le (let le : m ≤ k = omega (arith, less) in le))

-- with one more that does not overlap with the range h
pub apart_more : {I : Type 0} (whole : I → ℤ) (h : Heights I) (hs : List (Heights I)) (from k : ℕ) →
    ((d : Heights I) → (int_lt (whole (get_or hs k d).low) (whole h.high)
    && int_lt (whole h.low) (whole (get_or hs k d).high)) ≡ false) →
    AreApartFrom whole h hs from k → AreApartFrom whole h hs from (k + 1)
apart_more whole h hs from k apart so_far m d past less = ⊎_elim
    (λ (same : m ≡ k). subst (λ (n : ℕ). (int_lt (whole (get_or hs n d).low) (whole h.high)
    && int_lt (whole h.low) (whole (get_or hs n d).high)) ≡ false) (sym same) (apart d))
    (λ (before : m < k). so_far m d past before)
    (eq-or-lt_of_le (let le : m ≤ k = omega (arith, less) in le))

module _ {I : Type 0} (whole : I → ℤ) (es : List CountedEdge) where
  -- the heights of the edges before place k
  pub record AreHeightsTo (k : ℕ) (hs : List (Heights I)) : Type 0 where
    pub count : length hs ≡ k
    pub lie : LieAtPlaces whole es hs

  pub heights_none : AreHeightsTo 0 []
  heights_none = record { count = refl; lie = λ k d f inside at_f. absurd (omega (arith, inside)) }

  -- with those of one edge more
  pub heights_more : (k : ℕ) (hs : List (Heights I)) (h : Heights I) (e : CountedEdge) → IsAt es k e →
      LiesBetween (ends_of e) (whole h.low) (whole h.high) → AreHeightsTo k hs → AreHeightsTo (k + 1) (hs ++ h ∷ [])
  heights_more k hs h e at_e own so_far =
      let more = length-append hs (h ∷ []) in
      let count = so_far.count in
      record { count = omega (arith, more, count); lie = lie }
    where
      lie : LieAtPlaces whole es (hs ++ h ∷ [])
      lie j d f inside at_f = ⊎_elim here before
          (eq-or-lt_of_le (let more = length-append hs (h ∷ []) in
          let le : j ≤ length hs = omega (arith, inside, more) in le))
        where
          here : j ≡ length hs → LiesBetween (ends_of f) (whole (get_or (hs ++ h ∷ []) j d).low)
              (whole (get_or (hs ++ h ∷ []) j d).high)
          here same = subst (λ (u : Heights I). LiesBetween (ends_of f) (whole u.low) (whole u.high))
              (sym (get_or_push hs h d j (sym same)))
              (subst (λ (g : CountedEdge). LiesBetween (ends_of g) (whole h.low) (whole h.high))
              (one_entry es k e f at_e (subst (λ n. IsAt es n f) (same ∙ so_far.count) at_f)) own)

          before : j < length hs → LiesBetween (ends_of f) (whole (get_or (hs ++ h ∷ []) j d).low)
              (whole (get_or (hs ++ h ∷ []) j d).high)
          before lt = subst (λ (u : Heights I). LiesBetween (ends_of f) (whole u.low) (whole u.high))
              (sym (get_or-append hs (h ∷ []) d j lt)) (so_far.lie j d f lt at_f)

  -- those of all edges
  pub all_heights : (k : ℕ) (hs : List (Heights I)) → k ≡ length es → AreHeightsTo k hs → AreEdgeHeights whole es hs
  all_heights k hs all so_far = record { count = so_far.count ∙ all; lie = so_far.lie }

-- edges whose heights are apart from those of e do not cross it
pub apart_uncrossed : {I : Type 0} (whole : I → ℤ) (es : List CountedEdge) (e : CountedEdge) (own : Heights I)
    (hs : List (Heights I)) (from to : ℕ) → LiesBetween (ends_of e) (whole own.low) (whole own.high) →
    AreEdgeHeights whole es hs → AreApartFrom whole own hs from to → CrossesNoneOf es e from to
apart_uncrossed whole es e own hs from to of_e heights apart k f past less at_f =
    let inside = at_f.0 in
    let count = heights.count in
    uncrossed_apart (ends_of e) (ends_of f) (whole own.low) (whole own.high) (whole (get_or hs k own).low)
    (whole (get_or hs k own).high) of_e (heights.lie k own f (omega (arith, inside, count)) at_f)
    (apart k own past less)

-- blocks with one more behind them
pub blocks_more : {I : Type 0} (whole : I → ℤ) (es : List CountedEdge) (blocks : List (Heights I)) (h : Heights I)
    (at : ℕ) → at ≡ length blocks * 8 → LieInBlocks whole es blocks →
    LieFrom es at (at + 8) (whole h.low) (whole h.high) → LieInBlocks whole es (blocks ++ h ∷ [])
blocks_more {I = I} whole es blocks h at counted old new b k d f inside past less at_f = ⊎_elim here before
    (eq-or-lt_of_le (let count = length-append blocks (h ∷ []) in
    let le : b ≤ length blocks = omega (arith, inside, count) in le))
  where
    here : b ≡ length blocks → LiesBetween (ends_of f) (whole (get_or (blocks ++ h ∷ []) b d).low)
        (whole (get_or (blocks ++ h ∷ []) b d).high)
    here same = subst (λ (u : Heights I). LiesBetween (ends_of f) (whole u.low) (whole u.high))
        (sym (get_or_push blocks h d b (sym same)))
        (new k f (omega (arith, counted, same, past)) (omega (arith, counted, same, less)) at_f)

    before : b < length blocks → LiesBetween (ends_of f) (whole (get_or (blocks ++ h ∷ []) b d).low)
        (whole (get_or (blocks ++ h ∷ []) b d).high)
    before lt = subst (λ (u : Heights I). LiesBetween (ends_of f) (whole u.low) (whole u.high))
        (sym (get_or-append blocks (h ∷ []) d b lt)) (old b k d f lt past less at_f)

-- the blocks up to a place: where the next begins, or the end of a list of so many edges
pub record AreBlocksTo {I : Type 0} (whole : I → ℤ) (es : List CountedEdge) (count at : ℕ) (blocks : List (Heights I)) :
    Type 0 where
  pub within : at ≤ count
  pub enough : at ≤ length blocks * 8
  pub next : at < count → at ≡ length blocks * 8
  pub lie : LieInBlocks whole es blocks

module _ {I : Type 0} (whole : I → ℤ) (es : List CountedEdge) (count : ℕ) where
  pub blocks_none : AreBlocksTo whole es count 0 []
  blocks_none = record {
    within = omega arith;
    enough = omega arith;
    next = λ less. omega arith;
    lie = λ b k d f inside past less at_f. absurd (omega (arith, inside));
  }

  pub blocks_further : (at next : ℕ) (blocks : List (Heights I)) (h : Heights I) → at < count →
      AreBlocksTo whole es count at blocks → LieFrom es at (at + 8) (whole h.low) (whole h.high) → next ≤ count →
      next ≤ at + 8 → (next ≡ count) ⊎ (next ≡ at + 8) → AreBlocksTo whole es count next (blocks ++ h ∷ [])
  blocks_further at next blocks h less so_far new within no_further ends =
      let more = length-append blocks (h ∷ []) in
      let counted = so_far.next less in
      record {
        within = within;
        enough = omega (arith, more, counted, no_further);
        next = λ before. ⊎_elim (λ (all : next ≡ count). absurd (omega (arith, all, before)))
            (λ (on : next ≡ at + 8). omega (arith, more, counted, on)) ends;
        lie = blocks_more whole es blocks h at counted so_far.lie new;
      }

  pub all_blocks : (at : ℕ) (blocks : List (Heights I)) → length es ≡ count → count ≤ at →
      AreBlocksTo whole es count at blocks → AreBlockHeights whole es blocks
  all_blocks at blocks l ended so_far = record {
    enough = let enough = so_far.enough in omega (arith, l, ended, enough);
    lie = so_far.lie;
  }
