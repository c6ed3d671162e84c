-- A search of the points by strips for those whose pixels an edge meets: its begin, a further strip, and its end after
-- all strips of the edge's span.
use Rattle.std.proofs.Common.{◌≡◌, ◌⊎◌, ⊎_elim, ℕ, ◌+◌, ◌*◌, ◌/◌, ◌%◌, ◌<◌, ◌≤◌, true, ℤ, ◌≤ℤ◌}
use Rattle.std.proofs.Common.{List, [], Contains, length, sym, ap, ◌∙◌, arith}
use Rattle.std.proofs.lemmas.Bool.{cases_lt}
use Rattle.std.proofs.lemmas.Nat.{div-add-mod'}
use Rattle.std.proofs.Math.Nat.{add-mod_right, div-lt_iff_lt-mul, le-div_iff_mul-le}
use Rattle.overlay_geom.specs.Plane.{Point}
use Rattle.overlay_geom.specs.Edges.{CountedEdge, ends_of}
use Rattle.overlay_geom.proofs.Signs.{linear}
use Rattle.overlay_plane.specs.SnapPoints.{meets_pixel}
use Rattle.overlay_pairs.specs.PointStrips.{AreStripsOf}
use Rattle.overlay_pairs.specs.Places.{IsAt}
use Rattle.overlay_pairs.proofs.ExtentBlocks.{same_block}
use Rattle.overlay_arrange.specs.HotPoints.{AreLeftBefore, AreMetAmong, AreRightFrom}
use Rattle.overlay_arrange.specs.PixelRuns.{AddsRun, AreUpwards, IsAmong}
use Rattle.overlay_arrange.proofs.PassedCorners.{met_amid}

-- a place where a strip begins, or the end of the list
abbrev pub IsStripEnd : ℕ → ℕ → ℕ → Type 0
IsStripEnd width all at = (at % width ≡ 0) ⊎ (at ≡ all)

-- points of vs, with each one of the strips before the place `at` whose pixel e meets
pub record AreMetBefore (vs : List Point) (e : CountedEdge) (ps : List Point) (at : ℕ) (us : List Point) : Type 0 where
  pub within : (v : Point) → Contains us v → Contains vs v
  pub all : (k : ℕ) (v : Point) → k < at → IsAt ps k v → meets_pixel (ends_of e) v ≡ true → Contains us v

-- places before a multiple of the width are in strips before it, and the others are not
place_before : (width at j k : ℕ) → 0 < width → at % width ≡ 0 → j / width ≡ k / width → k < at → j < at
place_before width at j k some begun same less =
    let whole : at / width * width ≡ at = (let all = div-add-mod' at width in omega (arith, all, begun)) in
    let before : k / width < at / width =
    (div-lt_iff_lt-mul some).1 (let lt : k < at / width * width = omega (arith, whole, less) in lt) in
    let first : j < at / width * width = (div-lt_iff_lt-mul some).0
    (let lt : j / width < at / width = omega (arith, same, before) in lt) in
    omega (arith, first, whole)

place_from : (width at j k : ℕ) → 0 < width → at % width ≡ 0 → j / width ≡ k / width → at ≤ k → at ≤ j
place_from width at j k some begun same past =
    let whole : at / width * width ≡ at = (let all = div-add-mod' at width in omega (arith, all, begun)) in
    let behind : at / width ≤ k / width =
    (le-div_iff_mul-le some).1 (let le : at / width * width ≤ k = omega (arith, whole, past) in le) in
    let first : at / width * width ≤ j = (le-div_iff_mul-le some).0
    (let le : at / width ≤ j / width = omega (arith, same, behind) in le) in
    omega (arith, first, whole)

module _ (vs : List Point) (e : CountedEdge) (width : ℕ) (ps : List Point) (strips : AreStripsOf vs width ps) where
  module _ (forward : e.a.x ≤ℤ e.b.x) where
    -- before the strip in which the edge's span begins there is none
    pub search_begun : (low at : ℕ) → AreLeftBefore vs e.a.x low → at % width ≡ 0 → at ≤ low →
        AreMetBefore vs e ps at []
    search_begun low at lefts begun before = record {
      within = λ v has. absurd (omega (arith, has.1));
      all = λ k v less at_v meets.
          let given = strips.given k v at_v in
          let first = place_before width at given.0 k strips.some begun given.2 less in
          let left = lefts.left given.0 v (omega (arith, first, before)) given.1 in
          let past = (met_amid e v forward meets).0 in
          absurd (omega (linear, left, past));
    }

    -- where all strips of the span have been searched the points are found
    pub search_done : (at : ℕ) (us : List Point) → AreRightFrom vs e.b.x at → IsStripEnd width (length vs) at →
        AreMetBefore vs e ps at us → AreMetAmong vs e us
    search_done at us rights ends found = record {
      within = found.within;
      all = λ v has meets.
          let at_v : IsAt vs has.0 v = (has.1, has.2) in
          let less : has.0 < at = ⊎_elim (λ (lt : has.0 < at). lt)
          (λ (past : at ≤ has.0). absurd (let right = rights has.0 v past at_v in
          let up_to = (met_amid e v forward meets).1 in omega (linear, right, up_to))) (cases_lt has.0 at) in
          let there = strips.all has.0 v at_v in
          found.all there.0 v (stands there.0 has.0 v there.1 there.2 less) there.1 meets;
    }
      where
        stands : (j k : ℕ) (v : Point) → IsAt ps j v → j / width ≡ k / width → k < at → j < at
        stands j k v at_v same less = ⊎_elim
            (λ (begun : at % width ≡ 0). place_before width at j k strips.some begun same less)
            (λ (all : at ≡ length vs). let inside = at_v.0 in let count = strips.count in
            omega (arith, inside, count, all)) ends

  -- ---- one strip

  module _ (at end : ℕ) (begun : at % width ≡ 0) (ends : (end ≡ length vs) ⊎ (end ≡ at + width)) where
    -- the points of a strip stand by their heights
    pub strip_upwards : end ≤ at + width → AreUpwards ps at end
    strip_upwards short j k v w past le less at_v at_w =
        strips.heights j k v w le (same_strip j k past le (omega (arith, less, short))) at_v at_w
      where
        same_strip : (j k : ℕ) → at ≤ j → j ≤ k → k < at + width → j / width ≡ k / width
        same_strip j k past le less = same_block width at j strips.some begun past (omega (arith, le, less))
            ∙ sym (same_block width at k strips.some begun (omega (arith, past, le)) less)

    module _ (left right : ℤ) (old new : List Point) (adds : AddsRun left right e ps at end old new)
        (between : (k : ℕ) (v : Point) → at ≤ k → k < end → IsAt vs k v → (left ≤ℤ v.x) × (v.x ≤ℤ right)) where
      -- one strip more is searched
      pub strip_searched : AreMetBefore vs e ps at old → AreMetBefore vs e ps end new
      strip_searched before = record { within = within; all = all }
        where
          within : (v : Point) → Contains new v → Contains vs v
          within v has = ⊎_elim (λ one. before.within v one) (λ (p : IsAmong ps at end v).
              let given = strips.given p.place v p.at in (given.0, given.1.0, given.1.1)) (adds.given v has)

          all : (k : ℕ) (v : Point) → k < end → IsAt ps k v → meets_pixel (ends_of e) v ≡ true → Contains new v
          all k v less at_v meets = ⊎_elim
              (λ (earlier : k < at). adds.kept v (before.all k v earlier at_v meets))
              (λ (past : at ≤ k).
              let given = strips.given k v at_v in
              let sides = between given.0 v (place_from width at given.0 k strips.some begun given.2 past)
              (inside given.0 k v less given.2 given.1) given.1 in
              adds.all v (record { place = k; past = past; less = less; at = at_v }) sides.0 sides.1 meets)
              (cases_lt k at)
            where
              multiple : end ≡ at + width → end % width ≡ 0
              multiple next = ap (λ n. n % width) next ∙ add-mod_right at width ∙ begun

              inside : (j k : ℕ) (v : Point) → k < end → j / width ≡ k / width → IsAt vs j v → j < end
              inside j k v less same at_v = ⊎_elim
                  (λ (whole : end ≡ length vs). let lt = at_v.0 in omega (arith, lt, whole))
                  (λ (next : end ≡ at + width). place_before width end j k strips.some (multiple next) same less) ends
