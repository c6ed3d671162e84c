-- The meeting points of one more edge joined to those of the edges before it.
use Rattle.std.proofs.Common.{◌≡◌, ⊎_elim, ℕ, ◌+◌, ◌-◌, ◌<◌, ◌≤◌, List, [], ◌∷◌, ◌++◌, length, get_or, take, drop}
use Rattle.std.proofs.Common.{slice_range, refl, sym, ap, ◌∙◌, subst, arith}
use Rattle.std.proofs.lemmas.List.{length-append, length_push, length-drop, get_or_append_left, get_or_at}
use Rattle.std.proofs.lemmas.List.{get_or_default, drop-append-le, take-append-le, drop_at, take_all}
use Rattle.std.proofs.Math.Nat.{eq-or-lt_of_le}
use Rattle.overlay_geom.specs.Edges.{CountedEdge}
use Rattle.overlay_geom.proofs.Entries.{some_entry}
use Rattle.overlay_plane.proofs.LaterEntries.{Each-push, Each-from_all_pairs, AllPairs-from_each}
use Rattle.overlay_pairs.specs.Places.{IsAt}
use Rattle.overlay_pairs.proofs.Entries.{one_entry}
use Rattle.overlay_exact.specs.AllMet.{AreMetOf, AreMetByStarts}
use Rattle.overlay_exact.specs.Along.{Met}

-- ---- entries of a list, and of one with one more at its end

-- there is one at each place
pub entry_at : {X : Type 0} (xs : List X) (k : ℕ) → k < length xs → (x : X) × IsAt xs k x
entry_at xs k within =
    let d = some_entry xs k within in
    (get_or xs k d, (within, get_or_default xs k (get_or xs k d) d within))

at_front : {X : Type 0} (xs : List X) (y : X) (k : ℕ) (x : X) → IsAt xs k x → IsAt (xs ++ y ∷ []) k x
at_front xs y k x (within, is) = (
  let l = length_push xs y in omega (arith, within),
  get_or_append_left xs (y ∷ []) x k within ∙ is,
)

at_end : {X : Type 0} (xs : List X) (y : X) (n : ℕ) → length xs ≡ n → IsAt (xs ++ y ∷ []) n y
at_end xs y n is = (let l = length_push xs y in omega (arith, is), get_or_at xs y [] y n is)

in_front : {X : Type 0} (xs : List X) (y : X) (k : ℕ) (x : X) → k < length xs → IsAt (xs ++ y ∷ []) k x → IsAt xs k x
in_front xs y k x within (inside, is) = (within, sym (get_or_append_left xs (y ∷ []) x k within) ∙ is)

-- ---- parts of two lists joined

range_before : {X : Type 0} (xs ys : List X) (s t : ℕ) → s ≤ t → t ≤ length xs →
    slice_range (xs ++ ys) s t ≡ slice_range xs s t
range_before xs ys s t up within = ap (take (t - s)) (drop-append-le s xs ys (omega arith))
    ∙ take-append-le (t - s) (drop s xs) ys (let l = length-drop s xs in omega (arith, up, within))

range_behind : {X : Type 0} (xs ys : List X) → slice_range (xs ++ ys) (length xs) (length (xs ++ ys)) ≡ ys
range_behind xs ys = ap (take (length (xs ++ ys) - length xs)) (drop_at xs ys (length xs) refl)
    ∙ take_all (length (xs ++ ys) - length xs) ys (let l = length-append xs ys in omega arith)

-- ---- meeting points

module _ (es : List CountedEdge) where
  -- of no edges
  pub starts_none : AreMetByStarts es 0 (0 ∷ []) []
  starts_none = record {
    count = refl;
    first = (omega arith, refl);
    last = (omega arith, refl);
    rises = λ j k d less within. absurd (omega (arith, less, within));
    of_each = λ i s t e at at_s at_t. let past = at_t.0 in absurd (omega (arith, past));
  }

  module _ (n : ℕ) (starts : List ℕ) (ms : List Met) (so_far : AreMetByStarts es n starts ms) where
    -- no start comes behind the last
    up_to_last : (k s : ℕ) → IsAt starts k s → s ≤ length ms
    up_to_last k s at =
        let count = so_far.count in
        let inside = at.0 in
        ⊎_elim
        (λ (same : k ≡ n).
        let is : s ≡ length ms = one_entry starts n s (length ms) (subst (λ l. IsAt starts l s) same at) so_far.last in
        omega (arith, is))
        (λ (less : k < n).
        let up = so_far.rises k n s less (let last = so_far.last.0 in omega arith) in
        let first = at.1 in
        let last = get_or_default starts n s (length ms) so_far.last.0 ∙ so_far.last.1 in
        omega (arith, up, first, last))
        (eq-or-lt_of_le (let le : k ≤ n = omega (arith, count, inside) in le))

    -- the starts rise
    rising : (k j s t : ℕ) → k < j → IsAt starts k s → IsAt starts j t → s ≤ t
    rising k j s t less at_s at_t =
        let up = so_far.rises k j s less at_t.0 in
        let first = at_s.1 in
        let last = get_or_default starts j s t at_t.0 ∙ at_t.1 in
        omega (arith, up, first, last)

    module _ (e : CountedEdge) (at : IsAt es n e) (own : List Met) (of : AreMetOf es n e own) where
      -- the starts with one more
      abbrev pub longer : List ℕ
      longer = starts ++ length (ms ++ own) ∷ []

      -- those of earlier edges stay where they are, and those of the edge stand behind them
      each_longer : (i s t : ℕ) (g : CountedEdge) → IsAt es i g → IsAt longer i s → IsAt longer (i + 1) t →
          AreMetOf es i g (slice_range (ms ++ own) s t)
      each_longer i s t g at_g at_s at_t =
          let count = so_far.count in
          let l = length_push starts (length (ms ++ own)) in
          let inside = at_t.0 in
          ⊎_elim
          (λ (same : i ≡ n).
          let at_n : IsAt longer n s = subst (λ k. IsAt longer k s) same at_s in
          let at_next : IsAt longer (n + 1) t = subst (λ k. IsAt longer (k + 1) t) same at_t in
          let s_is : s ≡ length ms = one_entry longer n s (length ms) at_n
          (at_front starts (length (ms ++ own)) n (length ms) so_far.last) in
          let t_is : t ≡ length (ms ++ own) = one_entry longer (n + 1) t (length (ms ++ own)) at_next
          (at_end starts (length (ms ++ own)) (n + 1) count) in
          let g_is : g ≡ e = one_entry es n g e (subst (λ k. IsAt es k g) same at_g) at in
          rw (same, g_is, s_is, t_is, range_behind ms own) of)
          (λ (before : i < n).
          let from = in_front starts (length (ms ++ own)) i s (omega (arith, before, count)) at_s in
          let to = in_front starts (length (ms ++ own)) (i + 1) t (omega (arith, before, count)) at_t in
          subst (AreMetOf es i g)
          (sym (range_before ms own s t (rising i (i + 1) s t (omega arith) from to) (up_to_last (i + 1) t to)))
          (so_far.of_each i s t g at_g from to))
          (eq-or-lt_of_le (let le : i ≤ n = omega (arith, count, l, inside) in le))

      -- the list with one more edge
      pub starts_more : AreMetByStarts es (n + 1) longer (ms ++ own)
      starts_more = record {
        count = let l = length_push starts (length (ms ++ own)) in let count = so_far.count in omega arith;
        first = at_front starts (length (ms ++ own)) 0 0 so_far.first;
        last = at_end starts (length (ms ++ own)) (n + 1) so_far.count;
        rises = AllPairs-from_each (λ s t. s ≤ t) longer
            (Each-push (λ s t. s ≤ t) starts (length (ms ++ own))
            (Each-from_all_pairs (λ s t. s ≤ t) starts so_far.rises)
            (λ s c. let up = up_to_last c.0 s (c.1, c.2) in let l = length-append ms own in omega (arith, up)));
        of_each = each_longer;
      }

      -- the program's lists
      pub starts_joined : (longer_starts : List ℕ) (longer_ms : List Met) (k : ℕ) → longer_ms ≡ ms ++ own →
          k ≡ length longer_ms → longer_starts ≡ starts ++ k ∷ [] → AreMetByStarts es (n + 1) longer_starts longer_ms
      starts_joined longer_starts longer_ms k joined counted pushed = rw (pushed, counted, joined) starts_more
