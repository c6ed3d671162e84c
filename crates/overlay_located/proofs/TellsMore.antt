-- Lists of edges that tell the same of a point, put together.
use Rattle.std.proofs.Common.{◌≡◌, ⊎_elim, Bool, true, false, cond, ℤ, pos, ◌+ℤ◌, List, [], ◌∷◌, ◌++◌}
use Rattle.std.proofs.Common.{Contains, refl, sym, ap, ◌∙◌, subst, ◌&&◌, ◌||◌, int_lt, arith}
use Rattle.std.specs.List.Sorted.{IsPermutation}
use Rattle.std.specs.Ordering.{int_eq}
use Rattle.std.proofs.lemmas.Bool.{both_ways}
use Rattle.std.proofs.lemmas.List.Elements.{Contains-append_left, Contains-append_right, Contains-append_cases}
use Rattle.std.proofs.lemmas.List.Sorted.{Contains-permutation, IsPermutation-sym}
use lib.IntN.{+ℤ_idl}
use Rattle.overlay_geom.specs.Edges.{CountedEdge, ends_of, subj_of}
use Rattle.overlay_geom.specs.Plane.{Point, Edge, side, in_plane}
use Rattle.overlay_geom.proofs.Entries.{Contains-cases}
use Rattle.overlay_geom.proofs.Signs.{linear}
use Rattle.overlay_geom.proofs.Totals.{total-append, total-IsPermutation}
use Rattle.overlay_sectors.specs.Sectors.{is_below_near, leads_from, spans_beside}
use Rattle.overlay_located.specs.Tells.{PassesBy, near_sum, Tells, nothing}
use Rattle.overlay_sectors.specs.declared.flank.Flank.{Flank}
use Rattle.overlay_sectors.specs.declared.flank.Flank.TheVariants.{Left, Right}

-- what an edge adds to the winding of a sector
abbrev pub added : Flank → Point → (Edge → Bool) → CountedEdge → ℤ
added h v low e = cond (is_below_near h (ends_of e) (in_plane v) (low (ends_of e))) (subj_of e) (pos 0)

pub near_append : (h : Flank) (es fs : List CountedEdge) (v : Point) (low : Edge → Bool) →
    near_sum h (es ++ fs) v low ≡ near_sum h es v low +ℤ near_sum h fs v low
near_append h es fs v low = total-append (added h v low) es fs

module _ (v : Point) where
  pub tells_same : (es : List CountedEdge) → Tells v es es nothing
  tells_same es = record {
    sums = λ h low. sym (+ℤ_idl (near_sum h es v low));
    to = λ e at leads. at;
    back = λ e at leads. at;
  }

  pub tells_on : (es fs gs : List CountedEdge) (m n : Flank → ℤ) → Tells v es fs m → Tells v fs gs n →
      Tells v es gs (λ h. m h +ℤ n h)
  tells_on es fs gs m n one two = record {
    sums = λ h low. let a = one.sums h low in let b = two.sums h low in omega linear;
    to = λ e at leads. two.to e (one.to e at leads) leads;
    back = λ e at leads. one.back e (two.back e at leads) leads;
  }

  pub tells_as : (es fs : List CountedEdge) (m n : Flank → ℤ) → ((h : Flank) → m h ≡ n h) → Tells v es fs m →
      Tells v es fs n
  tells_as es fs m n same one = record {
    sums = λ h low. let a = one.sums h low in let b = same h in omega linear;
    to = one.to;
    back = one.back;
  }

  pub tells_through : (es fs gs : List CountedEdge) → Tells v es fs nothing → Tells v fs gs nothing →
      Tells v es gs nothing
  tells_through es fs gs one two =
      tells_as es gs (λ h. pos 0 +ℤ pos 0) nothing (λ h. refl) (tells_on es fs gs nothing nothing one two)

  -- more edges before both lists
  pub tells_before : (hs es fs : List CountedEdge) (n : Flank → ℤ) → Tells v es fs n → Tells v (hs ++ es) (hs ++ fs) n
  tells_before hs es fs n one = record {
    sums = λ h low. let a = one.sums h low in let b = near_append h hs es v low in let c = near_append h hs fs v low in
        omega linear;
    to = λ e at leads. ⊎_elim (λ first. Contains-append_left hs fs e first)
        (λ rest. Contains-append_right hs fs e (one.to e rest leads)) (Contains-append_cases hs es e at);
    back = λ e at leads. ⊎_elim (λ first. Contains-append_left hs es e first)
        (λ rest. Contains-append_right hs es e (one.back e rest leads)) (Contains-append_cases hs fs e at);
  }

  -- and behind both
  pub tells_behind : (es fs hs : List CountedEdge) (n : Flank → ℤ) → Tells v es fs n → Tells v (es ++ hs) (fs ++ hs) n
  tells_behind es fs hs n one = record {
    sums = λ h low. let a = one.sums h low in let b = near_append h es hs v low in let c = near_append h fs hs v low in
        omega linear;
    to = λ e at leads. ⊎_elim (λ first. Contains-append_left fs hs e (one.to e first leads))
        (λ rest. Contains-append_right fs hs e rest) (Contains-append_cases es hs e at);
    back = λ e at leads. ⊎_elim (λ first. Contains-append_left es hs e (one.back e first leads))
        (λ rest. Contains-append_right es hs e rest) (Contains-append_cases fs hs e at);
  }

  -- another order
  pub tells_permuted : (es fs : List CountedEdge) → IsPermutation es fs → Tells v es fs nothing
  tells_permuted es fs h = record {
    sums = λ k low.
        let same : near_sum k fs v low ≡ near_sum k es v low = total-IsPermutation (added k v low) es fs h in
        omega linear;
    to = λ e at leads. Contains-permutation es fs e h at;
    back = λ e at leads. Contains-permutation fs es e (IsPermutation-sym es fs h) at;
  }

  -- an edge that does not lead from v adds a number, and is left out
  pub tells_passed : (e : CountedEdge) → PassesBy v e → Tells v (e ∷ []) [] (λ h. added h v (λ f. false) e)
  tells_passed e passes = record {
    sums = λ h low. ap (λ z. z +ℤ pos 0) (alike h low);
    to = λ f at leads. absurd (both_ways (leads_from leads.0 (ends_of f) (in_plane v)) (of_one f at leads.0) leads.1);
    back = λ f at leads. absurd (none f at);
  }
    where
      none : (f : CountedEdge) → ¬ (Contains [] f)
      none f at = omega (arith, at.1)

      of_one : (f : CountedEdge) → Contains (e ∷ []) f → (h : Flank) → leads_from h (ends_of f) (in_plane v) ≡ false
      of_one f at h = ⊎_elim
          (λ (same : e ≡ f). subst (λ (d : CountedEdge). leads_from h (ends_of d) (in_plane v) ≡ false) same (passes h))
          (λ (rest : Contains [] f). absurd (none f rest)) (Contains-cases e [] f at)

      alike : (h : Flank) (low : Edge → Bool) → added h v low e ≡ added h v (λ f. false) e
      alike h low = by (spans_beside h (ends_of e) (in_plane v)) (int_eq (side (ends_of e) (in_plane v)) (pos 0))
          (int_lt (pos 0) (side (ends_of e) (in_plane v))) (low (ends_of e)) (passes h)
        where
          by : (s z t u : Bool) → (s && z) ≡ false →
              cond (s && (t || (z && u))) (subj_of e) (pos 0) ≡ cond (s && (t || (z && false))) (subj_of e) (pos 0)
          by false z t u apart = refl
          by true false t u apart = refl
          by true true t u apart = absurd (both_ways true apart refl)

-- an edge that leads into neither flank
pub passes_both : (v : Point) (e : CountedEdge) → leads_from Left (ends_of e) (in_plane v) ≡ false →
    leads_from Right (ends_of e) (in_plane v) ≡ false → PassesBy v e
passes_both v e left right Left = left
passes_both v e left right Right = right

-- the number that it adds, by the test
pub added_if : (h : Flank) (v : Point) (e : CountedEdge) (t : Bool) (z : ℤ) →
    t ≡ is_below_near h (ends_of e) (in_plane v) false → t ≡ true → z ≡ subj_of e → added h v (λ f. false) e ≡ z
added_if h v e t z is holds same = ap (λ b. cond b (subj_of e) (pos 0)) (sym is ∙ holds) ∙ sym same

pub added_not : (h : Flank) (v : Point) (e : CountedEdge) (t : Bool) (z : ℤ) →
    t ≡ is_below_near h (ends_of e) (in_plane v) false → t ≡ false → z ≡ pos 0 → added h v (λ f. false) e ≡ z
added_not h v e t z is fails same = ap (λ b. cond b (subj_of e) (pos 0)) (sym is ∙ fails) ∙ sym same
