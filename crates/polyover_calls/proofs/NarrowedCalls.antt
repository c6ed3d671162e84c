-- Calls on contours whose coordinates are taken at 32 bits: the same paths, faults and refusals.
use Rattle.std.proofs.Common.{◌≡◌, inl, inr, true, false, ℕ, ℤ, List, All, length, sym, ap, subst, ◌∙◌}
use Rattle.std.proofs.lemmas.List.{length-map, map-id}
use Rattle.overlay_geom.specs.Numbers.{Within}
use Rattle.overlay_geom.specs.declared.error.OverlayError.{OverlayError}
use Rattle.polyover_calls.specs.Arrays.{are_ends}
use Rattle.polyover_calls.specs.Given.{Contours, paths_of, AreGiven, IsFaulty, IsOneFaulty}
use Rattle.polyover_calls.specs.Narrowed.{AreNarrowed, greatest_of_32_bits}
use Rattle.polyover_calls.specs.Refusals.{AreBothRefused}
use Rattle.polyover_calls.specs.Statuses.{IsRefused}
use Rattle.polyover_calls.specs.declared.fault.Fault.{Fault}
use Rattle.polyover_calls.specs.declared.fault.Fault.TheVariants as fault
use Rattle.polyover_calls.specs.declared.status.Status.{Status}
use Rattle.polyover_calls.specs.declared.status.Status.TheVariants.{Done, Memory, BadEnds, OutOfRange}
use Rattle.polyover_calls.specs.declared.status.Status.TheVariants.{NotResolved, BadRule, BadFill, BadOption}
use Rattle.polyover_calls.specs.declared.status.Status.TheVariants.{NotSettled, TooManyEdges, TooSmall}
use Rattle.polyover_calls.proofs.NarrowedPaths.{contours_same}

-- ---- contours

module _ {I : Type 0} (whole : I → ℤ) (limit : ℕ) (c : Contours I) (zs : List ℤ)
    (narrowed : AreNarrowed whole limit c.coordinates zs) where
  -- those at 32 bits
  abbrev pub narrow : Contours ℤ
  narrow = record { coordinates = zs; ends = c.ends }

  pub paths_same : paths_of (λ z. z) narrow ≡ paths_of whole c
  paths_same = contours_same whole c.coordinates zs c.ends narrowed.same

  count_same : length zs ≡ length c.coordinates
  count_same = ap length (sym narrowed.same) ∙ length-map c.coordinates whole

  pub given_back : AreGiven (λ z. z) greatest_of_32_bits narrow → AreGiven whole limit c
  given_back given = record {
    fit = subst (λ n. are_ends c.ends n ≡ true) count_same given.fit;
    within = narrowed.wide;
  }

  pub faulty_back : (f : Fault) → IsFaulty (λ z. z) greatest_of_32_bits narrow f → IsFaulty whole limit c f
  faulty_back fault.Memory faulty = faulty
  faulty_back fault.Ends faulty = subst (λ n. are_ends c.ends n ≡ false) count_same faulty
  faulty_back fault.Range faulty = absurd (faulty.1 (subst (λ xs. All (Within greatest_of_32_bits) xs) (sym (map-id zs))
      narrowed.narrow))

-- ---- refusals

-- a refusal for such reasons is one for others that follow from them
pub refused_so : (unknown unknown' : Status → Type 0) (faulty faulty' : Fault → Type 0)
    (may may' : OverlayError → Type 0) → ((s : Status) → unknown s → unknown' s) →
    ((f : Fault) → faulty f → faulty' f) → ((e : OverlayError) → may e → may' e) → (s : Status) →
    IsRefused unknown faulty may s → IsRefused unknown' faulty' may' s
refused_so unknown unknown' faulty faulty' may may' u f m Done a = a
refused_so unknown unknown' faulty faulty' may may' u f m Memory a = m _ a
refused_so unknown unknown' faulty faulty' may may' u f m BadEnds a = f fault.Ends a
refused_so unknown unknown' faulty faulty' may may' u f m OutOfRange a = f fault.Range a
refused_so unknown unknown' faulty faulty' may may' u f m NotResolved a = a
refused_so unknown unknown' faulty faulty' may may' u f m BadRule a = u BadRule a
refused_so unknown unknown' faulty faulty' may may' u f m BadFill a = u BadFill a
refused_so unknown unknown' faulty faulty' may may' u f m BadOption a = u BadOption a
refused_so unknown unknown' faulty faulty' may may' u f m NotSettled a = m _ a
refused_so unknown unknown' faulty faulty' may may' u f m TooManyEdges a = m _ a
refused_so unknown unknown' faulty faulty' may may' u f m TooSmall a = a

module _ {I : Type 0} (whole : I → ℤ) (limit : ℕ) (first second : Contours I) (ps qs : List ℤ)
    (p : AreNarrowed whole limit first.coordinates ps) (q : AreNarrowed whole limit second.coordinates qs) where
  abbrev narrow_first : Contours ℤ
  narrow_first = record { coordinates = ps; ends = first.ends }

  abbrev narrow_second : Contours ℤ
  narrow_second = record { coordinates = qs; ends = second.ends }

  one_faulty_back : (f : Fault) → IsOneFaulty (λ z. z) greatest_of_32_bits narrow_first narrow_second f →
      IsOneFaulty whole limit first second f
  one_faulty_back f (inl one) = inl (faulty_back whole limit first ps p f one)
  one_faulty_back f (inr (given, other)) = inr (
    given_back whole limit first ps p given,
    faulty_back whole limit second qs q f other,
  )

  -- where what is asked of the same paths may be refused so
  pub both_refused : (unknown unknown' : Status → Type 0) (known known' : Type 0) (may may' : OverlayError → Type 0) →
      ((s : Status) → unknown s → unknown' s) → (known → known') → ((e : OverlayError) → may e → may' e) →
      (s : Status) →
      AreBothRefused (λ z. z) greatest_of_32_bits unknown known narrow_first narrow_second may s →
      AreBothRefused whole limit unknown' known' first second may' s
  both_refused unknown unknown' known known' may may' u k m = refused_so unknown unknown'
      (λ f. known × IsOneFaulty (λ z. z) greatest_of_32_bits narrow_first narrow_second f)
      (λ f. known' × IsOneFaulty whole limit first second f)
      (λ e. known × (AreGiven (λ z. z) greatest_of_32_bits narrow_first
      × (AreGiven (λ z. z) greatest_of_32_bits narrow_second × may e)))
      (λ e. known' × (AreGiven whole limit first × (AreGiven whole limit second × may' e))) u by_fault by_error
    where
      by_fault : (f : Fault) → known × IsOneFaulty (λ z. z) greatest_of_32_bits narrow_first narrow_second f →
          known' × IsOneFaulty whole limit first second f
      by_fault f (are_known, faulty) = (k are_known, one_faulty_back f faulty)

      by_error : (e : OverlayError) → known × (AreGiven (λ z. z) greatest_of_32_bits narrow_first
          × (AreGiven (λ z. z) greatest_of_32_bits narrow_second × may e)) →
          known' × (AreGiven whole limit first × (AreGiven whole limit second × may' e))
      by_error e (are_known, (one, (other, refused))) = (
        k are_known,
        (
          given_back whole limit first ps p one,
          (given_back whole limit second qs q other, m e refused),
        ),
      )
