-- What tells where the edges of a list meet.
use Rattle.std.proofs.Common.{◌≡◌, ℕ, List, refl, sym, ap, ◌∙◌, arith}
use Rattle.std.proofs.lemmas.Bool.{false≢true}
use Rattle.overlay_geom.specs.Edges.{CountedEdge}
use Rattle.overlay_geom.specs.Settled.{IsSettled}
use Rattle.overlay_plane.specs.Meetings.{MeetInWholePoints}
use Rattle.overlay_given.specs.Uncrossed.{SomeCross, NoneCross, IsKindOf}
use Rattle.overlay_given.specs.declared.uncrossed.MeetingKind.{MeetingKind}
use Rattle.overlay_given.specs.declared.uncrossed.MeetingKind.TheVariants.{InEnds, Uncrossed, Crossed}

-- kinds with other numbers differ
abbrev number : MeetingKind → ℕ
number InEnds = 0
number Uncrossed = 1
number Crossed = 2

module _ (es : List CountedEdge) where
  not_some : NoneCross es → ¬ (SomeCross es)
  not_some none (e, f, has_e, has_f, test) = false≢true (sym (none e f has_e has_f) ∙ test)

  pub in_ends : IsSettled es → NoneCross es → IsKindOf es InEnds
  in_ends settled none = record {
    ends = (λ is. settled, λ h. refl);
    crossed = (λ is. absurd (let n : 0 ≡ 2 = ap number is in omega (arith, n)), λ some. absurd (not_some none some));
    whole = λ is. absurd (let n : 0 ≡ 1 = ap number is in omega (arith, n));
  }

  pub uncrossed : ¬ (IsSettled es) → NoneCross es → MeetInWholePoints es → IsKindOf es Uncrossed
  uncrossed open_ones none whole = record {
    ends = (λ is. absurd (let n : 1 ≡ 0 = ap number is in omega (arith, n)), λ settled. absurd (open_ones settled));
    crossed = (λ is. absurd (let n : 1 ≡ 2 = ap number is in omega (arith, n)), λ some. absurd (not_some none some));
    whole = λ is. whole;
  }

  pub crossed : ¬ (IsSettled es) → SomeCross es → IsKindOf es Crossed
  crossed open_ones some = record {
    ends = (λ is. absurd (let n : 2 ≡ 0 = ap number is in omega (arith, n)), λ settled. absurd (open_ones settled));
    crossed = (λ is. some, λ h. refl);
    whole = λ is. absurd (let n : 2 ≡ 1 = ap number is in omega (arith, n));
  }
