-- A sweep that holds the live entries of a list: with a further entry, and as the sweep moves on.
use Rattle.std.proofs.Common.{◌≡◌, ⊎_elim, ℕ, Bool, true, false, ℤ, ◌≤ℤ◌, int_lt, List, [], ◌∷◌, ◌++◌, Contains, Option}
use Rattle.std.proofs.Common.{None, Some, refl, sym, subst, arith}
use Rattle.std.specs.Option.{IfSome}
use Rattle.std.proofs.lemmas.Bool.{both_ways}
use Rattle.std.proofs.lemmas.Int.{ints}
use Rattle.std.proofs.lemmas.List.Elements.{Contains-append_left, Contains-append_right, Contains-push}
use Rattle.std.proofs.lemmas.List.Elements.{Contains-push_cases}
use Rattle.overlay_geom.proofs.Entries.{Contains-head}
use Rattle.overlay_plane.proofs.Entries.{Contains-filter, Contains-from_filter}
use Rattle.overlay_plane.proofs.ShuffledSteps.{beside_one, one_or_beside}
use Rattle.overlay_plane.proofs.Tests.{lt_from_test, test_from_lt}
use Rattle.overlay_scan.specs.Scan.{Entry, Sweep, empty_sweep, live_at, moved_to, IsSweep, IsPutIn}
use Rattle.overlay_scan.specs.Sweeps.{IsSwept}

-- the entry ends right of x
abbrev is_live : {V : Type 0} → ℤ → Entry V → Bool
is_live x f = int_lt x f.edge.b.x

-- before the sweep there are no entries
pub nothing_swept : {V : Type 0} (limit : ℕ) (x : ℤ) (s : Sweep V) → s ≡ empty_sweep → IsSwept limit x [] s
nothing_swept limit x s is = subst (IsSwept limit x []) (sym is)
    (record { state = refl; moves = tt; from = λ f c. c; all = λ f c. c })

module _ {V : Type 0} (limit : ℕ) (x : ℤ) (fs : List (Entry V)) (s : Sweep V) (swept : IsSwept limit x fs s) where
  -- an entry that has ended counts no more
  pub ended : (e : Entry V) → is_live x e ≡ false → IsSwept limit x (fs ++ e ∷ []) s
  ended e past = record {
    state = swept.state;
    moves = swept.moves;
    from = λ f c. Contains-append_left fs (e ∷ []) f (swept.from f c);
    all = λ f c. let live = Contains-from_filter (is_live x) (fs ++ e ∷ []) f c in ⊎_elim
        (λ before. swept.all f (Contains-filter (is_live x) fs f before live.1))
        (λ is. absurd (both_ways (is_live x e) past (subst (λ h. is_live x h ≡ true) (sym is) live.1)))
        (Contains-push_cases fs e f live.0);
  }

  -- an entry that is live is put in
  pub put_in : (e : Entry V) → is_live x e ≡ true → (t : Sweep V) → IsPutIn x e (live_at x s.entries) t.entries →
      t.reached ≡ Some x → IsSweep limit t →
      IsSwept limit x (fs ++ e ∷ []) t
  put_in e over t put reached state = record {
    state = state;
    moves = subst (λ o. IfSome o (λ l. l ≤ℤ x)) (sym reached) (omega (arith, ints));
    from = λ f c.
        let live = Contains-from_filter (is_live x) t.entries f c in ⊎_elim
        (λ is. subst (Contains (fs ++ e ∷ [])) is (Contains-push fs e))
        (λ old. Contains-append_left fs (e ∷ []) f (swept.from f (subst (λ gs. Contains gs f) (sym put.live_is) old)))
        (one_or_beside put.before e put.after f (subst (λ gs. Contains gs f) put.new_is live.0));
    all = λ f c.
        let live = Contains-from_filter (is_live x) (fs ++ e ∷ []) f c in
        Contains-filter (is_live x) t.entries f (subst (λ gs. Contains gs f) (sym put.new_is) (⊎_elim
        (λ before. beside_one put.before e put.after f
        (subst (λ gs. Contains gs f) put.live_is (swept.all f (Contains-filter (is_live x) fs f before live.1))))
        (λ is. subst (Contains (put.before ++ e ∷ put.after)) is
        (Contains-append_right put.before (e ∷ put.after) e (Contains-head e put.after)))
        (Contains-push_cases fs e f live.0))) live.1;
  }

  -- the sweep will be asked at y
  pub asked_at : (y : ℤ) → x ≤ℤ y → IsSwept limit y fs s
  asked_at y le = record {
    state = swept.state;
    moves = later s.reached swept.moves;
    from = λ f c. let live = Contains-from_filter (is_live y) s.entries f c in
        swept.from f (Contains-filter (is_live x) s.entries f live.0 (still f live.1));
    all = λ f c. let live = Contains-from_filter (is_live y) fs f c in
        Contains-filter (is_live y) s.entries f
        (Contains-from_filter (is_live x) s.entries f
        (swept.all f (Contains-filter (is_live x) fs f live.0 (still f live.1)))).0 live.1;
  }
    where
      still : (f : Entry V) → is_live y f ≡ true → is_live x f ≡ true
      still f live = let far = lt_from_test y f.edge.b.x live in test_from_lt x f.edge.b.x (omega (arith, ints))

      later : (o : Option ℤ) → IfSome o (λ l. l ≤ℤ x) → IfSome o (λ l. l ≤ℤ y)
      later None moves = tt
      later (Some l) moves = omega (arith, ints)

  -- it has moved to x
  pub moved : (t : Sweep V) → t ≡ moved_to x s → IsSweep limit t → IsSwept limit x fs t
  moved t is state = subst (IsSwept limit x fs) (sym is) (record {
    state = subst (IsSweep limit) is state;
    moves = omega (arith, ints);
    from = λ f c. swept.from f (Contains-from_filter (is_live x) (live_at x s.entries) f c).0;
    all = λ f c. Contains-filter (is_live x) (live_at x s.entries) f (swept.all f c)
        (Contains-from_filter (is_live x) fs f c).1;
  })

-- the sweep has moved to x, and will be asked at y
pub moved_on : {V : Type 0} (limit : ℕ) (x : ℤ) (fs : List (Entry V)) (s : Sweep V) → IsSwept limit x fs s →
    (t : Sweep V) → t ≡ moved_to x s →
    IsSweep limit t → (y : ℤ) → x ≤ℤ y → IsSwept limit y fs t
moved_on limit x fs s swept t is state y le = asked_at limit x fs t (moved limit x fs s swept t is state) y le
