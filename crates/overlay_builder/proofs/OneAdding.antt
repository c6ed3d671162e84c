-- Paths of which all points are taken lead to one content, and the first that would weigh too much is one.
use Rattle.std.proofs.Common.{◌≡◌, ◌⊎◌, inl, inr, ⊎_elim, ◌^◌, ◌<◌, Bool, true, false, List, [], ◌∷◌, ◌++◌, map}
use Rattle.std.proofs.Common.{Result, Ok, Err, refl, sym, ap, ap₂, subst, ◌∙◌}
use Rattle.std.specs.Prelude.{IsErrOf}
use Rattle.std.proofs.lemmas.Bool.{false≢true}
use Rattle.std.proofs.lemmas.List.Elements.{All-head, All-tail}
use Rattle.std.proofs.lemmas.List.Sorted.{IsPermutation-refl}
use Rattle.overlay_geom.specs.Edges.{CountedEdge, weight}
use Rattle.overlay_geom.specs.Plane.{Point}
use Rattle.overlay_geom.specs.declared.error.OverlayError.{OverlayError}
use Rattle.overlay_geom.specs.declared.error.OverlayError.TheVariants.{Memory, NotSettled, TooManyEdges, Failed}
use Rattle.overlay_geom.proofs.Entries.{same_head, same_tail}
use Rattle.overlay_builder.specs.Determined.{takes_all, AreTakenWhole, OneContent, OneAdding}
use Rattle.overlay_builder.specs.Held.{Held}
use Rattle.overlay_builder.specs.PathLists.{AddedPath, AddsOne, AddsPaths, AddsAsAsked, StopsAtPath, WouldWeighTooMuch}
use Rattle.overlay_builder.specs.PathLists.AddsPaths.{no_path, path_and_others}
use Rattle.overlay_builder.specs.Paths.{IsTakenAs, path_steps_of, leads_back}
use Rattle.overlay_builder.specs.declared.path.PathKind.{PathKind}
use Rattle.overlay_builder.specs.declared.path.PathKind.TheVariants.{Open, Closed, Thinned}
use Rattle.overlay_builder.proofs.LightPaths.{not_added, not_all_added}

-- ---- one path

-- the points that are taken are those given
taken_given : (kind : PathKind) → takes_all kind ≡ true → (given taken : List Point) → IsTakenAs kind given taken →
    taken ≡ given
taken_given Open whole given taken is = is
taken_given Closed whole given taken is = is
taken_given Thinned whole given taken is = absurd (false≢true whole)

module _ {E : Type 0} where
  -- so one content follows
  one_path : (p : AddedPath E) → takes_all p.kind ≡ true → (old new newer : List E) → AddsOne p old new →
      AddsOne p old newer → new ≡ newer
  one_path p whole old new newer a b = a.content
      ∙ ap (λ ps. old ++ map p.edge_for (path_steps_of (leads_back p.kind) ps))
      (taken_given p.kind whole p.points a.taken a.is_taken ∙ sym (taken_given p.kind whole p.points b.taken
      b.is_taken))
      ∙ sym b.content

  -- ---- several

  -- paths that are all taken
  whole_head : (p : AddedPath E) (ps : List (AddedPath E)) → AreTakenWhole (p ∷ ps) → takes_all p.kind ≡ true
  whole_head p ps = All-head (λ p. takes_all p.kind ≡ true) p ps

  whole_tail : (p : AddedPath E) (ps : List (AddedPath E)) → AreTakenWhole (p ∷ ps) → AreTakenWhole ps
  whole_tail p ps = All-tail (λ p. takes_all p.kind ≡ true) p ps

  pub one_content : OneContent E
  one_content [] whole old new newer no_path no_path = refl
  one_content (p ∷ ps) whole old new newer (path_and_others {mid = mid} one more)
      (path_and_others {mid = other} one' more') =
      one_content ps (whole_tail p ps whole) mid new newer more
      (subst (λ es. AddsPaths ps es newer) (sym (one_path p (whole_head p ps whole) old mid other one one')) more')

-- ---- refusals

-- two refusals come at one path
same_stop : (paths before others after later : List (AddedPath CountedEdge)) (p q : AddedPath CountedEdge) →
    AreTakenWhole paths → paths ≡ before ++ p ∷ after → paths ≡ others ++ q ∷ later →
    (old new newer : List CountedEdge) → AddsPaths before old new → AddsPaths others old newer →
    WouldWeighTooMuch weight p new → WouldWeighTooMuch weight q newer → weight new < 2 ^ 31 → weight newer < 2 ^ 31 →
    new ≡ newer
same_stop paths [] [] after later p q whole parts parts' old new newer no_path no_path heavy heavy' light light' = refl
same_stop paths [] (b ∷ bs) after later p q whole parts parts' old new newer no_path added' heavy heavy' light light' =
    absurd (not_added b bs old old newer (IsPermutation-refl old)
    (subst (λ r. WouldWeighTooMuch weight r old) (same_head p b after (bs ++ q ∷ later) (sym parts ∙ parts')) heavy)
    light' added')
same_stop paths (a ∷ front) [] after later p q whole parts parts' old new newer added no_path heavy heavy'
    light light' =
    absurd (not_added a front old old new (IsPermutation-refl old)
    (subst (λ r. WouldWeighTooMuch weight r old) (same_head q a later (front ++ p ∷ after) (sym parts' ∙ parts)) heavy')
    light added)
same_stop paths (a ∷ front) (b ∷ bs) after later p q whole parts parts' old new newer
    (path_and_others {mid = mid} one more) (path_and_others {mid = other} one' more') heavy heavy' light light' =
    same_stop (front ++ p ∷ after) front bs after later p q (whole_tail a (front ++ p ∷ after) all) refl
    (same_tail a b (front ++ p ∷ after) (bs ++ q ∷ later) same) mid new newer more
    (subst (λ es. AddsPaths bs es newer) (sym mid_same) more') heavy heavy' light light'
  where
    all : AreTakenWhole (a ∷ (front ++ p ∷ after))
    all = subst AreTakenWhole parts whole

    same : a ∷ (front ++ p ∷ after) ≡ b ∷ (bs ++ q ∷ later)
    same = sym parts ∙ parts'

    mid_same : mid ≡ other
    mid_same = one_path a (whole_head a (front ++ p ∷ after) all) old mid other one
        (subst (λ r. AddsOne r old other) (sym (same_head a b (front ++ p ∷ after) (bs ++ q ∷ later) same)) one')

-- ---- the law

-- of a builder that had not failed, without a refusal of memory, all paths are added, or one would weigh too much
abbrev Added : List (AddedPath CountedEdge) → List CountedEdge → List CountedEdge → Result Unit OverlayError → Type 0
Added paths old new r = ((r ≡ Ok tt) × AddsPaths paths old new)
    ⊎ ((r ≡ Err TooManyEdges) × StopsAtPath weight paths old new TooManyEdges)

by_error : (paths : List (AddedPath CountedEdge)) (old new : List CountedEdge) (e : OverlayError) →
    StopsAtPath weight paths old new e → ¬ (IsErrOf {T = Unit {0}} (Err e) Memory) → Added paths old new (Err e)
by_error paths old new Memory stop none = absurd (none refl)
by_error paths old new NotSettled stop none = absurd stop.refused
by_error paths old new TooManyEdges stop none = inr (refl, stop)
by_error paths old new Failed stop none = absurd stop.refused

module _ (paths : List (AddedPath CountedEdge)) (whole : AreTakenWhole paths) (old : Held CountedEdge) where
  added_so : (new : Held CountedEdge) (r : Result Unit OverlayError) → AddsAsAsked weight paths old new r →
      ¬ (IsErrOf r Memory) → old.failed ≡ false → Added paths old.edges new.edges r
  added_so new (Ok v) a none usable = inl (refl, a.ok)
  added_so new (Err e) a none usable =
      ⊎_elim (λ failed. absurd (false≢true (sym usable ∙ a.failed.0 (ap Err failed))))
      (λ stop. by_error paths old.edges new.edges e stop none) a.err

  -- the edges are one
  same_edges : (new newer : Held CountedEdge) (r s : Result Unit OverlayError) → weight new.edges < 2 ^ 31 →
      weight newer.edges < 2 ^ 31 → Added paths old.edges new.edges r → Added paths old.edges newer.edges s →
      (r ≡ s) × (new.edges ≡ newer.edges)
  same_edges new newer r s light light' (inl (ok, added)) (inl (ok', added')) =
      (ok ∙ sym ok', one_content paths whole old.edges new.edges newer.edges added added')
  same_edges new newer r s light light' (inl (ok, added)) (inr (err, stop)) =
      absurd (not_all_added paths stop.added.before stop.added.after stop.path stop.added.parts old.edges old.edges
      newer.edges new.edges (IsPermutation-refl old.edges) stop.added.added stop.refused light added)
  same_edges new newer r s light light' (inr (err, stop)) (inl (ok, added)) =
      absurd (not_all_added paths stop.added.before stop.added.after stop.path stop.added.parts old.edges old.edges
      new.edges newer.edges (IsPermutation-refl old.edges) stop.added.added stop.refused light' added)
  same_edges new newer r s light light' (inr (err, stop)) (inr (err', stop')) = (
    err ∙ sym err',
    same_stop paths stop.added.before stop'.added.before stop.added.after stop'.added.after stop.path stop'.path whole
        stop.added.parts stop'.added.parts old.edges new.edges newer.edges stop.added.added stop'.added.added
        stop.refused stop'.refused light light',
  )

pub one_adding : OneAdding
one_adding paths whole old new newer result other a b none none' = by old.failed refl
  where
    by : (t : Bool) → old.failed ≡ t → (result ≡ other) × (new ≡ newer)
    by true failed = (
      a.failed.1 failed ∙ sym (b.failed.1 failed),
      a.untouched (a.failed.1 failed) ∙ sym (b.untouched (b.failed.1 failed)),
    )
    by false usable =
        let same = same_edges paths whole old new newer result other a.light b.light
        (added_so paths whole old new result a none usable) (added_so paths whole old newer other b none' usable) in
        (same.0, ap₂ {C = Held CountedEdge} (λ es f. record { edges = es; failed = f }) same.1 (a.kept ∙ sym b.kept))
