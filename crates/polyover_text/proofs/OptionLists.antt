-- The options of a list of words, set one by one.
use Rattle.std.proofs.Common.{◌≡◌, ◌≢◌, ◌↔◌, ℕ, pos, true, false, [], ◌∷◌, codes, refl, sym, subst, ◌∙◌}
use Rattle.std.proofs.Common.{Option, Some, None, MatchOption, is_some}
use Rattle.std.proofs.lemmas.Bool.{false≢true}
use Rattle.overlay_geom.specs.declared.options.ContourDirection.TheVariants.{CounterClockwise, Clockwise}
use Rattle.polyover_text.specs.declared.options.OutputOptions.{OutputOptions}
use Rattle.polyover_text.specs.Grammar.{Word, Line, IsArea, default_output, SetOptions, none, clockwise, keep, ogc, min}
use Rattle.polyover_text.specs.Options.{SetsOption, SetsNothing}
use Rattle.polyover_text.proofs.Numbers.{number_is_numeral}

-- what the words set is what the words left set from the options so far
pub record HaveSet (ws : Line) (so_far : OutputOptions) (left : Line) : Type 0 where
  pub same : (o : OutputOptions) → SetOptions default_output ws o ↔ SetOptions so_far left o

pub one_more_set : (ws : Line) (old new : OutputOptions) (left mid rest : Line) (w : Word) → HaveSet ws old left
    → left ≡ w ∷ mid → SetsOption old (w ∷ mid) new rest → HaveSet ws new rest
one_more_set ws old new left mid rest w h next sets = record {
  same = λ o.
      let here = subst (λ l. SetOptions default_output ws o ↔ SetOptions old l o) next (h.same o) in
      (λ all. (sets o).0 (here.0 all), λ others. here.1 ((sets o).1 others));
}

-- where no word is left, the options so far are those that the words set
pub all_set : (ws : Line) (options : OutputOptions) (left : Line) → HaveSet ws options left → left ≡ [] →
    SetOptions default_output ws options
all_set ws options left h ended = (h.same options).1 (subst (λ l. SetOptions options l options) (sym ended) none)

-- words that set no options are of no options
pub none_with_word : (ws : Line) (old : OutputOptions) (left rest : Line) (w : Word) → HaveSet ws old left
    → left ≡ w ∷ rest → SetsNothing old (w ∷ rest) → (o : OutputOptions) → ¬ (SetOptions default_output ws o)
none_with_word ws old left rest w h next nothing o all =
    nothing o (subst (λ l. SetOptions old l o) next ((h.same o).0 all))

-- ---- one option

after_clockwise : (old o : OutputOptions) (ws : Line) → SetOptions old (codes "clockwise" ∷ ws) o
    → (old.output_direction ≡ CounterClockwise) × SetOptions (record old { output_direction = Clockwise }) ws o
after_clockwise old o ws (clockwise e h) = (e, h)

after_keep : (old o : OutputOptions) (ws : Line) → SetOptions old (codes "keep" ∷ ws) o
    → (old.preserve_output_collinear ≡ false) × SetOptions (record old { preserve_output_collinear = true }) ws o
after_keep old o ws (keep e h) = (e, h)

after_ogc : (old o : OutputOptions) (ws : Line) → SetOptions old (codes "ogc" ∷ ws) o
    → (old.ogc ≡ false) × SetOptions (record old { ogc = true }) ws o
after_ogc old o ws (ogc e h) = (e, h)

pub turned_clockwise : (old : OutputOptions) (w : Word) (ws : Line) (o : Option OutputOptions) → w ≡ codes "clockwise"
    → MatchOption o (old.output_direction ≡ Clockwise)
    (λ new. (old.output_direction ≡ CounterClockwise) × (new ≡ record old { output_direction = Clockwise }))
    → MatchOption o (SetsNothing old (w ∷ ws)) (λ new. SetsOption old (w ∷ ws) new ws)
turned_clockwise old w ws None named set =
    subst (λ v. SetsNothing old (v ∷ ws)) (sym named) (λ o h. let e = (after_clockwise old o ws h).0 in cc)
turned_clockwise old w ws (Some new) named h =
    subst (λ v. SetsOption old (v ∷ ws) new ws) (sym named)
    (subst (λ v. SetsOption old (codes "clockwise" ∷ ws) v ws) (sym h.1)
    (λ o. (λ all. (after_clockwise old o ws all).1, λ others. clockwise h.0 others)))

pub points_kept : (old : OutputOptions) (w : Word) (ws : Line) (o : Option OutputOptions) → w ≡ codes "keep"
    → MatchOption o (old.preserve_output_collinear ≡ true)
    (λ new. (old.preserve_output_collinear ≡ false) × (new ≡ record old { preserve_output_collinear = true }))
    → MatchOption o (SetsNothing old (w ∷ ws)) (λ new. SetsOption old (w ∷ ws) new ws)
points_kept old w ws None named set =
    subst (λ v. SetsNothing old (v ∷ ws)) (sym named) (λ o h. let e = (after_keep old o ws h).0 in cc)
points_kept old w ws (Some new) named h =
    subst (λ v. SetsOption old (v ∷ ws) new ws) (sym named)
    (subst (λ v. SetsOption old (codes "keep" ∷ ws) v ws) (sym h.1)
    (λ o. (λ all. (after_keep old o ws all).1, λ others. keep h.0 others)))

pub groups_set : (old : OutputOptions) (w : Word) (ws : Line) (o : Option OutputOptions) → w ≡ codes "ogc"
    → MatchOption o (old.ogc ≡ true) (λ new. (old.ogc ≡ false) × (new ≡ record old { ogc = true }))
    → MatchOption o (SetsNothing old (w ∷ ws)) (λ new. SetsOption old (w ∷ ws) new ws)
groups_set old w ws None named set =
    subst (λ v. SetsNothing old (v ∷ ws)) (sym named) (λ o h. let e = (after_ogc old o ws h).0 in cc)
groups_set old w ws (Some new) named h =
    subst (λ v. SetsOption old (v ∷ ws) new ws) (sym named)
    (subst (λ v. SetsOption old (codes "ogc" ∷ ws) v ws) (sym h.1)
    (λ o. (λ all. (after_ogc old o ws all).1, λ others. ogc h.0 others)))

-- ---- the minimum area

-- what the words after `min` are
record AfterMin (old o : OutputOptions) (ws : Line) : Type 0 where
  pub w : Word
  pub n : ℕ
  pub rest : Line
  pub parts : ws ≡ w ∷ rest
  pub unset : old.min_output_area ≡ None
  pub area : IsArea w n
  pub others : SetOptions (record old { min_output_area = Some n }) rest o

after_min : (old o : OutputOptions) (ws : Line) → SetOptions old (codes "min" ∷ ws) o → AfterMin old o ws
after_min old o ws (min unset area h) =
    record { w = _; n = _; rest = _; parts = refl; unset = unset; area = area; others = h }

-- a word is one area
same_area : (w : Word) (n m : ℕ) → IsArea w n → IsArea w m → n ≡ m
same_area w n m h k =
    let same : pos n ≡ pos m =
    (number_is_numeral w (pos n) h.number).value ∙ sym (number_is_numeral w (pos m) k.number).value in
    cc

area_set_after : (old o : OutputOptions) (ws : Line) (w : Word) (n : ℕ) (rest : Line) → ws ≡ w ∷ rest → IsArea w n
    → AfterMin old o ws → SetOptions (record old { min_output_area = Some n }) rest o
area_set_after old o ws w n rest words area after =
    let parts = after.parts in
    let word : after.w ≡ w = cc in
    let others : after.rest ≡ rest = cc in
    let number : after.n ≡ n = same_area w after.n n (subst (λ v. IsArea v after.n) word after.area) area in
    subst (λ m. SetOptions (record old { min_output_area = Some m }) rest o) number
    (subst (λ l. SetOptions (record old { min_output_area = Some after.n }) l o) others after.others)

none_where_unset : (area : Option ℕ) → false ≡ is_some area → area ≡ None
none_where_unset None unset = refl
none_where_unset (Some n) unset = absurd (false≢true unset)

pub area_set : (old : OutputOptions) (ws : Line) (w : Word) (n : ℕ) (rest : Line) → ws ≡ w ∷ rest
    → false ≡ is_some old.min_output_area → IsArea w n
    → SetsOption old (codes "min" ∷ ws) (record old { min_output_area = Some n }) rest
area_set old ws w n rest words unset area = λ o. (
  λ all. area_set_after old o ws w n rest words area (after_min old o ws all),
  λ others. subst (λ l. SetOptions old (codes "min" ∷ l) o) (sym words)
      (min (none_where_unset old.min_output_area unset) area others),
)
