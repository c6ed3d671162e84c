-- The words of a command, taken one by one.
use Rattle.std.proofs.Common.{◌≡◌, ◌⊎◌, inl, inr, [], ◌∷◌, Option, Some, None, MatchOption, IfSome, codes, sym, subst}
use Rattle.std.proofs.Common.{refl, ap, ◌∙◌, get_or, ◌==◌}
use Rattle.std.proofs.lemmas.Bool.{false≢true}
use Rattle.polyover_text.specs.declared.query.Query.{Query}
use Rattle.overlay_geom.specs.declared.fill_rule.FillRule.{FillRule}
use Rattle.polyover_text.specs.declared.query.ClipQuery.{ClipQuery}
use Rattle.polyover_text.specs.declared.query.OverlayQuery.{OverlayQuery}
use Rattle.polyover_text.specs.declared.query.TilesQuery.{TilesQuery}
use Rattle.polyover_text.specs.declared.query.Query.TheVariants.{Edges, Overlay, Hierarchy, Relate, ClipLines}
use Rattle.polyover_text.specs.declared.query.Query.TheVariants.{Slice, Tiles, Contains, Locate}
use Rattle.polyover_text.specs.Grammar.{Word, Line, IsCommand, edges, overlay, hierarchy, relate, clip_lines}
use Rattle.polyover_text.specs.Grammar.{slice, contains, locate, AsksClip, asks_clip, default_clip, SetClipOptions}
use Rattle.polyover_text.specs.Grammar.{fill_name, rule_name, tiles, AsksTiles, asks_tiles, IsSide}
use Rattle.polyover_text.specs.Grammar.{AsksOverlay, asks, default_output, SetOptions}

-- their first letters differ
relate_is_not_locate : ¬ (codes "relate" ≡ codes "locate")
relate_is_not_locate e = false≢true (sym (ap (λ l. get_or l 0 0 == 114) e))

tiles_is_not_edges : ¬ (codes "tiles" ≡ codes "edges")
tiles_is_not_edges e = false≢true (sym (ap (λ l. get_or l 0 0 == 116) e))

tiles_is_not_slice : ¬ (codes "tiles" ≡ codes "slice")
tiles_is_not_slice e = false≢true (sym (ap (λ l. get_or l 0 0 == 116) e))

-- after `run edges`, `run relate` and `run slice` stands the name of a fill rule, and no other word
pub edges_asked : (ws rest : Line) (fill : FillRule) → ws ≡ codes "edges" ∷ rest → rest ≡ fill_name fill ∷ [] →
    IsCommand (codes "run" ∷ ws) (Edges fill)
edges_asked ws rest fill words named =
    subst (λ l. IsCommand (codes "run" ∷ l) (Edges fill)) (sym (words ∙ ap (λ l. codes "edges" ∷ l) named)) edges

pub relation_asked : (ws rest : Line) (fill : FillRule) → ws ≡ codes "relate" ∷ rest → rest ≡ fill_name fill ∷ [] →
    IsCommand (codes "run" ∷ ws) (Relate fill)
relation_asked ws rest fill words named =
    subst (λ l. IsCommand (codes "run" ∷ l) (Relate fill)) (sym (words ∙ ap (λ l. codes "relate" ∷ l) named)) relate

pub slice_asked : (ws rest : Line) (fill : FillRule) → ws ≡ codes "slice" ∷ rest → rest ≡ fill_name fill ∷ [] →
    IsCommand (codes "run" ∷ ws) (Slice fill)
slice_asked ws rest fill words named =
    subst (λ l. IsCommand (codes "run" ∷ l) (Slice fill)) (sym (words ∙ ap (λ l. codes "slice" ∷ l) named)) slice

-- the word is one of these three
abbrev pub TakesFill : Word → Type 0
TakesFill w = (w ≡ codes "edges") ⊎ (w ≡ codes "relate") ⊎ (w ≡ codes "slice")

fill_named : (w : Word) (rest : Line) (query : Query) → IsCommand (codes "run" ∷ w ∷ rest) query → TakesFill w
    → (fill : FillRule) × (rest ≡ fill_name fill ∷ [])
fill_named w rest query (edges {fill}) e = (fill, refl)
fill_named w rest query (overlay set) (inl e) = cc
fill_named w rest query (overlay set) (inr (inl e)) = cc
fill_named w rest query (overlay set) (inr (inr e)) = cc
fill_named w rest query (hierarchy set) (inl e) = cc
fill_named w rest query (hierarchy set) (inr (inl e)) = cc
fill_named w rest query (hierarchy set) (inr (inr e)) = cc
fill_named w rest query (relate {fill}) e = (fill, refl)
fill_named w rest query (clip_lines named) (inl e) = cc
fill_named w rest query (clip_lines named) (inr (inl e)) = cc
fill_named w rest query (clip_lines named) (inr (inr e)) = cc
fill_named w rest query (slice {fill}) e = (fill, refl)
fill_named w rest query (tiles named) (inl e) = absurd (tiles_is_not_edges e)
fill_named w rest query (tiles named) (inr (inl e)) = cc
fill_named w rest query (tiles named) (inr (inr e)) = absurd (tiles_is_not_slice e)
fill_named w rest query contains (inl e) = cc
fill_named w rest query contains (inr (inl e)) = cc
fill_named w rest query contains (inr (inr e)) = cc
fill_named w rest query locate (inl e) = cc
fill_named w rest query locate (inr (inl e)) = absurd (relate_is_not_locate (sym e))
fill_named w rest query locate (inr (inr e)) = cc

-- where they are not, nothing is asked
pub no_fill_named : (ws rest : Line) (w : Word) → ws ≡ w ∷ rest → TakesFill w
    → ((fill : FillRule) → ¬ (rest ≡ fill_name fill ∷ []))
    → (query : Query) → ¬ (IsCommand (codes "run" ∷ ws) query)
no_fill_named ws rest w words first none query h =
    let named = fill_named w rest query (subst (λ l. IsCommand (codes "run" ∷ l) query) words h) first in
    none named.0 named.1

-- an overlay is asked for by the names of its rules, and then options
pub overlay_named : (ws : Line) (r f : Word) (rest more : Line) (asked : OverlayQuery)
    → ws ≡ r ∷ rest → rest ≡ f ∷ more → r ≡ rule_name asked.overlay_rule → f ≡ fill_name asked.fill_rule
    → SetOptions default_output more asked.output → AsksOverlay ws asked
overlay_named ws r f rest more asked words left rule fill set =
    let all : ws ≡ rule_name asked.overlay_rule ∷ fill_name asked.fill_rule ∷ more = cc in
    subst (λ l. AsksOverlay l asked) (sym all) (asks set)

-- so it is after `run overlay`, and after `run hierarchy`
pub overlay_asked : (ws rest : Line) (asked : OverlayQuery) → ws ≡ codes "overlay" ∷ rest → AsksOverlay rest asked →
    IsCommand (codes "run" ∷ ws) (Overlay asked)
overlay_asked ws rest asked words named =
    subst (λ l. IsCommand (codes "run" ∷ l) (Overlay asked)) (sym words) (overlay named)

pub hierarchy_asked : (ws rest : Line) (asked : OverlayQuery) → ws ≡ codes "hierarchy" ∷ rest →
    AsksOverlay rest asked → IsCommand (codes "run" ∷ ws) (Hierarchy asked)
hierarchy_asked ws rest asked words named =
    subst (λ l. IsCommand (codes "run" ∷ l) (Hierarchy asked)) (sym words) (hierarchy named)

rules_named : (w : Word) (rest : Line) (query : Query) → IsCommand (codes "run" ∷ w ∷ rest) query →
    (w ≡ codes "overlay") ⊎ (w ≡ codes "hierarchy") → (asked : OverlayQuery) × AsksOverlay rest asked
rules_named w rest query edges (inl e) = cc
rules_named w rest query edges (inr e) = cc
rules_named w rest query (overlay {query = asked} named) e = (asked, named)
rules_named w rest query (hierarchy {query = asked} named) e = (asked, named)
rules_named w rest query relate (inl e) = cc
rules_named w rest query relate (inr e) = cc
rules_named w rest query (clip_lines named) (inl e) = cc
rules_named w rest query (clip_lines named) (inr e) = cc
rules_named w rest query slice (inl e) = cc
rules_named w rest query slice (inr e) = cc
rules_named w rest query (tiles named) (inl e) = cc
rules_named w rest query (tiles named) (inr e) = cc
rules_named w rest query contains (inl e) = cc
rules_named w rest query contains (inr e) = cc
rules_named w rest query locate (inl e) = cc
rules_named w rest query locate (inr e) = cc

-- where it is not, nothing is asked
pub no_rules_named : (ws rest : Line) (w : Word) → ws ≡ w ∷ rest →
    (w ≡ codes "overlay") ⊎ (w ≡ codes "hierarchy") → ((asked : OverlayQuery) → ¬ (AsksOverlay rest asked)) →
    (query : Query) → ¬ (IsCommand (codes "run" ∷ ws) query)
no_rules_named ws rest w words first none query h =
    let named = rules_named w rest query (subst (λ l. IsCommand (codes "run" ∷ l) query) words h) first in
    none named.0 named.1

-- a clip is asked for by the name of its fill rule, and then options
pub clip_named : (ws : Line) (f : Word) (more : Line) (asked : ClipQuery) → ws ≡ f ∷ more
    → f ≡ fill_name asked.fill_rule → SetClipOptions default_clip more asked.options → AsksClip ws asked
clip_named ws f more asked words fill set =
    let all : ws ≡ fill_name asked.fill_rule ∷ more = cc in
    subst (λ l. AsksClip l asked) (sym all) (asks_clip set)

-- so it is after `run clip`
pub clip_asked : (ws rest : Line) (asked : ClipQuery) → ws ≡ codes "clip" ∷ rest → AsksClip rest asked →
    IsCommand (codes "run" ∷ ws) (ClipLines asked)
clip_asked ws rest asked words named =
    subst (λ l. IsCommand (codes "run" ∷ l) (ClipLines asked)) (sym words) (clip_lines named)

clip_rule_named : (w : Word) (rest : Line) (query : Query) → IsCommand (codes "run" ∷ w ∷ rest) query →
    w ≡ codes "clip" → (asked : ClipQuery) × AsksClip rest asked
clip_rule_named w rest query edges e = cc
clip_rule_named w rest query (overlay set) e = cc
clip_rule_named w rest query (hierarchy set) e = cc
clip_rule_named w rest query relate e = cc
clip_rule_named w rest query (clip_lines {query = asked} named) e = (asked, named)
clip_rule_named w rest query slice e = cc
clip_rule_named w rest query (tiles named) e = cc
clip_rule_named w rest query contains e = cc
clip_rule_named w rest query locate e = cc

-- where it is not, nothing is asked
pub no_clip_named : (ws rest : Line) → ws ≡ codes "clip" ∷ rest → ((asked : ClipQuery) → ¬ (AsksClip rest asked)) →
    (query : Query) → ¬ (IsCommand (codes "run" ∷ ws) query)
no_clip_named ws rest words none query h =
    let named = clip_rule_named (codes "clip") rest query (subst (λ l. IsCommand (codes "run" ∷ l) query) words h)
    refl in
    none named.0 named.1

-- tiles are asked for by the name of a fill rule, and then the two sides of a cell
pub tiles_named : (ws : Line) (f v w : Word) (rest more left : Line) (asked : TilesQuery) → ws ≡ f ∷ rest
    → rest ≡ v ∷ more → more ≡ w ∷ left → left ≡ [] → f ≡ fill_name asked.fill_rule → IsSide v asked.width
    → IsSide w asked.height → AsksTiles ws asked
tiles_named ws f v w rest more left asked words after_rule after_width ended fill width height =
    let all : ws ≡ fill_name asked.fill_rule ∷ v ∷ w ∷ [] = cc in
    subst (λ l. AsksTiles l asked) (sym all) (asks_tiles width height)

-- and after these stands no word
pub words_after_sides : (ws : Line) (f v w x : Word) (rest more left others : Line) → ws ≡ f ∷ rest → rest ≡ v ∷ more
    → more ≡ w ∷ left → left ≡ x ∷ others → (asked : TilesQuery) → ¬ (AsksTiles ws asked)
words_after_sides ws f v w x rest more left others words after_rule after_width after_height asked (asks_tiles _ _) = cc

-- so they are after `run tiles`
pub tiles_asked : (ws rest : Line) (asked : TilesQuery) → ws ≡ codes "tiles" ∷ rest → AsksTiles rest asked →
    IsCommand (codes "run" ∷ ws) (Tiles asked)
tiles_asked ws rest asked words named =
    subst (λ l. IsCommand (codes "run" ∷ l) (Tiles asked)) (sym words) (tiles named)

sides_named : (w : Word) (rest : Line) (query : Query) → IsCommand (codes "run" ∷ w ∷ rest) query →
    w ≡ codes "tiles" → (asked : TilesQuery) × AsksTiles rest asked
sides_named w rest query edges e = absurd (tiles_is_not_edges (sym e))
sides_named w rest query (overlay set) e = cc
sides_named w rest query (hierarchy set) e = cc
sides_named w rest query relate e = cc
sides_named w rest query (clip_lines named) e = cc
sides_named w rest query slice e = absurd (tiles_is_not_slice (sym e))
sides_named w rest query (tiles {query = asked} named) e = (asked, named)
sides_named w rest query contains e = cc
sides_named w rest query locate e = cc

-- where they are not, nothing is asked
pub no_tiles_named : (ws rest : Line) → ws ≡ codes "tiles" ∷ rest → ((asked : TilesQuery) → ¬ (AsksTiles rest asked))
    → (query : Query) → ¬ (IsCommand (codes "run" ∷ ws) query)
no_tiles_named ws rest words none query h =
    let named = sides_named (codes "tiles") rest query (subst (λ l. IsCommand (codes "run" ∷ l) query) words h) refl in
    none named.0 named.1

-- after `run contains`, and after `run locate`, stands no word
last_word : (w : Word) (rest : Line) (query : Query) → IsCommand (codes "run" ∷ w ∷ rest) query →
    (w ≡ codes "contains") ⊎ (w ≡ codes "locate") → rest ≡ []
last_word w rest query edges (inl e) = cc
last_word w rest query edges (inr e) = cc
last_word w rest query (overlay set) (inl e) = cc
last_word w rest query (overlay set) (inr e) = cc
last_word w rest query (hierarchy set) (inl e) = cc
last_word w rest query (hierarchy set) (inr e) = cc
last_word w rest query relate (inl e) = cc
last_word w rest query relate (inr e) = absurd (relate_is_not_locate e)
last_word w rest query (clip_lines named) (inl e) = cc
last_word w rest query (clip_lines named) (inr e) = cc
last_word w rest query slice (inl e) = cc
last_word w rest query slice (inr e) = cc
last_word w rest query (tiles named) (inl e) = cc
last_word w rest query (tiles named) (inr e) = cc
last_word w rest query contains e = refl
last_word w rest query locate e = refl

-- the option holds such a query exactly where no word is left
asked_alone : (ws rest : Line) (w : Word) (asked : Query) (o : Option Query) → ws ≡ w ∷ rest →
    (w ≡ codes "contains") ⊎ (w ≡ codes "locate")
    → IsCommand (codes "run" ∷ w ∷ []) asked → MatchOption o (¬ (rest ≡ [])) (λ _. rest ≡ [])
    → IfSome o (λ q. q ≡ asked)
    → MatchOption o ((query : Query) → ¬ (IsCommand (codes "run" ∷ ws) query))
    (λ query. IsCommand (codes "run" ∷ ws) query)
asked_alone ws rest w asked None words named command some value =
    λ query h. some (last_word w rest query (subst (λ l. IsCommand (codes "run" ∷ l) query) words h) named)
asked_alone ws rest w asked (Some q) words named command ended value =
    subst (IsCommand (codes "run" ∷ ws)) (sym value)
    (subst (λ l. IsCommand (codes "run" ∷ l) asked) (sym (words ∙ ap (λ l. w ∷ l) ended)) command)

pub contains_asked : (ws rest : Line) (o : Option Query) → ws ≡ codes "contains" ∷ rest →
    MatchOption o (¬ (rest ≡ [])) (λ _. rest ≡ [])
    → IfSome o (λ q. q ≡ Contains)
    → MatchOption o ((query : Query) → ¬ (IsCommand (codes "run" ∷ ws) query))
    (λ query. IsCommand (codes "run" ∷ ws) query)
contains_asked ws rest o words last value = asked_alone ws rest (codes "contains") Contains o words
    (inl refl) contains last value

pub locate_asked : (ws rest : Line) (o : Option Query) → ws ≡ codes "locate" ∷ rest →
    MatchOption o (¬ (rest ≡ [])) (λ _. rest ≡ [])
    → IfSome o (λ q. q ≡ Locate)
    → MatchOption o ((query : Query) → ¬ (IsCommand (codes "run" ∷ ws) query))
    (λ query. IsCommand (codes "run" ∷ ws) query)
locate_asked ws rest o words last value = asked_alone ws rest (codes "locate") Locate o words
    (inr refl) locate last value
