-- Whether one relation holds is told in one way, and is what all of them tell of it.
use Rattle.std.proofs.Common.{◌≡◌, ℕ, ℤ, Bool, false, List, refl, sym, ap, subst, ◌∙◌}
use Rattle.std.specs.Prelude.{◌↔◌, ◌==◌, IsTrue, if◌then◌else◌}
use Rattle.overlay_geom.specs.Rules.{bit, is_filled}
use Rattle.overlay_geom.specs.Edges.{CountedEdge}
use Rattle.overlay_relate.proofs.OneTruth.{one_truth}
use Rattle.overlay_relate.specs.PredicateQueries.{AreRelations}
use Rattle.overlay_relate.specs.declared.relations.Relations.{Relations}
use Rattle.i_overlay.proofs.OneAnswer.{one_arrangement_of_paths}
use Rattle.polyover_calls.specs.Asked.{fill_of}
use Rattle.polyover_calls.specs.Given.{Contours, paths_given}
use Rattle.polyover_calls.specs.OneAnswer.{OneRelationOfAll, told_of}
use Rattle.polyover_calls.specs.RelatedOne.{Holds, IsRelatedSo, bit_of}
use Rattle.polyover_calls.specs.declared.relation.Relation.{Relation}
use Rattle.polyover_calls.specs.declared.relation.Relation.TheVariants as relation

-- what all relations tell of one is whether it holds
all_tell : (filled : ℤ → Bool) (es : List CountedEdge) (r : Relations) (one : Relation) → AreRelations filled es r →
    IsTrue (told_of r one) ↔ Holds one filled es
all_tell filled es r relation.Intersects are = are.intersects
all_tell filled es r relation.InteriorsIntersect are = are.interiors_intersect
all_tell filled es r relation.Touches are = are.touches
all_tell filled es r relation.PointIntersects are = are.point_intersects
all_tell filled es r relation.Within are = are.within
all_tell filled es r relation.Disjoint are = are.disjoint
all_tell filled es r relation.Covers are = are.covers

-- the relation with the bit
relation_at : ℕ → Relation
relation_at n =
    if n == 1 then relation.Intersects else if n == 2 then relation.InteriorsIntersect
    else if n == 4 then relation.Touches else if n == 8 then relation.PointIntersects
    else if n == 16 then relation.Within else if n == 32 then relation.Disjoint else relation.Covers

read_back : (r : Relation) → relation_at (bit_of r) ≡ r
unfolding relation_at
read_back relation.Intersects = refl
read_back relation.InteriorsIntersect = refl
read_back relation.Touches = refl
read_back relation.PointIntersects = refl
read_back relation.Within = refl
read_back relation.Disjoint = refl
read_back relation.Covers = refl

-- a bit is that of one relation
pub one_with_bit : (r q : Relation) → bit_of r ≡ bit_of q → r ≡ q
one_with_bit r q same = sym (read_back r) ∙ ap relation_at same ∙ read_back q

pub one_telling_of_relation : {I : Type 0} (whole : I → ℤ) (limit number fill : ℕ) (subject clip : Contours I)
    (first second : ℕ) → IsRelatedSo whole limit number fill 0 subject clip first →
    IsRelatedSo whole limit number fill 0 subject clip second → first ≡ second
one_telling_of_relation whole limit number fill subject clip first second a b =
    let t = a.tells in
    let u = b.tells in
    let asked = a.known.1.relation in
    let other = b.known.1.relation in
    let filled = is_filled (fill_of fill) in
    let edges = one_arrangement_of_paths false (paths_given whole subject clip) t.content u.content t.edges u.edges
    t.holds u.holds t.arranged u.arranged in
    a.told ∙ ap (λ b. bit b 1) (one_truth (Holds asked.relation filled u.edges) a.holds b.holds
    (subst (λ es. IsTrue a.holds ↔ Holds asked.relation filled es) edges t.tells)
    (subst (λ r. IsTrue b.holds ↔ Holds r filled u.edges)
    (one_with_bit other.relation asked.relation (sym other.number ∙ asked.number)) u.tells)) ∙ sym b.told

pub one_relation_of_all : {I : Type 0} (whole : I → ℤ) (limit : ℕ) → OneRelationOfAll whole limit
one_relation_of_all whole limit number fill subject clip sum answer all one =
    let asked = one.known.1.relation.relation in
    let t = one.tells in
    let a = all.hold in
    let filled = is_filled (fill_of fill) in
    let same = one_arrangement_of_paths false (paths_given whole subject clip) t.content a.content t.edges a.edges
    t.holds a.holds t.arranged a.arranged in
    one.told ∙ ap (λ b. bit b 1) (one_truth (Holds asked filled a.edges) one.holds (told_of all.relations asked)
    (subst (λ es. IsTrue one.holds ↔ Holds asked filled es) same t.tells)
    (all_tell filled a.edges all.relations asked a.relations))
