-- A winding of once in one direction is once back in the other, and zero stays zero.
use Rattle.std.proofs.Common.{◌≡◌, Bool, true, false, cond, pos, negsuc, neg_ℤ, refl, sym, ap, ◌∙◌}
use Rattle.overlay_extract.proofs.laws.direction_turns_windings.Goals as goal

turned : (b : Bool) → cond b (negsuc 0) (pos 0) ≡ neg_ℤ (cond b (pos 1) (pos 0))
turned true = refl
turned false = refl

pub returns : goal.returns
returns c = λ q es left right all l r p off. r.winds all p off ∙ turned _ ∙ ap neg_ℤ (sym (l.winds all p off))
