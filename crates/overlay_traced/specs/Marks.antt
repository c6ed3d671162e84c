-- Marks of edges, and the given edges that they name.
use Rattle.std.specs.Prelude.{◌≡◌, ℕ, true, not, ◌||◌, if◌then◌else◌, List, [], ◌∷◌, ◌++◌, map}
use Rattle.std.specs.Prelude.{Option, None, Some}
use Rattle.overlay_traced.specs.declared.mark.Mark.{Mark}
use Rattle.overlay_traced.specs.declared.mark.Mark.TheVariants.{Lost, Given, Merged}
use Rattle.overlay_traced.specs.declared.source.Passage.{Passage}
use Rattle.overlay_traced.specs.declared.source.Source.{Source}

-- the mark of an edge of which nothing is known
abbrev pub lost_mark : Mark
lost_mark = Lost

-- the mark of a piece of the edge
abbrev pub cut_mark : Mark → Mark
cut_mark Lost = Lost
cut_mark (Given n p) = Given n (record p { is_cut = true })
cut_mark (Merged ss p) = Merged ss (record p { is_cut = true })

-- the mark of the edge the other way
abbrev pub turned_mark : Mark → Mark
turned_mark Lost = Lost
turned_mark (Given n p) = Given n (record p { is_reversed = not p.is_reversed })
turned_mark (Merged ss p) = Merged ss (record p { is_reversed = not p.is_reversed })

-- the given edge with the number, as an edge that lies on it so has it
abbrev pub source_of : ℕ → Passage → Source
source_of n p = record { edge = n; is_cut = p.is_cut; is_reversed = p.is_reversed }

-- a given edge of an edge, as another edge has it that lies on that edge so
abbrev pub passed_on : Passage → Source → Source
passed_on p s = record {
  edge = s.edge;
  is_cut = s.is_cut || p.is_cut;
  is_reversed = if p.is_reversed then not s.is_reversed else s.is_reversed;
}

-- both lists, if both are known
abbrev pub both_known : Option (List Source) → Option (List Source) → Option (List Source)
both_known None ys = None
both_known (Some xs) None = None
both_known (Some xs) (Some ys) = Some (xs ++ ys)

-- the given edges that a mark names, in the order in which they were merged, if they are known
abbrev pub sources_of : Mark → Option (List Source)
sources_of Lost = None
sources_of (Given n p) = Some (source_of n p ∷ [])
sources_of (Merged ss p) = Some (map (passed_on p) ss.now)

-- the third mark names the given edges of the first and then those of the second
abbrev pub IsJoined : Mark → Mark → Mark → Type 0
IsJoined d e m = sources_of m ≡ both_known (sources_of d) (sources_of e)
