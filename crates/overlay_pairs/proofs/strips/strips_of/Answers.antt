-- The bundles are put beside the boxes, alone or with fans.
use Rattle.overlay_pairs.proofs.strips.strips_of.Goals as goal

pub returns-in_ok-bundles : goal.returns-in_ok-bundles
returns-in_ok-bundles g c = record {
  ok = let boxes = c.in_ok-strips.ensures.ok in
      record {
        some = boxes.some;
        permutation = boxes.permutation;
        strips = boxes.strips;
        heights = boxes.heights;
        blocks = boxes.blocks;
        bundles = c.in_ok-bundles.ensures.ok;
      };
}

pub returns-in_ok-bundles-2 : goal.returns-in_ok-bundles-2
returns-in_ok-bundles-2 g c = record {
  ok = let boxes = c.in_ok-strips.ensures.ok in
      record {
        some = boxes.some;
        permutation = boxes.permutation;
        strips = boxes.strips;
        heights = boxes.heights;
        blocks = boxes.blocks;
        bundles = c.in_ok-bundles-2.ensures.ok;
      };
}
