-- The words that an iterator over words has left.
use Rattle.polyover_text.specs.Grammar.{Line, words}
use Rattle.polyover_text.specs.declared.words.Words.{Words}

abbrev pub words_left : Words → Line
words_left w = words w.rest.now
