-- The loop of `big_endian::numbers`: the words written, and what the bytes left make of the words left, are the whole answer.
use Rattle.big_endian.proofs.Fills.{Filled}
use Rattle.big_endian.proofs.numbers.Given as goal

abbrev pub invariant-loop-word : goal.invariant-loop-word
invariant-loop-word l = Filled l.width l.initial.words l.bytes l.words l.rest l.word-index
