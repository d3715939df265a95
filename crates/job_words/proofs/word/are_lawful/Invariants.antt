use Rattle.std.proofs.Common.{◌≡◌, map, string_bytes, drop}
use Rattle.job_words.specs.Code.Word as code
use Rattle.job_words.proofs.word.are_lawful.Given as goal

abbrev pub invariant-loop-word : goal.invariant-loop-word
invariant-loop-word l = code.are_lawful (map string_bytes (drop l.word-index l.words)) ≡ code.are_lawful (map string_bytes l.words)
