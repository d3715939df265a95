use Rattle.std.proofs.Common.{◌≡◌, map, take}
use Rattle.clap.specs.Words.{app_of}
use Rattle.job_words.specs.Code.Command.{command_of}
use Rattle.job_words.specs.Code.Answers.{named}
use Rattle.job_words.proofs.given.command_of.Given as goal

abbrev pub invariant-loop-option : goal.invariant-loop-option
invariant-loop-option l = app_of l.command ≡ command_of l.name (map named (take l.option-index l.options))
