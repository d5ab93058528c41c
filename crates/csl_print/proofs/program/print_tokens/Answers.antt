use Rattle.std.proofs.Common.{rules}
use Rattle.std.proofs.lemmas.Result.{IfOk-equal}
use Rattle.csl_print.specs.TreeTokens.{tokens_of}
use Rattle.csl_print.proofs.Layouts.{also}
use Rattle.csl_print.proofs.program.print_tokens.Goals as goal

pub returns : goal.returns
unfolding tokens_of
returns c = search (rules, IfOk-equal, also)
