use Rattle.std.proofs.Common.{◌≡◌, drop}
use Rattle.csl_tree.specs.declared.token.TokenKind.TheVariants as kind
use Rattle.csl_tree.specs.declared.token.Keyword.TheVariants.{Else}
use Rattle.csl_tree.specs.declared.token.Mark.TheVariants.{OpenBrace}
use Rattle.csl_print.specs.Layout.{adds, adds_all}
use Rattle.csl_print.specs.TreeTokens.{word, each, further, parted, statement_tokens, arm_tokens, routine_tokens}
use Rattle.csl_print.proofs.stmt.+stmt.Given as goal

-- with the rest of them all statements are added, behind the brace
abbrev pub invariant-print_body-loop-s : goal.invariant-print_body-loop-s
invariant-print_body-loop-s l =
    adds_all l.out (each statement_tokens (drop l.s-index l.body)) ≡ adds_all (adds l.fn.out (kind.Mark OpenBrace)) (each statement_tokens l.fn.body)

-- with the rest of them all arms are added
abbrev pub invariant-print_arms-loop-arm : goal.invariant-print_arms-loop-arm
invariant-print_arms-loop-arm l =
    adds_all l.out (further (word Else) arm_tokens (drop l.arm-index l.rest)) ≡ adds_all l.fn.out (parted (word Else) arm_tokens l.fn.arms)

-- with the rest of them all routine blocks are added
abbrev pub invariant-print_routines-loop-block : goal.invariant-print_routines-loop-block
invariant-print_routines-loop-block l =
    adds_all l.out (each routine_tokens (drop l.block-index l.blocks)) ≡ adds_all l.fn.out (each routine_tokens l.fn.blocks)
