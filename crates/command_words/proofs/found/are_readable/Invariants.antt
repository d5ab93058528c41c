use Rattle.std.proofs.Common.{◌≡◌, map, drop, string_bytes}
use Rattle.std.specs.List.{list_all}
use Rattle.command_words.specs.Line.{is_readable}
use Rattle.command_words.proofs.found.are_readable.Given as goal

abbrev pub invariant-loop-word : goal.invariant-loop-word
invariant-loop-word l = list_all is_readable (map string_bytes (drop l.word-index l.list)) ≡ list_all is_readable (map string_bytes l.list)
