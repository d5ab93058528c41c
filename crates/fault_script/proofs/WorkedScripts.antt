-- The worked scripts.
use Rattle.std.proofs.Common.{refl}
use Rattle.std.specs.Str.{is_utf8, chars}
use Rattle.toml.proofs.OnLiterals.{toml_on_literals}
use Rattle.fault_script.specs.Scripts.{row_with}
use Rattle.fault_script.specs.ScriptRows.{Scripts, RefusedScripts}

pub scripts : Scripts
unfolding toml_on_literals is_utf8 chars row_with
scripts = record {
  empty = refl;
  remark = refl;
  no_rows = refl;
  repeats = refl;
  stops = refl;
  two_rows = refl;
}

pub refused : RefusedScripts
unfolding toml_on_literals is_utf8 chars row_with
refused = record {
  no_text = refl;
  other_key = refl;
  no_array = refl;
  no_number = refl;
  number_too_high = refl;
  negative = refl;
  no_integer = refl;
  stop_zero = refl;
  not_ascending = refl;
  from_zero = refl;
  in_two_lists = refl;
  unknown_key = refl;
  same_number = refl;
  key_twice = refl;
}
