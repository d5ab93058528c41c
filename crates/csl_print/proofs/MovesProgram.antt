-- Declarations and programs with the tokens at other places.
use Rattle.std.proofs.Common.{◌≡◌, ℕ, pos, List, [], Some, None, Bool, false, refl}
use Rattle.std.specs.Prelude.{map, neg_ℤ}
use Rattle.cal_terms.specs.declared.kinds.WordKind.TheVariants as words
use Rattle.csl_tree.specs.declared.token.Token.{Token}
use Rattle.csl_tree.specs.declared.program.Valued.{Valued}
use Rattle.csl_tree.specs.declared.program.Shared.{Shared}
use Rattle.csl_tree.specs.declared.program.Param.{Param}
use Rattle.csl_tree.specs.declared.program.Function.{Function}
use Rattle.csl_tree.specs.declared.program.Program.{Program}
use Rattle.csl_grammar.specs.Programs.{SpellsValue, plain, minus, SpellsInitial, unlisted, listed, SpellsShared, scalar, array, tally, SpellsParam, param, SpellsFunction, function, SpellsProgram}
use Rattle.csl_grammar.specs.Programs.{program}
use Rattle.csl_print.specs.Bare.{bare_name, bare_stmt, bare_value, bare_shared, bare_param, bare_function, bare}
use Rattle.csl_print.proofs.Moves.{moved_name, all_moved, Moved, kept, move_each, move_list, move_block}

-- the moved tokens spell a program that is the same but for positions
pub record MovedProgram (f : ℕ → ℕ) (ts : List Token) (p : Program) : Type 0 where
  pub tree : Program
  pub spelled : SpellsProgram (all_moved f ts) tree
  pub same : bare tree ≡ bare p

module _ (f : ℕ → ℕ) where
  move_value : (ts rest : List Token) (v : Valued) → SpellsValue ts rest v → Moved f SpellsValue bare_value ts rest v
  move_value _ _ _ (plain {token = token} {n = n} k) = record { tree = record { at = f token.at; number = n }; spelled = plain (kept f k); same = refl }
  move_value _ _ _ (minus {sign = sign} {n = n} m k) = record { tree = record { at = f sign.at; number = neg_ℤ (pos n) }; spelled = minus (kept f m) (kept f k); same = refl }

  record MovedInitial (ts rest : List Token) (stated : Bool) (vs : List Valued) : Type 0 where
    values : List Valued
    spelled : SpellsInitial (all_moved f ts) (all_moved f rest) stated values
    same : map bare_value values ≡ map bare_value vs

  move_initial : {ts rest : List Token} {stated : Bool} {vs : List Valued} → SpellsInitial ts rest stated vs → MovedInitial ts rest stated vs
  move_initial unlisted = record { values = []; spelled = unlisted; same = refl }
  move_initial (listed a o d c) =
      let v : Moved f _ (map bare_value) _ _ _ = move_list f SpellsValue bare_value move_value d in
      record { values = v.tree; spelled = listed (kept f a) (kept f o) v.spelled (kept f c); same = v.same }

  move_shared : (ts rest : List Token) (s : Shared) → SpellsShared ts rest s → Moved f SpellsShared bare_shared ts rest s
  move_shared _ _ _ (scalar {name = name} w n s) =
      record { tree = record { name = moved_name f name; kind = words.Ordinary; size = None; values = []; listed = false }; spelled = scalar (kept f w) (kept f n) (kept f s); same = refl }
  move_shared _ _ _ (array {number = size} {name = name} {n = n} {listed = stated} {vs = vs} w m o k c d s) =
      let i : MovedInitial _ _ _ _ = move_initial d in
      record {
        tree = record { name = moved_name f name; kind = words.Ordinary; size = Some (record { at = f size.at; number = n }); values = i.values; listed = stated };
        spelled = array (kept f w) (kept f m) (kept f o) (kept f k) (kept f c) i.spelled (kept f s);
        same = λ x. record { name = bare_name name; kind = words.Ordinary; size = Some (record { at = 0; number = n }); values = i.same x; listed = stated };
      }
  move_shared _ _ _ (tally {name = name} w i n s) =
      record { tree = record { name = moved_name f name; kind = words.Tally; size = None; values = []; listed = false }; spelled = tally (kept f w) (kept f i) (kept f n) (kept f s); same = refl }

  move_param : (ts rest : List Token) (p : Param) → SpellsParam ts rest p → Moved f SpellsParam bare_param ts rest p
  move_param _ _ _ (param {t = t} {name = name} w n) = record { tree = record { name = moved_name f name; ty = t }; spelled = param (kept f w) (kept f n); same = refl }

  move_function : (ts rest : List Token) (g : Function) → SpellsFunction ts rest g → Moved f SpellsFunction bare_function ts rest g
  move_function _ _ _ (function {g = g} {name = name} w n o d c b) =
      let ps : Moved f _ (map bare_param) _ _ _ = move_list f SpellsParam bare_param move_param d in
      let m : Moved f _ (map bare_stmt) _ _ _ = move_block f b in
      record {
        tree = record { name = moved_name f name; gives = g; params = ps.tree; body = m.tree };
        spelled = function (kept f w) (kept f n) (kept f o) ps.spelled (kept f c) m.spelled;
        same = λ x. record { name = bare_name name; gives = g; params = ps.same x; body = m.same x };
      }

  pub move_program : {ts : List Token} {p : Program} → SpellsProgram ts p → MovedProgram f ts p
  unfolding bare
  move_program (program w o sh c fs m b e) =
      let s : Moved f _ (map bare_shared) _ _ _ = move_each f SpellsShared bare_shared move_shared sh in
      let g : Moved f _ (map bare_function) _ _ _ = move_each f SpellsFunction bare_function move_function fs in
      let n : Moved f _ (map bare_stmt) _ _ _ = move_block f b in
      record {
        tree = record { shared = s.tree; functions = g.tree; main = n.tree };
        spelled = program (kept f w) (kept f o) s.spelled (kept f c) g.spelled (kept f m) n.spelled (kept f e);
        same = λ x. record { shared = s.same x; functions = g.same x; main = n.same x };
      }
