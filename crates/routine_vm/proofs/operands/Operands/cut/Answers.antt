use Rattle.std.proofs.Common.{◌≡◌, ◌≤◌, ◌-◌, ℕ, List, length, take, drop, reverse, ap, sym, ◌∙◌, arith, vec_len}
use Rattle.std.proofs.lemmas.List.{length-reverse}
use Rattle.routine_vm.proofs.Lists.{drop-reverse}
use Rattle.routine_vm.proofs.operands.Operands.cut.Goals as goal

pub returns : goal.returns
returns c =
    let xs = c.self.inside.values.items in
    let n = c.args.count in
    let view : reverse xs ≡ c.args.self.now = c.self.view_is in
    let long : length xs ≡ vec_len c.self.inside.values = sym c.self.inside.values.ok.0 in
    let as_long = length-reverse xs in
    let same : length (reverse xs) ≡ length c.args.self.now = ap length view in
    let len : c.len.result ≡ length xs = omega (arith, c.len.ensures, long) in
    let le : n ≤ length xs = omega (arith, c.requires, as_long, same) in
    ap (λ (l : List _). reverse l) (c.truncate.ensures.items ∙ ap (λ (k : ℕ). take (k - n) xs) len) ∙ sym (drop-reverse xs n le) ∙ ap (λ (l : List _). drop n l) view
