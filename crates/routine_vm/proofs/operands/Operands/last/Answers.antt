use Rattle.std.proofs.Common.{◌≡◌, ◌≤◌, ◌-◌, ℕ, List, length, take, drop, reverse, ap, sym, ◌∙◌, arith, vec_len}
use Rattle.std.proofs.Math.Seq.{take-length}
use Rattle.std.proofs.lemmas.List.{length-reverse, length-drop}
use Rattle.routine_vm.proofs.Lists.{reversed-take-reverse}
use Rattle.routine_vm.proofs.operands.Operands.last.Goals as goal

pub returns : goal.returns
returns c =
    let xs = c.self.inside.values.items in
    let n = c.args.count in
    let view : reverse xs ≡ c.args.self.now = c.self.view_is in
    let long : length xs ≡ vec_len c.self.inside.values = sym c.self.inside.values.ok.0 in
    let as_long = length-reverse xs in
    let same : length (reverse xs) ≡ length c.args.self.now = ap length view in
    let len : c.len.result ≡ length xs = omega (arith, c.len.ensures, long) in
    let le : n ≤ length xs = omega (arith, c.requires, as_long, same) in
    let left = length-drop (length xs - n) xs in
    let whole : length xs - (length xs - n) ≡ length (drop (length xs - n) xs) = omega (arith, left) in
    rw (c.deref.ensures.value, len) (ap (λ (k : ℕ). take k (drop (length xs - n) xs)) whole ∙ take-length (drop (length xs - n) xs) ∙ sym (reversed-take-reverse xs n le)
    ∙ ap (λ (l : List _). reverse (take n l)) view)
