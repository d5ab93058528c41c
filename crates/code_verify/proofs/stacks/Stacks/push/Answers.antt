use Rattle.std.proofs.Common.{◌≡◌, ◌∷◌, ◌<◌, ◌∙◌, ℕ, length, Some, get_or, sym, ap, subst, arith}
use Rattle.std.specs.Prelude.{slice_get}
use Rattle.code_verify.specs.declared.stacks.Node.{Node}
use Rattle.code_verify.specs.Stacks.{stack_at}
use Rattle.code_verify.proofs.Sharing.{plain, node_there, read_at, known_at, grown_keeps, grown_place}
use Rattle.code_verify.proofs.stacks.Stacks.push.Goals as goal

pub bounds-as_slice-at : goal.bounds-as_slice-at
bounds-as_slice-at c =
    let lt = node_there c.self.inside.nodes c.args.self.now c.self.view_is c.args.at c.requires in
    let long : length c.as_slice.result.now ≡ length c.self.inside.nodes = ap length c.as_slice.ensures in
    omega (arith, lt, long)

pub returns-then-known-ne0-clause-place : goal.returns-then-known-ne0-clause-place
returns-then-known-ne0-clause-place c =
    let n : Node = get_or c.as_slice.result.now c.args.at plain in
    let at : slice_get c.self.inside.nodes c.args.at ≡ Some n = read_at c.self.inside.nodes c.as_slice.result.now c.args.at c.as_slice.ensures
    (node_there c.self.inside.nodes c.args.self.now c.self.view_is c.args.at c.requires) in
    subst (λ (q : ℕ). (q < length c.args.self.now) × (stack_at c.args.self.now q ≡ c.args.kind ∷ stack_at c.args.self.now c.args.at)) (sym c.above-known.ensures)
    (known_at c.self.inside.nodes c.args.self.now c.self.view_is c.args.at c.self.invariant n at c.args.kind (λ e. c.if-known-ne0.true (c.above-known.ensures ∙ e)))

pub grow-requires-clause-there : goal.grow-requires-clause-there
grow-requires-clause-there c = read_at c.self.inside.nodes c.as_slice.result.now c.args.at c.as_slice.ensures (node_there c.self.inside.nodes c.args.self.now c.self.view_is c.args.at c.requires)

pub returns-clause-keeps : goal.returns-clause-keeps
returns-clause-keeps c = grown_keeps c.grow.result c.self.inside.nodes c.grow.new.nodes c.args.self.now c.self.view_is (get_or c.as_slice.result.now c.args.at plain) c.args.kind c.grow.ensures.stacks
    c.grow.ensures.full

pub returns-clause-place : goal.returns-clause-place
returns-clause-place c =
    let at : slice_get c.self.inside.nodes c.args.at ≡ Some (get_or c.as_slice.result.now c.args.at plain) = read_at c.self.inside.nodes c.as_slice.result.now c.args.at c.as_slice.ensures
    (node_there c.self.inside.nodes c.args.self.now c.self.view_is c.args.at c.requires) in
    grown_place c.grow.result c.self.inside.nodes c.grow.new.nodes c.args.self.now c.self.view_is (get_or c.as_slice.result.now c.args.at plain) c.args.kind c.args.at c.self.invariant at
    c.grow.ensures.stacks c.grow.ensures.place
