use Rattle.std.proofs.Common.{◌+◌, refl, ap, ◌∙◌, ◌≡◌, length, ◌∷◌, [], ◌++◌, Some, subst, sym, arith, List}
use Rattle.std.specs.Prelude.{slice_set}
use Rattle.std.proofs.lemmas.List.{length-append}
use Rattle.code_verify.specs.declared.stacks.Node.{Node}
use Rattle.code_verify.specs.Stacks.{stacks_of, IsTree, linked}
use Rattle.code_verify.proofs.Sharing.{low_at, grown_tree, grown_stacks}
use Rattle.code_verify.proofs.stacks.grow.Goals as goal

pub overflow_add-node : goal.overflow_add-node
overflow_add-node c =
    let low = low_at c.args.nodes.now (stacks_of c.args.nodes.now) refl c.args.at c.requires.tree c.args.node c.requires.there in
    omega (arith, low.0, low.1, c.len-place.ensures, c.if-place-ge-MOST_STACKS.false)

pub set-requires : goal.set-requires
set-requires c =
    let low = low_at c.args.nodes.now (stacks_of c.args.nodes.now) refl c.args.at c.requires.tree c.args.node c.requires.there in
    let added : Node = record { top = Some c.args.kind; below = c.args.at; height = c.args.node.height + 1; ints = 0; truths = 0 } in
    let long : length c.push.new.self ≡ length (c.args.nodes.now ++ added ∷ []) = ap length c.in_ok-push.ensures.ok in
    omega (arith, low.1, long, length-append c.args.nodes.now (added ∷ []))

pub returns-clause-tree : goal.returns-clause-tree
returns-clause-tree c =
    let added : Node = record { top = Some c.args.kind; below = c.args.at; height = c.args.node.height + 1; ints = 0; truths = 0 } in
    let is : c.set.new.self ≡ slice_set (c.args.nodes.now ++ added ∷ []) c.args.at (linked c.args.node c.args.kind (length c.args.nodes.now)) = c.set.ensures
    ∙ ap (λ (l : List Node). slice_set l c.args.at c.linked.result) c.in_ok-push.ensures.ok
    ∙ ap (slice_set (c.args.nodes.now ++ added ∷ []) c.args.at) (c.linked.ensures ∙ ap (linked c.args.node c.args.kind) c.len-place.ensures) in
    subst (λ (l : List Node). IsTree l) (sym is) (grown_tree c.args.nodes.now c.requires.tree c.args.at c.args.node c.requires.there c.args.kind c.requires.none)

pub returns-clause-stacks : goal.returns-clause-stacks
returns-clause-stacks c =
    let added : Node = record { top = Some c.args.kind; below = c.args.at; height = c.args.node.height + 1; ints = 0; truths = 0 } in
    let is : c.set.new.self ≡ slice_set (c.args.nodes.now ++ added ∷ []) c.args.at (linked c.args.node c.args.kind (length c.args.nodes.now)) = c.set.ensures
    ∙ ap (λ (l : List Node). slice_set l c.args.at c.linked.result) c.in_ok-push.ensures.ok
    ∙ ap (slice_set (c.args.nodes.now ++ added ∷ []) c.args.at) (c.linked.ensures ∙ ap (linked c.args.node c.args.kind) c.len-place.ensures) in
    ap stacks_of is ∙ grown_stacks c.args.nodes.now c.requires.tree c.args.at c.args.node c.requires.there c.args.kind c.requires.none
