-- `reduction::tree::reduce_network` meets its contract: the nodes copied are those of the tree. Assumes nothing.
use native.Mathlib.Omega.{arith}
use Rattle.reduction.proofs.TreeLaws.{several, same_rooted, none_answered}
use Rattle.reduction.proofs.tree.reduce_network.Goals as goal

pub returns-in_err-reduce_network : goal.returns-in_err-reduce_network
returns-in_err-reduce_network c = λ N net w. none_answered _ c.from_residual.result c.from_residual.ensures.1 (c.in_err-reduce_network.ensures.answered N net w)

pub copy_front-requires : goal.copy_front-requires
copy_front-requires c =
    let g = c.requires.given in
    let root = rw c.in-Some.is at (c.in_ok-reduce_network.ensures.answered g.block g.network g.wired) in
    let few = c.in_ok-reduce_network.ensures.nodes_few (several root g.wired.gates) in
    (root.kinds_long, omega (arith, few, c.requires.room.0))

pub copy_front-requires-in-Some : goal.copy_front-requires-in-Some
copy_front-requires-in-Some c =
    let g = c.requires.given in
    let root = rw c.in-Some.is at (c.in_ok-reduce_network.ensures.answered g.block g.network g.wired) in
    let few = c.in_ok-reduce_network.ensures.nodes_few (several root g.wired.gates) in
    (root.lefts_long, omega (arith, few, c.requires.room.1))

pub copy_front-requires-in-Some-2 : goal.copy_front-requires-in-Some-2
copy_front-requires-in-Some-2 c =
    let g = c.requires.given in
    let root = rw c.in-Some.is at (c.in_ok-reduce_network.ensures.answered g.block g.network g.wired) in
    let few = c.in_ok-reduce_network.ensures.nodes_few (several root g.wired.gates) in
    (root.gates_long, omega (arith, few, c.requires.room.2))

pub copy_front-requires-in-Some-3 : goal.copy_front-requires-in-Some-3
copy_front-requires-in-Some-3 c =
    let g = c.requires.given in
    let root = rw c.in-Some.is at (c.in_ok-reduce_network.ensures.answered g.block g.network g.wired) in
    let few = c.in_ok-reduce_network.ensures.nodes_few (several root g.wired.gates) in
    (root.rights_long, omega (arith, few, c.requires.room.3))

pub returns-in-None : goal.returns-in-None
returns-in-None c = λ N net w. rw c.in-None.is at (c.in_ok-reduce_network.ensures.answered N net w)

pub returns-in-Some : goal.returns-in-Some
returns-in-Some c =
    λ N net w.
    let root = rw c.in-Some.is at (c.in_ok-reduce_network.ensures.answered N net w) in
    let few = c.in_ok-reduce_network.ensures.nodes_few (several root w.gates) in
    same_rooted root
    (λ k h. record { kind = c.copy_front.ensures.same k h; left = c.copy_front-in-Some.ensures.same k h; gate = c.copy_front-in-Some-2.ensures.same k h; right = c.copy_front-in-Some-3.ensures.same k h })
    (omega (arith, few, c.requires.room.0, c.copy_front.ensures.kept), omega (arith, few, c.requires.room.1, c.copy_front-in-Some.ensures.kept), omega (arith, few, c.requires.room.2, c.copy_front-in-Some-2.ensures.kept), omega (arith, few, c.requires.room.3, c.copy_front-in-Some-3.ensures.kept))
