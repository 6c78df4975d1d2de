-- `shaping::plant::plant_block` meets its contract: the block is reduced, and the tree that the reduction finds is planted between its first and its last gate. Assumes nothing.
use Prim.Native.Nat.{◌-◌}
use Rattle.planting.proofs.Writing.{there_is_room}
use native.Mathlib.Omega.{arith}
use Rattle.shaping.proofs.PlantLaws.{given_network, reducible, few_gates, few_wires, root_asked, root_of_several, lone_planted, root_planted, none_planted}
use Rattle.shaping.proofs.plant.plant_block.Goals as goal

pub reduce_network-requires : goal.reduce_network-requires
reduce_network-requires c = record { given = reducible c.requires.given.1; wires_long = (c.requires.wires_long.sources_long, c.requires.wires_long.targets_long, c.requires.wires_long.delays_long); few = (few_gates c.requires.given.1, few_wires c.requires.given.1) }

pub returns-in_err-reduce_network : goal.returns-in_err-reduce_network
returns-in_err-reduce_network c = record { planted = λ B g. none_planted c.from_residual.result c.args.tree.now c.from_residual.ensures.1 (c.in_err-reduce_network.ensures.answered B (given_network g) g.wired) }

pub plant_lone-requires : goal.plant_lone-requires
plant_lone-requires c = there_is_room c.args.tree.now 3 c.requires.nodes_long (omega arith)

pub plant-requires-clause-readable : goal.plant-requires-clause-readable
plant-requires-clause-readable c =
    (root_asked c.requires.given.1 c.args.tree.now (rw c.in-Some.is at (c.in_ok-reduce_network.ensures.answered _ (given_network c.requires.given.1) c.requires.given.1.wired)) (c.in_ok-reduce_network.ensures.nodes_long (root_of_several c.requires.given.1 (rw c.in-Some.is at (c.in_ok-reduce_network.ensures.answered _ (given_network c.requires.given.1) c.requires.given.1.wired)))) c.requires.nodes_long 0 (c.args.n - 1)).0

pub plant-requires-clause-room : goal.plant-requires-clause-room
plant-requires-clause-room c =
    (root_asked c.requires.given.1 c.args.tree.now (rw c.in-Some.is at (c.in_ok-reduce_network.ensures.answered _ (given_network c.requires.given.1) c.requires.given.1.wired)) (c.in_ok-reduce_network.ensures.nodes_long (root_of_several c.requires.given.1 (rw c.in-Some.is at (c.in_ok-reduce_network.ensures.answered _ (given_network c.requires.given.1) c.requires.given.1.wired)))) c.requires.nodes_long 0 (c.args.n - 1)).1

pub returns-in-None : goal.returns-in-None
returns-in-None c = record { planted = λ B g. lone_planted g _ _ (rw c.in-None.is at (c.in_ok-reduce_network.ensures.answered B (given_network g) g.wired)) c.plant_lone.ensures.count c.plant_lone.ensures.planted c.plant_lone.ensures.written c.plant_lone.ensures.held }

pub returns-in-Some : goal.returns-in-Some
returns-in-Some c = record { planted = λ B g. root_planted g _ _ (rw c.in-Some.is at (c.in_ok-reduce_network.ensures.answered B (given_network g) g.wired)) c.plant.ensures.count c.plant.ensures.planted c.plant.ensures.written c.plant.ensures.held }
