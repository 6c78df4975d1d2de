-- `rooms::best::best_with_room` meets its contract: room, then what is found of the held block. Assumes nothing.
use Rattle.loading.proofs.HeldFile.{too_short}
use Rattle.answers.proofs.Lines.{best_answered}
use Rattle.rooms.proofs.best.best_with_room.Goals as goal

pub returns-then-increases-n : goal.returns-then-increases-n
returns-then-increases-n c = λ file held. too_short file _ _ _ _ _ _ _ c.args.block.now.order c.args.increases.now held.well c.if-increases-n.true

pub best_held-requires : goal.best_held-requires
best_held-requires c = record { held = c.requires; room = c.if-increases-n.false }

pub returns : goal.returns
returns c = λ file held. best_answered held c.if-increases-n.false (c.best_held.ensures file held)
