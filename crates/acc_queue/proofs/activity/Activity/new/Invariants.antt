-- The name and the room of the queue are those that are asked for.
use Rattle.acc_queue.proofs.activity.Activity.new.Given as goal

abbrev pub ghosts-opened : goal.ghosts-opened
ghosts-opened a = record { at = a.at; room = a.room }
