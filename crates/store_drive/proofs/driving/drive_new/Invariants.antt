use Rattle.graph_types.specs.Step.{empty_graph}
use Rattle.store_drive.proofs.driving.drive_new.Given as goal

-- the store is of the opening that was just made, which began with nothing
abbrev pub ghosts-drive_over : goal.ghosts-drive_over
ghosts-drive_over g a = record { book = a.desk.book; opening = empty_graph }
