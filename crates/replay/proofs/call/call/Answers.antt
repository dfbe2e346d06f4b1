-- A call is carried out by its kind, and what it gives is told as it is.
use Rattle.replay.proofs.Laws.Calls.{ask_meets, change_meets, clear_meets}
use Rattle.replay.proofs.call.call.Goals as goal

pub returns-in-Clear : goal.returns-in-Clear
returns-in-Clear c =
    rw c.in-Clear.is
    (clear_meets _ _ _ _ _ _ c.clear.ensures)

pub returns-in-Change : goal.returns-in-Change
returns-in-Change c =
    rw c.in-Change.is
    (change_meets _ _ _ _ _ _ c.change.ensures)

pub returns-in-Ask : goal.returns-in-Ask
returns-in-Ask c =
    rw c.in-Ask.is
    (ask_meets _ _ _ _ _ _ c.ask.ensures.meets c.ask.ensures.bounds)
