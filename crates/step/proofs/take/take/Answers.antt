-- `take::take` meets its contract: a line is or a choice fixed, as is asked, on the state that is loaded. Assumes nothing.
use Rattle.step.proofs.take.Answers.{ready-room, gives_line, gives_choice}
use Rattle.step.proofs.take.take.Goals as goal

pub add_line-requires-clause-room : goal.add_line-requires-clause-room
add_line-requires-clause-room c = ready-room c.requires.ready c.requires.lent

pub returns-in-Add-clause-gives : goal.returns-in-Add-clause-gives
returns-in-Add-clause-gives c = gives_line _ _ _ _ c.in-Add.is (c.add_line.ensures.added _ _ c.requires.ready)

pub returns-in-Bind-clause-gives : goal.returns-in-Bind-clause-gives
returns-in-Bind-clause-gives c =
    gives_choice _ _ _ _ c.in-Bind.is (c.bind.ensures.chosen _ _ (record { ready = c.requires.ready; lent = c.requires.lent }))
