use Rattle.xmldsig.proofs.print.print.Goals as goal

pub returns-in-Usage : goal.returns-in-Usage
returns-in-Usage g c = rw c.in-Usage.is c.say_err-in-Usage.ensures

pub returns-in-ReadFault : goal.returns-in-ReadFault
returns-in-ReadFault g c = rw c.in-ReadFault.is c.say_err-in-ReadFault.ensures

pub returns-in-Memory : goal.returns-in-Memory
returns-in-Memory g c = rw c.in-Memory.is c.say_err-in-Memory.ensures

pub returns-in-ViewFault : goal.returns-in-ViewFault
returns-in-ViewFault g c = rw c.in-ViewFault.is c.say_view_fault.ensures
