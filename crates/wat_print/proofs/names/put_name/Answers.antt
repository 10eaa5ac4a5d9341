use Rattle.wat_print.proofs.names.put_name.Goals as goal

pub returns-in-CallIndirect : goal.returns-in-CallIndirect
returns-in-CallIndirect c = rw c.in-CallIndirect.is c.word-in-CallIndirect.ensures

pub returns-in-Wrap : goal.returns-in-Wrap
returns-in-Wrap c = rw c.in-Wrap.is c.word-in-Wrap.ensures

pub returns-in-ExtendS : goal.returns-in-ExtendS
returns-in-ExtendS c = rw c.in-ExtendS.is c.word-in-ExtendS.ensures

pub returns-in-ExtendU : goal.returns-in-ExtendU
returns-in-ExtendU c = rw c.in-ExtendU.is c.word-in-ExtendU.ensures
