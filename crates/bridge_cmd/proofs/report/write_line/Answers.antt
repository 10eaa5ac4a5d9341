use Rattle.bridge_cmd.proofs.report.write_line.Goals as goal

pub returns-in-NotAsm-clause-whole : goal.returns-in-NotAsm-clause-whole
returns-in-NotAsm-clause-whole g c = rw (c.in-NotAsm.is, ← c.asm_row_name.ensures) c.put_row.ensures.whole

pub returns-in-NotAsm-clause-front : goal.returns-in-NotAsm-clause-front
returns-in-NotAsm-clause-front g c = rw (c.in-NotAsm.is, ← c.asm_row_name.ensures) c.put_row.ensures.front

pub returns-in-NotABinary-clause-whole : goal.returns-in-NotABinary-clause-whole
returns-in-NotABinary-clause-whole g c = rw (c.in-NotABinary.is, ← c.binary_row_name.ensures) c.put_row-in-NotABinary.ensures.whole

pub returns-in-NotABinary-clause-front : goal.returns-in-NotABinary-clause-front
returns-in-NotABinary-clause-front g c = rw (c.in-NotABinary.is, ← c.binary_row_name.ensures) c.put_row-in-NotABinary.ensures.front

pub returns-in-NotWat-clause-whole : goal.returns-in-NotWat-clause-whole
returns-in-NotWat-clause-whole g c = rw (c.in-NotWat.is, ← c.wat_row_name.ensures) c.put_row-in-NotWat.ensures.whole

pub returns-in-NotWat-clause-front : goal.returns-in-NotWat-clause-front
returns-in-NotWat-clause-front g c = rw (c.in-NotWat.is, ← c.wat_row_name.ensures) c.put_row-in-NotWat.ensures.front

pub returns-in-NotRun-clause-whole : goal.returns-in-NotRun-clause-whole
returns-in-NotRun-clause-whole g c = rw (c.in-NotRun.is, ← c.beyond_name.ensures) c.put_row-in-NotRun.ensures.whole

pub returns-in-NotRun-clause-front : goal.returns-in-NotRun-clause-front
returns-in-NotRun-clause-front g c = rw (c.in-NotRun.is, ← c.beyond_name.ensures) c.put_row-in-NotRun.ensures.front

pub returns-in-NotLinked-clause-whole : goal.returns-in-NotLinked-clause-whole
returns-in-NotLinked-clause-whole g c = rw (c.in-NotLinked.is, ← c.link_row_name.ensures, ← c.side_name.ensures) c.put_row-in-NotLinked.ensures.whole

pub returns-in-NotLinked-clause-front : goal.returns-in-NotLinked-clause-front
returns-in-NotLinked-clause-front g c = rw (c.in-NotLinked.is, ← c.link_row_name.ensures, ← c.side_name.ensures) c.put_row-in-NotLinked.ensures.front

pub returns-in-NotValid-clause-whole : goal.returns-in-NotValid-clause-whole
returns-in-NotValid-clause-whole g c = rw c.in-NotValid.is c.put_invalid.ensures.whole

pub returns-in-NotValid-clause-front : goal.returns-in-NotValid-clause-front
returns-in-NotValid-clause-front g c = rw c.in-NotValid.is c.put_invalid.ensures.front

pub returns-in-ReadFault-clause-whole : goal.returns-in-ReadFault-clause-whole
returns-in-ReadFault-clause-whole g c = rw c.in-ReadFault.is c.put_pieces-in-ReadFault.ensures.whole

pub returns-in-ReadFault-clause-front : goal.returns-in-ReadFault-clause-front
returns-in-ReadFault-clause-front g c = rw c.in-ReadFault.is c.put_pieces-in-ReadFault.ensures.front

pub returns-in-OutOfMemory-clause-whole : goal.returns-in-OutOfMemory-clause-whole
returns-in-OutOfMemory-clause-whole g c = rw c.in-OutOfMemory.is c.put_pieces-in-OutOfMemory.ensures.whole

pub returns-in-TooLarge-clause-whole : goal.returns-in-TooLarge-clause-whole
returns-in-TooLarge-clause-whole g c = rw (c.in-TooLarge.is, ← c.as_str-in-TooLarge.ensures.value) c.put_pieces-in-TooLarge.ensures.whole

pub returns-in-TooLarge-clause-front : goal.returns-in-TooLarge-clause-front
returns-in-TooLarge-clause-front g c = rw (c.in-TooLarge.is, ← c.as_str-in-TooLarge.ensures.value) c.put_pieces-in-TooLarge.ensures.front
