use Rattle.std.proofs.Common.{◌≡◌, ◌==◌, take}
use Rattle.script_lang.specs.Texts.{are_zero}
use Rattle.session_print.proofs.heap.are_zero.Given as goal

-- no bit is set where the bytes so far are all 0
abbrev pub invariant-loop-byte : goal.invariant-loop-byte
invariant-loop-byte l = (l.bits == 0) ≡ are_zero (take l.byte-index l.bytes)
