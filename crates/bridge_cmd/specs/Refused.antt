-- What the code's refusals say, and the status of each.
use Rattle.std.specs.Prelude.{ℕ, Bool, List, string_bytes}
use Rattle.bridge_lang.specs.Reason.{Reason, faulty_words, not_asm, not_a_binary, not_wat, not_valid, not_run, not_linked, bad_script, read_fault, missing, too_large, out_of_memory}
use Rattle.bridge_cmd.specs.declared.refusal.Refusal.{Refusal}
use Rattle.bridge_cmd.specs.declared.refusal.Refusal as refusal
use Rattle.bridge_io.specs.declared.reading.GatherFault as gathering
use Rattle.bridge_args.specs.declared.fault.WordsFault as words
use Rattle.cmd_check_asm.specs.declared.fault.CheckFault as texts
use Rattle.cmd_check_wasm.specs.declared.fault.CheckFault as checks
use Rattle.cmd_run_wasm.specs.declared.fault.RunFault as runs
use Rattle.cmd_link.specs.declared.fault.JoinFault as joins
use Rattle.cmd_wat2wasm.specs.declared.fault.TextFault as wats
use Rattle.script_read.specs.declared.fault.ScriptFault as scripts

abbrev pub reason_of : Refusal → Reason
reason_of refusal.TheVariants.FaultyWords = faulty_words
reason_of (refusal.TheVariants.NotAsm row at) = not_asm row at
reason_of (refusal.TheVariants.NotABinary row at) = not_a_binary row at
reason_of (refusal.TheVariants.NotWat row at) = not_wat row at
reason_of (refusal.TheVariants.NotValid rule section index instruction) = not_valid rule section index instruction
reason_of (refusal.TheVariants.NotRun row value) = not_run row value
reason_of (refusal.TheVariants.NotLinked row second value) = not_linked row second value
reason_of (refusal.TheVariants.BadScript line) = bad_script line
reason_of refusal.TheVariants.ReadFault = read_fault
reason_of (refusal.TheVariants.Missing is_script name) = missing is_script (string_bytes name)
reason_of (refusal.TheVariants.TooLarge is_script name) = too_large is_script (string_bytes name)
reason_of refusal.TheVariants.OutOfMemory = out_of_memory

abbrev pub reason_at : gathering.GatherFault → Bool → List ℕ → Reason
reason_at gathering.TheVariants.Read is_script file = read_fault
reason_at gathering.TheVariants.Missing is_script file = missing is_script file
reason_at gathering.TheVariants.TooLarge is_script file = too_large is_script file
reason_at gathering.TheVariants.Memory is_script file = out_of_memory

abbrev pub reason_of_text : texts.CheckFault → Reason
reason_of_text (texts.TheVariants.Refused row at) = not_asm row at
reason_of_text texts.TheVariants.Memory = out_of_memory

abbrev pub reason_of_check : checks.CheckFault → Reason
reason_of_check (checks.TheVariants.Binary row at) = not_a_binary row at
reason_of_check (checks.TheVariants.Invalid rule section index instruction) = not_valid rule section index instruction
reason_of_check checks.TheVariants.Memory = out_of_memory

abbrev pub reason_of_wat : wats.TextFault → Reason
reason_of_wat (wats.TheVariants.Unsaid row at) = not_wat row at
reason_of_wat (wats.TheVariants.Check fault) = reason_of_check fault

abbrev pub reason_of_words : words.WordsFault → Reason
reason_of_words words.TheVariants.Usage = faulty_words
reason_of_words words.TheVariants.Memory = out_of_memory

abbrev pub reason_of_run : runs.RunFault → Reason
reason_of_run (runs.TheVariants.Check fault) = reason_of_check fault
reason_of_run (runs.TheVariants.Outside row) = not_run row.row row.value

abbrev pub reason_of_join : joins.JoinFault → Reason
reason_of_join (joins.TheVariants.Check fault) = reason_of_check fault
reason_of_join (joins.TheVariants.Apart why) = not_linked why.row why.second why.value

abbrev pub reason_of_script : scripts.ScriptFault → Reason
reason_of_script (scripts.TheVariants.Refused line) = bad_script line
reason_of_script scripts.TheVariants.Memory = out_of_memory
