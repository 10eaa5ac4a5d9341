use Rattle.std.proofs.Common.{◌≡◌, ◌++◌, drop}
use Rattle.std.specs.List.{flat_map}
use Rattle.wat_lang.specs.Names.{text_of, all_with}
use Rattle.wat_lang.specs.Modules.{is_bytes}
use Rattle.wat_read_tokens.specs.Marks.{marks_of}
use Rattle.wat_read_fields.proofs.strings.segment_bytes.Given as goal

abbrev pub invariant-loop-token : goal.invariant-loop-token
invariant-loop-token l = l.all.items ++ flat_map text_of (all_with is_bytes (marks_of (drop l.token-index l.parts))) ≡ flat_map text_of (all_with is_bytes (marks_of l.parts))
