use Rattle.std.proofs.Common.{◌≡◌, ◌≤◌, ◌++◌, None, drop, replicate}
use Rattle.wat_lang.specs.declared.parts.Part.TheVariants.{Param, Local}
use Rattle.wat_lang.specs.Names.{written_ids}
use Rattle.wat_read_tokens.specs.Marks.{marks_of}
use Rattle.wat_read_names.proofs.heads.counts_of.Given as goal

abbrev pub invariant-loop-token : goal.invariant-loop-token
invariant-loop-token l = record {
  few_params : l.params ≤ l.token-index;
  few_locals : l.locals ≤ l.token-index;
  params : replicate l.params None ++ written_ids Param None (marks_of (drop l.token-index l.parts)) ≡ written_ids Param None (marks_of l.parts);
  locals : replicate l.locals None ++ written_ids Local None (marks_of (drop l.token-index l.parts)) ≡ written_ids Local None (marks_of l.parts);
}
