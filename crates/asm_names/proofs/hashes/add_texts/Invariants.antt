use Rattle.std.proofs.Common.{◌≡◌, drop}
use Rattle.std.specs.List.{fold}
use Rattle.asm_names.specs.Hashed.{with_text}
use Rattle.asm_names.proofs.hashes.add_texts.Given as goal

abbrev pub invariant-loop-text : goal.invariant-loop-text
invariant-loop-text l = fold with_text l.fn.seed l.texts ≡ fold with_text l.seed (drop l.text-index l.texts)
