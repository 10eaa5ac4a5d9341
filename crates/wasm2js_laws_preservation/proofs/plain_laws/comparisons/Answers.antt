use Rattle.wasm2js_laws_preservation.proofs.PlainComparing.{relation_is, zero_test_is}
use Rattle.wasm2js_laws_preservation.proofs.plain_laws.comparisons.Goals as goal

pub returns-clause-relation : goal.returns-clause-relation
returns-clause-relation c = relation_is

pub returns-clause-zero_test : goal.returns-clause-zero_test
returns-clause-zero_test c = zero_test_is
