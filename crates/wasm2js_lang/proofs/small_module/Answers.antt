use Rattle.std.proofs.Common.{refl}
use Rattle.hex.specs.Hex.{encode_with}
use Rattle.wasm2js_lang.proofs.small_module.Goals as goal

pub returns-clause-entries : goal.returns-clause-entries
unfolding encode_with
returns-clause-entries c = refl

pub returns-clause-script : goal.returns-clause-script
unfolding encode_with
returns-clause-script c = refl

pub returns-clause-called : goal.returns-clause-called
unfolding encode_with
returns-clause-called c = record { exported = refl; functions = (refl, tt); no_other_functions = (refl, (refl, (refl, tt))); globals = tt; no_other_globals = tt; no_doubles = refl; heap = refl }

pub returns-clause-otherwise : goal.returns-clause-otherwise
unfolding encode_with
returns-clause-otherwise c = record { exported = refl; functions = (refl, tt); no_other_functions = (refl, (refl, (refl, tt))); globals = tt; no_other_globals = tt; no_doubles = refl; heap = refl }
