use Rattle.std.proofs.Common.{◌≡◌, List, [], sym, ap, ◌∙◌, subst}
use Rattle.std.specs.Prelude.{Option, option_map}
use Rattle.wasm_lang.specs.Modules.{FunctionType}
use Rattle.wat_lang.specs.Names as names
use Rattle.wat_lang.specs.Rows as spec
use Rattle.wat_read_names.specs.Bound.{space_names}
use Rattle.wat_read_refusals.specs.declared.least.Refusal.{Refusal}
use Rattle.wat_read_refusals.specs.Joined.{refusal_of}
use Rattle.wat_read_fields.specs.Lists.{HasLists}
use Rattle.wat_read.proofs.Parts.{nothing_first}
use Rattle.wat_read.proofs.Said.{none_least}
use Rattle.wat_read.proofs.JudgedTexts.{rows_joined, by_names}
use Rattle.wat_read.proofs.reading.judged.Goals as goal

pub returns-clause-found : goal.returns-clause-found
returns-clause-found c = λ ks o m.
    let fs = names.fields_of ks in
    let names_of = space_names c.args.outlined.names.spaces in
    let none : spec.rows_of ks ≡ [] =
    none_least (spec.rows_of ks)
    (ap (λ (r : Option Refusal). option_map refusal_of r) (sym c.in-None.is) ∙ c.found.ensures ∙ c.first.ensures ∙ sym (rows_joined c.args.outlined c.args.made ks o m)) in
    let lists = subst (λ (types : List FunctionType). HasLists names_of types c.args.made.lists fs) o.types (m.lists (nothing_first (spec.number_rows ks) _ none)) in
    record { is_accepted = none; is_this = sym (c.module_of.ensures names_of fs lists o.types ∙ by_names c.args.outlined.names.spaces fs o.spaces) }

pub returns-in-Some-clause-fault : goal.returns-in-Some-clause-fault
returns-in-Some-clause-fault c = λ ks o m.
    rows_joined c.args.outlined c.args.made ks o m ∙ sym c.first.ensures ∙ sym c.found.ensures ∙ ap (λ (r : Option Refusal). option_map refusal_of r) c.in-Some.is
