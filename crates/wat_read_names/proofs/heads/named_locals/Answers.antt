use Rattle.std.proofs.Common.{◌≡◌, ◌++◌, ℕ, [], length, None, sym, ap, ◌∙◌, replicate, rules}
use Rattle.std.proofs.lemmas.List.{length-map}
use Rattle.wat_lang.specs.declared.parts.Part.TheVariants.{Param}
use Rattle.wat_lang.specs.Names.{written_ids}
use Rattle.wat_read_tokens.specs.Marks.{marks_of}
use Rattle.wat_read_names.specs.Named.{name_of, names_in}
use Rattle.wat_read_names.proofs.Places.{locals_named}
use Rattle.wat_read_names.proofs.heads.named_locals.Goals as goal

pub returns : goal.returns
returns c =
    let ms = marks_of c.args.parts.now in
    let written = c.push_ids.new.names.items in
    let all = names_in c.push_ids-2.new.names.items in
    let empty : c.new-names.result.items ≡ [] = search rules in
    c.in_ok-ids.ensures
    ∙ ap (λ (u : ℕ). replicate u None ++ all) c.unnamed_of-unnamed.ensures
    ∙ locals_named c.args.params _ ms (names_in written) all (c.in_ok-push_ids.ensures ∙ ap (λ xs. names_in xs ++ written_ids Param None ms) empty)
    (ap length c.as_slice.ensures.value ∙ sym (length-map written name_of)) c.in_ok-push_ids-2.ensures
